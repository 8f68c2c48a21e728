-- The entries so far are printed.
use Rattle.std.proofs.Common.{◌≡◌, ◌++◌, take}
use Rattle.std.specs.List.{flat_map}
use Rattle.nk_trace.specs.Report.{entry_lines}
use Rattle.nk_trace.proofs.printer.Printer.trace.Given as goal

abbrev pub invariant-loop-entry : goal.invariant-loop-entry
invariant-loop-entry l = l.self ≡ l.initial.self ++ flat_map entry_lines (take l.entry-index l.entry-items)
