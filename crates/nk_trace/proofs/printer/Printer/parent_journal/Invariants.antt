-- The entries so far are printed.
use Rattle.std.proofs.Common.{◌≡◌, ◌++◌, take}
use Rattle.std.specs.List.{flat_map}
use Rattle.nk_trace.specs.Journals.{parent_line}
use Rattle.nk_trace.proofs.printer.Printer.parent_journal.Given as goal

abbrev pub invariant-loop-entry : goal.invariant-loop-entry
invariant-loop-entry l = l.self ≡ l.initial.self ++ flat_map parent_line (take l.entry-index l.entry-items)
