-- The trailers so far are printed.
use Rattle.std.proofs.Common.{◌≡◌, ◌++◌, take}
use Rattle.std.specs.List.{flat_map}
use Rattle.nk_trace.specs.Report.{trailer_line}
use Rattle.nk_trace.proofs.printer.Printer.trailers.Given as goal

abbrev pub invariant-loop-i : goal.invariant-loop-i
invariant-loop-i l = l.self ≡ l.initial.self ++ flat_map trailer_line (take l.i l.trailers)
