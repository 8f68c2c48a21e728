-- The lines printed, with those of the readers that are left, are the lines of all.
use Rattle.std.proofs.Common.{◌≡◌, ◌++◌, ◌+◌, drop}
use Rattle.nk_trace.specs.Report.{reader_lines}
use Rattle.nk_trace.proofs.printer.Printer.readers.Given as goal

abbrev pub invariant-loop-i : goal.invariant-loop-i
invariant-loop-i l = l.self ++ reader_lines (l.i + 1) (drop l.i l.readers) ≡ l.initial.self ++ reader_lines 1 l.readers
