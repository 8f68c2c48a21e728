-- The zeros so far are printed.
use Rattle.std.proofs.Common.{◌≡◌, ◌++◌, replicate}
use Rattle.nk_trace.proofs.printer.Printer.code.Given as goal

abbrev pub invariant-loop : goal.invariant-loop
invariant-loop l = l.self ≡ l.initial.self ++ replicate l.counter 48
