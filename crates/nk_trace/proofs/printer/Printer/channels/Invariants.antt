-- The texts printed, with those of the channels that are left, are the texts of all.
use Rattle.std.proofs.Common.{◌≡◌, ◌++◌, ◌+◌, drop}
use Rattle.nk_trace.specs.Report.{channel_texts}
use Rattle.nk_trace.proofs.printer.Printer.channels.Given as goal

abbrev pub invariant-loop-i : goal.invariant-loop-i
invariant-loop-i l = l.self ++ channel_texts l.log (l.i + 1) (drop l.i l.ends) ≡ l.initial.self ++ channel_texts l.log 1 l.ends
