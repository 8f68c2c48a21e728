use Rattle.std.proofs.Common.{All, take}
use Rattle.nk_plan.specs.Accepted.{IsRedirect}
use Rattle.nk_plan.proofs.accept.first_end.Given as goal

abbrev pub invariant-loop-i : goal.invariant-loop-i
invariant-loop-i l = All IsRedirect (take l.i l.hops)
