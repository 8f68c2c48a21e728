use Rattle.std.proofs.Common.{All, take}
use Rattle.nk_plan.specs.Accepted.{IsGoodHop}
use Rattle.nk_plan.proofs.accept.first_bad_hop.Given as goal

abbrev pub invariant-loop-i : goal.invariant-loop-i
invariant-loop-i l = All IsGoodHop (take l.i l.hops)
