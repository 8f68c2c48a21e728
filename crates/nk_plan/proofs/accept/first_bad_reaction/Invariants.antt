use Rattle.std.proofs.Common.{All, take, ◌≤◌}
use Rattle.nk_plan.specs.Accepted.{IsGoodReaction}
use Rattle.nk_plan.proofs.accept.first_bad_reaction.Given as goal

abbrev pub invariant-loop-i : goal.invariant-loop-i
invariant-loop-i l = All IsGoodReaction (take l.i l.reactions) × (l.i ≤ 64)
