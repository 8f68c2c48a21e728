use Rattle.std.proofs.Common.{All, take, ◌≤◌}
use Rattle.nk_plan.specs.Accepted.{IsGoodControl}
use Rattle.nk_plan.proofs.accept.first_bad_control.Given as goal

abbrev pub invariant-loop-i : goal.invariant-loop-i
invariant-loop-i l = All (IsGoodControl l.closed) (take l.i l.controls) × (l.i ≤ 64)
