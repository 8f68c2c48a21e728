use Rattle.std.proofs.Common.{◌≡◌, ◌*◌, ◌≤◌, length, sum_by, take}
use Rattle.nk_plan.proofs.accept.total.Given as goal

abbrev pub invariant-loop-piece : goal.invariant-loop-piece
invariant-loop-piece l = (l.size ≡ sum_by length (take l.piece-index l.pieces)) × (l.size ≤ 131072 * l.piece-index)
