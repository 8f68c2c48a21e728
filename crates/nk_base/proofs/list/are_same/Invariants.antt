-- The items before the index are the same.
use Rattle.std.proofs.Common.{◌≡◌, take}
use Rattle.nk_base.proofs.list.are_same.Given as goal

abbrev pub invariant-loop-i : goal.invariant-loop-i
invariant-loop-i g l = take l.i l.one ≡ take l.i l.other
