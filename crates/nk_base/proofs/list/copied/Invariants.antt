-- The items before the index are copied.
use Rattle.std.proofs.Common.{◌≡◌, take}
use Rattle.nk_base.proofs.list.copied.Given as goal

abbrev pub invariant-loop-item : goal.invariant-loop-item
invariant-loop-item g l = l.all ≡ take l.item-index l.items
