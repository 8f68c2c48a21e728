-- So many of the items stand behind the list, in the room that it had.
use Rattle.std.proofs.Common.{◌≡◌, ◌++◌, ◌+◌, take}
use Rattle.nk_base.proofs.grow.Grow.extend.Given as goal

abbrev pub invariant-loop-item : goal.invariant-loop-item
invariant-loop-item g l = record {
  items : l.self.items ≡ l.fn.self.items ++ take l.item-index l.items;
  room : l.self.room + l.item-index ≡ l.fn.self.room;
}
