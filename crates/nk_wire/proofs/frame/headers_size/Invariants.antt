-- What is counted and what is left are the whole.
use Rattle.std.proofs.Common.{◌≡◌, ◌≤◌, ◌+◌, ◌*◌, true, length, drop}
use Rattle.std.specs.List.{flat_map}
use Rattle.nk_base.specs.Fields.{are_good_fields}
use Rattle.nk_wire.specs.Spelling.{field}
use Rattle.nk_wire.proofs.frame.headers_size.Given as goal

abbrev pub invariant-loop-i : goal.invariant-loop-i
invariant-loop-i l = record {
  end : l.i-end ≡ length l.items;
  counted : l.size + length (flat_map field (drop l.i l.items)) ≡ length (flat_map field l.items);
  bounded : l.size ≤ 8260 * l.i;
  good : are_good_fields (drop l.i l.items) ≡ true;
}
