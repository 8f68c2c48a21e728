-- What is written and what is left are the whole.
use Rattle.std.proofs.Common.{◌≡◌, ◌++◌, true, length, drop}
use Rattle.std.specs.List.{flat_map}
use Rattle.nk_base.specs.Fields.{are_good_fields}
use Rattle.nk_wire.specs.Spelling.{field, fields}
use Rattle.nk_wire.proofs.frame.Frame.headers.Given as goal

abbrev pub invariant-loop-i : goal.invariant-loop-i
invariant-loop-i l = record {
  end : l.i-end ≡ length l.items;
  written : l.self ++ flat_map field (drop l.i l.items) ≡ l.fn.self ++ fields l.items;
  good : are_good_fields (drop l.i l.items) ≡ true;
}
