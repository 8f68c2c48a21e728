-- The fields so far, and those that are still read, are all that are read.
use Rattle.std.proofs.Common.{◌≡◌, ◌-◌, true, length}
use Rattle.nk_base.specs.Fields.{are_good_fields}
use Rattle.nk_wire.specs.Reading.{headers_at}
use Rattle.nk_wire.proofs.HeaderLoop.{with_front}
use Rattle.nk_wire.proofs.cursor.Cursor.headers.Given as goal

abbrev pub invariant-loop : goal.invariant-loop
invariant-loop l = record {
  value : with_front l.fields (headers_at (l.count - l.counter) l.self) ≡ headers_at l.count l.fn.self;
  count : length l.fields ≡ l.counter;
  good : are_good_fields l.fields ≡ true;
}
