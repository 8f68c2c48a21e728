-- The count so far and that of the rest give that of all.
use Rattle.std.proofs.Common.{◌≡◌, ◌+◌, ◌≤◌, drop}
use Rattle.nk_pipe.specs.Laid.{all_seen, open_count}
use Rattle.nk_pipe.proofs.readers.count_open.Given as goal

abbrev pub invariant-loop-reader : goal.invariant-loop-reader
invariant-loop-reader l = record {
  whole : l.count + open_count (all_seen (drop l.reader-index l.readers)) ≡ open_count (all_seen l.readers);
  few : l.count ≤ l.reader-index;
}
