-- Whether one of the rest is open says it of all.
use Rattle.std.proofs.Common.{◌≡◌, drop}
use Rattle.nk_pipe.specs.Pipe.{has_open}
use Rattle.nk_pipe.specs.Laid.{all_seen}
use Rattle.nk_pipe.proofs.readers.any_open.Given as goal

abbrev pub invariant-loop-reader : goal.invariant-loop-reader
invariant-loop-reader l =
    has_open (all_seen (drop l.reader-index l.readers)) ≡ has_open (all_seen l.readers)
