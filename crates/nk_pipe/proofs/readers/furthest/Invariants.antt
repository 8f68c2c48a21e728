-- The most so far and that of the rest give that of all.
use Rattle.std.proofs.Common.{◌≡◌, max, drop}
use Rattle.nk_pipe.specs.Pipe.{greatest}
use Rattle.nk_pipe.specs.Laid.{all_seen}
use Rattle.nk_pipe.proofs.readers.furthest.Given as goal

abbrev pub invariant-loop-reader : goal.invariant-loop-reader
invariant-loop-reader l =
    max l.most (greatest (all_seen (drop l.reader-index l.readers))) ≡ greatest (all_seen l.readers)
