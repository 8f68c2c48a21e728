-- One more reader has reached the new segment.
use Rattle.nk_pipe.proofs.ReaderLemmas.{reach_next}
use Rattle.nk_pipe.proofs.readers.all_reach.Goals as goal

pub loop-reader-preserved : goal.loop-reader-preserved
loop-reader-preserved c =
    rw (c.reaching-reader.ensures, c.loop-reader.invariant) (reach_next c.args.place c.args.readers.now c.loop-reader.reader-index _ c.loop-reader-test.true)
