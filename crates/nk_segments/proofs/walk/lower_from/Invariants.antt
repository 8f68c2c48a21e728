-- What is left to change gives the whole change.
use Rattle.std.proofs.Common.{◌≡◌, length}
use Rattle.nk_chain.specs.Chain.{PlacesDiffer}
use Rattle.nk_segments.specs.Segments.{lowered, changed_from, AreHeld}
use Rattle.nk_segments.proofs.Onward.{onward, since_at, HasPlace}
use Rattle.nk_segments.proofs.walk.lower_from.Given as goal

abbrev pub invariant-loop-at : goal.invariant-loop-at
invariant-loop-at l = record {
  whole : onward lowered l.chain.items l.at ≡ changed_from lowered l.initial.chain.items l.fn.place;
  held : AreHeld (since_at l.chain.items l.at);
  live : HasPlace l.chain.items l.at;
  distinct : PlacesDiffer l.chain.items;
}

abbrev pub decreases-loop-at : goal.decreases-loop-at
decreases-loop-at l = length (since_at l.chain.items l.at)
