-- What will be kept stays the same while segments are given back.
use Rattle.std.proofs.Common.{◌≡◌, length}
use Rattle.nk_segments.specs.Segments.{needed}
use Rattle.nk_segments.proofs.walk.give_back.Given as goal

abbrev pub invariant-loop-front : goal.invariant-loop-front
invariant-loop-front l = needed l.chain.items ≡ needed l.initial.chain.items

abbrev pub decreases-loop-front : goal.decreases-loop-front
decreases-loop-front l = length l.chain.items
