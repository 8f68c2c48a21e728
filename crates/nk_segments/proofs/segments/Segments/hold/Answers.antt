-- Counts below 8 may be raised.
use Rattle.nk_segments.proofs.SegmentLemmas.{segments-raised_from}
use Rattle.nk_segments.proofs.segments.Segments.hold.Goals as goal

pub invariant_of-self : goal.invariant_of-self
invariant_of-self c =
    rw c.raise_from.ensures.items
    (segments-raised_from c.self.inside.size c.self.inside.chain.items c.args.place (rw (← c.self.view_is) at c.requires.below) c.self.invariant)

pub returns-clause-told : goal.returns-clause-told
returns-clause-told c = invariant_of-self c
