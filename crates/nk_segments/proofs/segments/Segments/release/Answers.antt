-- What is lowered and kept are segments still.
use Rattle.nk_segments.proofs.SegmentLemmas.{segments-needed, segments-lowered_from}
use Rattle.nk_segments.proofs.segments.Segments.release.Goals as goal

pub invariant_of-self : goal.invariant_of-self
invariant_of-self c =
    rw (c.give_back.ensures.items, c.lower_from.ensures.items)
    (segments-needed c.self.inside.size _ (segments-lowered_from c.self.inside.size c.self.inside.chain.items c.args.place c.self.invariant))

pub returns-clause-told : goal.returns-clause-told
returns-clause-told c = invariant_of-self c
