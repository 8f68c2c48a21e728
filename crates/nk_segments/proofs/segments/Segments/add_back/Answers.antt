-- The new segment is one of the size, at a place of its own.
use Rattle.nk_segments.proofs.SegmentLemmas.{segments-added}
use Rattle.nk_segments.proofs.segments.Segments.add_back.Goals as goal

pub invariant_of-self : goal.invariant_of-self
invariant_of-self c =
    let added = segments-added c.self.inside.size c.self.inside.chain.items c.push_back.result c.args.readers c.requires (rw (c.push_back.ensures.items, c.reserve.ensures.items, c.in_ok-segment.ensures) at c.push_back.ensures.distinct) c.self.invariant in
    rw (c.push_back.ensures.items, c.reserve.ensures.items, c.in_ok-segment.ensures) added

pub returns-in-Ok-clause-told : goal.returns-in-Ok-clause-told
returns-in-Ok-clause-told c = invariant_of-self c
