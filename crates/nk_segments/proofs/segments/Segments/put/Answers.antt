-- The bytes stand in the one segment, which keeps its size.
use Rattle.std.proofs.Common.{ap, arith}
use Rattle.nk_segments.specs.Segments.{Segments, with_bytes}
use Rattle.nk_segments.proofs.SegmentLemmas.{with_item-changed, segments-put, segment_size}
use Rattle.nk_segments.proofs.segments.Segments.put.Goals as goal

pub put-requires : goal.put-requires
put-requires c =
    let size = segment_size c.self.inside.size c.self.inside.chain.items c.args.place c.get_mut.result.now c.self.invariant c.get_mut.ensures.value in
    let same = ap (λ (v : Segments). v.size) c.self.view_is in
    omega (arith, size, same, c.requires.fits)

pub invariant_of-self : goal.invariant_of-self
invariant_of-self c =
    let same = ap (λ (v : Segments). v.size) c.self.view_is in
    rw (c.put.ensures, with_item-changed (with_bytes c.args.at c.args.bytes.now) _ _ _ c.get_mut.ensures.value)
    (segments-put c.self.inside.size c.args.at c.args.bytes.now c.self.inside.chain.items c.args.place (omega (arith, same, c.requires.fits)) c.self.invariant)

pub returns-clause-put : goal.returns-clause-put
returns-clause-put c =
    rw (c.put.ensures, ← c.self.view_is)
    (ap (λ xs. record { size = c.self.inside.size; segments = xs }) (with_item-changed (with_bytes c.args.at c.args.bytes.now) c.self.inside.chain.items c.args.place c.get_mut.result.now c.get_mut.ensures.value))

pub returns-clause-told : goal.returns-clause-told
returns-clause-told c = invariant_of-self c
