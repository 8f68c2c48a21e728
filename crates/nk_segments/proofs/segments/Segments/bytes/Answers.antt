-- Each segment has its size.
use Rattle.std.proofs.Common.{ap, ◌∙◌}
use Rattle.nk_segments.specs.Segments.{Segments}
use Rattle.nk_segments.proofs.SegmentLemmas.{segment_size}
use Rattle.nk_segments.proofs.segments.Segments.bytes.Goals as goal

pub returns-clause-size : goal.returns-clause-size
returns-clause-size c =
    rw c.bytes.ensures (segment_size c.self.inside.size c.self.inside.chain.items c.args.place c.get.result.now c.self.invariant c.get.ensures ∙ ap (λ (v : Segments). v.size) c.self.view_is)
