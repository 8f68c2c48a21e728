use Rattle.std.proofs.Common.{refl, sym, ap, ◌∙◌}
use Rattle.nk_base.specs.Queue.{Roomy, is_busy}
use Rattle.nk_queue.proofs.LegalLemmas.{items_of-append, classes-append, legal_queued, legal_posted}
use Rattle.nk_queue.proofs.queue.EventQueue.offer.Goals as goal

pub invariant_of-self : goal.invariant_of-self
invariant_of-self g c =
    let busy = ap (λ (v : Roomy g.row.E.Denot). is_busy v.state) c.self.view_is ∙ sym c.is_busy.ensures ∙ c.if-is_busy.true in
    rw (c.push_back.ensures.items, items_of-append) (legal_queued g.E.Classed.class _ c.args.e c.self.invariant c.requires.class busy)

pub invariant_of-self-else-is : goal.invariant_of-self-else-is
invariant_of-self-else-is g c =
    let legal = c.self.invariant in
    let classes = classes-append g.E.Classed.class _ c.args.e legal.classes c.requires.class in
    rw (c.push_back-else-is.ensures.items, items_of-append, c.post.ensures.posted)
    (legal_posted g.E.Classed.class _ _ _ _ _ _ _ c.target_of-target.result refl c.post.ensures.within legal.targets legal.delivers legal.flusher classes)
