use Rattle.std.proofs.Common.{ap, arith}
use Rattle.nk_base.specs.Queue.{Roomy}
use Rattle.nk_queue.proofs.LegalLemmas.{legal_posted, counted_is_on}
use Rattle.nk_queue.proofs.queue.EventQueue.resume.Goals as goal

pub invariant_of-self-in-Some : goal.invariant_of-self-in-Some
invariant_of-self-in-Some g c =
    let legal = c.self.invariant in
    let count = ap (λ (v : Roomy g.row.E.Denot). v.state.count) c.self.view_is in
    let on = counted_is_on g.E.Classed.class _ legal (omega (arith, count, c.requires.counted)) in
    rw c.post.ensures.posted
    (legal_posted g.E.Classed.class _ _ _ _ _ _ _ c.target_of-target.result on c.post.ensures.within legal.targets legal.delivers legal.flusher legal.classes)
