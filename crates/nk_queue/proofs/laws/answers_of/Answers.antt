use Rattle.std.proofs.Common.{◌≡◌, ◌∷◌, append_assoc}
use Rattle.std.specs.Vec.Iter.{into_iter_items}
use Rattle.nk_queue.proofs.CallLemmas.{rest_may_call}
use Rattle.nk_queue.proofs.laws.answers_of.Goals as goal

pub loop-call-preserved : goal.loop-call-preserved
loop-call-preserved g c =
    let class = g.E.Classed.class in
    let before = g.B.QueueBody.state c.loop-call.body in
    let spare = g.B.QueueBody.spare c.loop-call.body in
    let left = into_iter_items c.next.new.self in
    let head : into_iter_items c.loop-call.call-iterator ≡ c.in-Some.call ∷ left = c.in-Some.ensures.steps.0 in
    record {
      can_next = tt;
      is_finite = tt;
      may = rest_may_call class before _ spare _ c.in-Some.call left (rw head at c.loop-call.invariant.may) c.in_ok-answer.ensures.state c.in_ok-answer.ensures.spare;
      answers = rw (c.in_ok-keep.ensures, c.in_ok-answer.ensures.state, c.in_ok-answer.ensures.answer, append_assoc) (rw head at c.loop-call.invariant.answers);
      state = rw (c.in_ok-answer.ensures.state) (rw head at c.loop-call.invariant.state);
    }
