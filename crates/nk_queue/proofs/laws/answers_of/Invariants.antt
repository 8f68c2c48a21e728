use Rattle.std.proofs.Common.{◌≡◌, ◌++◌}
use Rattle.std.specs.Vec.Iter.{into_iter_items}
use Rattle.nk_queue.specs.Calls.{MayCallAll, call_answers, calls_leave}
use Rattle.nk_queue.proofs.laws.answers_of.Given as goal

-- the calls that are left may be made, and complete the answers and the state
abbrev pub invariant-loop-call : goal.invariant-loop-call
invariant-loop-call g l = record {
  can_next : (goal.iterator-loop-call g).can_next l.call-iterator;
  is_finite : (goal.iterator-loop-call g).is_finite l.call-iterator;
  may : MayCallAll g.E.Classed.class (g.B.QueueBody.state l.body) (g.B.QueueBody.spare l.body) (into_iter_items l.call-iterator);
  answers : l.answers.items ++ call_answers g.E.Classed.class (g.B.QueueBody.state l.body) (into_iter_items l.call-iterator)
      ≡ call_answers g.E.Classed.class (g.B.QueueBody.state l.initial.body) l.fn.calls.items;
  state : calls_leave g.E.Classed.class (g.B.QueueBody.state l.body) (into_iter_items l.call-iterator)
      ≡ calls_leave g.E.Classed.class (g.B.QueueBody.state l.initial.body) l.fn.calls.items;
}
