-- The lists are moved in and out, what was sent is told anew, and the row between makes a child of a child.
use Rattle.std.proofs.Common.{sym, ◌∙◌, subst, rules}
use Rattle.nk_plan.specs.Run.{IsChildState}
use Rattle.nk_child.specs.Views.{ChildView, with_sent}
use Rattle.nk_child.proofs.Counts.{counted}
use Rattle.nk_child.proofs.Stays.{placed, restored, turned, holds_more, room_less}
use Rattle.nk_child.proofs.Idle.{idle_ok}
use Rattle.nk_child.proofs.child.Child.step.Goals as goal

pub step-moved-requires-clause-counts : goal.step-moved-requires-clause-counts
step-moved-requires-clause-counts g c =
    let put = c.put_lists.new.self in
    let places = placed c.self.inside.work.plan put.plan c.self.inside.work.state put.state c.self.inside.journal c.replace-journal.result c.self.inside.trace c.replace-trace.result
    c.put_lists.ensures.plan c.put_lists.ensures.state c.replace-journal.ensures.value c.replace-trace.ensures.value in
    let before : IsChildState put.plan (with_sent put.plan put.state) = subst (λ (v : ChildView). IsChildState v.plan v.state) (sym places) c.self.invariant in
    counted put.plan (with_sent put.plan put.state) c.journal_law.ensures.failure c.journal_law.ensures.counts c.journal_law.ensures.bounds
    c.put_lists.ensures.accepted before c.put_lists.ensures.few

pub invariant_of-self : goal.invariant_of-self
invariant_of-self g c =
    let put = c.put_lists.new.self in
    let row = c.step-moved.new.self in
    let places = placed c.self.inside.work.plan put.plan c.self.inside.work.state put.state c.self.inside.journal c.replace-journal.result c.self.inside.trace c.replace-trace.result
    c.put_lists.ensures.plan c.put_lists.ensures.state c.replace-journal.ensures.value c.replace-trace.ensures.value in
    let before : IsChildState put.plan (with_sent put.plan put.state) = subst (λ (v : ChildView). IsChildState v.plan v.state) (sym places) c.self.invariant in
    let back = restored put.plan c.take_trace.new.self.plan row.state c.take_journal.new.self.state c.take_trace.new.self.state c.take_journal.result c.take_trace.result
    (c.take_trace.ensures.plan ∙ (c.take_journal.ensures.plan ∙ c.step-moved.ensures.plan))
    c.take_journal.ensures.state c.take_journal.ensures.journal c.take_trace.ensures.trace c.take_trace.ensures.state in
    (turned c.step-moved.result c.args.step put.plan put.state row.state c.args.self.now _ c.state_law.ensures before c.put_lists.ensures.sent (places ∙ c.self.view_is) back
    c.step-moved.ensures.state c.step-moved.ensures.err).child

pub returns : goal.returns
returns g c =
    let put = c.put_lists.new.self in
    let row = c.step-moved.new.self in
    let places = placed c.self.inside.work.plan put.plan c.self.inside.work.state put.state c.self.inside.journal c.replace-journal.result c.self.inside.trace c.replace-trace.result
    c.put_lists.ensures.plan c.put_lists.ensures.state c.replace-journal.ensures.value c.replace-trace.ensures.value in
    let before : IsChildState put.plan (with_sent put.plan put.state) = subst (λ (v : ChildView). IsChildState v.plan v.state) (sym places) c.self.invariant in
    let back = restored put.plan c.take_trace.new.self.plan row.state c.take_journal.new.self.state c.take_trace.new.self.state c.take_journal.result c.take_trace.result
    (c.take_trace.ensures.plan ∙ (c.take_journal.ensures.plan ∙ c.step-moved.ensures.plan))
    c.take_journal.ensures.state c.take_journal.ensures.journal c.take_trace.ensures.trace c.take_trace.ensures.state in
    let turn = turned c.step-moved.result c.args.step put.plan put.state row.state c.args.self.now _ c.state_law.ensures before c.put_lists.ensures.sent (places ∙ c.self.view_is) back
    c.step-moved.ensures.state c.step-moved.ensures.err in
    record {
      state = turn.state;
      answer = search rules;
      idle = idle_ok c.step-moved.result c.args.step c.args.self.now _ (search rules) turn.state;
      sent = holds_more c.step-moved.result _ _ _ _ c.step-moved.ensures.sent turn.sent;
      delivered = search rules;
      up_staged = search rules;
      delivery_staged = search rules;
      up_room = room_less c.step-moved.result _ _ _ _ c.step-moved.ensures.up_room turn.sent;
      delivery_room = search rules;
      err = turn.err;
      err_up = search rules;
      err_delivery = search rules;
      err_up_room = search rules;
      err_delivery_room = search rules;
    }
