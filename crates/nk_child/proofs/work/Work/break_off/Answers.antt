-- The stop is offered, and the start before it where the listener has had none.
use Rattle.std.proofs.Common.{◌≡◌, ◌∙◌, subst, true, false, rules}
use Rattle.nk_plan.specs.Child.{is_empty}
use Rattle.nk_child.specs.Views.{WorkView}
use Rattle.nk_child.proofs.Breaking.{both_offered, stop_leaves}
use Rattle.nk_child.proofs.Gains.{gains_then}
use Rattle.nk_child.proofs.work.Work.break_off.Goals as goal

pub returns-then-not-is_unstarted-clause-ok : goal.returns-then-not-is_unstarted-clause-ok
returns-then-not-is_unstarted-clause-ok g c =
    let stopped : c.args.self.now.state.stopped ≡ false = subst (λ (v : WorkView). v.state.stopped ≡ false) c.self.view_is c.if-self.false in
    let broken : c.args.self.now.state.broken ≡ false = subst (λ (v : WorkView). v.state.broken ≡ false) c.self.view_is c.if-self-2.false in
    let begun : is_empty c.args.self.now.state.trace ≡ false = search rules in
    stop_leaves c.break_with.result c.args.status c.new-stop.result c.args.self.now c.break_with.new.self stopped broken begun c.new-stop.ensures c.break_with.ensures.ok

pub returns-clause-ok : goal.returns-clause-ok
returns-clause-ok g c =
    let stopped : c.args.self.now.state.stopped ≡ false = subst (λ (v : WorkView). v.state.stopped ≡ false) c.self.view_is c.if-self.false in
    let broken : c.args.self.now.state.broken ≡ false = subst (λ (v : WorkView). v.state.broken ≡ false) c.self.view_is c.if-self-2.false in
    let empty : is_empty c.args.self.now.state.trace ≡ true = search rules in
    let mid = c.in_ok-break_with.ensures.ok in
    let last = c.offer_next.ensures.ok in
    record {
      plan = last.plan ∙ mid.plan;
      state = both_offered c.args.self.now.plan c.break_with-2.new.self.plan c.args.status c.new-start.result c.new-stop.result
          c.args.self.now.state c.break_with-2.new.self.state c.offer_next.new.self.state
          stopped broken empty c.new-start.ensures c.new-stop.ensures mid.plan mid.state last.state;
      rooms = search rules;
    }

pub returns-clause-trace : goal.returns-clause-trace
returns-clause-trace g c = gains_then _ _ _ _ _ c.in_ok-break_with.ensures.trace c.offer_next.ensures.trace
