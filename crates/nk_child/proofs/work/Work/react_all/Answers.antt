-- Each turn performs one reaction more.
use Rattle.std.proofs.Common.{◌≡◌, ◌∙◌, ◌+◌, ◌≤◌, ap, subst, drop, slice_get, Some, arith}
use Rattle.nk_plan.specs.declared.plan.ChannelPlan.{ChannelPlan}
use Rattle.nk_plan.specs.Child.{react}
use Rattle.nk_child.specs.Views.{WorkView}
use Rattle.nk_child.proofs.Reacting.{drop_at, reacted_next}
use Rattle.nk_child.proofs.work.Work.react_all.Goals as goal

pub loop-i-preserved : goal.loop-i-preserved
loop-i-preserved c =
    let plan = c.args.self.now.plan in
    let at : slice_get c.args.self.now.plan.reactions c.loop-i.i ≡ Some c.reaction_of-reaction.result =
    subst (λ (p : ChannelPlan). slice_get p.reactions c.loop-i.i ≡ Some c.reaction_of-reaction.result) (ap (λ (v : WorkView). v.plan) c.self-in-loop-i.view_is ∙ c.loop-i.invariant.plan) c.reaction_of-reaction.ensures in
    let journal : c.loop-i.self.rooms.journal ≤ c.react.new.self.rooms.journal + 1 = c.react.ensures.ok.rooms.journal in
    let sent : c.loop-i.self.rooms.sent ≤ c.react.new.self.rooms.sent + 1 = c.react.ensures.ok.rooms.sent in
    record {
      plan = c.react.ensures.ok.plan ∙ c.loop-i.invariant.plan;
      state = reacted_next plan (drop c.loop-i.i plan.reactions) (drop (c.loop-i.i + 1) plan.reactions) c.reaction_of-reaction.result c.loop-i.self.state c.react.new.self.state _
          (drop_at plan.reactions c.loop-i.i c.reaction_of-reaction.result at)
          (subst (λ (p : ChannelPlan). c.react.new.self.state ≡ react p c.reaction_of-reaction.result c.loop-i.self.state) c.loop-i.invariant.plan c.react.ensures.ok.state)
          c.loop-i.invariant.state;
      trace = c.react.ensures.trace ∙ c.loop-i.invariant.trace;
      running = c.react.ensures.running ∙ c.loop-i.invariant.running;
      forced = c.react.ensures.forced ∙ c.loop-i.invariant.forced;
      journal = omega (arith, journal, c.loop-i.invariant.journal);
      sent = omega (arith, sent, c.loop-i.invariant.sent);
      count = omega (arith, c.react.ensures.count, c.loop-i.invariant.count);
      few = c.loop-i.invariant.few;
    }
