-- The start is offered, and then the stop.
use Rattle.std.proofs.Common.{◌∙◌, ap, sym}
use Rattle.nk_base.specs.declared.status.Target.TheVariants as target
use Rattle.nk_base.specs.declared.message.MainMsg.TheVariants as main
use Rattle.nk_plan.specs.declared.plan.ChannelPlan.{ChannelPlan}
use Rattle.nk_plan.specs.declared.event.ChildEvent.{ChildEvent}
use Rattle.nk_plan.specs.declared.event.ChildEvent.TheVariants.{Stop}
use Rattle.nk_plan.specs.declared.journal.ChildEntry.TheVariants as entry
use Rattle.nk_plan.specs.Child.{ChildState, offer_event, with_entry}
use Rattle.nk_child.proofs.Breaking.{failed_open}
use Rattle.nk_child.proofs.Gains.{gains_then}
use Rattle.nk_child.proofs.work.Work.take_failed.Goals as goal

pub returns-clause-state : goal.returns-clause-state
returns-clause-state g c =
    let plan = c.args.self.now.plan in
    let taken = with_entry (entry.TookMain (main.FailedOpen c.args.hop c.args.status)) c.args.self.now.state in
    c.offer_next.ensures.ok.state
    ∙ (ap (λ (e : ChildEvent). offer_event c.take.new.self.plan target.Main e c.take.new.self.state) c.new-stop.ensures
    ∙ (ap (λ (p : ChannelPlan). offer_event p target.Main (Stop c.args.status) c.take.new.self.state) c.in_ok-take.ensures.ok.plan
    ∙ (ap (λ (s : ChildState). offer_event plan target.Main (Stop c.args.status) s) c.in_ok-take.ensures.ok.state
    ∙ (ap (λ (e : ChildEvent). offer_event plan target.Main (Stop c.args.status) (offer_event plan target.Main e taken)) c.new-start.ensures
    ∙ sym (failed_open plan c.args.hop c.args.status c.args.self.now.state c.requires.broken)))))

pub returns-clause-trace : goal.returns-clause-trace
returns-clause-trace g c = gains_then _ _ _ _ _ c.in_ok-take.ensures.trace c.offer_next.ensures.trace
