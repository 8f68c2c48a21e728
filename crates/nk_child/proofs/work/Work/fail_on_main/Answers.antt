-- What is sent is what was staged: the bytes that were read, and then the cancel.
use Rattle.std.proofs.Common.{◌∙◌, ap, List, [], ◌∷◌, ◌++◌}
use Rattle.nk_base.specs.declared.message.UpMsg.{UpMsg}
use Rattle.nk_base.specs.declared.message.UpMsg.TheVariants as up_message
use Rattle.nk_plan.specs.declared.plan.ChannelPlan.{ChannelPlan}
use Rattle.nk_plan.specs.declared.plan.Act.TheVariants as act
use Rattle.nk_plan.specs.Child.{ChildState, perform_call}
use Rattle.nk_child.specs.Reactions.{cancel_sends}
use Rattle.nk_child.proofs.Gains.{gains_two}
use Rattle.nk_child.proofs.work.Work.fail_on_main.Goals as goal

pub returns-clause-state : goal.returns-clause-state
returns-clause-state g c =
    c.cancel.ensures.ok.state
    ∙ (ap (λ (p : ChannelPlan). perform_call p (act.Cancel c.args.status) c.read_on.new.self.state) c.read_on.ensures.plan
    ∙ ap (λ (s : ChildState). perform_call c.args.self.now.plan (act.Cancel c.args.status) s) c.read_on.ensures.state)

pub returns-clause-sent : goal.returns-clause-sent
returns-clause-sent g c =
    gains_two _ _ _ _ (up_message.BytesRead c.args.count ∷ []) (cancel_sends c.args.status c.args.self.now.state)
    (c.cancel.ensures.sent ∙ ap (λ (s : ChildState). s.sent ++ cancel_sends c.args.status s) c.read_on.ensures.state)
    (c.in_ok-stage_cancel.ensures.staged ∙ ap (λ (xs : List UpMsg). xs ++ cancel_sends c.args.status c.args.self.now.state) c.in_ok-stage.ensures.staged)

pub returns-clause-trace : goal.returns-clause-trace
returns-clause-trace g c = c.cancel.ensures.trace ∙ ap (λ (s : ChildState). s.trace) c.read_on.ensures.state

pub returns-clause-held : goal.returns-clause-held
returns-clause-held g c = c.in_ok-stage_cancel.ensures.held ∙ c.in_ok-stage.ensures.held
