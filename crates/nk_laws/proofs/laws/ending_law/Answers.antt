use Rattle.nk_plan.specs.declared.plan.ChannelPlan.{ChannelPlan}
use Rattle.nk_plan.specs.Accepted.{Accepted}
use Rattle.nk_laws.proofs.Premises.{Known}
use Rattle.nk_laws.proofs.Proved.{endings_told, endings, broken}
use Rattle.nk_laws.proofs.laws.ending_law.Goals as goal

pub returns : goal.returns
returns c =
    let known : (plan : ChannelPlan) → Accepted plan → Known plan = λ plan a. record {
      accepted = a;
      rest = c.child_rest_law.ensures;
      queue = c.child_queue_law.ensures;
      growth = c.growth_law.ensures;
      told = c.told_law.ensures;
      shown = c.shown_law.ensures;
      ended = c.parent_end_law.ensures;
      suspends = c.suspend_law.ensures.both;
    } in
    record { told = endings_told; ends = endings known; broken = broken }
