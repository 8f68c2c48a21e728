use Rattle.nk_plan.proofs.Refusals.{accepted_nowhere_refused}
use Rattle.nk_plan.proofs.plan.ChannelPlan.new.Goals as goal

pub returns-in-Err-clause-accepted : goal.returns-in-Err-clause-accepted
returns-in-Err-clause-accepted c =
    (λ ok. absurd cc, λ accepted. absurd (accepted_nowhere_refused _ accepted c.in-Err.refusal c.in-Err.ensures.err.here))
