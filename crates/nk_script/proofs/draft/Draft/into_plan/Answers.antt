-- The lines of a channel that is complete make a plan that is accepted, so none is refused.
use Rattle.std.proofs.Common.{◌≡◌, ◌↔◌, List, Result, Ok, Err, IsOk, sym, subst}
use Rattle.nk_plan.specs.declared.plan.ChannelPlan.{ChannelPlan}
use Rattle.nk_plan.specs.declared.plan.Hop.{Hop}
use Rattle.nk_plan.specs.declared.plan.PlanError.{PlanError}
use Rattle.nk_plan.specs.Accepted.{Accepted, plan_of as plan_with}
use Rattle.nk_script.specs.declared.draft.Draft.{Draft}
use Rattle.nk_script.proofs.draft.Draft.into_plan.Goals as goal

not_refused : (c : ChannelPlan) (r : Result ChannelPlan PlanError) (e : PlanError) → (IsOk r ↔ Accepted c) → Accepted c → r ≡ Err e → ⊥
not_refused c (Ok made) e answer is refused = cc
not_refused c (Err x) e answer is refused = let ok = answer.1 is in cc

pub unreachable-requires : goal.unreachable-requires
unreachable-requires c =
    let d : Draft = c.args.self in
    not_refused _ c.new-made.result c.in-Err.field-0 c.new-made.ensures.accepted
    (subst (λ (hops : List Hop). Accepted (plan_with hops d.listener d.retargetable d.reactions d.controls d.window d.closed d.start)) (sym c.in_ok-hops.ensures) c.requires)
    c.in-Err.is
