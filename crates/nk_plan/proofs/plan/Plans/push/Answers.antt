-- The plan that is added is accepted by its type, as those before it.
use Rattle.std.proofs.Common.{◌++◌, ◌∷◌, [], List, Bool, true, false, if◌then◌else◌, All, sym, subst}
use Rattle.std.proofs.lemmas.List.Elements.{All-append, All-cons, All-nil}
use Rattle.nk_plan.specs.PlanParts.{PlanParts}
use Rattle.nk_plan.specs.Accepted.{Accepted}
use Rattle.nk_plan.proofs.plan.Plans.push.Goals as goal

one_more : (added : Bool) (plans : List PlanParts) (c : PlanParts) → All Accepted plans → Accepted c → All Accepted (if added then plans ++ c ∷ [] else plans)
one_more true plans c all one = All-append Accepted plans (c ∷ []) all (All-cons Accepted c [] one (All-nil Accepted))
one_more false plans c all one = all

pub invariant_of-self : goal.invariant_of-self
invariant_of-self c =
    subst (All Accepted) (sym c.push.ensures.items)
    (one_more _ c.self.inside.plans.items c.args.item c.self.invariant (subst Accepted c.item.view_is c.item.invariant))
