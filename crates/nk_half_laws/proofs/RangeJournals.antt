-- What a child sends is in range, where the messages are that its steps bring, or that its journal says it took.
use Rattle.std.proofs.Common.{◌≡◌, subst, List, [], ◌∷◌, ◌++◌, All, Bool, true, false}
use Rattle.std.proofs.lemmas.List.Elements.{All-head, All-tail}
use Rattle.nk_base.specs.Ranges.{IsMainInRange, IsBackInRange}
use Rattle.nk_plan.specs.declared.plan.ChannelPlan.{ChannelPlan}
use Rattle.nk_plan.specs.declared.journal.ChildEntry.{ChildEntry}
use Rattle.nk_plan.specs.declared.step.ChildStep.{ChildStep}
use Rattle.nk_plan.specs.declared.step.ChildStep.TheVariants as step
use Rattle.nk_plan.specs.Journal.{mains_taken, backs_taken}
use Rattle.nk_plan.specs.Child.{ChildState, child_step, child_after}
use Rattle.nk_half_laws.specs.Growth.{mains_of, backs_of, Adds}
use Rattle.nk_half_laws.specs.Ranges.{IsStepInRange, ChildRangeLaw, JournalRangeLaw}
use Rattle.nk_half_laws.proofs.GrowthRows.{growth}
use Rattle.nk_half_laws.proofs.Journals.{mains_taken-append, backs_taken-append}
use Rattle.nk_half_laws.proofs.Plans.{GoodPlan, good_plan}
use Rattle.nk_half_laws.proofs.RangeEvents.{Holds}
use Rattle.nk_half_laws.proofs.RangeRows.{first_kept, step_kept}
use Rattle.nk_half_laws.proofs.Tools.{front, behind}

kept_by : (c : ChannelPlan) (steps : List ChildStep) → GoodPlan c → All IsStepInRange steps → Holds (child_after c steps)
kept_by c [] f r = first_kept c
kept_by c (x ∷ xs) f r =
    step_kept c x (child_after c xs) f (λ b. All-head IsStepInRange x xs r) (kept_by c xs f (All-tail IsStepInRange x xs r))

pub in_range : ChildRangeLaw
in_range c steps a r = (kept_by c steps (good_plan c a) r).sent

-- all messages that a journal says were taken are in range
abbrev Heard : List ChildEntry → Type 0
Heard j = All IsMainInRange (mains_taken j) × All IsBackInRange (backs_taken j)

heard_before : (j k : List ChildEntry) → Heard (j ++ k) → Heard j
heard_before j k h = (
  front IsMainInRange (mains_taken j) (mains_taken k) (subst (All IsMainInRange) (mains_taken-append j k) h.0),
  front IsBackInRange (backs_taken j) (backs_taken k) (subst (All IsBackInRange) (backs_taken-append j k) h.1),
)

heard_behind : (j k : List ChildEntry) → Heard (j ++ k) → Heard k
heard_behind j k h = (
  behind IsMainInRange (mains_taken j) (mains_taken k) (subst (All IsMainInRange) (mains_taken-append j k) h.0),
  behind IsBackInRange (backs_taken j) (backs_taken k) (subst (All IsBackInRange) (backs_taken-append j k) h.1),
)

-- a step of a child that is not broken takes its message
step_heard : (x : ChildStep) (b : Bool) → All IsMainInRange (mains_of x b) → All IsBackInRange (backs_of x b) → b ≡ false → IsStepInRange x
step_heard step.Act b m n e = tt
step_heard step.Verdict b m n e = tt
step_heard (step.Main x) true m n e = cc
step_heard (step.Main x) false m n e = All-head IsMainInRange x [] m
step_heard (step.Back x) true m n e = cc
step_heard (step.Back x) false m n e = All-head IsBackInRange x [] n
step_heard step.Release b m n e = tt
step_heard (step.Begin t) b m n e = tt
step_heard (step.Finish t) b m n e = tt

kept_as_heard : (c : ChannelPlan) (steps : List ChildStep) → GoodPlan c → Heard (child_after c steps).journal → Holds (child_after c steps)
kept_as_heard c [] f h = first_kept c
kept_as_heard c (x ∷ xs) f h =
    let s : ChildState = child_after c xs in
    let a : Adds c x s (child_step c x s) = growth c x s in
    let h1 : Heard (s.journal ++ a.entries) = subst Heard a.journal h in
    let n : Heard a.entries = heard_behind s.journal a.entries h1 in
    step_kept c x s f (step_heard x s.broken (subst (All IsMainInRange) a.main n.0) (subst (All IsBackInRange) a.back n.1))
    (kept_as_heard c xs f (heard_before s.journal a.entries h1))

pub taken_in_range : JournalRangeLaw
taken_in_range c steps a m b = (kept_as_heard c steps (good_plan c a) (m, b)).sent
