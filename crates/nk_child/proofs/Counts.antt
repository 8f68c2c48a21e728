-- Each count of a child is bounded by the length of its journal, and what its fields tell of its ending its journal tells.
use Rattle.std.proofs.Common.{ℕ, suc, ◌≡◌, ◌+◌, ◌≤◌, ◌<◌, ◌^◌, sym, ◌∙◌, ap, subst, List, [], ◌∷◌, length, Bool, true, false, if◌then◌else◌, arith}
use Rattle.nk_base.specs.declared.status.Target.{Target}
use Rattle.nk_base.specs.Queue.{posted_to}
use Rattle.nk_plan.specs.Accepted.{Accepted}
use Rattle.nk_plan.specs.declared.plan.ChannelPlan.{ChannelPlan}
use Rattle.nk_plan.specs.declared.journal.ChildEntry.{ChildEntry}
use Rattle.nk_plan.specs.declared.step.ChildStep.{ChildStep}
use Rattle.nk_plan.specs.Journal.{count_of, is_suspend, is_resume, is_finish, is_redirect3, final}
use Rattle.nk_plan.specs.Child.{ChildState, child_step, child_after}
use Rattle.nk_plan.specs.Run.{IsChildState, IsChildRun, state_of}
use Rattle.nk_laws.specs.Laws.{FailureLaw, CountsLaw, BoundsLaw, StateLaw}
use Rattle.nk_child.specs.Views.{Counted}
use Rattle.nk_child.proofs.Begun.{child_begun}

fewer_if : (b : Bool) (n m : ℕ) → n ≤ m → (if b then suc n else n) ≤ suc m
fewer_if true n m h = omega arith
fewer_if false n m h = omega arith

few_of : (is : ChildEntry → Bool) (j : List ChildEntry) → count_of is j ≤ length j
few_of is [] = omega arith
few_of is (e ∷ j) = fewer_if (is e) (count_of is j) (length j) (few_of is j)

-- what holds of all lists of steps holds of a child
pub of_child : (P : ChildState → Type 0) (c : ChannelPlan) (s : ChildState) → IsChildState c s → ((steps : List ChildStep) → P (child_after c steps)) → P s
of_child P c s h all = subst P h.1 (all h.0)

-- the counts of a child whose journal is in memory
pub counted : (c : ChannelPlan) (s : ChildState) → FailureLaw → CountsLaw → BoundsLaw → Accepted c → IsChildState c s → length s.journal < 2 ^ 62 → Counted s
counted c s failures counts bounds a h few =
    let hops : s.hop ≡ final s.journal = of_child (λ (v : ChildState). v.hop ≡ final v.journal) c s h (λ steps. (failures c steps).2) in
    let tally = of_child (λ (v : ChildState). (v.suspends + count_of is_resume v.journal ≡ count_of is_suspend v.journal) × (v.finished ≡ count_of is_finish v.journal)) c s h (λ steps. ((counts c steps).1, (counts c steps).2)) in
    let suspends : s.suspends + count_of is_resume s.journal ≡ count_of is_suspend s.journal = tally.0 in
    let finished : s.finished ≡ count_of is_finish s.journal = tally.1 in
    let queue = of_child (λ (v : ChildState). (v.queue.count ≡ v.suspends) × ((t : Target) → posted_to v.queue t ≤ length v.journal)) c s h (λ steps. ((bounds c steps a).0, (bounds c steps a).2)) in
    let count : s.queue.count ≡ s.suspends = queue.0 in
    let begun : s.data_begun ≤ length s.journal = of_child (λ (v : ChildState). v.data_begun ≤ length v.journal) c s h (child_begun c) in
    let few_hops : final s.journal ≤ length s.journal = few_of is_redirect3 s.journal in
    let few_finished : count_of is_finish s.journal ≤ length s.journal = few_of is_finish s.journal in
    let few_suspends : count_of is_suspend s.journal ≤ length s.journal = few_of is_suspend s.journal in
    record {
      finished = omega arith;
      data_begun = omega arith;
      hop = omega arith;
      count = omega arith;
      posted = λ t. let p : posted_to s.queue t ≤ length s.journal = queue.1 t in omega arith;
    }

pub forced_once : (c : ChannelPlan) (s : ChildState) → BoundsLaw → Accepted c → IsChildState c s → s.queue.forced ≤ 1
forced_once c s bounds a h = of_child (λ (v : ChildState). v.queue.forced ≤ 1) c s h (λ steps. (bounds c steps a).1)

-- a child's journal tells all that it is
pub told : (c : ChannelPlan) (s : ChildState) → StateLaw → IsChildState c s → state_of c s.journal ≡ s
told c s law h = of_child (λ (v : ChildState). state_of c v.journal ≡ v) c s h (law c).0

pub is_run : (c : ChannelPlan) (s : ChildState) → IsChildState c s → IsChildRun c s.journal
is_run c s h = (h.0, ap (λ (v : ChildState). v.journal) h.1)

-- one step more of a child
pub stepped : (c : ChannelPlan) (x : ChildStep) (s new : ChildState) → IsChildState c s → new ≡ child_step c x s → IsChildState c new
stepped c x s new h e = (x ∷ h.0, ap (child_step c x) h.1 ∙ sym e)
