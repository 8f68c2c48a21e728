-- Once a channel is broken, its stop was shown or waits.
use Rattle.std.proofs.Common.{ℕ, ◌≡◌, refl, sym, ◌∙◌, ap, Bool, true, false, List, [], ◌∷◌, ◌++◌, ◌⊎◌, inl, inr}
use Rattle.nk_base.specs.declared.message.MainMsg.{MainMsg}
use Rattle.nk_base.specs.declared.message.BackMsg.{BackMsg}
use Rattle.nk_plan.specs.declared.plan.ChannelPlan.{ChannelPlan}
use Rattle.nk_plan.specs.declared.event.ChildEvent.{ChildEvent}
use Rattle.nk_plan.specs.declared.event.ChildEvent.TheVariants.{Start, Bytes, Stop, Redirect1, Redirect3, Cancel}
use Rattle.nk_plan.specs.declared.journal.ParentEntry.{ParentEntry}
use Rattle.nk_plan.specs.declared.step.ChildStep.{ChildStep}
use Rattle.nk_plan.specs.Journal.{first, final, cut, ups_taken, mains_sent, backs_sent, backs_taken}
use Rattle.nk_plan.specs.Child.{ChildState, new_child, child_after}
use Rattle.nk_plan.specs.Ending.{ends_in_stop, waits_to_stop}
use Rattle.nk_plan.specs.Run.{IsParentRun}
use Rattle.nk_laws.proofs.Tools.{append_nil}
use Rattle.nk_laws.proofs.Premises.{PlanOk}
use Rattle.nk_laws.proofs.Sent.{SentLaw}
use Rattle.nk_laws.proofs.ParentLaw.{lane_law}
use Rattle.nk_laws.proofs.Order.{strip, stops}
use Rattle.nk_laws.proofs.Taking.{Inv, whole_unbroken}
use Rattle.nk_laws.proofs.Merge.{TakesDown, fed, start_inv, run_inv, prefix_of_take, merge}
use Rattle.nk_laws.proofs.Still.{ends_at}
use Rattle.nk_laws.proofs.Tally.{child_tally, stop_last}

stop_or_waits : (w : List ChildEvent) (b : Bool) → stops (strip w) b ≡ true → (b ≡ true) ⊎ (waits_to_stop w ≡ true)
stop_or_waits [] b h = inl h
stop_or_waits (Start code st ∷ w) b h = stop_or_waits w b h
stop_or_waits (Bytes o p st ∷ w) b h = stop_or_waits w b h
stop_or_waits (Stop st ∷ w) b h = inr refl
stop_or_waits (Redirect1 i ∷ w) b h = stop_or_waits w b h
stop_or_waits (Redirect3 i ∷ w) b h = stop_or_waits w b h
stop_or_waits (Cancel st ∷ w) b h = stop_or_waits w b h

broken_inv : (c : ChannelPlan) (md : List MainMsg) (bd : List BackMsg) (s : ChildState) → Inv c md bd s → s.broken ≡ true → (s.stopped ≡ true) ⊎ (waits_to_stop s.queue.waiting ≡ true)
broken_inv c md bd s (inl i) e = let no : s.broken ≡ false = whole_unbroken c md bd s i in absurd (cc)
broken_inv c md bd s (inr i) e =
    let z : stops (strip (s.queue.waiting ++ [])) s.stopped ≡ true = ends_at c i.around [] _ s i.keeps ∙ i.ends_is in
    stop_or_waits s.queue.waiting s.stopped (ap (λ w. stops (strip w) s.stopped) (sym (append_nil s.queue.waiting)) ∙ z)

pub broken_stops : (c : ChannelPlan) (p : List ParentEntry) (n : ℕ) (steps : List ChildStep) → PlanOk c → IsParentRun c p → TakesDown p (child_after c steps).journal n → (child_after c steps).broken ≡ true
    → (ends_in_stop (child_after c steps).trace ≡ true) ⊎ (waits_to_stop (child_after c steps).queue.waiting ≡ true)
broken_stops c p n steps v r d e =
    let s : ChildState = child_after c steps in
    let md : List MainMsg = mains_sent p in
    let bd : List BackMsg = backs_sent p in
    let l : SentLaw c (ups_taken p) md bd = rw r.1 at (lane_law c r.0 v) in
    let i : Inv c md bd (new_child c) = start_inv c md bd (fed c (ups_taken p) md bd v l) in
    let k : Inv c md bd s = run_inv c md bd steps v i (d.0, prefix_of_take n (backs_taken s.journal) bd d.2) in
    elim (broken_inv c md bd s k e) [
      | inl x ↦ inl (sym (stop_last c (final s.journal) (first s.journal) (cut s.journal) s.trace (merge c p n steps v r d)) ∙ ((child_tally c steps).stop_is ∙ x))
      | inr x ↦ inr x
    ]
