-- What a break leads to: the stop is offered, and the start before it where the listener has had none.
use Rattle.std.proofs.Common.{rules, Result, Ok, Err, OnOk, ℕ, ◌≡◌, ◌∙◌, sym, ap, Bool, true, false, ◌||◌, if◌then◌else◌, [], ◌∷◌, ◌++◌}
use Rattle.nk_base.specs.declared.status.Status.{Status}
use Rattle.nk_base.specs.declared.status.Memory.{Memory}
use Rattle.nk_base.specs.declared.status.Target.TheVariants as target
use Rattle.nk_base.specs.Queue.{cleared}
use Rattle.nk_plan.specs.declared.plan.ChannelPlan.{ChannelPlan}
use Rattle.nk_plan.specs.declared.plan.Act.TheVariants as act
use Rattle.nk_plan.specs.declared.event.ChildEvent.{ChildEvent}
use Rattle.nk_plan.specs.declared.event.ChildEvent.TheVariants.{Start, Stop}
use Rattle.nk_base.specs.declared.message.MainMsg.TheVariants as main
use Rattle.nk_plan.specs.declared.step.ChildStep.TheVariants as step
use Rattle.nk_plan.specs.declared.journal.ChildEntry.TheVariants as entry
use Rattle.nk_base.specs.Status.{merged}
use Rattle.nk_plan.specs.Child.{ChildState, child_step, with_entry, perform_call, call_break, offer_event, offer_all, is_empty}
use Rattle.nk_child.specs.Views.{WorkView, Leaves}

abbrev pub dropped : Status → ChildState → ChildState
dropped st s = record s { broken = true; kept = merged s.kept st; queue = cleared s.queue; journal = s.journal ++ entry.Break st ∷ [] }

breaks : (c : ChannelPlan) (st : Status) (s : ChildState) → s.stopped ≡ false → s.broken ≡ false → perform_call c (act.Break st) s ≡ call_break c st s
breaks c st s h e =
    ap (λ (b : Bool). if b || s.broken then with_entry entry.NoEffect s else call_break c st s) h
    ∙ ap (λ (b : Bool). if b then with_entry entry.NoEffect s else call_break c st s) e

stop_offered : (c : ChannelPlan) (st : Status) (e : ChildEvent) (s new : ChildState) → s.stopped ≡ false → s.broken ≡ false → is_empty s.trace ≡ false
    → e ≡ Stop st → new ≡ offer_event c target.Main e (dropped st s) → new ≡ perform_call c (act.Break st) s
stop_offered c st e s new h b t stop n =
    n ∙ (ap (λ (x : ChildEvent). offer_event c target.Main x (dropped st s)) stop
    ∙ sym (breaks c st s h b ∙ ap (λ (x : Bool). offer_all c target.Main (if x then Start 0 st ∷ Stop st ∷ [] else Stop st ∷ []) (dropped st s)) t))

pub stop_leaves : (r : Result (Unit {0}) Memory) (st : Status) (e : ChildEvent) (old new : WorkView) → old.state.stopped ≡ false → old.state.broken ≡ false → is_empty old.state.trace ≡ false
    → e ≡ Stop st → OnOk r (Leaves 2 1 old new (offer_event old.plan target.Main e (dropped st old.state)))
    → OnOk r (Leaves 2 2 old new (perform_call old.plan (act.Break st) old.state))
stop_leaves (Ok u) st e old new h b t stop left = record {
  plan = left.plan;
  state = stop_offered old.plan st e old.state new.state h b t stop left.state;
  rooms = search rules;
}
stop_leaves (Err m) st e old new h b t stop left = left

pub both_offered : (c d : ChannelPlan) (st : Status) (e f : ChildEvent) (s mid new : ChildState) → s.stopped ≡ false → s.broken ≡ false → is_empty s.trace ≡ true
    → e ≡ Start 0 st → f ≡ Stop st → d ≡ c → mid ≡ offer_event c target.Main e (dropped st s) → new ≡ offer_event d target.Main f mid → new ≡ perform_call c (act.Break st) s
both_offered c d st e f s mid new h b t start stop same m n =
    n ∙ (ap (λ (x : ChannelPlan). offer_event x target.Main f mid) same
    ∙ (ap (λ (x : ChildEvent). offer_event c target.Main x mid) stop
    ∙ (ap (λ (x : ChildState). offer_event c target.Main (Stop st) x) (m ∙ ap (λ (x : ChildEvent). offer_event c target.Main x (dropped st s)) start)
    ∙ sym (breaks c st s h b ∙ ap (λ (x : Bool). offer_all c target.Main (if x then Start 0 st ∷ Stop st ∷ [] else Stop st ∷ []) (dropped st s)) t))))

-- a failed opening is a start and a stop
pub failed_open : (c : ChannelPlan) (hop : ℕ) (st : Status) (s : ChildState) → s.broken ≡ false
    → child_step c (step.Main (main.FailedOpen hop st)) s
    ≡ offer_event c target.Main (Stop st) (offer_event c target.Main (Start 0 st) (with_entry (entry.TookMain (main.FailedOpen hop st)) s))
failed_open c hop st s h =
    ap (λ (b : Bool). if b then s else offer_event c target.Main (Stop st) (offer_event c target.Main (Start 0 st) (with_entry (entry.TookMain (main.FailedOpen hop st)) s))) h
