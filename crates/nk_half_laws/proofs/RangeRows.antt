-- Each step of a child sends what is in range, where the message that it takes is.
use Rattle.std.proofs.Common.{sym, subst, ℕ, suc, ◌≡◌, refl, List, [], ◌∷◌, ◌++◌, length, true, false, ◌==◌, Option, Some, None, nat_le, slice_get}
use Rattle.std.proofs.lemmas.List.Elements.{All-nil}
use Rattle.nk_base.specs.declared.status.Status.{Status}
use Rattle.nk_base.specs.declared.status.Target.{Target}
use Rattle.nk_base.specs.declared.status.Target.TheVariants as target
use Rattle.nk_base.specs.declared.message.MainMsg.{MainMsg}
use Rattle.nk_base.specs.declared.message.MainMsg.TheVariants as main
use Rattle.nk_base.specs.declared.message.BackMsg.{BackMsg}
use Rattle.nk_base.specs.declared.message.BackMsg.TheVariants as back
use Rattle.nk_base.specs.declared.message.UpMsg.TheVariants as up
use Rattle.nk_base.specs.Queue.{Event}
use Rattle.nk_base.specs.Ranges.{IsMainInRange, IsBackInRange, IsUpInRange}
use Rattle.nk_base.specs.Status.{is_legal_status}
use Rattle.nk_plan.specs.declared.plan.ChannelPlan.{ChannelPlan}
use Rattle.nk_plan.specs.declared.plan.StartLane.{StartLane}
use Rattle.nk_plan.specs.declared.plan.StartLane.TheVariants as lane
use Rattle.nk_plan.specs.declared.plan.Hop.{Hop}
use Rattle.nk_plan.specs.declared.plan.Hop.TheVariants as hop
use Rattle.nk_plan.specs.declared.plan.Verdict.TheVariants as verdict
use Rattle.nk_plan.specs.declared.plan.Control.{Control}
use Rattle.nk_plan.specs.declared.event.ChildEvent.{ChildEvent}
use Rattle.nk_plan.specs.declared.journal.ChildEntry.TheVariants as child
use Rattle.nk_plan.specs.declared.step.ChildStep.{ChildStep}
use Rattle.nk_plan.specs.declared.step.ChildStep.TheVariants as step
use Rattle.nk_plan.specs.Accepted.{IsGoodHop}
use Rattle.nk_plan.specs.Plan.{hop_at}
use Rattle.nk_plan.specs.Child.{ChildState, new_child, with_entry, offer_all, perform_call, perform_control, step_act, hop_verdict, verdict_status, step_verdict, note_main, main_events_of, step_main, back_events_of, back_events, keep_back, is_among, back_hop, hold_back, step_back, of_hop, not_of_hop, released_hold, step_release, flush_with, step_begin, child_step}
use Rattle.nk_half_laws.specs.Ranges.{IsStepInRange}
use Rattle.nk_half_laws.proofs.Tools.{keeps_if}
use Rattle.nk_half_laws.proofs.Failures.{IsKept, failure_legal}
use Rattle.nk_half_laws.proofs.Plans.{GoodPlan}
use Rattle.nk_half_laws.proofs.RangeEvents.{GoodEvents, GoodHeld, GoodQuestion, Holds, says, event_run, events_offered}
use Rattle.nk_half_laws.proofs.RangeCalls.{called, returned}
use Rattle.nk_half_laws.proofs.Sums.{empty_hold}
use Rattle.nk_half_laws.proofs.Table.{act_if, flush_if, begin_if}

-- The opening, and the page's next call

control_done : (c : ChannelPlan) (s : ChildState) (o : Option Control) → GoodPlan c → slice_get c.controls s.next ≡ o → Holds s
    → Holds (perform_control c o s)
control_done c s None f e h = h
control_done c s (Some control) f e h =
    keeps_if Holds (nat_le control.after s.finished) (perform_call c control.act (record s { next = suc s.next })) s
    (λ r. called c (record s { next = suc s.next }) control.act (f.controls s.next control e) h) (λ r. h)

acted : (c : ChannelPlan) (s : ChildState) → GoodPlan c → Holds s → Holds (step_act c s)
acted c s f h =
    act_if Holds c s h (control_done c s (slice_get c.controls s.next) f refl h)
    (λ q. record {
      kept = h.kept;
      question = h.question;
      held = h.held;
      waiting = h.waiting;
      running = h.running;
      sent = says s.sent up.Open h.sent tt;
    })

-- The verdict

verdict_legal : (o : Option Hop) → ((x : Hop) → o ≡ Some x → IsGoodHop x) → is_legal_status (hop_verdict o) ≡ true
verdict_legal None f = refl
verdict_legal (Some (hop.Fail st)) f = refl
verdict_legal (Some (hop.Redirect code verdict.Allow)) f = refl
verdict_legal (Some (hop.Redirect code (verdict.Veto st))) f = failure_legal st (f (hop.Redirect code (verdict.Veto st)) refl).1
verdict_legal (Some (hop.Response head pieces end trailers)) f = refl

answer_legal : (c : ChannelPlan) (q : Option Status) (i : ℕ) → GoodPlan c → IsKept q → is_legal_status (verdict_status c q i) ≡ true
answer_legal c (Some q) i f k = failure_legal q k
answer_legal c None i f k = verdict_legal (hop_at c i) (λ x e. f.hops i x e)

answered : (c : ChannelPlan) (s : ChildState) (o : Option ℕ) → GoodPlan c → GoodQuestion o → Holds s → Holds (step_verdict c o s)
answered c s None f g h = h
answered c s (Some i) f g h = record {
  kept = h.kept;
  question = tt;
  held = h.held;
  waiting = h.waiting;
  running = h.running;
  sent = says s.sent (up.Verify i (verdict_status c s.kept i)) h.sent (g, answer_legal c s.kept i f h.kept);
}

-- Messages of the main lane

main_noted : (l : StartLane) (x : MainMsg) (s : ChildState) → Holds s → Holds (note_main l x s)
main_noted l (main.Start i st head) s h = h
main_noted l (main.FailedOpen i st) s h = h
main_noted l (main.Redirect1 i code) s h = h
main_noted lane.Main (main.Redirect3 i) s h = h
main_noted lane.Back (main.Redirect3 i) s h = h

main_good : (x : MainMsg) → IsMainInRange x → GoodEvents (main_events_of x)
main_good (main.Start i st head) r = (tt, tt)
main_good (main.FailedOpen i st) r = (tt, (tt, tt))
main_good (main.Redirect1 i code) r = (r.0, tt)
main_good (main.Redirect3 i) r = (tt, tt)

pub main_taken : (c : ChannelPlan) (s : ChildState) (x : MainMsg) → IsMainInRange x → Holds s → Holds (step_main c x s)
main_taken c s x r h =
    main_noted c.start x (offer_all c target.Main (main_events_of x) s)
    (events_offered c s target.Main (main_events_of x) (main_good x r) h)

-- Messages of the background lane

back_good : (x : BackMsg) → IsBackInRange x → GoodEvents (back_events_of x)
back_good (back.StartSent i) r = tt
back_good (back.Start i st head) r = (tt, tt)
back_good (back.Bytes i st o p) r = (r.2, tt)
back_good (back.Stop i st trailers) r = (tt, tt)

held_more : (w : List BackMsg) (x : BackMsg) → GoodHeld w → IsBackInRange x → GoodHeld (w ++ x ∷ [])
held_more [] x g r = (r, tt)
held_more (y ∷ w) x g r = (g.0, held_more w x g.1 r)

back_held : (c : ChannelPlan) (s : ChildState) (x : BackMsg) → IsBackInRange x → Holds s → Holds (hold_back c x s)
back_held c s x r h =
    keeps_if Holds (is_among s.hold.released (back_hop x)) (offer_all c target.Back (back_events_of x) s) (keep_back x s)
    (λ q. events_offered c s target.Back (back_events_of x) (back_good x r) h)
    (λ q. record {
      kept = h.kept;
      question = h.question;
      held = held_more s.hold.kept x h.held r;
      waiting = h.waiting;
      running =
          h.running;
      sent = h.sent;
    })

pub back_taken : (c : ChannelPlan) (s : ChildState) (x : BackMsg) → IsBackInRange x → Holds s → Holds (step_back c x s)
back_taken c s (back.StartSent i) r h = h
back_taken c s (back.Start i st head) r h = back_held c s (back.Start i st head) r h
back_taken c s (back.Bytes i st o p) r h = back_held c s (back.Bytes i st o p) r h
back_taken c s (back.Stop i st trailers) r h = back_held c s (back.Stop i st trailers) r h

-- The release

of_good : (i : ℕ) (w : List BackMsg) → GoodHeld w → GoodHeld (of_hop i w)
of_good i [] g = tt
of_good i (x ∷ w) g = keeps_if GoodHeld (i == back_hop x) (x ∷ of_hop i w) (of_hop i w) (λ r. (g.0, of_good i w g.1)) (λ r. of_good i w g.1)

not_of_good : (i : ℕ) (w : List BackMsg) → GoodHeld w → GoodHeld (not_of_hop i w)
not_of_good i [] g = tt
not_of_good i (x ∷ w) g =
    keeps_if GoodHeld (i == back_hop x) (not_of_hop i w) (x ∷ not_of_hop i w) (λ r. not_of_good i w g.1) (λ r. (g.0, not_of_good i w g.1))

held_events : (w : List BackMsg) → GoodHeld w → GoodEvents (back_events w)
held_events [] g = tt
held_events (back.StartSent i ∷ w) g = held_events w g.1
held_events (back.Start i st head ∷ w) g = (tt, held_events w g.1)
held_events (back.Bytes i st o p ∷ w) g = (g.0.2, held_events w g.1)
held_events (back.Stop i st trailers ∷ w) g = (tt, held_events w g.1)

released : (c : ChannelPlan) (s : ChildState) (o : Option ℕ) → Holds s → Holds (step_release c o s)
released c s None h = h
released c s (Some i) h =
    let s1 : ChildState =
    record s { hold = released_hold i s.hold; journal = s.journal ++ child.Release (length (of_hop i s.hold.kept)) ∷ [] } in
    events_offered c s1 target.Back (back_events (of_hop i s.hold.kept)) (held_events (of_hop i s.hold.kept) (of_good i s.hold.kept h.held))
    (record {
      kept = h.kept;
      question = h.question;
      held = not_of_good i s.hold.kept h.held;
      waiting = h.waiting;
      running = h.running;
      sent = h.sent;
    })

-- A target's turn

event_taken : (c : ChannelPlan) (s : ChildState) (t : Target) (e : ChildEvent) (rest : List ChildEvent) → GoodEvents (e ∷ rest) → Holds s
    → Holds (flush_with c t (Event e rest) s)
event_taken c s t e rest g h =
    event_run c (record s { queue = record s.queue { waiting = rest } }) t e g.0
    (record { kept = h.kept; question = h.question; held = h.held; waiting = g.1; running = h.running; sent = h.sent })

begun : (c : ChannelPlan) (s : ChildState) (t : Target) → Holds s → Holds (step_begin c t s)
begun c s t h =
    begin_if Holds c t s h
    (flush_if Holds c t s h (λ e rest q. event_taken c s t e rest (subst GoodEvents q h.waiting) h) (λ u. h)) h

-- All steps

pub step_kept : (c : ChannelPlan) (x : ChildStep) (s : ChildState) → GoodPlan c → (s.broken ≡ false → IsStepInRange x) → Holds s
    → Holds (child_step c x s)
step_kept c step.Act s f r h = acted c s f h
step_kept c step.Verdict s f r h =
    keeps_if Holds s.broken s (step_verdict c s.question s) (λ b. h) (λ b. answered c s s.question f h.question h)
step_kept c (step.Main x) s f r h =
    keeps_if Holds s.broken s (step_main c x (with_entry (child.TookMain x) s)) (λ b. h)
    (λ b. main_taken c (with_entry (child.TookMain x) s) x (r b) h)
step_kept c (step.Back x) s f r h =
    keeps_if Holds s.broken s (step_back c x (with_entry (child.TookBack x) s)) (λ b. h)
    (λ b. back_taken c (with_entry (child.TookBack x) s) x (r b) h)
step_kept c step.Release s f r h = keeps_if Holds s.broken s (step_release c s.hold.report s) (λ b. h) (λ b. released c s s.hold.report h)
step_kept c (step.Begin t) s f r h = begun c s t h
step_kept c (step.Finish t) s f r h = returned c s t s.running f.reactions h.running h

pub first_kept : (c : ChannelPlan) → Holds (new_child c)
first_kept c = record {
  kept = tt;
  question = tt;
  held = subst GoodHeld (sym (empty_hold c.start)) tt;
  waiting = tt;
  running = tt;
  sent = All-nil IsUpInRange;
}
