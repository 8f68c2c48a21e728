-- Each step of a child keeps what it has sent and shown, with what is left, within what it took and its plan.
use Rattle.std.proofs.Common.{ℕ, suc, ◌≡◌, ◌+◌, ◌<◌, ◌≤◌, refl, subst, ap, List, [], ◌∷◌, ◌++◌, length, true, false, Option, Some, None, nat_le, slice_get, arith}
use Rattle.nk_base.specs.declared.status.Target.{Target}
use Rattle.nk_base.specs.declared.status.Target.TheVariants as target
use Rattle.nk_base.specs.declared.message.MainMsg.{MainMsg}
use Rattle.nk_base.specs.declared.message.MainMsg.TheVariants as main
use Rattle.nk_base.specs.declared.message.BackMsg.{BackMsg}
use Rattle.nk_base.specs.declared.message.BackMsg.TheVariants as back
use Rattle.nk_base.specs.declared.message.UpMsg.TheVariants as up
use Rattle.nk_base.specs.Queue.{Event, Over, Ended}
use Rattle.nk_plan.specs.declared.plan.ChannelPlan.{ChannelPlan}
use Rattle.nk_plan.specs.declared.plan.StartLane.{StartLane}
use Rattle.nk_plan.specs.declared.plan.StartLane.TheVariants as lane
use Rattle.nk_plan.specs.declared.plan.Control.{Control}
use Rattle.nk_plan.specs.declared.event.ChildEvent.{ChildEvent}
use Rattle.nk_plan.specs.declared.journal.ChildEntry.TheVariants as child
use Rattle.nk_plan.specs.declared.step.ChildStep.{ChildStep}
use Rattle.nk_plan.specs.declared.step.ChildStep.TheVariants as step
use Rattle.nk_plan.specs.Journal.{mains_taken, backs_taken}
use Rattle.nk_plan.specs.Child.{ChildState, with_entry, offer_all, perform_call, perform_control, step_act, verdict_status, step_verdict, note_main, main_events_of, step_main, back_events_of, back_events, keep_back, is_among, back_hop, hold_back, step_back, of_hop, not_of_hop, released_hold, step_release, flush_with, step_begin, child_step}
use Rattle.nk_half_laws.specs.Capacity.{until, calls_left, event_ups, event_shown, question_ups}
use Rattle.nk_half_laws.proofs.Tools.{keeps_if, before_end, one_more}
use Rattle.nk_half_laws.proofs.Journals.{length-mains_taken, length-backs_taken}
use Rattle.nk_half_laws.proofs.RoomKept.{GoodEvents, Holds, less, still, moved}
use Rattle.nk_half_laws.proofs.RoomEvents.{event_run, events_offered}
use Rattle.nk_half_laws.proofs.RoomCalls.{act_ups, act_most, called}
use Rattle.nk_half_laws.proofs.Plans.{GoodPlan}
use Rattle.nk_half_laws.proofs.RoomReturns.{returned}
use Rattle.nk_half_laws.specs.Sums.{sum_of}
use Rattle.nk_half_laws.proofs.Sums.{split_length}
use Rattle.nk_half_laws.proofs.Table.{act_if, flush_if, with_complete, begin_if}

-- The opening, and the page's next call

call_taken : (c : ChannelPlan) (k : ℕ) → k < length c.controls → calls_left c (suc k) + 2 ≤ calls_left c k
call_taken c k l = omega arith

control_done : (c : ChannelPlan) (m n : ℕ) (s : ChildState) (o : Option Control) → GoodPlan c → slice_get c.controls s.next ≡ o
    → Holds c 0 0 m n s → Holds c 0 0 m n (perform_control c o s)
control_done c m n s None f e h = h
control_done c m n s (Some control) f e h =
    let s1 : ChildState = record s { next = suc s.next } in
    let l : s.next < length c.controls = before_end c.controls s.next control e in
    let t : calls_left c (suc s.next) + 2 ≤ calls_left c s.next = call_taken c s.next l in
    let x : act_ups control.act ≤ 2 = act_most control.act in
    keeps_if (Holds c 0 0 m n) (nat_le control.after s.finished) (perform_call c control.act s1) s
    (λ r. called c 0 0 m n s1 control.act (f.controls s.next control e)
    (still c 0 0 (act_ups control.act + 0) 0 m n s s1 refl (omega arith) (omega arith) h.good h))
    (λ r. h)

opened : (c : ChannelPlan) (m n : ℕ) (s : ChildState) → s.opened ≡ false → Holds c 0 0 m n s
    → Holds c 0 0 m n (record s { opened = true; sent = s.sent ++ up.Open ∷ []; journal = s.journal ++ child.Open ∷ [] })
opened c m n s e h =
    let x : length (s.sent ++ up.Open ∷ []) ≡ length s.sent + 1 = one_more s.sent up.Open in
    let y : until s.opened ≡ 1 = ap until e in
    moved c 0 0 0 0 m n s (record s { opened = true; sent = s.sent ++ up.Open ∷ []; journal = s.journal ++ child.Open ∷ [] }) child.Open
    refl (omega arith) (omega arith) h.good h

acted : (c : ChannelPlan) (m n : ℕ) (s : ChildState) → GoodPlan c → Holds c 0 0 m n s → Holds c 0 0 m n (step_act c s)
acted c m n s f h =
    act_if (Holds c 0 0 m n) c s h (control_done c m n s (slice_get c.controls s.next) f refl h) (λ q. opened c m n s q h)

-- The verdict

answered : (c : ChannelPlan) (m n : ℕ) (s : ChildState) (o : Option ℕ) → s.question ≡ o → Holds c 0 0 m n s
    → Holds c 0 0 m n (step_verdict c o s)
answered c m n s None q h = h
answered c m n s (Some i) q h =
    let x : length (s.sent ++ up.Verify i (verdict_status c s.kept i) ∷ []) ≡ length s.sent + 1 =
    one_more s.sent (up.Verify i (verdict_status c s.kept i)) in
    let y : question_ups s.question ≡ 1 = ap question_ups q in
    moved c 0 0 0 0 m n s (step_verdict c (Some i) s) (child.Verdict i (verdict_status c s.kept i)) refl (omega arith)
    (omega arith) h.good h

-- Messages of the main lane

took_main : (c : ChannelPlan) (m n : ℕ) (s : ChildState) (x : MainMsg) → Holds c 0 0 m n s
    → Holds c 1 2 (m + 1) n (with_entry (child.TookMain x) s)
took_main c m n s x h =
    let a : length (mains_taken (s.journal ++ child.TookMain x ∷ [])) ≡ length (mains_taken s.journal) + 1 =
    length-mains_taken s.journal (child.TookMain x ∷ []) in
    let b : length (backs_taken (s.journal ++ child.TookMain x ∷ [])) ≡ length (backs_taken s.journal) + 0 =
    length-backs_taken s.journal (child.TookMain x ∷ []) in
    record { ups = omega arith; shown = omega arith; mains = omega arith; backs = omega arith; good = h.good }

main_noted : (c : ChannelPlan) (u v m n : ℕ) (l : StartLane) (x : MainMsg) (s : ChildState) → Holds c u v m n s
    → Holds c u v m n (note_main l x s)
main_noted c u v m n l (main.Start i st head) s h = h
main_noted c u v m n l (main.FailedOpen i st) s h = h
main_noted c u v m n l (main.Redirect1 i code) s h = h
main_noted c u v m n lane.Main (main.Redirect3 i) s h = h
main_noted c u v m n lane.Back (main.Redirect3 i) s h = h

-- what the events of a message take
record Few (a b : ℕ) (es : List ChildEvent) : Type 0 where
  ups : sum_of event_ups es ≤ a
  shown : sum_of event_shown es ≤ b
  good : GoodEvents es

few_offered : (c : ChannelPlan) (a b m n : ℕ) (s : ChildState) (here : Target) (es : List ChildEvent) → Few a b es → Holds c a b m n s
    → Holds c 0 0 m n (offer_all c here es s)
few_offered c a b m n s here es f h =
    events_offered c 0 0 m n s here es f.good (less c a b (sum_of event_ups es + 0) (sum_of event_shown es + 0) m n s
    (omega (arith, f.ups)) (omega (arith, f.shown)) h)

main_few : (x : MainMsg) → Few 1 2 (main_events_of x)
main_few (main.Start i st head) = record { ups = omega arith; shown = omega arith; good = (tt, tt) }
main_few (main.FailedOpen i st) = record { ups = omega arith; shown = omega arith; good = (tt, (tt, tt)) }
main_few (main.Redirect1 i code) = record { ups = omega arith; shown = omega arith; good = (tt, tt) }
main_few (main.Redirect3 i) = record { ups = omega arith; shown = omega arith; good = (tt, tt) }

main_taken : (c : ChannelPlan) (m n : ℕ) (s : ChildState) (x : MainMsg) → Holds c 1 2 m n s → Holds c 0 0 m n (step_main c x s)
main_taken c m n s x h =
    main_noted c 0 0 m n c.start x (offer_all c target.Main (main_events_of x) s)
    (few_offered c 1 2 m n s target.Main (main_events_of x) (main_few x) h)

-- Messages of the background lane

took_back : (c : ChannelPlan) (m n : ℕ) (s : ChildState) (x : BackMsg) → Holds c 0 0 m n s
    → Holds c 1 1 m (n + 1) (with_entry (child.TookBack x) s)
took_back c m n s x h =
    let a : length (mains_taken (s.journal ++ child.TookBack x ∷ [])) ≡ length (mains_taken s.journal) + 0 =
    length-mains_taken s.journal (child.TookBack x ∷ []) in
    let b : length (backs_taken (s.journal ++ child.TookBack x ∷ [])) ≡ length (backs_taken s.journal) + 1 =
    length-backs_taken s.journal (child.TookBack x ∷ []) in
    record { ups = omega arith; shown = omega arith; mains = omega arith; backs = omega arith; good = h.good }

back_few : (x : BackMsg) → Few 1 1 (back_events_of x)
back_few (back.StartSent i) = record { ups = omega arith; shown = omega arith; good = tt }
back_few (back.Start i st head) = record { ups = omega arith; shown = omega arith; good = (tt, tt) }
back_few (back.Bytes i st o p) = record { ups = omega arith; shown = omega arith; good = (tt, tt) }
back_few (back.Stop i st trailers) = record { ups = omega arith; shown = omega arith; good = (tt, tt) }

back_kept : (c : ChannelPlan) (m n : ℕ) (s : ChildState) (x : BackMsg) → Holds c 1 1 m n s → Holds c 0 0 m n (keep_back x s)
back_kept c m n s x h =
    let y : length (s.hold.kept ++ x ∷ []) ≡ length s.hold.kept + 1 = one_more s.hold.kept x in
    still c 1 1 0 0 m n s (keep_back x s) refl (omega arith) (omega arith) h.good h

back_held : (c : ChannelPlan) (m n : ℕ) (s : ChildState) (x : BackMsg) → Holds c 1 1 m n s → Holds c 0 0 m n (hold_back c x s)
back_held c m n s x h =
    keeps_if (Holds c 0 0 m n) (is_among s.hold.released (back_hop x)) (offer_all c target.Back (back_events_of x) s) (keep_back x s)
    (λ r. few_offered c 1 1 m n s target.Back (back_events_of x) (back_few x) h) (λ r. back_kept c m n s x h)

back_taken : (c : ChannelPlan) (m n : ℕ) (s : ChildState) (x : BackMsg) → Holds c 1 1 m n s → Holds c 0 0 m n (step_back c x s)
back_taken c m n s (back.StartSent i) h = less c 1 1 0 0 m n s (omega arith) (omega arith) h
back_taken c m n s (back.Start i st head) h = back_held c m n s (back.Start i st head) h
back_taken c m n s (back.Bytes i st o p) h = back_held c m n s (back.Bytes i st o p) h
back_taken c m n s (back.Stop i st trailers) h = back_held c m n s (back.Stop i st trailers) h

-- The release

few_events : (xs : List BackMsg) → Few (length xs) (length xs) (back_events xs)
few_events [] = record { ups = omega arith; shown = omega arith; good = tt }
few_events (back.StartSent i ∷ xs) =
    let f : Few (length xs) (length xs) (back_events xs) = few_events xs in
    record { ups = omega (arith, f.ups); shown = omega (arith, f.shown); good = f.good }
few_events (back.Start i st head ∷ xs) =
    let f : Few (length xs) (length xs) (back_events xs) = few_events xs in
    record { ups = omega (arith, f.ups); shown = omega (arith, f.shown); good = (tt, f.good) }
few_events (back.Bytes i st o p ∷ xs) =
    let f : Few (length xs) (length xs) (back_events xs) = few_events xs in
    record { ups = omega (arith, f.ups); shown = omega (arith, f.shown); good = (tt, f.good) }
few_events (back.Stop i st trailers ∷ xs) =
    let f : Few (length xs) (length xs) (back_events xs) = few_events xs in
    record { ups = omega (arith, f.ups); shown = omega (arith, f.shown); good = (tt, f.good) }

released : (c : ChannelPlan) (m n : ℕ) (s : ChildState) (o : Option ℕ) → Holds c 0 0 m n s → Holds c 0 0 m n (step_release c o s)
released c m n s None h = h
released c m n s (Some i) h =
    let xs : List BackMsg = of_hop i s.hold.kept in
    let s1 : ChildState = record s { hold = released_hold i s.hold; journal = s.journal ++ child.Release (length xs) ∷ [] } in
    let y : length (of_hop i s.hold.kept) + length (not_of_hop i s.hold.kept) ≡ length s.hold.kept = split_length i s.hold.kept in
    few_offered c (length xs) (length xs) m n s1 target.Back (back_events xs) (few_events xs)
    (moved c 0 0 (length xs) (length xs) m n s s1 (child.Release (length xs)) refl (omega arith) (omega arith) h.good h)

-- A target's turn

event_taken : (c : ChannelPlan) (m n : ℕ) (s : ChildState) (t : Target) (e : ChildEvent) (rest : List ChildEvent)
    → s.queue.waiting ≡ e ∷ rest
    → Holds c 0 0 m n s → Holds c 0 0 m n (flush_with c t (Event e rest) s)
event_taken c m n s t e rest w h =
    let s1 : ChildState = record s { queue = record s.queue { waiting = rest } } in
    let x : sum_of event_ups s.queue.waiting ≡ event_ups e + sum_of event_ups rest = ap (sum_of event_ups) w in
    let y : sum_of event_shown s.queue.waiting ≡ event_shown e + sum_of event_shown rest = ap (sum_of event_shown) w in
    let g : GoodEvents (e ∷ rest) = subst GoodEvents w h.good in
    event_run c 0 0 m n s1 t e g.0 (still c 0 0 (event_ups e + 0) (event_shown e + 0) m n s s1 refl (omega arith) (omega arith) g.1 h)

flush_over : (c : ChannelPlan) (m n : ℕ) (s : ChildState) (t u : Target) → Holds c 0 0 m n s → Holds c 0 0 m n (flush_with c t (Over u) s)
flush_over c m n s t u h = moved c 0 0 0 0 m n s (flush_with c t (Over u) s) (child.HandOver t u) refl (omega arith) (omega arith) h.good h

flush_done : (c : ChannelPlan) (m n : ℕ) (s : ChildState) (t : Target) → Holds c 0 0 m n s → Holds c 0 0 m n (flush_with c t Ended s)
flush_done c m n s t h = moved c 0 0 0 0 m n s (flush_with c t Ended s) (child.Ended t) refl (omega arith) (omega arith) h.good h

begun : (c : ChannelPlan) (m n : ℕ) (s : ChildState) (t : Target) → Holds c 0 0 m n s → Holds c 0 0 m n (step_begin c t s)
begun c m n s t h =
    begin_if (Holds c 0 0 m n) c t s h
    (flush_if (Holds c 0 0 m n) c t s (flush_done c m n s t h) (λ e rest q. event_taken c m n s t e rest q h)
    (λ u. flush_over c m n s t u h))
    (moved c 0 0 0 0 m n s (with_complete t s) (child.Complete t) refl (omega arith) (omega arith) h.good h)

-- All steps

-- for as many messages as were taken
abbrev pub Kept : ChannelPlan → ChildState → Type 0
Kept c s = (m : ℕ) × (n : ℕ) × Holds c 0 0 m n s

pub step_kept : (c : ChannelPlan) (x : ChildStep) (s : ChildState) → GoodPlan c → Kept c s → Kept c (child_step c x s)
step_kept c step.Act s f k = (k.0, k.1, acted c k.0 k.1 s f k.2)
step_kept c step.Verdict s f k =
    keeps_if (Kept c) s.broken s (step_verdict c s.question s) (λ r. k) (λ r. (k.0, k.1, answered c k.0 k.1 s s.question refl k.2))
step_kept c (step.Main x) s f k =
    let s1 : ChildState = with_entry (child.TookMain x) s in
    keeps_if (Kept c) s.broken s (step_main c x s1) (λ r. k)
    (λ r. (k.0 + 1, k.1, main_taken c (k.0 + 1) k.1 s1 x (took_main c k.0 k.1 s x k.2)))
step_kept c (step.Back x) s f k =
    let s1 : ChildState = with_entry (child.TookBack x) s in
    keeps_if (Kept c) s.broken s (step_back c x s1) (λ r. k)
    (λ r. (k.0, k.1 + 1, back_taken c k.0 (k.1 + 1) s1 x (took_back c k.0 k.1 s x k.2)))
step_kept c step.Release s f k =
    keeps_if (Kept c) s.broken s (step_release c s.hold.report s) (λ r. k) (λ r. (k.0, k.1, released c k.0 k.1 s s.hold.report k.2))
step_kept c (step.Begin t) s f k = (k.0, k.1, begun c k.0 k.1 s t k.2)
step_kept c (step.Finish t) s f k = (k.0, k.1, returned c k.0 k.1 s t s.running f.reactions refl k.2)
