-- Each step of a child keeps what is said of its data.
use Rattle.std.proofs.Common.{ℕ, suc, ◌≡◌, ◌+◌, refl, ap, List, [], ◌∷◌, ◌++◌, length, Option, Some, None, nat_le, slice_get, arith}
use Rattle.nk_base.specs.declared.status.Target.{Target}
use Rattle.nk_base.specs.declared.status.Target.TheVariants as target
use Rattle.nk_base.specs.declared.message.MainMsg.{MainMsg}
use Rattle.nk_base.specs.declared.message.MainMsg.TheVariants as main
use Rattle.nk_base.specs.declared.message.BackMsg.{BackMsg}
use Rattle.nk_base.specs.declared.message.BackMsg.TheVariants as back
use Rattle.nk_base.specs.Queue.{Event, Over, Ended}
use Rattle.nk_plan.specs.declared.plan.ChannelPlan.{ChannelPlan}
use Rattle.nk_plan.specs.declared.plan.StartLane.{StartLane}
use Rattle.nk_plan.specs.declared.plan.StartLane.TheVariants as lane
use Rattle.nk_plan.specs.declared.plan.Control.{Control}
use Rattle.nk_plan.specs.declared.event.ChildEvent.{ChildEvent}
use Rattle.nk_plan.specs.declared.journal.ChildEntry.TheVariants as child
use Rattle.nk_plan.specs.declared.step.ChildStep.{ChildStep}
use Rattle.nk_plan.specs.declared.step.ChildStep.TheVariants as step
use Rattle.nk_plan.specs.Child.{ChildState, with_entry, offer_all, perform_call, perform_control, step_act, verdict_status, step_verdict, note_main, main_events_of, step_main, back_events_of, back_events, keep_back, is_among, back_hop, hold_back, step_back, of_hop, not_of_hop, released_hold, step_release, flush_with, step_begin, child_step}
use Rattle.nk_half_laws.specs.Pieces.{event_weight, message_weight, data_left}
use Rattle.nk_half_laws.proofs.Tools.{keeps_if}
use Rattle.nk_half_laws.proofs.Sums.{sum_of-append, sum_of-more, split_sum}
use Rattle.nk_half_laws.proofs.PiecesKept.{Holds, still, noted}
use Rattle.nk_half_laws.proofs.PieceEvents.{event_run, events_offered}
use Rattle.nk_half_laws.proofs.PieceCalls.{called, returned}
use Rattle.nk_half_laws.specs.Sums.{sum_of}
use Rattle.nk_half_laws.proofs.Table.{act_if, flush_if, begin_if}

-- The opening, and the page's next call

control_done : (w : ℕ → List ℕ → ℕ) (d : ℕ → ℕ) (c : ChannelPlan) (s : ChildState) (o : Option Control) → Holds w d 0 s
    → Holds w d 0 (perform_control c o s)
control_done w d c s None h = h
control_done w d c s (Some control) h =
    keeps_if (Holds w d 0) (nat_le control.after s.finished) (perform_call c control.act (record s { next = suc s.next })) s
    (λ r. called w d c 0 (record s { next = suc s.next }) control.act h) (λ r. h)

acted : (w : ℕ → List ℕ → ℕ) (d : ℕ → ℕ) (c : ChannelPlan) (s : ChildState) → Holds w d 0 s → Holds w d 0 (step_act c s)
acted w d c s h =
    act_if (Holds w d 0) c s h (control_done w d c s (slice_get c.controls s.next) h)
    (λ q. noted h child.Open 0 (data_left w s) tt (omega arith))

-- The verdict

answered : (w : ℕ → List ℕ → ℕ) (d : ℕ → ℕ) (c : ChannelPlan) (s : ChildState) (o : Option ℕ) → Holds w d 0 s
    → Holds w d 0 (step_verdict c o s)
answered w d c s None h = h
answered w d c s (Some i) h = noted h (child.Verdict i (verdict_status c s.kept i)) 0 (data_left w s) tt (omega arith)

-- Messages of the main lane

main_noted : (w : ℕ → List ℕ → ℕ) (d : ℕ → ℕ) (l : StartLane) (x : MainMsg) (s : ChildState) → Holds w d 0 s → Holds w d 0 (note_main l x s)
main_noted w d l (main.Start i st head) s h = h
main_noted w d l (main.FailedOpen i st) s h = h
main_noted w d l (main.Redirect1 i code) s h = h
main_noted w d lane.Main (main.Redirect3 i) s h = h
main_noted w d lane.Back (main.Redirect3 i) s h = h

no_data : (w : ℕ → List ℕ → ℕ) (x : MainMsg) → sum_of (event_weight w) (main_events_of x) ≡ 0
no_data w (main.Start i st head) = omega arith
no_data w (main.FailedOpen i st) = omega arith
no_data w (main.Redirect1 i code) = omega arith
no_data w (main.Redirect3 i) = omega arith

main_taken : (w : ℕ → List ℕ → ℕ) (d : ℕ → ℕ) (c : ChannelPlan) (s : ChildState) (x : MainMsg) → Holds w d 0 s
    → Holds w d 0 (step_main c x (with_entry (child.TookMain x) s))
main_taken w d c s x h =
    let s1 : ChildState = with_entry (child.TookMain x) s in
    let n : sum_of (event_weight w) (main_events_of x) ≡ 0 = no_data w x in
    main_noted w d c.start x (offer_all c target.Main (main_events_of x) s1)
    (events_offered w d c 0 s1 target.Main (main_events_of x)
    (noted h (child.TookMain x) (sum_of (event_weight w) (main_events_of x) + 0) (data_left w s) tt (omega arith)))

-- Messages of the background lane

back_data : (w : ℕ → List ℕ → ℕ) (x : BackMsg) → sum_of (event_weight w) (back_events_of x) ≡ message_weight w x
back_data w (back.StartSent i) = omega arith
back_data w (back.Start i st head) = omega arith
back_data w (back.Bytes i st o p) = omega arith
back_data w (back.Stop i st trailers) = omega arith

back_held : (w : ℕ → List ℕ → ℕ) (d : ℕ → ℕ) (c : ChannelPlan) (s : ChildState) (x : BackMsg) → Holds w d (message_weight w x) s
    → Holds w d 0 (hold_back c x s)
back_held w d c s x h =
    let n : sum_of (event_weight w) (back_events_of x) ≡ message_weight w x = back_data w x in
    let y : sum_of (message_weight w) (s.hold.kept ++ x ∷ []) ≡ sum_of (message_weight w) s.hold.kept + message_weight w x =
    sum_of-more (message_weight w) s.hold.kept x in
    keeps_if (Holds w d 0) (is_among s.hold.released (back_hop x)) (offer_all c target.Back (back_events_of x) s) (keep_back x s)
    (λ r. events_offered w d c 0 s target.Back (back_events_of x)
    (still h (sum_of (event_weight w) (back_events_of x) + 0) (data_left w s) (omega arith)))
    (λ r. still h 0 (data_left w (keep_back x s)) (omega arith))

back_taken : (w : ℕ → List ℕ → ℕ) (d : ℕ → ℕ) (c : ChannelPlan) (s : ChildState) (x : BackMsg) → Holds w d (message_weight w x) s
    → Holds w d 0 (step_back c x s)
back_taken w d c s (back.StartSent i) h = h
back_taken w d c s (back.Start i st head) h = back_held w d c s (back.Start i st head) h
back_taken w d c s (back.Bytes i st o p) h = back_held w d c s (back.Bytes i st o p) h
back_taken w d c s (back.Stop i st trailers) h = back_held w d c s (back.Stop i st trailers) h

-- The release

all_back_data : (w : ℕ → List ℕ → ℕ) (xs : List BackMsg) → sum_of (event_weight w) (back_events xs) ≡ sum_of (message_weight w) xs
all_back_data w [] = refl
all_back_data w (x ∷ xs) =
    let h : sum_of (event_weight w) (back_events xs) ≡ sum_of (message_weight w) xs = all_back_data w xs in
    let n : sum_of (event_weight w) (back_events_of x) ≡ message_weight w x = back_data w x in
    let b : sum_of (event_weight w) (back_events_of x ++ back_events xs)
    ≡ sum_of (event_weight w) (back_events_of x) + sum_of (event_weight w) (back_events xs) =
    sum_of-append (event_weight w) (back_events_of x) (back_events xs) in
    omega arith

released : (w : ℕ → List ℕ → ℕ) (d : ℕ → ℕ) (c : ChannelPlan) (s : ChildState) (o : Option ℕ) → Holds w d 0 s
    → Holds w d 0 (step_release c o s)
released w d c s None h = h
released w d c s (Some i) h =
    let xs : List BackMsg = of_hop i s.hold.kept in
    let s1 : ChildState = record s { hold = released_hold i s.hold; journal = s.journal ++ child.Release (length xs) ∷ [] } in
    let y : sum_of (message_weight w) (of_hop i s.hold.kept) + sum_of (message_weight w) (not_of_hop i s.hold.kept)
    ≡ sum_of (message_weight w) s.hold.kept = split_sum (message_weight w) i s.hold.kept in
    let z : sum_of (event_weight w) (back_events (of_hop i s.hold.kept)) ≡ sum_of (message_weight w) (of_hop i s.hold.kept) =
    all_back_data w (of_hop i s.hold.kept) in
    events_offered w d c 0 s1 target.Back (back_events xs)
    (noted h (child.Release (length xs)) (sum_of (event_weight w) (back_events xs) + 0) (data_left w s1) tt (omega arith))

-- A target's turn

event_taken : (w : ℕ → List ℕ → ℕ) (d : ℕ → ℕ) (c : ChannelPlan) (s : ChildState) (t : Target) (e : ChildEvent) (rest : List ChildEvent)
    → s.queue.waiting ≡ e ∷ rest
    → Holds w d 0 s → Holds w d 0 (flush_with c t (Event e rest) s)
event_taken w d c s t e rest q h =
    let s1 : ChildState = record s { queue = record s.queue { waiting = rest } } in
    let x : sum_of (event_weight w) s.queue.waiting ≡ event_weight w e + sum_of (event_weight w) rest = ap (sum_of (event_weight w)) q in
    event_run w d c 0 s1 t e (still h (event_weight w e + 0) (data_left w s1) (omega arith))

flush_over : (w : ℕ → List ℕ → ℕ) (d : ℕ → ℕ) (c : ChannelPlan) (s : ChildState) (t u : Target) → Holds w d 0 s
    → Holds w d 0 (flush_with c t (Over u) s)
flush_over w d c s t u h = noted h (child.HandOver t u) 0 (data_left w s) tt (omega arith)

flush_done : (w : ℕ → List ℕ → ℕ) (d : ℕ → ℕ) (c : ChannelPlan) (s : ChildState) (t : Target) → Holds w d 0 s
    → Holds w d 0 (flush_with c t Ended s)
flush_done w d c s t h = noted h (child.Ended t) 0 (data_left w s) tt (omega arith)

begun : (w : ℕ → List ℕ → ℕ) (d : ℕ → ℕ) (c : ChannelPlan) (s : ChildState) (t : Target) → Holds w d 0 s → Holds w d 0 (step_begin c t s)
begun w d c s t h =
    begin_if (Holds w d 0) c t s h
    (flush_if (Holds w d 0) c t s (flush_done w d c s t h) (λ e rest q. event_taken w d c s t e rest q h) (λ u. flush_over w d c s t u h))
    (noted h (child.Complete t) 0 (data_left w s) tt (omega arith))

-- All steps

pub step_kept : (w : ℕ → List ℕ → ℕ) (d : ℕ → ℕ) (c : ChannelPlan) (x : ChildStep) (s : ChildState) → Holds w d 0 s
    → Holds w d 0 (child_step c x s)
step_kept w d c step.Act s h = acted w d c s h
step_kept w d c step.Verdict s h =
    keeps_if (Holds w d 0) s.broken s (step_verdict c s.question s) (λ r. h) (λ r. answered w d c s s.question h)
step_kept w d c (step.Main x) s h =
    keeps_if (Holds w d 0) s.broken s (step_main c x (with_entry (child.TookMain x) s)) (λ r. h) (λ r. main_taken w d c s x h)
step_kept w d c (step.Back x) s h =
    keeps_if (Holds w d 0) s.broken s (step_back c x (with_entry (child.TookBack x) s)) (λ r. h)
    (λ r. back_taken w d c (with_entry (child.TookBack x) s) x
    (noted h (child.TookBack x) (message_weight w x) (data_left w s) tt (omega arith)))
step_kept w d c step.Release s h =
    keeps_if (Holds w d 0) s.broken s (step_release c s.hold.report s) (λ r. h) (λ r. released w d c s s.hold.report h)
step_kept w d c (step.Begin t) s h = begun w d c s t h
step_kept w d c (step.Finish t) s h = returned w d c 0 s t s.running h
