-- How many data callbacks may have begun: at most as many as a child's journal has entries.
use Rattle.std.proofs.Common.{ℕ, suc, ◌≤◌, List, [], ◌∷◌, ◌++◌, length, true, ◌||◌, Option, Some, None, is_some, if◌then◌else◌, nat_lt, nat_le, slice_get, slice_index, ◌==◌, arith, length-append}
use Rattle.std.proofs.lemmas.Bool.{cond_both}
use Rattle.nk_base.specs.declared.status.Status.{Status}
use Rattle.nk_base.specs.declared.status.Target.{Target}
use Rattle.nk_base.specs.declared.status.Target.TheVariants as target
use Rattle.nk_base.specs.declared.status.RetargetError.{RetargetError}
use Rattle.nk_base.specs.declared.message.MainMsg.{MainMsg}
use Rattle.nk_base.specs.declared.message.MainMsg.TheVariants as main
use Rattle.nk_base.specs.declared.message.BackMsg.{BackMsg}
use Rattle.nk_base.specs.declared.message.BackMsg.TheVariants as back
use Rattle.nk_base.specs.declared.message.UpMsg.TheVariants as up
use Rattle.nk_base.specs.Queue.{Taken, Event, Over, Ended, same_target, is_target, target_number, runs_now, running_now, cleared, completed, taken}
use Rattle.nk_plan.specs.declared.plan.ChannelPlan.{ChannelPlan}
use Rattle.nk_plan.specs.declared.plan.StartLane.{StartLane}
use Rattle.nk_plan.specs.declared.plan.StartLane.TheVariants as lane
use Rattle.nk_plan.specs.declared.plan.Reaction.{Reaction}
use Rattle.nk_plan.specs.declared.plan.Reaction.TheVariants as reaction
use Rattle.nk_plan.specs.declared.plan.Act.{Act}
use Rattle.nk_plan.specs.declared.plan.Act.TheVariants as act
use Rattle.nk_plan.specs.declared.plan.Control.{Control}
use Rattle.nk_plan.specs.declared.event.ChildEvent.{ChildEvent}
use Rattle.nk_plan.specs.declared.event.ChildEvent.TheVariants.{Start, Bytes, Stop, Redirect1, Redirect3, Cancel}
use Rattle.nk_plan.specs.declared.journal.ChildEntry.{ChildEntry}
use Rattle.nk_plan.specs.declared.journal.ChildEntry.TheVariants as child
use Rattle.nk_plan.specs.declared.step.ChildStep.{ChildStep}
use Rattle.nk_plan.specs.declared.step.ChildStep.TheVariants as step
use Rattle.nk_plan.specs.Event.{class_of}
use Rattle.nk_base.specs.Status.{merged}
use Rattle.nk_plan.specs.Child.{ChildState, run_bytes, run_event, offer_event, offer_all, with_entry, call_suspend, call_resume, call_cancel, refusal, call_retarget, is_empty, call_break, perform_call, perform_control, step_act, step_verdict, note_main, main_events_of, step_main, back_hop, back_events_of, back_events, is_among, hold_back, step_back, of_hop, released_hold, step_release, flush_with, runs_on, step_begin, react, react_all, bytes_failure, prepend_cancel, fail_data, finish_event, step_finish, child_step, child_after}

abbrev pub Begun : ChildState → Type 0
Begun s = s.data_begun ≤ length s.journal

-- one entry more
entered : (n : ℕ) (j : List ChildEntry) (e : ChildEntry) → n ≤ length j → n ≤ length (j ++ e ∷ [])
entered n j e h = let l = length-append j (e ∷ []) in omega arith

entered_begun : (n : ℕ) (j : List ChildEntry) (e : ChildEntry) → n ≤ length j → suc n ≤ length (j ++ e ∷ [])
entered_begun n j e h = let l = length-append j (e ∷ []) in omega arith

with_one : (e : ChildEntry) (s : ChildState) → Begun s → s.data_begun ≤ length (s.journal ++ e ∷ [])
with_one e s h = entered s.data_begun s.journal e h

-- Running an event

bytes_begun : (s : ChildState) (t : Target) (at : ℕ) (p : List ℕ) (k : Option Status) (st : Status) → Begun s → Begun (run_bytes s t at p k st)
bytes_begun s t at p None st h = entered_begun s.data_begun s.journal (child.RunBytes t at (length p)) h
bytes_begun s t at p (Some q) st h = with_one (child.RunDrop t at q) s h

run_begun : (c : ChannelPlan) (t : Target) (e : ChildEvent) (s : ChildState) → Begun s → Begun (run_event c t e s)
run_begun c t (Start code st) s h = with_one _ s h
run_begun c t (Bytes at p st) s h = bytes_begun s t at p (merged s.kept st) st h
run_begun c t (Stop st) s h = with_one _ s h
run_begun c t (Redirect1 i) s h = with_one _ s h
run_begun c t (Redirect3 i) s h = with_one _ s h
run_begun c t (Cancel st) s h = with_one _ s h

offered_begun : (c : ChannelPlan) (here : Target) (e : ChildEvent) (s : ChildState) → Begun s → Begun (offer_event c here e s)
offered_begun c here e s h =
    cond_both (runs_now class_of s.queue e here) (run_event c here e (record s { queue = running_now s.queue here })) _ Begun
    (λ r. run_begun c here e (record s { queue = running_now s.queue here }) h) (λ r. h)

offered_all_begun : (c : ChannelPlan) (here : Target) (es : List ChildEvent) (s : ChildState) → Begun s → Begun (offer_all c here es s)
offered_all_begun c here [] s h = h
offered_all_begun c here (e ∷ es) s h = offered_all_begun c here es (offer_event c here e s) (offered_begun c here e s h)

-- The calls of the page

retarget_begun : (o : Option RetargetError) (n : ℕ) (s : ChildState) → Begun s → Begun (call_retarget o n s)
retarget_begun (Some e) n s h = with_one (child.NoRetarget e) s h
retarget_begun None n s h = with_one (child.Retarget n) s h

break_begun : (c : ChannelPlan) (st : Status) (s : ChildState) → Begun s → Begun (call_break c st s)
break_begun c st s h =
    offered_all_begun c target.Main (if is_empty s.trace then Start 0 st ∷ Stop st ∷ [] else Stop st ∷ [])
    (record s { broken = true; kept = merged s.kept st; queue = cleared s.queue; journal = s.journal ++ child.Break st ∷ [] })
    (with_one (child.Break st) s h)

performed_begun : (c : ChannelPlan) (x : Act) (s : ChildState) → Begun s → Begun (perform_call c x s)
performed_begun c act.Suspend s h = cond_both s.stopped (with_entry child.NoEffect s) (call_suspend s) Begun (λ r. with_one child.NoEffect s h) (λ r. with_one child.Suspend s h)
performed_begun c act.Resume s h = cond_both (s.stopped || (s.suspends == 0)) (with_entry child.NoEffect s) (call_resume s) Begun (λ r. with_one child.NoEffect s h) (λ r. with_one child.Resume s h)
performed_begun c (act.Cancel st) s h = cond_both (s.stopped || is_some s.kept) (with_entry child.NoEffect s) (call_cancel st s) Begun (λ r. with_one child.NoEffect s h) (λ r. with_one (child.Cancel st) s h)
performed_begun c (act.Retarget n) s h = retarget_begun (refusal c s) n s h
performed_begun c (act.Break st) s h = cond_both (s.stopped || s.broken) (with_entry child.NoEffect s) (call_break c st s) Begun (λ r. with_one child.NoEffect s h) (λ r. break_begun c st s h)

-- The steps

control_begun : (c : ChannelPlan) (o : Option Control) (s : ChildState) → Begun s → Begun (perform_control c o s)
control_begun c None s h = h
control_begun c (Some control) s h =
    cond_both (nat_le control.after s.finished) (perform_call c control.act (record s { next = suc s.next })) s Begun
    (λ r. performed_begun c control.act (record s { next = suc s.next }) h) (λ r. h)

act_begun : (c : ChannelPlan) (s : ChildState) → Begun s → Begun (step_act c s)
act_begun c s h =
    cond_both c.closed s _ Begun (λ r. h)
    (λ r. cond_both s.opened (perform_control c (slice_get c.controls s.next) s) _ Begun (λ q. control_begun c (slice_get c.controls s.next) s h) (λ q. with_one child.Open s h))

verdict_begun : (c : ChannelPlan) (o : Option ℕ) (s : ChildState) → Begun s → Begun (step_verdict c o s)
verdict_begun c None s h = h
verdict_begun c (Some i) s h = with_one _ s h

reported_begun : (l : StartLane) (m : MainMsg) (s : ChildState) → Begun s → Begun (note_main l m s)
reported_begun l (main.Start i st head) s h = h
reported_begun l (main.FailedOpen i st) s h = h
reported_begun l (main.Redirect1 i code) s h = h
reported_begun lane.Main (main.Redirect3 i) s h = h
reported_begun lane.Back (main.Redirect3 i) s h = h

main_begun : (c : ChannelPlan) (m : MainMsg) (s : ChildState) → Begun s → Begun (step_main c m s)
main_begun c m s h = reported_begun c.start m (offer_all c target.Main (main_events_of m) s) (offered_all_begun c target.Main (main_events_of m) s h)

passed_begun : (c : ChannelPlan) (m : BackMsg) (s : ChildState) → Begun s → Begun (hold_back c m s)
passed_begun c m s h = cond_both (is_among s.hold.released (back_hop m)) (offer_all c target.Back (back_events_of m) s) _ Begun (λ r. offered_all_begun c target.Back (back_events_of m) s h) (λ r. h)

back_begun : (c : ChannelPlan) (m : BackMsg) (s : ChildState) → Begun s → Begun (step_back c m s)
back_begun c (back.StartSent i) s h = h
back_begun c (back.Start i st head) s h = passed_begun c (back.Start i st head) s h
back_begun c (back.Bytes i st o p) s h = passed_begun c (back.Bytes i st o p) s h
back_begun c (back.Stop i st trailers) s h = passed_begun c (back.Stop i st trailers) s h

release_begun : (c : ChannelPlan) (o : Option ℕ) (s : ChildState) → Begun s → Begun (step_release c o s)
release_begun c None s h = h
release_begun c (Some i) s h =
    offered_all_begun c target.Back (back_events (of_hop i s.hold.kept))
    (record s { hold = released_hold i s.hold; journal = s.journal ++ child.Release (length (of_hop i s.hold.kept)) ∷ [] })
    (with_one (child.Release (length (of_hop i s.hold.kept))) s h)

flush_begun : (c : ChannelPlan) (t : Target) (x : Taken ChildEvent) (s : ChildState) → Begun s → Begun (flush_with c t x s)
flush_begun c t (Event e rest) s h = run_begun c t e (record s { queue = record s.queue { waiting = rest } }) h
flush_begun c t (Over u) s h = with_one (child.HandOver t u) s h
flush_begun c t Ended s h = with_one (child.Ended t) s h

begin_begun : (c : ChannelPlan) (t : Target) (s : ChildState) → Begun s → Begun (step_begin c t s)
begin_begun c t s h =
    cond_both (runs_on s.running t) s _ Begun (λ r. h)
    (λ r. cond_both (is_target s.queue.flushing t) (flush_with c t (taken class_of s.queue t s.queue.waiting) s) _ Begun
    (λ q. flush_begun c t (taken class_of s.queue t s.queue.waiting) s h)
    (λ q. cond_both (nat_lt 0 (slice_index s.queue.posted (target_number t))) (record s { queue = completed s.queue t; journal = s.journal ++ child.Complete t ∷ [] }) s Begun
    (λ p. with_one (child.Complete t) s h) (λ p. h)))

reacted_begun : (c : ChannelPlan) (r : Reaction) (s : ChildState) → Begun s → Begun (react c r s)
reacted_begun c (reaction.StartRetarget n) s h = performed_begun c (act.Retarget n) s h
reacted_begun c reaction.StartSuspend s h = performed_begun c act.Suspend s h
reacted_begun c (reaction.StartCancel st) s h = performed_begun c (act.Cancel st) s h
reacted_begun c (reaction.StartFail st) s h = performed_begun c (act.Cancel st) s h
reacted_begun c (reaction.BytesFail n st) s h = h

reacted_all_begun : (c : ChannelPlan) (rs : List Reaction) (s : ChildState) → Begun s → Begun (react_all c rs s)
reacted_all_begun c [] s h = h
reacted_all_begun c (r ∷ rs) s h = reacted_all_begun c rs (react c r s) (reacted_begun c r s h)

failed_begun : (c : ChannelPlan) (t : Target) (o : Option Status) (s : ChildState) → Begun s → Begun (fail_data c t o s)
failed_begun c t None s h = h
failed_begun c t (Some d) s h =
    cond_both (same_target t target.Main) (perform_call c (act.Cancel d) s) (prepend_cancel d s) Begun (λ r. performed_begun c (act.Cancel d) s h) (λ r. with_one (child.Prepend d) s h)

event_begun : (c : ChannelPlan) (t : Target) (e : ChildEvent) (s : ChildState) → Begun s → Begun (finish_event c t e s)
event_begun c t (Start code st) s h = reacted_all_begun c c.reactions s h
event_begun c t (Bytes at p st) s h = failed_begun c t (bytes_failure c.reactions s.data_begun) (record s { sent = s.sent ++ up.BytesRead (length p) ∷ [] }) h
event_begun c t (Stop st) s h = h
event_begun c t (Redirect1 i) s h = h
event_begun c t (Redirect3 i) s h = h
event_begun c t (Cancel st) s h = h

finish_begun : (c : ChannelPlan) (t : Target) (o : Option (Target × ChildEvent)) (s : ChildState) → Begun s → Begun (step_finish c t o s)
finish_begun c t None s h = h
finish_begun c t (Some (v, e)) s h =
    let s1 : ChildState = record s { running = None; finished = suc s.finished; journal = s.journal ++ child.Finish t ∷ [] } in
    cond_both (same_target v t) (finish_event c t e s1) s Begun (λ r. event_begun c t e s1 (with_one (child.Finish t) s h)) (λ r. h)

step_begun : (c : ChannelPlan) (x : ChildStep) (s : ChildState) → Begun s → Begun (child_step c x s)
step_begun c step.Act s h = act_begun c s h
step_begun c step.Verdict s h = cond_both s.broken s (step_verdict c s.question s) Begun (λ r. h) (λ r. verdict_begun c s.question s h)
step_begun c (step.Main m) s h = cond_both s.broken s (step_main c m (with_entry (child.TookMain m) s)) Begun (λ r. h) (λ r. main_begun c m (with_entry (child.TookMain m) s) (with_one (child.TookMain m) s h))
step_begun c (step.Back m) s h = cond_both s.broken s (step_back c m (with_entry (child.TookBack m) s)) Begun (λ r. h) (λ r. back_begun c m (with_entry (child.TookBack m) s) (with_one (child.TookBack m) s h))
step_begun c step.Release s h = cond_both s.broken s (step_release c s.hold.report s) Begun (λ r. h) (λ r. release_begun c s.hold.report s h)
step_begun c (step.Begin t) s h = begin_begun c t s h
step_begun c (step.Finish t) s h = finish_begun c t s.running s h

pub child_begun : (c : ChannelPlan) (steps : List ChildStep) → Begun (child_after c steps)
child_begun c [] = omega arith
child_begun c (x ∷ xs) = step_begun c x (child_after c xs) (child_begun c xs)
