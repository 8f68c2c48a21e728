-- A step adds to what a child has sent, and reads none of it. So a child need not keep it.
use Rattle.std.proofs.Common.{ℕ, suc, ◌≡◌, refl, ◌∙◌, ap, Bool, true, false, ◌||◌, if◌then◌else◌, ◌==◌, nat_lt, nat_le, List, [], ◌∷◌, ◌++◌, append_assoc, length, slice_get, slice_index, Option, Some, None, is_some}
use Rattle.nk_base.specs.declared.status.Status.{Status}
use Rattle.nk_base.specs.declared.status.Target.{Target}
use Rattle.nk_base.specs.declared.status.Target.TheVariants as target
use Rattle.nk_base.specs.declared.status.RetargetError.{RetargetError}
use Rattle.nk_base.specs.declared.message.MainMsg.{MainMsg}
use Rattle.nk_base.specs.declared.message.MainMsg.TheVariants as main
use Rattle.nk_base.specs.declared.message.BackMsg.{BackMsg}
use Rattle.nk_base.specs.declared.message.BackMsg.TheVariants as back
use Rattle.nk_base.specs.declared.message.UpMsg.{UpMsg}
use Rattle.nk_base.specs.declared.message.UpMsg.TheVariants as up
use Rattle.nk_base.specs.Hold.{back_hop, of_hop, is_among, released_hold}
use Rattle.nk_base.specs.Queue.{Taken, Event, Over, Ended, same_target, is_target, target_number, runs_now, running_now, appended, cleared, completed, taken}
use Rattle.nk_base.specs.Status.{merged}
use Rattle.nk_plan.specs.declared.plan.ChannelPlan.{ChannelPlan}
use Rattle.nk_plan.specs.declared.plan.StartLane.{StartLane}
use Rattle.nk_plan.specs.declared.plan.StartLane.TheVariants as lane
use Rattle.nk_plan.specs.declared.plan.Reaction.{Reaction}
use Rattle.nk_plan.specs.declared.plan.Reaction.TheVariants as reaction
use Rattle.nk_plan.specs.declared.plan.Act.{Act}
use Rattle.nk_plan.specs.declared.plan.Act.TheVariants as act
use Rattle.nk_plan.specs.declared.plan.Control.{Control}
use Rattle.nk_plan.specs.declared.event.ChildEvent.{ChildEvent}
use Rattle.nk_plan.specs.declared.event.ChildEvent.TheVariants.{Start, Bytes, Stop, Redirect1, Redirect3, Cancel}
use Rattle.nk_plan.specs.declared.journal.ChildEntry.TheVariants as child
use Rattle.nk_plan.specs.declared.step.ChildStep.{ChildStep}
use Rattle.nk_plan.specs.declared.step.ChildStep.TheVariants as step
use Rattle.nk_plan.specs.Event.{class_of}
use Rattle.nk_plan.specs.Child.{ChildState, run_bytes, run_event, cancel_messages, offer_event, offer_all, with_entry, call_suspend, call_resume, call_cancel, refusal, call_retarget, is_empty, call_break, perform_call, perform_control, step_act, verdict_status, step_verdict, note_main, main_events_of, step_main, back_events_of, back_events, keep_back, hold_back, step_back, step_release, flush_with, runs_on, step_begin, react, react_all, bytes_failure, prepend_cancel, fail_data, end_forced, finish_event, step_finish, child_step}

-- the same child, with these sent before all else
abbrev pub behind : List UpMsg → ChildState → ChildState
behind xs s = record s { sent = xs ++ s.sent }

later : (xs old more : List UpMsg) (s : ChildState) → record s { sent = (xs ++ old) ++ more } ≡ record s { sent = xs ++ (old ++ more) }
later xs old more s = ap (λ (ys : List UpMsg). record s { sent = ys }) (append_assoc xs old more)

either_if : (b : Bool) (xs : List UpMsg) (f g : ChildState → ChildState) (s : ChildState) → f (behind xs s) ≡ behind xs (f s) → g (behind xs s) ≡ behind xs (g s)
    → (if b then f (behind xs s) else g (behind xs s)) ≡ behind xs (if b then f s else g s)
either_if true xs f g s h k = h
either_if false xs f g s h k = k

-- Running an event

bytes_behind : (xs : List UpMsg) (s : ChildState) (t : Target) (o : ℕ) (p : List ℕ) (k : Option Status) (st : Status) → run_bytes (behind xs s) t o p k st ≡ behind xs (run_bytes s t o p k st)
bytes_behind xs s t o p None st = refl
bytes_behind xs s t o p (Some q) st = refl

run_behind : (c : ChannelPlan) (xs : List UpMsg) (t : Target) (e : ChildEvent) (s : ChildState) → run_event c t e (behind xs s) ≡ behind xs (run_event c t e s)
run_behind c xs t (Start code st) s = refl
run_behind c xs t (Bytes o p st) s = bytes_behind xs s t o p (merged s.kept st) st
run_behind c xs t (Stop st) s = refl
run_behind c xs t (Redirect1 h) s = refl
run_behind c xs t (Redirect3 h) s = refl
run_behind c xs t (Cancel st) s = later xs s.sent (cancel_messages s.kept st) (run_event c t (Cancel st) s)

offered_behind : (c : ChannelPlan) (xs : List UpMsg) (here : Target) (e : ChildEvent) (s : ChildState) → offer_event c here e (behind xs s) ≡ behind xs (offer_event c here e s)
offered_behind c xs here e s =
    either_if (runs_now class_of s.queue e here) xs (λ v. run_event c here e (record v { queue = running_now v.queue here }))
    (λ v. record v { queue = appended class_of v.queue e }) s (run_behind c xs here e (record s { queue = running_now s.queue here })) refl

offered_all_behind : (c : ChannelPlan) (xs : List UpMsg) (here : Target) (es : List ChildEvent) (s : ChildState) → offer_all c here es (behind xs s) ≡ behind xs (offer_all c here es s)
offered_all_behind c xs here [] s = refl
offered_all_behind c xs here (e ∷ es) s = ap (offer_all c here es) (offered_behind c xs here e s) ∙ offered_all_behind c xs here es (offer_event c here e s)

-- The calls of the page

retarget_behind : (xs : List UpMsg) (o : Option RetargetError) (w : ℕ) (s : ChildState) → call_retarget o w (behind xs s) ≡ behind xs (call_retarget o w s)
retarget_behind xs (Some e) w s = refl
retarget_behind xs None w s = refl

break_behind : (c : ChannelPlan) (xs : List UpMsg) (st : Status) (s : ChildState) → call_break c st (behind xs s) ≡ behind xs (call_break c st s)
break_behind c xs st s =
    offered_all_behind c xs target.Main (if is_empty s.trace then Start 0 st ∷ Stop st ∷ [] else Stop st ∷ [])
    (record s { broken = true; kept = merged s.kept st; queue = cleared s.queue; journal = s.journal ++ child.Break st ∷ [] })

performed_behind : (c : ChannelPlan) (xs : List UpMsg) (a : Act) (s : ChildState) → perform_call c a (behind xs s) ≡ behind xs (perform_call c a s)
performed_behind c xs act.Suspend s =
    either_if s.stopped xs (with_entry child.NoEffect) call_suspend s refl (later xs s.sent (if s.suspends == 0 then up.Suspend ∷ [] else []) (call_suspend s))
performed_behind c xs act.Resume s =
    either_if (s.stopped || (s.suspends == 0)) xs (with_entry child.NoEffect) call_resume s refl (later xs s.sent (if s.suspends == 1 then up.Resume ∷ [] else []) (call_resume s))
performed_behind c xs (act.Cancel st) s =
    either_if (s.stopped || is_some s.kept) xs (with_entry child.NoEffect) (call_cancel st) s refl (later xs s.sent (up.Cancel st ∷ []) (call_cancel st s))
performed_behind c xs (act.Retarget w) s = retarget_behind xs (refusal c s) w s
performed_behind c xs (act.Break st) s = either_if (s.stopped || s.broken) xs (with_entry child.NoEffect) (call_break c st) s refl (break_behind c xs st s)

-- The steps

control_behind : (c : ChannelPlan) (xs : List UpMsg) (o : Option Control) (s : ChildState) → perform_control c o (behind xs s) ≡ behind xs (perform_control c o s)
control_behind c xs None s = refl
control_behind c xs (Some control) s =
    either_if (nat_le control.after s.finished) xs (λ v. perform_call c control.act (record v { next = suc v.next })) (λ v. v) s
    (performed_behind c xs control.act (record s { next = suc s.next })) refl

act_behind : (c : ChannelPlan) (xs : List UpMsg) (s : ChildState) → step_act c (behind xs s) ≡ behind xs (step_act c s)
act_behind c xs s =
    either_if c.closed xs (λ v. v) (λ v. if v.opened then perform_control c (slice_get c.controls v.next) v else record v { opened = true; sent = v.sent ++ up.Open ∷ []; journal = v.journal ++ child.Open ∷ [] }) s refl
    (either_if s.opened xs (λ v. perform_control c (slice_get c.controls v.next) v) (λ v. record v { opened = true; sent = v.sent ++ up.Open ∷ []; journal = v.journal ++ child.Open ∷ [] }) s
    (control_behind c xs (slice_get c.controls s.next) s)
    (later xs s.sent (up.Open ∷ []) (record s { opened = true; journal = s.journal ++ child.Open ∷ [] })))

verdict_behind : (c : ChannelPlan) (xs : List UpMsg) (o : Option ℕ) (s : ChildState) → step_verdict c o (behind xs s) ≡ behind xs (step_verdict c o s)
verdict_behind c xs None s = refl
verdict_behind c xs (Some h) s = later xs s.sent (up.Verify h (verdict_status c s.kept h) ∷ []) (step_verdict c (Some h) s)

noted_behind : (xs : List UpMsg) (l : StartLane) (m : MainMsg) (s : ChildState) → note_main l m (behind xs s) ≡ behind xs (note_main l m s)
noted_behind xs l (main.Start h st head) s = refl
noted_behind xs l (main.FailedOpen h st) s = refl
noted_behind xs l (main.Redirect1 h code) s = refl
noted_behind xs lane.Main (main.Redirect3 h) s = refl
noted_behind xs lane.Back (main.Redirect3 h) s = refl

main_behind : (c : ChannelPlan) (xs : List UpMsg) (m : MainMsg) (s : ChildState) → step_main c m (behind xs s) ≡ behind xs (step_main c m s)
main_behind c xs m s =
    ap (note_main c.start m) (offered_all_behind c xs target.Main (main_events_of m) s)
    ∙ noted_behind xs c.start m (offer_all c target.Main (main_events_of m) s)

held_behind : (c : ChannelPlan) (xs : List UpMsg) (m : BackMsg) (s : ChildState) → hold_back c m (behind xs s) ≡ behind xs (hold_back c m s)
held_behind c xs m s =
    either_if (is_among s.hold.released (back_hop m)) xs (offer_all c target.Back (back_events_of m)) (keep_back m) s
    (offered_all_behind c xs target.Back (back_events_of m) s) refl

back_behind : (c : ChannelPlan) (xs : List UpMsg) (m : BackMsg) (s : ChildState) → step_back c m (behind xs s) ≡ behind xs (step_back c m s)
back_behind c xs (back.StartSent h) s = refl
back_behind c xs (back.Start h st head) s = held_behind c xs (back.Start h st head) s
back_behind c xs (back.Bytes h st o p) s = held_behind c xs (back.Bytes h st o p) s
back_behind c xs (back.Stop h st trailers) s = held_behind c xs (back.Stop h st trailers) s

release_behind : (c : ChannelPlan) (xs : List UpMsg) (o : Option ℕ) (s : ChildState) → step_release c o (behind xs s) ≡ behind xs (step_release c o s)
release_behind c xs None s = refl
release_behind c xs (Some h) s =
    offered_all_behind c xs target.Back (back_events (of_hop h s.hold.kept))
    (record s { hold = released_hold h s.hold; journal = s.journal ++ child.Release (length (of_hop h s.hold.kept)) ∷ [] })

flush_behind : (c : ChannelPlan) (xs : List UpMsg) (t : Target) (x : Taken ChildEvent) (s : ChildState) → flush_with c t x (behind xs s) ≡ behind xs (flush_with c t x s)
flush_behind c xs t (Event e rest) s = run_behind c xs t e (record s { queue = record s.queue { waiting = rest } })
flush_behind c xs t (Over u) s = refl
flush_behind c xs t Ended s = refl

begin_behind : (c : ChannelPlan) (xs : List UpMsg) (t : Target) (s : ChildState) → step_begin c t (behind xs s) ≡ behind xs (step_begin c t s)
begin_behind c xs t s =
    either_if (runs_on s.running t) xs (λ v. v) (λ v. if is_target v.queue.flushing t then flush_with c t (taken class_of v.queue t v.queue.waiting) v
    else (if nat_lt 0 (slice_index v.queue.posted (target_number t)) then record v { queue = completed v.queue t; journal = v.journal ++ child.Complete t ∷ [] } else v)) s refl
    (either_if (is_target s.queue.flushing t) xs (λ v. flush_with c t (taken class_of v.queue t v.queue.waiting) v)
    (λ v. if nat_lt 0 (slice_index v.queue.posted (target_number t)) then record v { queue = completed v.queue t; journal = v.journal ++ child.Complete t ∷ [] } else v) s
    (flush_behind c xs t (taken class_of s.queue t s.queue.waiting) s)
    (either_if (nat_lt 0 (slice_index s.queue.posted (target_number t))) xs (λ v. record v { queue = completed v.queue t; journal = v.journal ++ child.Complete t ∷ [] }) (λ v. v) s refl refl))

react_behind : (c : ChannelPlan) (xs : List UpMsg) (r : Reaction) (s : ChildState) → react c r (behind xs s) ≡ behind xs (react c r s)
react_behind c xs (reaction.StartRetarget w) s = performed_behind c xs (act.Retarget w) s
react_behind c xs reaction.StartSuspend s = performed_behind c xs act.Suspend s
react_behind c xs (reaction.StartCancel st) s = performed_behind c xs (act.Cancel st) s
react_behind c xs (reaction.StartFail st) s = performed_behind c xs (act.Cancel st) s
react_behind c xs (reaction.BytesFail n st) s = refl

react_all_behind : (c : ChannelPlan) (xs : List UpMsg) (rs : List Reaction) (s : ChildState) → react_all c rs (behind xs s) ≡ behind xs (react_all c rs s)
react_all_behind c xs [] s = refl
react_all_behind c xs (r ∷ rs) s = ap (react_all c rs) (react_behind c xs r s) ∙ react_all_behind c xs rs (react c r s)

failed_behind : (c : ChannelPlan) (xs : List UpMsg) (t : Target) (o : Option Status) (s : ChildState) → fail_data c t o (behind xs s) ≡ behind xs (fail_data c t o s)
failed_behind c xs t None s = refl
failed_behind c xs t (Some st) s = either_if (same_target t target.Main) xs (perform_call c (act.Cancel st)) (prepend_cancel st) s (performed_behind c xs (act.Cancel st) s) refl

event_behind : (c : ChannelPlan) (xs : List UpMsg) (t : Target) (e : ChildEvent) (s : ChildState) → finish_event c t e (behind xs s) ≡ behind xs (finish_event c t e s)
event_behind c xs t (Start code st) s = ap (end_forced t) (react_all_behind c xs c.reactions s)
event_behind c xs t (Bytes o p st) s =
    let read : ChildState = record s { sent = s.sent ++ up.BytesRead (length p) ∷ [] } in
    ap (fail_data c t (bytes_failure c.reactions s.data_begun)) (later xs s.sent (up.BytesRead (length p) ∷ []) s)
    ∙ failed_behind c xs t (bytes_failure c.reactions s.data_begun) read
event_behind c xs t (Stop st) s = later xs s.sent (up.Deleting ∷ []) (finish_event c t (Stop st) s)
event_behind c xs t (Redirect1 h) s = refl
event_behind c xs t (Redirect3 h) s = refl
event_behind c xs t (Cancel st) s = refl

finish_behind : (c : ChannelPlan) (xs : List UpMsg) (t : Target) (o : Option (Target × ChildEvent)) (s : ChildState) → step_finish c t o (behind xs s) ≡ behind xs (step_finish c t o s)
finish_behind c xs t None s = refl
finish_behind c xs t (Some r) s =
    either_if (same_target r.0 t) xs (λ v. finish_event c t r.1 (record v { running = None; finished = suc v.finished; journal = v.journal ++ child.Finish t ∷ [] })) (λ v. v) s
    (event_behind c xs t r.1 (record s { running = None; finished = suc s.finished; journal = s.journal ++ child.Finish t ∷ [] })) refl

-- what was sent before a step changes nothing of what the step does
pub step_behind : (c : ChannelPlan) (xs : List UpMsg) (x : ChildStep) (s : ChildState) → child_step c x (behind xs s) ≡ behind xs (child_step c x s)
step_behind c xs step.Act s = act_behind c xs s
step_behind c xs step.Verdict s = either_if s.broken xs (λ v. v) (λ v. step_verdict c v.question v) s refl (verdict_behind c xs s.question s)
step_behind c xs (step.Main m) s =
    either_if s.broken xs (λ v. v) (λ v. step_main c m (with_entry (child.TookMain m) v)) s refl (main_behind c xs m (with_entry (child.TookMain m) s))
step_behind c xs (step.Back m) s =
    either_if s.broken xs (λ v. v) (λ v. step_back c m (with_entry (child.TookBack m) v)) s refl (back_behind c xs m (with_entry (child.TookBack m) s))
step_behind c xs step.Release s = either_if s.broken xs (λ v. v) (λ v. step_release c v.hold.report v) s refl (release_behind c xs s.hold.report s)
step_behind c xs (step.Begin t) s = begin_behind c xs t s
step_behind c xs (step.Finish t) s = finish_behind c xs t s.running s
