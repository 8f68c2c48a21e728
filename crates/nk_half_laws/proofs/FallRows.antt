-- How much work each part of a child's step adds at most, with what it sends and shows.
use Rattle.std.proofs.Common.{ℕ, suc, ◌≡◌, ◌+◌, ◌*◌, ◌≤◌, ◌∙◌, refl, List, [], ◌∷◌, ◌++◌, length, length-append, length-set, Bool, true, false, ◌||◌, Option, Some, None, is_some, if◌then◌else◌, ◌==◌, arith, slice_index}
use Rattle.nk_base.specs.declared.status.Status.{Status}
use Rattle.nk_base.specs.declared.status.Target.{Target}
use Rattle.nk_base.specs.declared.status.Target.TheVariants as target
use Rattle.nk_base.specs.declared.status.RetargetError.{RetargetError}
use Rattle.nk_base.specs.declared.message.MainMsg.{MainMsg}
use Rattle.nk_base.specs.declared.message.MainMsg.TheVariants as main
use Rattle.nk_base.specs.declared.message.BackMsg.{BackMsg}
use Rattle.nk_base.specs.declared.message.BackMsg.TheVariants as back
use Rattle.nk_base.specs.declared.message.UpMsg.{UpMsg}
use Rattle.nk_base.specs.declared.message.Entry.{Entry}
use Rattle.nk_base.specs.declared.message.Entry.TheVariants as shown
use Rattle.nk_base.specs.declared.message.UpMsg.TheVariants as up
use Rattle.nk_base.specs.Queue.{Queue, target_number, target_in, same_target, is_busy, runs_now, running_now, appended, raised, posted_first, resume_posts, resumed_once, prepended, suspended_once, cleared, unforced, unforced_answer}
use Rattle.nk_plan.specs.declared.plan.ChannelPlan.{ChannelPlan}
use Rattle.nk_plan.specs.declared.plan.StartLane.{StartLane}
use Rattle.nk_plan.specs.declared.plan.StartLane.TheVariants as lane
use Rattle.nk_plan.specs.declared.plan.Reaction.{Reaction}
use Rattle.nk_plan.specs.declared.plan.Reaction.TheVariants as reaction
use Rattle.nk_plan.specs.declared.plan.Act.{Act}
use Rattle.nk_plan.specs.declared.plan.Act.TheVariants as act
use Rattle.nk_plan.specs.declared.event.ChildEvent.{ChildEvent}
use Rattle.nk_plan.specs.declared.event.ChildEvent.TheVariants.{Start, Bytes, Stop, Redirect1, Redirect3, Cancel}
use Rattle.nk_plan.specs.declared.journal.ChildEntry.{ChildEntry}
use Rattle.nk_plan.specs.declared.journal.ChildEntry.TheVariants as child
use Rattle.nk_plan.specs.Event.{class_of}
use Rattle.nk_base.specs.Status.{merged, kept_status}
use Rattle.nk_plan.specs.Plan.{stop_trailers}
use Rattle.nk_plan.specs.Child.{ChildState, with_entry, run_bytes, cancel_messages, run_event, offer_event, offer_all, call_suspend, call_resume, call_cancel, refusal, call_retarget, is_empty, call_break, perform_call, note_report, note_redirect, step_main, back_events_of, keep_back, is_among, back_hop, hold_back, step_back, react, react_all, bytes_failure, prepend_cancel, fail_data, end_forced, finish_event}
use Rattle.nk_half_laws.specs.Work.{event_work, flush_work, posted_work, queue_work, spent}
use Rattle.nk_half_laws.proofs.Tools.{keeps_if, one_or_none, one_more}
use Rattle.nk_half_laws.proofs.QueueFalls.{raised_work}
use Rattle.nk_half_laws.specs.Sums.{sum_of}
use Rattle.nk_half_laws.proofs.Sums.{sum_of-more}

-- From s to s' the child gives up u of its work at least, but for d
pub record Row (c : ChannelPlan) (u d : ℕ) (s s' : ChildState) : Type 0 where
  pub less : spent c s' + u ≤ spent c s + d
  pub posted : length s'.queue.posted ≡ length s.queue.posted

pub row_same : (c : ChannelPlan) (s : ChildState) → Row c 0 0 s s
row_same c s = record { less = omega arith; posted = refl }

over : (i j k u d v e m n : ℕ) → j + u ≤ i + d → k + v ≤ j + e → m + (d + e) ≤ n + (u + v) → k + m ≤ i + n
over i j k u d v e m n a b l = omega arith

pub row_then : {c : ChannelPlan} {u d v e : ℕ} {s x y : ChildState} (m n : ℕ) → Row c u d s x → Row c v e x y → m + (d + e) ≤ n + (u + v)
    → Row c m n s y
row_then {c} {u} {d} {v} {e} {s} {x} {y} m n a b l =
    record {
      less = over (spent c s) (spent c x) (spent c y) u d v e m n a.less b.less l;
      posted = b.posted ∙ a.posted;
    }

pub row : (c : ChannelPlan) (u d : ℕ) (s s' : ChildState) → spent c s' + u ≤ spent c s + d
    → length s'.queue.posted ≡ length s.queue.posted → Row c u d s s'
row c u d s s' l p = record { less = l; posted = p }

-- an entry alone
pub noted : (c : ChannelPlan) (e : ChildEntry) (s : ChildState) → Row c 0 0 s (with_entry e s)
noted c e s = row c 0 0 s (with_entry e s) (omega arith) refl

-- the queue alone
pub queued : (c : ChannelPlan) (d : ℕ) (s : ChildState) (q : Queue ChildEvent) → queue_work q ≤ queue_work s.queue + d
    → length q.posted ≡ length s.queue.posted → Row c 0 d s (record s { queue = q })
queued c d s q l p = record { less = omega arith; posted = p }

-- Running an event

abbrev pub run_cost : ChildEvent → ℕ
run_cost (Start code st) = 132
run_cost (Bytes o p st) = 132
run_cost (Stop st) = 132
run_cost (Redirect1 h) = 132
run_cost (Redirect3 h) = 132
run_cost (Cancel st) = 2

pub costs_less : (e : ChildEvent) → event_work e ≡ run_cost e + 1
costs_less (Start code st) = refl
costs_less (Bytes o p st) = refl
costs_less (Stop st) = refl
costs_less (Redirect1 h) = refl
costs_less (Redirect3 h) = refl
costs_less (Cancel st) = refl

event_most : (e : ChildEvent) → event_work e ≤ 133
event_most (Start code st) = omega arith
event_most (Bytes o p st) = omega arith
event_most (Stop st) = omega arith
event_most (Redirect1 h) = omega arith
event_most (Redirect3 h) = omega arith
event_most (Cancel st) = omega arith

cancel_most : (k : Option Status) (st : Status) → length (cancel_messages k st) ≤ 1
cancel_most None st = omega arith
cancel_most (Some q) st = omega arith

bytes_row : (c : ChannelPlan) (t : Target) (o : ℕ) (p : List ℕ) (k : Option Status) (st : Status) (s : ChildState)
    → Row c 0 132 s (run_bytes s t o p k st)
bytes_row c t o p None st s =
    let n : length (s.trace ++ shown.Bytes o p ∷ []) ≡ length s.trace + 1 = one_more s.trace (shown.Bytes o p) in
    row c 0 132 s _ (omega arith) refl
bytes_row c t o p (Some q) st s = row c 0 132 s _ (omega arith) refl

pub run_row : (c : ChannelPlan) (t : Target) (e : ChildEvent) (s : ChildState) → Row c 0 (run_cost e) s (run_event c t e s)
run_row c t (Start code st) s =
    let e : Entry = shown.Start code (kept_status (merged s.kept st)) in
    let n : length (s.trace ++ e ∷ []) ≡ length s.trace + 1 = one_more s.trace e in
    row c 0 132 s _ (omega arith) refl
run_row c t (Bytes o p st) s = bytes_row c t o p (merged s.kept st) st s
run_row c t (Stop st) s =
    let e : Entry = shown.Stop (kept_status (merged s.kept st)) (stop_trailers c s.hop (kept_status (merged s.kept st))) in
    let n : length (s.trace ++ e ∷ []) ≡ length s.trace + 1 = one_more s.trace e in
    row c 0 132 s _ (omega arith) refl
run_row c t (Redirect1 h) s = row c 0 132 s _ (omega arith) refl
run_row c t (Redirect3 h) s = row c 0 132 s _ (omega arith) refl
run_row c t (Cancel st) s =
    let n : length (s.sent ++ cancel_messages s.kept st) ≡ length s.sent + length (cancel_messages s.kept st) =
    length-append s.sent (cancel_messages s.kept st) in
    let m : length (cancel_messages s.kept st) ≤ 1 = cancel_most s.kept st in
    row c 0 2 s _ (omega arith) refl

-- Offering events

raised_most : (b : Bool) (p : List ℕ) (t : Target) → posted_work (if b then p else raised p t) ≤ posted_work p + 1
raised_most true p t = omega arith
raised_most false p t = raised_work p (target_number t)

pub flush_then : (b : Bool) (here : Target) (o : Option Target) → flush_work (if b then Some here else o) ≤ flush_work o + 1
flush_then true here o = omega arith
flush_then false here o = omega arith

raised_length : (b : Bool) (p : List ℕ) (t : Target) → length (if b then p else raised p t) ≡ length p
raised_length true p t = refl
raised_length false p t = length-set p (target_number t) (slice_index p (target_number t) + 1)

appended_row : (c : ChannelPlan) (e : ChildEvent) (s : ChildState) → Row c 0 134 s (record s { queue = appended class_of s.queue e })
appended_row c e s =
    let h : sum_of event_work (s.queue.waiting ++ e ∷ []) ≡ sum_of event_work s.queue.waiting + event_work e =
    sum_of-more event_work s.queue.waiting e in
    let m : event_work e ≤ 133 = event_most e in
    let p : posted_work (appended class_of s.queue e).posted ≤ posted_work s.queue.posted + 1 =
    raised_most (is_busy s.queue) s.queue.posted (target_in s.queue.data_target (class_of e)) in
    queued c 134 s (appended class_of s.queue e) (omega arith)
    (raised_length (is_busy s.queue) s.queue.posted (target_in s.queue.data_target (class_of e)))

offered_row : (c : ChannelPlan) (here : Target) (e : ChildEvent) (s : ChildState) → Row c 0 134 s (offer_event c here e s)
offered_row c here e s =
    let s1 : ChildState = record s { queue = running_now s.queue here } in
    let m : event_work e ≤ 133 = event_most e in
    let n : event_work e ≡ run_cost e + 1 = costs_less e in
    keeps_if (Row c 0 134 s) (runs_now class_of s.queue e here) (run_event c here e s1) _
    (λ r. row_then 0 134 (queued c 1 s (running_now s.queue here) (omega arith) refl) (run_row c here e s1) (omega arith))
    (λ r. appended_row c e s)

pub offers_row : (c : ChannelPlan) (here : Target) (es : List ChildEvent) (s : ChildState)
    → Row c 0 (134 * length es) s (offer_all c here es s)
offers_row c here [] s = row_same c s
offers_row c here (e ∷ es) s =
    row_then 0 (134 * suc (length es)) (offered_row c here e s) (offers_row c here es (offer_event c here e s)) (omega arith)

-- The calls of the page

abbrev pub call_cost : Act → ℕ
call_cost act.Suspend = 2
call_cost act.Resume = 3
call_cost (act.Cancel st) = 2
call_cost (act.Retarget w) = 1
call_cost (act.Break st) = 268

pub call_most : (x : Act) → call_cost x ≤ 268
call_most act.Suspend = omega arith
call_most act.Resume = omega arith
call_most (act.Cancel st) = omega arith
call_most (act.Retarget w) = omega arith
call_most (act.Break st) = omega arith

-- a row that adds less
pub row_most : {c : ChannelPlan} {u d : ℕ} {s x : ChildState} (n : ℕ) → Row c u d s x → d ≤ n → Row c u n s x
row_most {c} {u} {d} {s} {x} n a l = row_then u n a (row_same c x) (omega arith)

first_length : (p : List ℕ) (t : Target) (w : List ChildEvent) → length (posted_first class_of t p w) ≡ length p
first_length p t [] = refl
first_length p t (e ∷ w) = raised_length false p (target_in t (class_of e))

first_most : (p : List ℕ) (t : Target) (w : List ChildEvent) → posted_work (posted_first class_of t p w) ≤ posted_work p + 1
first_most p t [] = omega arith
first_most p t (e ∷ w) = raised_most false p (target_in t (class_of e))

resumed_most : (q : Queue ChildEvent) → posted_work (resumed_once class_of q).posted ≤ posted_work q.posted + 1
resumed_most q =
    keeps_if (λ p. posted_work p ≤ posted_work q.posted + 1) (resume_posts q)
    (posted_first class_of q.data_target q.posted q.waiting) q.posted
    (λ r. first_most q.posted q.data_target q.waiting) (λ r. omega arith)

resumed_length : (q : Queue ChildEvent) → length (resumed_once class_of q).posted ≡ length q.posted
resumed_length q =
    keeps_if (λ p. length p ≡ length q.posted) (resume_posts q) (posted_first class_of q.data_target q.posted q.waiting) q.posted
    (λ r. first_length q.posted q.data_target q.waiting) (λ r. refl)

suspend_row : (c : ChannelPlan) (s : ChildState) → Row c 0 2 s (call_suspend s)
suspend_row c s =
    let more : List UpMsg = if s.suspends == 0 then up.Suspend ∷ [] else [] in
    let n : length (s.sent ++ more) ≡ length s.sent + length more = length-append s.sent more in
    let m : length more ≤ 1 = one_or_none (s.suspends == 0) up.Suspend in
    row c 0 2 s _ (omega arith) refl

resume_row : (c : ChannelPlan) (s : ChildState) → Row c 0 3 s (call_resume s)
resume_row c s =
    let more : List UpMsg = if s.suspends == 1 then up.Resume ∷ [] else [] in
    let n : length (s.sent ++ more) ≡ length s.sent + length more = length-append s.sent more in
    let m : length more ≤ 1 = one_or_none (s.suspends == 1) up.Resume in
    let p : posted_work (resumed_once class_of s.queue).posted ≤ posted_work s.queue.posted + 1 = resumed_most s.queue in
    row c 0 3 s _ (omega arith) (resumed_length s.queue)

cancel_row : (c : ChannelPlan) (st : Status) (s : ChildState) → Row c 0 2 s (call_cancel st s)
cancel_row c st s =
    let n : length (s.sent ++ up.Cancel st ∷ []) ≡ length s.sent + 1 = length-append s.sent (up.Cancel st ∷ []) in
    row c 0 2 s _ (omega arith) refl

retarget_row : (c : ChannelPlan) (o : Option RetargetError) (w : ℕ) (s : ChildState) → Row c 0 1 s (call_retarget o w s)
retarget_row c (Some e) w s = row_most 1 (noted c (child.NoRetarget e) s) (omega arith)
retarget_row c None w s = row c 0 1 s _ (omega arith) refl

break_row : (c : ChannelPlan) (st : Status) (s : ChildState) → Row c 0 268 s (call_break c st s)
break_row c st s =
    let s1 : ChildState =
    record s { broken = true; kept = merged s.kept st; queue = cleared s.queue; journal = s.journal ++ child.Break st ∷ [] } in
    let a : Row c 0 0 s s1 = row c 0 0 s s1 (omega arith) refl in
    keeps_if (λ es. Row c 0 268 s (offer_all c target.Main es s1)) (is_empty s.trace) (Start 0 st ∷ Stop st ∷ []) (Stop st ∷ [])
    (λ r. row_then 0 268 a (offers_row c target.Main (Start 0 st ∷ Stop st ∷ []) s1) (omega arith))
    (λ r. row_then 0 268 a (offers_row c target.Main (Stop st ∷ []) s1) (omega arith))

pub call_row : (c : ChannelPlan) (x : Act) (s : ChildState) → Row c 0 (call_cost x) s (perform_call c x s)
call_row c act.Suspend s =
    keeps_if (Row c 0 2 s) s.stopped (with_entry child.NoEffect s) (call_suspend s)
    (λ r. row_most 2 (noted c child.NoEffect s) (omega arith)) (λ r. suspend_row c s)
call_row c act.Resume s =
    keeps_if (Row c 0 3 s) (s.stopped || (s.suspends == 0)) (with_entry child.NoEffect s) (call_resume s)
    (λ r. row_most 3 (noted c child.NoEffect s) (omega arith)) (λ r. resume_row c s)
call_row c (act.Cancel st) s =
    keeps_if (Row c 0 2 s) (s.stopped || is_some s.kept) (with_entry child.NoEffect s) (call_cancel st s)
    (λ r. row_most 2 (noted c child.NoEffect s) (omega arith)) (λ r. cancel_row c st s)
call_row c (act.Retarget w) s = retarget_row c (refusal c s) w s
call_row c (act.Break st) s =
    keeps_if (Row c 0 268 s) (s.stopped || s.broken) (with_entry child.NoEffect s) (call_break c st s)
    (λ r. row_most 268 (noted c child.NoEffect s) (omega arith)) (λ r. break_row c st s)

-- Messages of the two down lanes

note_row : (c : ChannelPlan) (h : ℕ) (s : ChildState) → Row c 0 1 s (note_report h s)
note_row c h s = record { less = omega arith; posted = refl }

redirect_row : (c : ChannelPlan) (l : StartLane) (h : ℕ) (s : ChildState) → Row c 0 1 s (note_redirect l h s)
redirect_row c lane.Main h s = row_most 1 (row_same c s) (omega arith)
redirect_row c lane.Back h s = note_row c h s

pub main_row : (c : ChannelPlan) (m : MainMsg) (s : ChildState) → Row c 0 268 s (step_main c m s)
main_row c (main.Start h st head) s =
    let es : List ChildEvent = Start head.code st ∷ [] in
    row_then 0 268 (offers_row c target.Main es s) (note_row c h (offer_all c target.Main es s)) (omega arith)
main_row c (main.FailedOpen h st) s = row_most 268 (offers_row c target.Main (Start 0 st ∷ Stop st ∷ []) s) (omega arith)
main_row c (main.Redirect1 h code) s = row_most 268 (offers_row c target.Main (Redirect1 h ∷ []) s) (omega arith)
main_row c (main.Redirect3 h) s =
    let es : List ChildEvent = Redirect3 h ∷ [] in
    row_then 0 268 (offers_row c target.Main es s) (redirect_row c c.start (suc h) (offer_all c target.Main es s)) (omega arith)

keep_row : (c : ChannelPlan) (m : BackMsg) (s : ChildState) → Row c 0 134 s (keep_back m s)
keep_row c m s =
    let n : length (s.hold.kept ++ m ∷ []) ≡ length s.hold.kept + 1 = length-append s.hold.kept (m ∷ []) in
    record { less = omega arith; posted = refl }

hold_row : (c : ChannelPlan) (m : BackMsg) (s : ChildState) → length (back_events_of m) ≤ 1 → Row c 0 134 s (hold_back c m s)
hold_row c m s l =
    keeps_if (Row c 0 134 s) (is_among s.hold.released (back_hop m)) (offer_all c target.Back (back_events_of m) s) (keep_back m s)
    (λ r. row_most 134 (offers_row c target.Back (back_events_of m) s) (omega arith)) (λ r. keep_row c m s)

pub back_row : (c : ChannelPlan) (m : BackMsg) (s : ChildState) → Row c 0 134 s (step_back c m s)
back_row c (back.StartSent h) s = row_most 134 (row_same c s) (omega arith)
back_row c (back.Start h st head) s = hold_row c (back.Start h st head) s (omega arith)
back_row c (back.Bytes h st o p) s = hold_row c (back.Bytes h st o p) s (omega arith)
back_row c (back.Stop h st trailers) s = hold_row c (back.Stop h st trailers) s (omega arith)

-- What a callback does at its end

reacted_row : (c : ChannelPlan) (r : Reaction) (s : ChildState) → Row c 0 2 s (react c r s)
reacted_row c (reaction.StartRetarget w) s = row_most 2 (call_row c (act.Retarget w) s) (omega arith)
reacted_row c reaction.StartSuspend s = call_row c act.Suspend s
reacted_row c (reaction.StartCancel st) s = call_row c (act.Cancel st) s
reacted_row c (reaction.StartFail st) s = call_row c (act.Cancel st) s
reacted_row c (reaction.BytesFail n st) s = row_most 2 (row_same c s) (omega arith)

reactions_row : (c : ChannelPlan) (rs : List Reaction) (s : ChildState) → Row c 0 (2 * length rs) s (react_all c rs s)
reactions_row c [] s = row_same c s
reactions_row c (r ∷ rs) s = row_then 0 (2 * suc (length rs)) (reacted_row c r s) (reactions_row c rs (react c r s)) (omega arith)

unforced_row : (c : ChannelPlan) (t : Target) (s : ChildState) → Row c 0 1 s (end_forced t s)
unforced_row c t s =
    let f : flush_work (unforced s.queue t).flushing ≤ flush_work s.queue.flushing + 1 =
    flush_then (unforced_answer s.queue) t s.queue.flushing in
    queued c 1 s (unforced s.queue t) (omega arith) refl

prepend_row : (c : ChannelPlan) (st : Status) (s : ChildState) → Row c 0 4 s (prepend_cancel st s)
prepend_row c st s =
    let q : Queue ChildEvent = prepended (suspended_once s.queue) (Cancel st) in
    let p : posted_work (resumed_once class_of q).posted ≤ posted_work s.queue.posted + 1 = resumed_most q in
    row c 0 4 s _ (omega arith) (resumed_length q)

failed_row : (c : ChannelPlan) (t : Target) (o : Option Status) (s : ChildState) → Row c 0 4 s (fail_data c t o s)
failed_row c t None s = row_most 4 (row_same c s) (omega arith)
failed_row c t (Some st) s =
    keeps_if (Row c 0 4 s) (same_target t target.Main) (perform_call c (act.Cancel st) s) (prepend_cancel st s)
    (λ r. row_most 4 (call_row c (act.Cancel st) s) (omega arith))
    (λ r. prepend_row c st s)

sent_row : (c : ChannelPlan) (m : UpMsg) (s : ChildState) → Row c 0 2 s (record s { sent = s.sent ++ m ∷ [] })
sent_row c m s =
    let n : length (s.sent ++ m ∷ []) ≡ length s.sent + 1 = length-append s.sent (m ∷ []) in
    record { less = omega arith; posted = refl }

pub finished_row : (c : ChannelPlan) (t : Target) (e : ChildEvent) (s : ChildState) → length c.reactions ≤ 64
    → Row c 0 129 s (finish_event c t e s)
finished_row c t (Start code st) s l =
    row_then 0 129 (reactions_row c c.reactions s) (unforced_row c t (react_all c c.reactions s)) (omega arith)
finished_row c t (Bytes o p st) s l =
    row_then 0 129 (sent_row c (up.BytesRead (length p)) s)
    (failed_row c t (bytes_failure c.reactions s.data_begun) (record s { sent = s.sent ++ up.BytesRead (length p) ∷ [] })) (omega arith)
finished_row c t (Stop st) s l =
    row_then 0 129 (sent_row c up.Deleting s) (unforced_row c t (record s { sent = s.sent ++ up.Deleting ∷ [] })) (omega arith)
finished_row c t (Redirect1 h) s l = row_most 129 (row_same c s) (omega arith)
finished_row c t (Redirect3 h) s l = row_most 129 (row_same c s) (omega arith)
finished_row c t (Cancel st) s l = row_most 129 (row_same c s) (omega arith)
