-- How many tasks may be posted: at most as many as a child's journal has entries, since a step that posts enters an entry
-- and posts once.
use Rattle.std.proofs.Common.{ℕ, suc, ◌≡◌, ◌+◌, ◌-◌, ◌<◌, ◌≤◌, refl, sym, ◌∙◌, subst, List, [], ◌∷◌, ◌++◌, length, Bool, true, false, ◌||◌, Option, Some, None, is_some, ◌⊎◌, inl, inr, if◌then◌else◌, nat_lt, nat_le, slice_get, slice_index, replicate, ◌==◌, set, arith, length-append}
use Rattle.std.proofs.lemmas.List.{length-set, get_or-set_same, get_or-set_other, get_or_past}
use Rattle.std.proofs.lemmas.Bool.{eqb-true}
use Rattle.std.proofs.lemmas.Bool.Decides.{eqb_tells}
use Rattle.nk_base.specs.declared.status.Status.{Status}
use Rattle.nk_base.specs.declared.status.Target.{Target}
use Rattle.nk_base.specs.declared.status.Target.TheVariants as target
use Rattle.nk_base.specs.declared.status.RetargetError.{RetargetError}
use Rattle.nk_base.specs.declared.message.MainMsg.{MainMsg}
use Rattle.nk_base.specs.declared.message.MainMsg.TheVariants as main
use Rattle.nk_base.specs.declared.message.BackMsg.{BackMsg}
use Rattle.nk_base.specs.declared.message.BackMsg.TheVariants as back
use Rattle.nk_base.specs.declared.message.UpMsg.TheVariants as up
use Rattle.nk_base.specs.Queue.{Queue, Taken, Event, Over, Ended, same_target, is_target, target_number, target_in, has_some, is_busy, runs_now, running_now, appended, raised, lowered, posted_first, resume_posts, resumed_once, cleared, completed, taken}
use Rattle.nk_plan.specs.declared.plan.ChannelPlan.{ChannelPlan}
use Rattle.nk_plan.specs.declared.plan.StartLane.{StartLane}
use Rattle.nk_plan.specs.declared.plan.StartLane.TheVariants as lane
use Rattle.nk_plan.specs.declared.plan.Reaction.{Reaction}
use Rattle.nk_plan.specs.declared.plan.Reaction.TheVariants as reaction
use Rattle.nk_plan.specs.declared.plan.Act.{Act}
use Rattle.nk_plan.specs.declared.plan.Act.TheVariants as act
use Rattle.nk_plan.specs.declared.plan.Control.{Control}
use Rattle.nk_plan.specs.declared.event.ChildEvent.{ChildEvent}
use Rattle.nk_plan.specs.declared.event.ChildEvent.TheVariants.{Start, Bytes, Stop, Redirect1, Redirect3, Cancel}
use Rattle.nk_plan.specs.declared.journal.ChildEntry.{ChildEntry}
use Rattle.nk_plan.specs.declared.journal.ChildEntry.TheVariants as child
use Rattle.nk_plan.specs.declared.step.ChildStep.{ChildStep}
use Rattle.nk_plan.specs.declared.step.ChildStep.TheVariants as step
use Rattle.nk_plan.specs.Event.{class_of}
use Rattle.nk_base.specs.Status.{merged}
use Rattle.nk_plan.specs.Child.{ChildState, run_bytes, run_event, offer_event, offer_all, with_entry, call_suspend, call_resume, call_cancel, refusal, call_retarget, is_empty, call_break, perform_call, perform_control, step_act, verdict_status, step_verdict, note_main, main_events_of, step_main, back_hop, back_events_of, back_events, is_among, hold_back, step_back, of_hop, released_hold, step_release, flush_with, runs_on, step_begin, react, react_all, bytes_failure, prepend_cancel, fail_data, finish_event, step_finish, child_step, child_after}
use Rattle.nk_laws.proofs.Tools.{keeps_if, le_or_more, none_posted}

-- Numbers that are posted

abbrev pub AtMost : ℕ → List ℕ → Type 0
AtMost n posted = (k : ℕ) → slice_index posted k ≤ n

abbrev Below : ℕ → List ℕ → Type 0
Below n posted = (k : ℕ) → slice_index posted k < n

set_at : (p : List ℕ) (i v k n : ℕ) → v ≤ n → slice_index p k ≤ n → slice_index (set p i v) k ≤ n
set_at p i v k n a b = elim (eqb_tells k i) [
  | inl x ↦
      let e : k ≡ i = eqb-true k i x.0 in
      elim (le_or_more (length p) i) [
        | inr l ↦ let g : slice_index (set p i v) i ≡ v = get_or-set_same p i v 0 l in rw (e, g) a
        | inl l ↦
            let h : length (set p i v) ≤ i = rw (length-set p i v) l in
            let g : slice_index (set p i v) i ≡ 0 = get_or_past (set p i v) i 0 h in rw (e, g) (omega arith)
      ]
  | inr x ↦ rw (get_or-set_other p i k v 0 x.1) b
]

raised_at : (n : ℕ) (p : List ℕ) (t : Target) → AtMost n p → AtMost (n + 1) (raised p t)
raised_at n p t h k = let a : slice_index p (target_number t) ≤ n = h (target_number t) in let b : slice_index p k ≤ n = h k in set_at p (target_number t) (slice_index p (target_number t) + 1) k (n + 1) (omega arith) (omega arith)

raised_below : (n : ℕ) (p : List ℕ) (t : Target) → Below n p → AtMost n (raised p t)
raised_below n p t h k = let a : slice_index p (target_number t) < n = h (target_number t) in let b : slice_index p k < n = h k in set_at p (target_number t) (slice_index p (target_number t) + 1) k n (omega arith) (omega arith)

lowered_at_most : (n : ℕ) (p : List ℕ) (t : Target) → AtMost n p → AtMost n (lowered p t)
lowered_at_most n p t h k = let a : slice_index p (target_number t) ≤ n = h (target_number t) in set_at p (target_number t) (slice_index p (target_number t) - 1) k n (omega arith) (h k)

-- While events are offered in one step: one more task may be posted, or the queue is busy and none is

abbrev Held : ℕ → Queue ChildEvent → Type 0
Held n q = Below n q.posted ⊎ (AtMost n q.posted × (is_busy q ≡ true))

held_at_most : (n : ℕ) (q : Queue ChildEvent) → Held n q → AtMost n q.posted
held_at_most n q (inl b) k = let a : slice_index q.posted k < n = b k in omega arith
held_at_most n q (inr a) k = a.0 k

waits_then : (w : List ChildEvent) (e : ChildEvent) → has_some (w ++ e ∷ []) ≡ true
waits_then [] e = refl
waits_then (x ∷ w) e = refl

busy_then : (a b d : Bool) (w : List ChildEvent) (e : ChildEvent) → (a || (b || (d || has_some (w ++ e ∷ [])))) ≡ true
busy_then true b d w e = refl
busy_then false true d w e = refl
busy_then false false true w e = refl
busy_then false false false w e = waits_then w e

joined_held : (b : Bool) (n : ℕ) (q : Queue ChildEvent) (e : ChildEvent) → is_busy q ≡ b → Held n q
    → Held n (record q { waiting = q.waiting ++ e ∷ []; suspended = if b then q.suspended else true; posted = if b then q.posted else raised q.posted (target_in q.data_target (class_of e)) })
joined_held true n q e y (inl b) = inl b
joined_held true n q e y (inr a) = inr (a.0, busy_then (nat_lt 0 q.forced) q.suspended (is_some q.flushing) q.waiting e)
joined_held false n q e y (inl b) = inr (raised_below n q.posted (target_in q.data_target (class_of e)) b, busy_then (nat_lt 0 q.forced) true (is_some q.flushing) q.waiting e)
joined_held false n q e y (inr a) = let no : true ≡ false = sym a.1 ∙ y in absurd (cc)

abbrev Offering : ChildState → Type 0
Offering s = Held (length s.journal) s.queue

abbrev pub Bounded : ChildState → Type 0
Bounded s = AtMost (length s.journal) s.queue.posted

offering_bounded : (s : ChildState) → Offering s → Bounded s
offering_bounded s h = held_at_most (length s.journal) s.queue h

-- an entry, and whatever the queue does but post
entered_below : (j : List ChildEntry) (e : ChildEntry) (p : List ℕ) → AtMost (length j) p → Below (length (j ++ e ∷ [])) p
entered_below j e p h k = let a : slice_index p k ≤ length j = h k in let l = length-append j (e ∷ []) in omega arith

entered_at_most : (j : List ChildEntry) (e : ChildEntry) (p : List ℕ) → AtMost (length j) p → AtMost (length (j ++ e ∷ [])) p
entered_at_most j e p h k = let a : slice_index p k ≤ length j = h k in let l = length-append j (e ∷ []) in omega arith

entered_raised : (j : List ChildEntry) (e : ChildEntry) (p : List ℕ) (t : Target) → AtMost (length j) p → AtMost (length (j ++ e ∷ [])) (raised p t)
entered_raised j e p t h = let l : length (j ++ e ∷ []) ≡ length j + 1 = length-append j (e ∷ []) in subst (λ n. AtMost n (raised p t)) (sym l) (raised_at (length j) p t h)

-- Running an event

bytes_below : (s : ChildState) (t : Target) (at : ℕ) (p : List ℕ) (k : Option Status) (st : Status) → Bounded s → Below (length (run_bytes s t at p k st).journal) (run_bytes s t at p k st).queue.posted
bytes_below s t at p None st h = entered_below s.journal (child.RunBytes t at (length p)) s.queue.posted h
bytes_below s t at p (Some q) st h = entered_below s.journal (child.RunDrop t at q) s.queue.posted h

run_below : (c : ChannelPlan) (t : Target) (e : ChildEvent) (s : ChildState) → Bounded s → Below (length (run_event c t e s).journal) (run_event c t e s).queue.posted
run_below c t (Start code st) s h = entered_below s.journal _ s.queue.posted h
run_below c t (Bytes at p st) s h = bytes_below s t at p (merged s.kept st) st h
run_below c t (Stop st) s h = entered_below s.journal _ s.queue.posted h
run_below c t (Redirect1 i) s h = entered_below s.journal _ s.queue.posted h
run_below c t (Redirect3 i) s h = entered_below s.journal _ s.queue.posted h
run_below c t (Cancel st) s h = entered_below s.journal _ s.queue.posted h

offered_held : (c : ChannelPlan) (here : Target) (e : ChildEvent) (s : ChildState) → Offering s → Offering (offer_event c here e s)
offered_held c here e s h =
    keeps_if Offering (runs_now class_of s.queue e here) (run_event c here e (record s { queue = running_now s.queue here })) (record s { queue = appended class_of s.queue e })
    (λ r. inl (run_below c here e (record s { queue = running_now s.queue here }) (offering_bounded s h)))
    (λ r. joined_held (is_busy s.queue) (length s.journal) s.queue e refl h)

offered_all_held : (c : ChannelPlan) (here : Target) (es : List ChildEvent) (s : ChildState) → Offering s → Offering (offer_all c here es s)
offered_all_held c here [] s h = h
offered_all_held c here (e ∷ es) s h = offered_all_held c here es (offer_event c here e s) (offered_held c here e s h)

offered_bounded : (c : ChannelPlan) (here : Target) (es : List ChildEvent) (s : ChildState) → Offering s → Bounded (offer_all c here es s)
offered_bounded c here es s h = offering_bounded (offer_all c here es s) (offered_all_held c here es s h)

-- The calls of the page

noted : (e : ChildEntry) (s : ChildState) → Bounded s → AtMost (length (s.journal ++ e ∷ [])) s.queue.posted
noted e s h = entered_at_most s.journal e s.queue.posted h

first_posted : (j : List ChildEntry) (e : ChildEntry) (own : Target) (p : List ℕ) (w : List ChildEvent) → AtMost (length j) p → AtMost (length (j ++ e ∷ [])) (posted_first class_of own p w)
first_posted j e own p [] h = entered_at_most j e p h
first_posted j e own p (x ∷ w) h = entered_raised j e p (target_in own (class_of x)) h

resumed_bounded : (e : ChildEntry) (j : List ChildEntry) (q : Queue ChildEvent) → AtMost (length j) q.posted → AtMost (length (j ++ e ∷ [])) (resumed_once class_of q).posted
resumed_bounded e j q h =
    keeps_if (AtMost (length (j ++ e ∷ []))) (resume_posts q) (posted_first class_of q.data_target q.posted q.waiting) q.posted
    (λ r. first_posted j e q.data_target q.posted q.waiting h) (λ r. entered_at_most j e q.posted h)

retarget_bounded : (o : Option RetargetError) (n : ℕ) (s : ChildState) → Bounded s → Bounded (call_retarget o n s)
retarget_bounded (Some e) n s h = noted (child.NoRetarget e) s h
retarget_bounded None n s h = noted (child.Retarget n) s h

break_bounded : (c : ChannelPlan) (st : Status) (s : ChildState) → Bounded s → Bounded (call_break c st s)
break_bounded c st s h =
    offered_bounded c target.Main (if is_empty s.trace then Start 0 st ∷ Stop st ∷ [] else Stop st ∷ [])
    (record s { broken = true; kept = merged s.kept st; queue = cleared s.queue; journal = s.journal ++ child.Break st ∷ [] })
    (inl (entered_below s.journal (child.Break st) s.queue.posted h))

performed_bounded : (c : ChannelPlan) (x : Act) (s : ChildState) → Bounded s → Bounded (perform_call c x s)
performed_bounded c act.Suspend s h = keeps_if Bounded s.stopped (with_entry child.NoEffect s) (call_suspend s) (λ r. noted child.NoEffect s h) (λ r. noted child.Suspend s h)
performed_bounded c act.Resume s h =
    keeps_if Bounded (s.stopped || (s.suspends == 0)) (with_entry child.NoEffect s) (call_resume s) (λ r. noted child.NoEffect s h) (λ r. resumed_bounded child.Resume s.journal s.queue h)
performed_bounded c (act.Cancel st) s h = keeps_if Bounded (s.stopped || is_some s.kept) (with_entry child.NoEffect s) (call_cancel st s) (λ r. noted child.NoEffect s h) (λ r. noted (child.Cancel st) s h)
performed_bounded c (act.Retarget n) s h = retarget_bounded (refusal c s) n s h
performed_bounded c (act.Break st) s h = keeps_if Bounded (s.stopped || s.broken) (with_entry child.NoEffect s) (call_break c st s) (λ r. noted child.NoEffect s h) (λ r. break_bounded c st s h)

-- The steps

control_bounded : (c : ChannelPlan) (o : Option Control) (s : ChildState) → Bounded s → Bounded (perform_control c o s)
control_bounded c None s h = h
control_bounded c (Some control) s h =
    let s1 : ChildState = record s { next = suc s.next } in
    keeps_if Bounded (nat_le control.after s.finished) (perform_call c control.act s1) s (λ r. performed_bounded c control.act s1 h) (λ r. h)

act_bounded : (c : ChannelPlan) (s : ChildState) → Bounded s → Bounded (step_act c s)
act_bounded c s h =
    keeps_if Bounded c.closed s _ (λ r. h)
    (λ r. keeps_if Bounded s.opened (perform_control c (slice_get c.controls s.next) s) _ (λ q. control_bounded c (slice_get c.controls s.next) s h) (λ q. noted child.Open s h))

verdict_bounded : (c : ChannelPlan) (o : Option ℕ) (s : ChildState) → Bounded s → Bounded (step_verdict c o s)
verdict_bounded c None s h = h
verdict_bounded c (Some i) s h = noted (child.Verdict i (verdict_status c s.kept i)) s h

reported_bounded : (l : StartLane) (m : MainMsg) (s : ChildState) → Bounded s → Bounded (note_main l m s)
reported_bounded l (main.Start i st head) s h = h
reported_bounded l (main.FailedOpen i st) s h = h
reported_bounded l (main.Redirect1 i code) s h = h
reported_bounded lane.Main (main.Redirect3 i) s h = h
reported_bounded lane.Back (main.Redirect3 i) s h = h

main_bounded : (c : ChannelPlan) (m : MainMsg) (s : ChildState) → Bounded s → Bounded (step_main c m (with_entry (child.TookMain m) s))
main_bounded c m s h =
    let s1 : ChildState = with_entry (child.TookMain m) s in
    reported_bounded c.start m (offer_all c target.Main (main_events_of m) s1) (offered_bounded c target.Main (main_events_of m) s1 (inl (entered_below s.journal (child.TookMain m) s.queue.posted h)))

passed_bounded : (c : ChannelPlan) (m : BackMsg) (s : ChildState) → Offering s → Bounded (hold_back c m s)
passed_bounded c m s h =
    keeps_if Bounded (is_among s.hold.released (back_hop m)) (offer_all c target.Back (back_events_of m) s) _ (λ r. offered_bounded c target.Back (back_events_of m) s h) (λ r. offering_bounded s h)

back_bounded : (c : ChannelPlan) (m : BackMsg) (s : ChildState) → Offering s → Bounded (step_back c m s)
back_bounded c (back.StartSent i) s h = offering_bounded s h
back_bounded c (back.Start i st head) s h = passed_bounded c (back.Start i st head) s h
back_bounded c (back.Bytes i st o p) s h = passed_bounded c (back.Bytes i st o p) s h
back_bounded c (back.Stop i st trailers) s h = passed_bounded c (back.Stop i st trailers) s h

release_bounded : (c : ChannelPlan) (o : Option ℕ) (s : ChildState) → Bounded s → Bounded (step_release c o s)
release_bounded c None s h = h
release_bounded c (Some i) s h =
    let s1 : ChildState = record s { hold = released_hold i s.hold; journal = s.journal ++ child.Release (length (of_hop i s.hold.kept)) ∷ [] } in
    offered_bounded c target.Back (back_events (of_hop i s.hold.kept)) s1 (inl (entered_below s.journal (child.Release (length (of_hop i s.hold.kept))) s.queue.posted h))

flush_bounded : (c : ChannelPlan) (t : Target) (x : Taken ChildEvent) (s : ChildState) → Bounded s → Bounded (flush_with c t x s)
flush_bounded c t (Event e rest) s h =
    let s1 : ChildState = record s { queue = record s.queue { waiting = rest } } in
    (λ k. let a : slice_index (run_event c t e s1).queue.posted k < length (run_event c t e s1).journal = run_below c t e s1 h k in omega arith)
flush_bounded c t (Over u) s h = entered_raised s.journal (child.HandOver t u) s.queue.posted u h
flush_bounded c t Ended s h = noted (child.Ended t) s h

begin_bounded : (c : ChannelPlan) (t : Target) (s : ChildState) → Bounded s → Bounded (step_begin c t s)
begin_bounded c t s h =
    keeps_if Bounded (runs_on s.running t) s _ (λ r. h)
    (λ r. keeps_if Bounded (is_target s.queue.flushing t) (flush_with c t (taken class_of s.queue t s.queue.waiting) s) _
    (λ q. flush_bounded c t (taken class_of s.queue t s.queue.waiting) s h)
    (λ q. keeps_if Bounded (nat_lt 0 (slice_index s.queue.posted (target_number t))) (record s { queue = completed s.queue t; journal = s.journal ++ child.Complete t ∷ [] }) s
    (λ p. entered_at_most s.journal (child.Complete t) (lowered s.queue.posted t) (lowered_at_most (length s.journal) s.queue.posted t h)) (λ p. h)))

reacted_bounded : (c : ChannelPlan) (r : Reaction) (s : ChildState) → Bounded s → Bounded (react c r s)
reacted_bounded c (reaction.StartRetarget n) s h = performed_bounded c (act.Retarget n) s h
reacted_bounded c reaction.StartSuspend s h = performed_bounded c act.Suspend s h
reacted_bounded c (reaction.StartCancel st) s h = performed_bounded c (act.Cancel st) s h
reacted_bounded c (reaction.StartFail st) s h = performed_bounded c (act.Cancel st) s h
reacted_bounded c (reaction.BytesFail n st) s h = h

reacted_all_bounded : (c : ChannelPlan) (rs : List Reaction) (s : ChildState) → Bounded s → Bounded (react_all c rs s)
reacted_all_bounded c [] s h = h
reacted_all_bounded c (r ∷ rs) s h = reacted_all_bounded c rs (react c r s) (reacted_bounded c r s h)

failed_bounded : (c : ChannelPlan) (t : Target) (o : Option Status) (s : ChildState) → Bounded s → Bounded (fail_data c t o s)
failed_bounded c t None s h = h
failed_bounded c t (Some d) s h =
    keeps_if Bounded (same_target t target.Main) (perform_call c (act.Cancel d) s) (prepend_cancel d s)
    (λ r. performed_bounded c (act.Cancel d) s h)
    (λ r. resumed_bounded (child.Prepend d) s.journal (record s.queue { waiting = Cancel d ∷ s.queue.waiting; count = s.queue.count + 1; suspended = true }) h)

event_bounded : (c : ChannelPlan) (t : Target) (e : ChildEvent) (s : ChildState) → Bounded s → Bounded (finish_event c t e s)
event_bounded c t (Start code st) s h = reacted_all_bounded c c.reactions s h
event_bounded c t (Bytes at p st) s h = failed_bounded c t (bytes_failure c.reactions s.data_begun) (record s { sent = s.sent ++ up.BytesRead (length p) ∷ [] }) h
event_bounded c t (Stop st) s h = h
event_bounded c t (Redirect1 i) s h = h
event_bounded c t (Redirect3 i) s h = h
event_bounded c t (Cancel st) s h = h

finish_bounded : (c : ChannelPlan) (t : Target) (o : Option (Target × ChildEvent)) (s : ChildState) → Bounded s → Bounded (step_finish c t o s)
finish_bounded c t None s h = h
finish_bounded c t (Some (v, e)) s h =
    let s1 : ChildState = record s { running = None; finished = suc s.finished; journal = s.journal ++ child.Finish t ∷ [] } in
    keeps_if Bounded (same_target v t) (finish_event c t e s1) s (λ r. event_bounded c t e s1 (noted (child.Finish t) s h)) (λ r. h)

step_bounded : (c : ChannelPlan) (x : ChildStep) (s : ChildState) → Bounded s → Bounded (child_step c x s)
step_bounded c step.Act s h = act_bounded c s h
step_bounded c step.Verdict s h = keeps_if Bounded s.broken s (step_verdict c s.question s) (λ r. h) (λ r. verdict_bounded c s.question s h)
step_bounded c (step.Main m) s h = keeps_if Bounded s.broken s (step_main c m (with_entry (child.TookMain m) s)) (λ r. h) (λ r. main_bounded c m s h)
step_bounded c (step.Back m) s h =
    keeps_if Bounded s.broken s (step_back c m (with_entry (child.TookBack m) s)) (λ r. h)
    (λ r. back_bounded c m (with_entry (child.TookBack m) s) (inl (entered_below s.journal (child.TookBack m) s.queue.posted h)))
step_bounded c step.Release s h = keeps_if Bounded s.broken s (step_release c s.hold.report s) (λ r. h) (λ r. release_bounded c s.hold.report s h)
step_bounded c (step.Begin t) s h = begin_bounded c t s h
step_bounded c (step.Finish t) s h = finish_bounded c t s.running s h

pub child_bounded : (c : ChannelPlan) (steps : List ChildStep) → Bounded (child_after c steps)
child_bounded c [] = λ k. let z : slice_index (replicate 18 0) k ≡ 0 = none_posted 18 k in omega arith
child_bounded c (x ∷ xs) = step_bounded c x (child_after c xs) (child_bounded c xs)
