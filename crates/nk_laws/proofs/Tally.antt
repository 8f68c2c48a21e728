-- What a child's journal counts: the opening, suspends, resumes and finished callbacks; and a stop is shown last.
use Rattle.std.proofs.Common.{ℕ, suc, ◌≡◌, ◌+◌, refl, sym, ◌∙◌, ap, List, [], ◌∷◌, ◌++◌, length, Bool, true, false, ◌||◌, Option, Some, None, is_some, inl, inr, if◌then◌else◌, nat_le, slice_get, ◌==◌, arith, ◌<◌}
use Rattle.nk_base.specs.declared.status.Status.{Status}
use Rattle.nk_base.specs.declared.status.Target.{Target}
use Rattle.nk_base.specs.declared.status.RetargetError.{RetargetError}
use Rattle.nk_base.specs.declared.message.MainMsg.{MainMsg}
use Rattle.nk_base.specs.declared.message.BackMsg.{BackMsg}
use Rattle.nk_base.specs.declared.message.Entry.{Entry}
use Rattle.nk_plan.specs.declared.plan.ChannelPlan.{ChannelPlan}
use Rattle.nk_plan.specs.declared.plan.Reaction.{Reaction}
use Rattle.nk_plan.specs.declared.plan.Act.{Act}
use Rattle.nk_plan.specs.declared.plan.Control.{Control}
use Rattle.nk_plan.specs.declared.journal.ChildEntry.{ChildEntry}
use Rattle.nk_plan.specs.Plan.{hop_at, hop_pieces}
use Rattle.nk_plan.specs.Trace.{SeqTrace, Follows}
use Rattle.nk_base.specs.Status.{merged}
use Rattle.nk_base.specs.Queue.{Taken, Event, Over, Ended, same_target, is_target, runs_now, running_now, completed, cleared, taken}
use Rattle.nk_plan.specs.Journal.{cut, is_open, is_suspend, is_resume, is_finish, count_of, has_open}
use Rattle.nk_plan.specs.declared.plan.StartLane.{StartLane}
use Rattle.nk_plan.specs.declared.step.ChildStep.{ChildStep}
use Rattle.nk_plan.specs.Child.{main_events_of, note_main, step_main, back_hop, back_events_of, back_events, is_among, hold_back, step_back, of_hop, released_hold, step_release, child_step, ChildState, run_bytes, run_event, offer_event, offer_all, with_entry, call_suspend, call_resume, call_cancel, refusal, call_retarget, is_empty, call_break, perform_call, perform_control, step_act, step_verdict, flush_with, step_begin, runs_on, react_all, bytes_failure, prepend_cancel, fail_data, finish_event, step_finish, child_after}
use Rattle.nk_plan.specs.declared.event.ChildEvent.{ChildEvent}
use Rattle.nk_plan.specs.declared.event.ChildEvent.TheVariants.{Start, Bytes, Stop, Redirect1, Redirect3, Cancel}
use Rattle.nk_plan.specs.Event.{class_of}
use Rattle.nk_laws.proofs.Tools.{keeps_if, by_bool, or_zero, swap_if}
use Rattle.std.proofs.lemmas.Bool.Decides.{eqb_tells}
use Rattle.nk_plan.specs.Ending.{ends_in_stop, ending_by}
use Rattle.nk_plan.specs.declared.ends.Ending.{Ending}
use Rattle.nk_base.specs.declared.status.Target.TheVariants as target
use Rattle.nk_base.specs.declared.message.MainMsg.TheVariants as main
use Rattle.nk_base.specs.declared.message.BackMsg.TheVariants as back
use Rattle.nk_base.specs.declared.message.UpMsg.TheVariants as up
use Rattle.nk_base.specs.declared.message.Entry.TheVariants as shown
use Rattle.nk_plan.specs.declared.plan.Reaction.TheVariants as reaction
use Rattle.nk_plan.specs.declared.plan.Act.TheVariants as act
use Rattle.nk_plan.specs.declared.journal.ChildEntry.TheVariants as child
use Rattle.nk_plan.specs.declared.plan.StartLane.TheVariants as lane
use Rattle.nk_plan.specs.declared.step.ChildStep.TheVariants as step

abbrev pub journal_ending : ChannelPlan → ChildState → Ending
journal_ending c s = ending_by c s.journal s.trace s

-- What a journal tells of the calls of the page

count_then : (f : ChildEntry → Bool) (j : List ChildEntry) (e : ChildEntry) → count_of f (j ++ e ∷ []) ≡ (if f e then suc (count_of f j) else count_of f j)
count_then f [] e = refl
count_then f (d ∷ j) e = ap (λ t. if f d then suc t else t) (count_then f j e) ∙ swap_if (f d) (f e) (count_of f j)

pub or_false : (b : Bool) → (b || false) ≡ b
or_false true = refl
or_false false = refl

or_more : (a b d : Bool) → (a || (b || d)) ≡ ((a || b) || d)
or_more true b d = refl
or_more false b d = refl

open_then : (j : List ChildEntry) (e : ChildEntry) → has_open (j ++ e ∷ []) ≡ (has_open j || is_open e)
open_then [] e = or_false (is_open e)
open_then (d ∷ j) e = ap (λ t. is_open d || t) (open_then j e) ∙ or_more (is_open d) (has_open j) (is_open e)

-- whether a stop was shown
abbrev pub has_stop : List Entry → Bool
has_stop [] = false
has_stop (shown.Start code st ∷ t) = has_stop t
has_stop (shown.Bytes o p ∷ t) = has_stop t
has_stop (shown.Stop st trailers ∷ t) = true

pub stop_then : (t : List Entry) (e : Entry) → has_stop (t ++ e ∷ []) ≡ (has_stop t || has_stop (e ∷ []))
stop_then [] e = refl
stop_then (shown.Start code st ∷ t) e = stop_then t e
stop_then (shown.Bytes o p ∷ t) e = stop_then t e
stop_then (shown.Stop st trailers ∷ t) e = refl

pub record Tally (j : List ChildEntry) (opened : Bool) (suspends finished : ℕ) (trace : List Entry) (stopped : Bool) : Type 0 where
  pub open_is : has_open j ≡ opened
  pub suspends_is : suspends + count_of is_resume j ≡ count_of is_suspend j
  pub finished_is : count_of is_finish j ≡ finished
  pub stop_is : has_stop trace ≡ stopped

abbrev pub Tallied : ChildState → Type 0
Tallied s = Tally s.journal s.opened s.suspends s.finished s.trace s.stopped

plain_tally : (j : List ChildEntry) (e : ChildEntry) (o : Bool) (n f : ℕ) (t : List Entry) (b : Bool) → is_open e ≡ false → is_suspend e ≡ false → is_resume e ≡ false → is_finish e ≡ false
    → Tally j o n f t b → Tally (j ++ e ∷ []) o n f t b
plain_tally j e o n f t b eo es er ef k = record {
  open_is = rw (open_then j e, eo, or_false (has_open j)) k.open_is;
  suspends_is = rw (count_then is_resume j e, count_then is_suspend j e, es, er) k.suspends_is;
  finished_is = rw (count_then is_finish j e, ef) k.finished_is;
  stop_is = k.stop_is;
}

shown_tally : (j : List ChildEntry) (e : ChildEntry) (o : Bool) (n f : ℕ) (t : List Entry) (x : Entry) (b b' : Bool) → is_open e ≡ false → is_suspend e ≡ false → is_resume e ≡ false → is_finish e ≡ false
    → (b || has_stop (x ∷ [])) ≡ b' → Tally j o n f t b → Tally (j ++ e ∷ []) o n f (t ++ x ∷ []) b'
shown_tally j e o n f t x b b' eo es er ef s k =
    let k1 : Tally (j ++ e ∷ []) o n f t b = plain_tally j e o n f t b eo es er ef k in
    record {
      open_is = k1.open_is;
      suspends_is = k1.suspends_is;
      finished_is = k1.finished_is;
      stop_is = stop_then t x ∙ (ap (λ y. y || has_stop (x ∷ [])) k.stop_is ∙ s);
    }

pub or_true : (b : Bool) → (b || true) ≡ true
or_true true = refl
or_true false = refl

same_tally : (e : ChildEntry) (s : ChildState) → is_open e ≡ false → is_suspend e ≡ false → is_resume e ≡ false → is_finish e ≡ false → Tallied s → Tally (s.journal ++ e ∷ []) s.opened s.suspends s.finished s.trace s.stopped
same_tally e s eo es er ef k = plain_tally s.journal e s.opened s.suspends s.finished s.trace s.stopped eo es er ef k

bytes_tally : (s : ChildState) (t : Target) (at : ℕ) (p : List ℕ) (k : Option Status) (st : Status) → Tallied s → Tallied (run_bytes s t at p k st)
bytes_tally s t at p None st k = shown_tally s.journal _ s.opened s.suspends s.finished s.trace _ s.stopped s.stopped refl refl refl refl (or_false s.stopped) k
bytes_tally s t at p (Some q) st k = same_tally _ s refl refl refl refl k

run_tally : (c : ChannelPlan) (t : Target) (e : ChildEvent) (s : ChildState) → Tallied s → Tallied (run_event c t e s)
run_tally c t (Start code st) s k = shown_tally s.journal _ s.opened s.suspends s.finished s.trace _ s.stopped s.stopped refl refl refl refl (or_false s.stopped) k
run_tally c t (Bytes at p st) s k = bytes_tally s t at p (merged s.kept st) st k
run_tally c t (Stop st) s k = shown_tally s.journal _ s.opened s.suspends s.finished s.trace _ s.stopped true refl refl refl refl (or_true s.stopped) k
run_tally c t (Redirect1 i) s k = same_tally _ s refl refl refl refl k
run_tally c t (Redirect3 i) s k = same_tally _ s refl refl refl refl k
run_tally c t (Cancel st) s k = same_tally _ s refl refl refl refl k

offered_tally : (c : ChannelPlan) (here : Target) (e : ChildEvent) (s : ChildState) → Tallied s → Tallied (offer_event c here e s)
offered_tally c here e s k =
    keeps_if Tallied (runs_now class_of s.queue e here) (run_event c here e (record s { queue = running_now s.queue here })) _
    (λ r. run_tally c here e (record s { queue = running_now s.queue here }) k) (λ r. k)

offered_all_tally : (c : ChannelPlan) (here : Target) (es : List ChildEvent) (s : ChildState) → Tallied s → Tallied (offer_all c here es s)
offered_all_tally c here [] s k = k
offered_all_tally c here (e ∷ es) s k = offered_all_tally c here es (offer_event c here e s) (offered_tally c here e s k)

above_zero : (n : ℕ) → (n == 0) ≡ false → 0 < n
above_zero n e = elim (eqb_tells n 0) [
  | inl x ↦ let y : (n == 0) ≡ true = x.0 in absurd (cc)
  | inr x ↦ let ne : n ≡ 0 → ⊥ = x.1 in omega arith
]

suspend_tally : (s : ChildState) → Tallied s → Tallied (call_suspend s)
suspend_tally s k =
    let h : s.suspends + count_of is_resume s.journal ≡ count_of is_suspend s.journal = k.suspends_is in
    record {
      open_is = rw (open_then s.journal child.Suspend, or_false (has_open s.journal)) k.open_is;
      suspends_is = rw (count_then is_resume s.journal child.Suspend, count_then is_suspend s.journal child.Suspend) (omega arith);
      finished_is = rw (count_then is_finish s.journal child.Suspend) k.finished_is;
      stop_is = k.stop_is;
    }

resume_tally : (s : ChildState) → 0 < s.suspends → Tallied s → Tallied (call_resume s)
resume_tally s p k =
    let h : s.suspends + count_of is_resume s.journal ≡ count_of is_suspend s.journal = k.suspends_is in
    record {
      open_is = rw (open_then s.journal child.Resume, or_false (has_open s.journal)) k.open_is;
      suspends_is = rw (count_then is_resume s.journal child.Resume, count_then is_suspend s.journal child.Resume) (omega arith);
      finished_is = rw (count_then is_finish s.journal child.Resume) k.finished_is;
      stop_is = k.stop_is;
    }

retarget_tally : (o : Option RetargetError) (n : ℕ) (s : ChildState) → Tallied s → Tallied (call_retarget o n s)
retarget_tally (Some e) n s k = same_tally _ s refl refl refl refl k
retarget_tally None n s k = same_tally _ s refl refl refl refl k

performed_tally : (c : ChannelPlan) (x : Act) (s : ChildState) → Tallied s → Tallied (perform_call c x s)
performed_tally c act.Suspend s k = keeps_if Tallied s.stopped (with_entry child.NoEffect s) (call_suspend s) (λ r. same_tally _ s refl refl refl refl k) (λ r. suspend_tally s k)
performed_tally c act.Resume s k =
    keeps_if Tallied (s.stopped || (s.suspends == 0)) (with_entry child.NoEffect s) (call_resume s) (λ r. same_tally _ s refl refl refl refl k)
    (λ r. resume_tally s (above_zero s.suspends (or_zero s.stopped (s.suspends == 0) r)) k)
performed_tally c (act.Cancel st) s k =
    keeps_if Tallied (s.stopped || is_some s.kept) (with_entry child.NoEffect s) (call_cancel st s) (λ r. same_tally _ s refl refl refl refl k) (λ r. same_tally _ s refl refl refl refl k)
performed_tally c (act.Retarget n) s k = retarget_tally (refusal c s) n s k
performed_tally c (act.Break st) s k =
    let s1 : ChildState = record s { broken = true; kept = merged s.kept st; queue = cleared s.queue; journal = s.journal ++ child.Break st ∷ [] } in
    keeps_if Tallied (s.stopped || s.broken) (with_entry child.NoEffect s) (call_break c st s) (λ r. same_tally _ s refl refl refl refl k)
    (λ r. offered_all_tally c target.Main (if is_empty s.trace then Start 0 st ∷ Stop st ∷ [] else Stop st ∷ []) s1 (same_tally _ s refl refl refl refl k))

reacted_tally : (c : ChannelPlan) (rs : List Reaction) (s : ChildState) → Tallied s → Tallied (react_all c rs s)
reacted_tally c [] s k = k
reacted_tally c (reaction.StartRetarget n ∷ rs) s k = reacted_tally c rs (perform_call c (act.Retarget n) s) (performed_tally c (act.Retarget n) s k)
reacted_tally c (reaction.StartSuspend ∷ rs) s k = reacted_tally c rs (perform_call c act.Suspend s) (performed_tally c act.Suspend s k)
reacted_tally c (reaction.StartCancel st ∷ rs) s k = reacted_tally c rs (perform_call c (act.Cancel st) s) (performed_tally c (act.Cancel st) s k)
reacted_tally c (reaction.StartFail st ∷ rs) s k = reacted_tally c rs (perform_call c (act.Cancel st) s) (performed_tally c (act.Cancel st) s k)
reacted_tally c (reaction.BytesFail n st ∷ rs) s k = reacted_tally c rs s k

control_tally : (c : ChannelPlan) (o : Option Control) (s : ChildState) → Tallied s → Tallied (perform_control c o s)
control_tally c None s k = k
control_tally c (Some control) s k =
    let s1 : ChildState = record s { next = suc s.next } in
    keeps_if Tallied (nat_le control.after s.finished) (perform_call c control.act s1) s (λ r. performed_tally c control.act s1 k) (λ r. k)

acted_tally : (c : ChannelPlan) (s : ChildState) → Tallied s → Tallied (step_act c s)
acted_tally c s k =
    keeps_if Tallied c.closed s _ (λ r. k)
    (λ r. keeps_if Tallied s.opened (perform_control c (slice_get c.controls s.next) s) _ (λ q. control_tally c (slice_get c.controls s.next) s k)
    (λ q. record {
      open_is = open_then s.journal child.Open ∙ or_true (has_open s.journal);
      suspends_is = rw (count_then is_resume s.journal child.Open, count_then is_suspend s.journal child.Open) k.suspends_is;
      finished_is = rw (count_then is_finish s.journal child.Open) k.finished_is;
      stop_is = k.stop_is;
    }))

verdict_tally : (c : ChannelPlan) (o : Option ℕ) (s : ChildState) → Tallied s → Tallied (step_verdict c o s)
verdict_tally c None s k = k
verdict_tally c (Some i) s k = same_tally _ s refl refl refl refl k

taken_tally : (c : ChannelPlan) (t : Target) (x : Taken ChildEvent) (s : ChildState) → Tallied s → Tallied (flush_with c t x s)
taken_tally c t (Event e rest) s k = run_tally c t e (record s { queue = record s.queue { waiting = rest } }) k
taken_tally c t (Over v) s k = same_tally _ s refl refl refl refl k
taken_tally c t Ended s k = same_tally _ s refl refl refl refl k

begun_tally : (c : ChannelPlan) (t : Target) (s : ChildState) → Tallied s → Tallied (step_begin c t s)
begun_tally c t s k =
    keeps_if Tallied (runs_on s.running t) s _ (λ r. k)
    (λ r. keeps_if Tallied (is_target s.queue.flushing t) (flush_with c t (taken class_of s.queue t s.queue.waiting) s) _
    (λ q. taken_tally c t (taken class_of s.queue t s.queue.waiting) s k)
    (λ q. keeps_if Tallied _ (record s { queue = completed s.queue t; journal = s.journal ++ child.Complete t ∷ [] }) s (λ p. same_tally _ s refl refl refl refl k) (λ p. k)))

failed_tally : (c : ChannelPlan) (t : Target) (o : Option Status) (s : ChildState) → Tallied s → Tallied (fail_data c t o s)
failed_tally c t None s k = k
failed_tally c t (Some d) s k = keeps_if Tallied (same_target t target.Main) (perform_call c (act.Cancel d) s) (prepend_cancel d s) (λ r. performed_tally c (act.Cancel d) s k) (λ r. same_tally _ s refl refl refl refl k)

event_tally : (c : ChannelPlan) (t : Target) (e : ChildEvent) (s : ChildState) → Tallied s → Tallied (finish_event c t e s)
event_tally c t (Start code st) s k = reacted_tally c c.reactions s k
event_tally c t (Bytes at p st) s k = failed_tally c t (bytes_failure c.reactions s.data_begun) (record s { sent = s.sent ++ up.BytesRead (length p) ∷ [] }) k
event_tally c t (Stop st) s k = k
event_tally c t (Redirect1 i) s k = k
event_tally c t (Redirect3 i) s k = k
event_tally c t (Cancel st) s k = k

finished_tally : (c : ChannelPlan) (t : Target) (o : Option (Target × ChildEvent)) (s : ChildState) → Tallied s → Tallied (step_finish c t o s)
finished_tally c t None s k = k
finished_tally c t (Some (u, x)) s k =
    let s1 : ChildState = record s { running = None; finished = suc s.finished; journal = s.journal ++ child.Finish t ∷ [] } in
    let k1 : Tallied s1 = record {
      open_is = rw (open_then s.journal (child.Finish t), or_false (has_open s.journal)) k.open_is;
      suspends_is = rw (count_then is_resume s.journal (child.Finish t), count_then is_suspend s.journal (child.Finish t)) k.suspends_is;
      finished_is = count_then is_finish s.journal (child.Finish t) ∙ ap (λ n. suc n) k.finished_is;
      stop_is = k.stop_is;
    } in
    keeps_if Tallied (same_target u t) (finish_event c t x s1) s (λ r. event_tally c t x s1 k1) (λ r. k)

reported_tally : (l : StartLane) (m : MainMsg) (s : ChildState) → Tallied s → Tallied (note_main l m s)
reported_tally l (main.Start h st head) s k = k
reported_tally l (main.FailedOpen h st) s k = k
reported_tally l (main.Redirect1 h code) s k = k
reported_tally lane.Main (main.Redirect3 h) s k = k
reported_tally lane.Back (main.Redirect3 h) s k = k

passed_tally : (c : ChannelPlan) (m : BackMsg) (s : ChildState) → Tallied s → Tallied (hold_back c m s)
passed_tally c m s k = keeps_if Tallied (is_among s.hold.released (back_hop m)) (offer_all c target.Back (back_events_of m) s) _ (λ r. offered_all_tally c target.Back (back_events_of m) s k) (λ r. k)

back_tally : (c : ChannelPlan) (m : BackMsg) (s : ChildState) → Tallied s → Tallied (step_back c m s)
back_tally c (back.StartSent h) s k = k
back_tally c (back.Start h st head) s k = passed_tally c (back.Start h st head) s k
back_tally c (back.Bytes h st o p) s k = passed_tally c (back.Bytes h st o p) s k
back_tally c (back.Stop h st trailers) s k = passed_tally c (back.Stop h st trailers) s k

release_tally : (c : ChannelPlan) (o : Option ℕ) (s : ChildState) → Tallied s → Tallied (step_release c o s)
release_tally c None s k = k
release_tally c (Some h) s k =
    let s1 : ChildState = record s { hold = released_hold h s.hold; journal = s.journal ++ child.Release (length (of_hop h s.hold.kept)) ∷ [] } in
    offered_all_tally c target.Back (back_events (of_hop h s.hold.kept)) s1 (same_tally _ s refl refl refl refl k)

step_tally : (c : ChannelPlan) (x : ChildStep) (s : ChildState) → Tallied s → Tallied (child_step c x s)
step_tally c step.Act s k = acted_tally c s k
step_tally c step.Verdict s k = keeps_if Tallied s.broken s (step_verdict c s.question s) (λ r. k) (λ r. verdict_tally c s.question s k)
step_tally c (step.Main m) s k =
    keeps_if Tallied s.broken s (step_main c m (with_entry (child.TookMain m) s)) (λ r. k)
    (λ r. reported_tally c.start m (offer_all c target.Main (main_events_of m) (with_entry (child.TookMain m) s)) (offered_all_tally c target.Main (main_events_of m) (with_entry (child.TookMain m) s) (same_tally _ s refl refl refl refl k)))
step_tally c (step.Back m) s k = keeps_if Tallied s.broken s (step_back c m (with_entry (child.TookBack m) s)) (λ r. k) (λ r. back_tally c m (with_entry (child.TookBack m) s) (same_tally _ s refl refl refl refl k))
step_tally c step.Release s k = keeps_if Tallied s.broken s (step_release c s.hold.report s) (λ r. k) (λ r. release_tally c s.hold.report s k)
step_tally c (step.Begin t) s k = begun_tally c t s k
step_tally c (step.Finish t) s k = finished_tally c t s.running s k

pub child_tally : (c : ChannelPlan) (steps : List ChildStep) → Tallied (child_after c steps)
child_tally c [] = record { open_is = refl; suspends_is = refl; finished_is = refl; stop_is = refl }
child_tally c (x ∷ xs) = step_tally c x (child_after c xs) (child_tally c xs)

-- a trace that has a stop ends in it

last_of : (x y : Entry) (t : List Entry) → ends_in_stop (y ∷ t) ≡ true → ends_in_stop (x ∷ y ∷ t) ≡ true
last_of (shown.Start code s) y t h = h
last_of (shown.Bytes o p) y t h = h
last_of (shown.Stop s trailers) y t h = h

follows_stop : (c : ChannelPlan) (f : ℕ) (q : Option Status) (o : ℕ) (ps : List (List ℕ)) (x : Entry) (t : List Entry) → Follows c f q o ps t → has_stop t ≡ true → ends_in_stop (x ∷ t) ≡ true
follows_stop c f q o ps x [] h e = cc
follows_stop c f q o ps x (shown.Start code s ∷ t) h e = absurd h
follows_stop c f q o [] x (shown.Bytes at p ∷ t) h e = absurd h
follows_stop c f q o (y ∷ ps) x (shown.Bytes at p ∷ t) h e = last_of x (shown.Bytes at p) t (follows_stop c f q (o + length y) ps (shown.Bytes at p) t h.2 e)
follows_stop c f q o ps x (shown.Stop s trailers ∷ t) h e = last_of x (shown.Stop s trailers) t (rw h.0 refl)

ends_has : (t : List Entry) → ends_in_stop t ≡ true → has_stop t ≡ true
ends_has [] e = cc
ends_has (shown.Stop s trailers ∷ t) e = refl
ends_has (shown.Start code s ∷ []) e = cc
ends_has (shown.Start code s ∷ d ∷ t) e = ends_has (d ∷ t) e
ends_has (shown.Bytes o p ∷ []) e = cc
ends_has (shown.Bytes o p ∷ d ∷ t) e = ends_has (d ∷ t) e

trace_ends : (c : ChannelPlan) (f : ℕ) (q : Option Status) (cut : Bool) (t : List Entry) → SeqTrace c f q cut t → has_stop t ≡ true → ends_in_stop t ≡ true
trace_ends c f q cut [] h e = cc
trace_ends c f q cut (shown.Bytes o p ∷ t) h e = absurd h
trace_ends c f q cut (shown.Stop s trailers ∷ t) h e = absurd h
trace_ends c f q cut (shown.Start code s ∷ t) h e = follows_stop c f q 0 (hop_pieces (hop_at c f)) (shown.Start code s) t h.2 e

pub stop_last : (c : ChannelPlan) (f : ℕ) (q : Option Status) (cut : Bool) (t : List Entry) → SeqTrace c f q cut t → has_stop t ≡ ends_in_stop t
stop_last c f q cut t h = by_bool (has_stop t) (λ e. e ∙ sym (trace_ends c f q cut t h e)) (λ e. by_bool (ends_in_stop t) (λ d. let x : has_stop t ≡ true = ends_has t d in absurd (cc)) (λ d. e ∙ sym d))
