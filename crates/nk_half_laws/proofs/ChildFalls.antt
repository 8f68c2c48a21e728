-- Each enabled step of a child that takes no message gives up work, or leaves it as it is and lowers the queue's number.
use Rattle.std.proofs.Common.{ℕ, suc, ◌≡◌, ◌+◌, ◌-◌, ◌*◌, ◌<◌, ◌≤◌, ◌⊎◌, inl, inr, refl, sym, ap, subst, List, [], ◌∷◌, ◌++◌, length, length-append, length-set, Bool, true, false, not, ◌&&◌, ◌||◌, Option, Some, None, is_some, if◌then◌else◌, nat_lt, nat_le, ◌==◌, slice_get, slice_index, arith, ltb-true}
use Rattle.nk_base.specs.declared.status.Target.{Target}
use Rattle.nk_base.specs.declared.message.BackMsg.{BackMsg}
use Rattle.nk_base.specs.declared.message.BackMsg.TheVariants as back
use Rattle.nk_base.specs.declared.message.UpMsg.TheVariants as up
use Rattle.nk_base.specs.Queue.{Queue, Taken, Event, Over, Ended, has_some, target_number, target_in, same_target, is_target, raised, completed, complete_answer, lowered, taken}
use Rattle.nk_plan.specs.declared.plan.ChannelPlan.{ChannelPlan}
use Rattle.nk_plan.specs.declared.plan.Control.{Control}
use Rattle.nk_plan.specs.declared.event.ChildEvent.{ChildEvent}
use Rattle.nk_plan.specs.declared.journal.ChildEntry.TheVariants as child
use Rattle.nk_plan.specs.declared.step.ChildStep.{ChildStep}
use Rattle.nk_plan.specs.declared.step.ChildStep.TheVariants as step
use Rattle.nk_plan.specs.Event.{class_of}
use Rattle.nk_plan.specs.Child.{ChildState, is_due, perform_call, perform_control, step_act, verdict_status, step_verdict, back_events, of_hop, not_of_hop, released_hold, step_release, flush_with, runs_on, step_begin, finish_event, step_finish, child_step}
use Rattle.nk_plan.specs.Enabled.{child_enabled}
use Rattle.nk_base.specs.declared.status.Target.TheVariants as target
use Rattle.nk_half_laws.specs.Work.{event_work, flush_work, posted_work, running_work, question_work, report_work, calls_work, first_runs_on, flush_number, posted_number, queue_number}
use Rattle.nk_half_laws.proofs.Tools.{keeps_if, before_end}
use Rattle.nk_half_laws.proofs.QueueFalls.{raised_work, lowered_work, flush_is, over_falls, completed_falls}
use Rattle.nk_half_laws.proofs.FallRows.{Row, row, flush_then, row_then, run_cost, costs_less, run_row, offers_row, call_cost, call_most, call_row, finished_row}
use Rattle.nk_half_laws.specs.Sums.{sum_of}
use Rattle.nk_half_laws.proofs.Sums.{split_length}

-- work is given up, or the queue's number falls
abbrev pub Sinks : ChannelPlan → ChildState → ChildState → Type 0
Sinks c s s' =
    Row c 1 0 s s' ⊎ (Row c 0 0 s s' × (s'.sent ≡ s.sent) × (s'.trace ≡ s.trace) × (queue_number s'.queue < queue_number s.queue))

-- The tests of the rows

act_if : (closed opened due : Bool) (P : ChildState → Type 0) (s x y : ChildState) → (not closed && (not opened || due)) ≡ true
    → (due ≡ true → P x) → (opened ≡ false → P y) → P (if closed then s else (if opened then x else y))
act_if true opened due P s x y e f g = cc
act_if false false due P s x y e f g = g refl
act_if false true due P s x y e f g = f e

broken_if : (broken some : Bool) (P : ChildState → Type 0) (s x : ChildState) → (not broken && some) ≡ true → (some ≡ true → P x)
    → P (if broken then s else x)
broken_if true some P s x e f = cc
broken_if false some P s x e f = f e

begin_if : (runs flushes posted : Bool) (P : ChildState → Type 0) (s x y : ChildState) → (not runs && (flushes || posted)) ≡ true
    → (flushes ≡ true → P x) → (posted ≡ true → P y) → P (if runs then s else (if flushes then x else (if posted then y else s)))
begin_if true flushes posted P s x y e f g = cc
begin_if false true posted P s x y e f g = f refl
begin_if false false true P s x y e f g = g refl
begin_if false false false P s x y e f g = cc

true_if : (b : Bool) (P : ChildState → Type 0) (x y : ChildState) → b ≡ true → P x → P (if b then x else y)
true_if true P x y e p = p
true_if false P x y e p = cc

-- The page's next call

call_taken : (c : ChannelPlan) (opened : Bool) (n : ℕ) → n < length c.controls → calls_work c opened (suc n) + 269 ≤ calls_work c opened n
call_taken c false n l = omega arith
call_taken c true n l = omega arith

control_falls : (c : ChannelPlan) (o : Option Control) (s : ChildState) → slice_get c.controls s.next ≡ o → is_due s o ≡ true
    → Row c 1 0 s (perform_control c o s)
control_falls c None s e d = cc
control_falls c (Some control) s e d =
    let s1 : ChildState = record s { next = suc s.next } in
    let l : s.next < length c.controls = before_end c.controls s.next control e in
    let t : calls_work c s.opened (suc s.next) + 269 ≤ calls_work c s.opened s.next = call_taken c s.opened s.next l in
    let a : Row c 269 0 s s1 = record { less = omega arith; posted = refl } in
    let m : call_cost control.act ≤ 268 = call_most control.act in
    true_if (nat_le control.after s.finished) (Row c 1 0 s) (perform_call c control.act s1) s d
    (row_then 1 0 a (call_row c control.act s1) (omega arith))

open_falls : (c : ChannelPlan) (s : ChildState) → s.opened ≡ false
    → Row c 1 0 s (record s { opened = true; sent = s.sent ++ up.Open ∷ []; journal = s.journal ++ child.Open ∷ [] })
open_falls c s e =
    let n : length (s.sent ++ up.Open ∷ []) ≡ length s.sent + 1 = length-append s.sent (up.Open ∷ []) in
    let k : calls_work c s.opened s.next ≡ calls_work c false s.next = ap (λ b. calls_work c b s.next) e in
    row c 1 0 s _ (omega arith) refl

act_falls : (c : ChannelPlan) (s : ChildState) → child_enabled c step.Act s ≡ true → Row c 1 0 s (step_act c s)
act_falls c s e =
    act_if c.closed s.opened (is_due s (slice_get c.controls s.next)) (Row c 1 0 s) s
    (perform_control c (slice_get c.controls s.next) s) _ e
    (λ d. control_falls c (slice_get c.controls s.next) s refl d) (λ o. open_falls c s o)

-- The verdict, and the release

verdict_falls : (c : ChannelPlan) (o : Option ℕ) (s : ChildState) → s.question ≡ o → is_some o ≡ true → Row c 1 0 s (step_verdict c o s)
verdict_falls c None s q e = cc
verdict_falls c (Some h) s q e =
    let m = up.Verify h (verdict_status c s.kept h) in
    let n : length (s.sent ++ m ∷ []) ≡ length s.sent + 1 = length-append s.sent (m ∷ []) in
    let k : question_work s.question ≡ 3 = ap question_work q in
    row c 1 0 s _ (omega arith) refl

few_events : (ms : List BackMsg) → length (back_events ms) ≤ length ms
few_events [] = omega arith
few_events (back.StartSent h ∷ ms) = let f : length (back_events ms) ≤ length ms = few_events ms in omega arith
few_events (back.Start h st head ∷ ms) = let f : length (back_events ms) ≤ length ms = few_events ms in omega arith
few_events (back.Bytes h st o p ∷ ms) = let f : length (back_events ms) ≤ length ms = few_events ms in omega arith
few_events (back.Stop h st trailers ∷ ms) = let f : length (back_events ms) ≤ length ms = few_events ms in omega arith

release_falls : (c : ChannelPlan) (o : Option ℕ) (s : ChildState) → s.hold.report ≡ o → is_some o ≡ true → Row c 1 0 s (step_release c o s)
release_falls c None s q e = cc
release_falls c (Some h) s q e =
    let ms : List BackMsg = of_hop h s.hold.kept in
    let s1 : ChildState = record s { hold = released_hold h s.hold; journal = s.journal ++ child.Release (length ms) ∷ [] } in
    let k : report_work s.hold.report ≡ 1 = ap report_work q in
    let all : length (of_hop h s.hold.kept) + length (not_of_hop h s.hold.kept) ≡ length s.hold.kept = split_length h s.hold.kept in
    let a : Row c (134 * length ms + 1) 0 s s1 = row c (134 * length ms + 1) 0 s s1 (omega arith) refl in
    let f : length (back_events ms) ≤ length ms = few_events ms in
    row_then 1 0 a (offers_row c target.Back (back_events ms) s1) (omega arith)

-- A target's turn

ended_sinks : (c : ChannelPlan) (t : Target) (s : ChildState) → is_target s.queue.flushing t ≡ true → Sinks c s (flush_with c t Ended s)
ended_sinks c t s e =
    let f : flush_work s.queue.flushing ≡ 1 = flush_is s.queue.flushing t e in
    inl (row c 1 0 s _ (omega arith) refl)

over_sinks : (c : ChannelPlan) (t u : Target) (s : ChildState) → is_target s.queue.flushing t ≡ true → length s.queue.posted ≡ 18
    → first_runs_on s.queue.data_target s.queue.waiting ≡ Some u → same_target u t ≡ false → Sinks c s (flush_with c t (Over u) s)
over_sinks c t u s e l f d =
    let p : List ℕ = s.queue.posted in
    let h : posted_number (Some u) 0 (raised p u) < flush_number (Some u) s.queue.flushing + posted_number (Some u) 0 p =
    over_falls u t s.queue.flushing p l d e in
    let k : flush_work s.queue.flushing ≡ 1 = flush_is s.queue.flushing t e in
    let m : posted_work (raised p u) ≤ posted_work p + 1 = raised_work p (target_number u) in
    let n : 0 + posted_number (Some u) 0 (raised p u) < flush_number (Some u) s.queue.flushing + posted_number (Some u) 0 p = omega arith in
    inr (
      row c 0 0 s _ (omega arith) (length-set p (target_number u) (slice_index p (target_number u) + 1)),
      refl,
      refl,
      subst (λ x. 0 + posted_number x 0 (raised p u) < flush_number x s.queue.flushing + posted_number x 0 p) (sym f) n,
    )

event_sinks : (c : ChannelPlan) (t : Target) (e : ChildEvent) (rest : List ChildEvent) (s : ChildState) → s.queue.waiting ≡ e ∷ rest
    → Sinks c s (flush_with c t (Event e rest) s)
event_sinks c t e rest s w =
    let s1 : ChildState = record s { queue = record s.queue { waiting = rest } } in
    let k : sum_of event_work s.queue.waiting ≡ event_work e + sum_of event_work rest = ap (sum_of event_work) w in
    let a : Row c (event_work e) 0 s s1 = record { less = omega arith; posted = refl } in
    let m : event_work e ≡ run_cost e + 1 = costs_less e in
    inl (row_then 1 0 a (run_row c t e s1) (omega arith))

flush_sinks : (c : ChannelPlan) (t : Target) (w : List ChildEvent) (s : ChildState) → s.queue.waiting ≡ w
    → is_target s.queue.flushing t ≡ true → length s.queue.posted ≡ 18
    → Sinks c s (flush_with c t (taken class_of s.queue t w) s)
flush_sinks c t [] s w e l = ended_sinks c t s e
flush_sinks c t (x ∷ xs) s w e l =
    let u : Target = target_in s.queue.data_target (class_of x) in
    let f : first_runs_on s.queue.data_target s.queue.waiting ≡ Some u = ap (λ v. first_runs_on s.queue.data_target v) w in
    let P : Taken ChildEvent → Type 0 = λ y. Sinks c s (flush_with c t y s) in
    keeps_if P (s.queue.suspended || nat_lt 0 s.queue.forced) Ended (if same_target u t then Event x xs else Over u)
    (λ r. ended_sinks c t s e)
    (λ r. keeps_if P (same_target u t) (Event x xs) (Over u) (λ q. event_sinks c t x xs s w) (λ q. over_sinks c t u s e l f q))

-- a flush begins only where none is under way
none_flushes : (a b : Bool) (o : Option Target) (d : Bool) → (a && (b && (not (is_some o) && d))) ≡ true → o ≡ None
none_flushes a b None d e = refl
none_flushes false b (Some t) d e = cc
none_flushes true false (Some t) d e = cc
none_flushes true true (Some t) d e = cc

complete_sinks : (c : ChannelPlan) (t : Target) (s : ChildState) → nat_lt 0 (slice_index s.queue.posted (target_number t)) ≡ true
    → Sinks c s (record s { queue = completed s.queue t; journal = s.journal ++ child.Complete t ∷ [] })
complete_sinks c t s e =
    let q : Queue ChildEvent = s.queue in
    let l : 0 < slice_index q.posted (target_number t) = ltb-true 0 (slice_index q.posted (target_number t)) e in
    let m : posted_work (lowered q.posted t) + 1 ≡ posted_work q.posted = lowered_work q.posted (target_number t) l in
    let f : flush_work (completed q t).flushing ≤ flush_work q.flushing + 1 = flush_then (complete_answer q) t q.flushing in
    inr (
      row c 0 0 s _ (omega arith) (length-set q.posted (target_number t) (slice_index q.posted (target_number t) - 1)),
      refl,
      refl,
      completed_falls (first_runs_on q.data_target q.waiting) t (complete_answer q) q.flushing q.posted l
          (λ b. none_flushes (q.count == 0) (q.forced == 0) q.flushing (not false && has_some q.waiting) b),
    )

begin_sinks : (c : ChannelPlan) (t : Target) (s : ChildState) → length s.queue.posted ≡ 18 → child_enabled c (step.Begin t) s ≡ true
    → Sinks c s (step_begin c t s)
begin_sinks c t s l e =
    begin_if (runs_on s.running t) (is_target s.queue.flushing t) (nat_lt 0 (slice_index s.queue.posted (target_number t))) (Sinks c s) s
    (flush_with c t (taken class_of s.queue t s.queue.waiting) s) _ e
    (λ f. flush_sinks c t s.queue.waiting s refl f l) (λ p. complete_sinks c t s p)

-- A callback returns

finish_falls : (c : ChannelPlan) (t : Target) (o : Option (Target × ChildEvent)) (s : ChildState) → length c.reactions ≤ 64
    → s.running ≡ o → runs_on o t ≡ true → Row c 1 0 s (step_finish c t o s)
finish_falls c t None s l q e = cc
finish_falls c t (Some r) s l q e =
    let s1 : ChildState = record s { running = None; finished = suc s.finished; journal = s.journal ++ child.Finish t ∷ [] } in
    let k : running_work s.running ≡ 130 = ap running_work q in
    let a : Row c 130 0 s s1 = row c 130 0 s s1 (omega arith) refl in
    true_if (same_target r.0 t) (Row c 1 0 s) (finish_event c t r.1 s1) s e (row_then 1 0 a (finished_row c t r.1 s1 l) (omega arith))

-- All steps of a child but those that take a message

abbrev pub TakesNone : ChildStep → Type 0
TakesNone step.Act = Unit {0}
TakesNone step.Verdict = Unit {0}
TakesNone (step.Main m) = ⊥
TakesNone (step.Back m) = ⊥
TakesNone step.Release = Unit {0}
TakesNone (step.Begin t) = Unit {0}
TakesNone (step.Finish t) = Unit {0}

pub child_sinks : (c : ChannelPlan) (x : ChildStep) (s : ChildState) → TakesNone x → length c.reactions ≤ 64 → length s.queue.posted ≡ 18
    → child_enabled c x s ≡ true → Sinks c s (child_step c x s)
child_sinks c step.Act s n l p e = inl (act_falls c s e)
child_sinks c step.Verdict s n l p e =
    inl (broken_if s.broken (is_some s.question) (Row c 1 0 s) s (step_verdict c s.question s) e (λ q. verdict_falls c s.question s refl q))
child_sinks c (step.Main m) s n l p e = absurd n
child_sinks c (step.Back m) s n l p e = absurd n
child_sinks c step.Release s n l p e =
    inl (broken_if s.broken (is_some s.hold.report) (Row c 1 0 s) s (step_release c s.hold.report s) e
    (λ q. release_falls c s.hold.report s refl q))
child_sinks c (step.Begin t) s n l p e = begin_sinks c t s p e
child_sinks c (step.Finish t) s n l p e = inl (finish_falls c t s.running s l refl e)
