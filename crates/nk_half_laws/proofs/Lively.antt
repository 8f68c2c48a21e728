-- The rows of the child's table keep the queue from being forgotten.
use Rattle.std.proofs.Common.{ℕ, zero, suc, ◌≡◌, ◌+◌, ◌≤◌, refl, sym, ◌∙◌, ap, subst, List, [], ◌∷◌, ◌++◌, length, Bool, true, false, not, ◌&&◌, ◌||◌, Option, Some, None, is_some, ◌⊎◌, inl, inr, if◌then◌else◌, nat_lt, nat_le, slice_get, slice_index, ◌==◌, arith, ◌<◌, ◌-◌, replicate}
use Rattle.nk_base.specs.declared.status.Status.{Status}
use Rattle.nk_base.specs.declared.status.Target.{Target}
use Rattle.nk_base.specs.declared.status.RetargetError.{RetargetError}
use Rattle.nk_base.specs.declared.message.MainMsg.{MainMsg}
use Rattle.nk_base.specs.declared.message.BackMsg.{BackMsg}
use Rattle.nk_plan.specs.declared.plan.ChannelPlan.{ChannelPlan}
use Rattle.nk_plan.specs.declared.plan.Reaction.{Reaction}
use Rattle.nk_plan.specs.declared.plan.Act.{Act}
use Rattle.nk_plan.specs.declared.plan.Control.{Control}
use Rattle.nk_base.specs.Status.{ok, merged}
use Rattle.nk_plan.specs.Accepted.{IsGoodAct}
use Rattle.nk_base.specs.Queue.{Queue, Taken, Event, Over, Ended, same_target, is_target, target_in, runs_now, is_busy, has_some, running_now, appended, suspended_once, resumed_once, completed, forced_once, prepended, cleared, taken, flush_ended, handed_over, target_number}
use Rattle.nk_plan.specs.declared.plan.StartLane.{StartLane}
use Rattle.nk_plan.specs.declared.step.ChildStep.{ChildStep}
use Rattle.nk_plan.specs.Child.{main_events_of, note_main, step_main, back_hop, back_events_of, back_events, is_among, hold_back, step_back, of_hop, released_hold, step_release, child_step, ChildState, run_bytes, run_event, offer_event, offer_all, with_entry, call_suspend, call_resume, call_cancel, refusal, call_retarget, is_empty, call_break, perform_call, perform_control, step_act, step_verdict, flush_with, step_begin, runs_on, react_all, bytes_failure, prepend_cancel, fail_data, end_forced, finish_event, step_finish, child_after}
use Rattle.nk_plan.specs.declared.event.ChildEvent.{ChildEvent}
use Rattle.nk_plan.specs.declared.event.ChildEvent.TheVariants.{Start, Bytes, Stop, Redirect1, Redirect3, Cancel}
use Rattle.nk_plan.specs.Event.{class_of}
use borrow.Author.Tests.{ltb-true}
use Rattle.nk_base.specs.declared.status.Target.TheVariants as target
use Rattle.nk_base.specs.declared.message.MainMsg.TheVariants as main
use Rattle.nk_base.specs.declared.message.BackMsg.TheVariants as back
use Rattle.nk_base.specs.declared.message.UpMsg.TheVariants as up
use Rattle.nk_plan.specs.declared.plan.Reaction.TheVariants as reaction
use Rattle.nk_plan.specs.declared.plan.Act.TheVariants as act
use Rattle.nk_plan.specs.declared.journal.ChildEntry.TheVariants as child
use Rattle.nk_plan.specs.declared.plan.StartLane.TheVariants as lane
use Rattle.nk_plan.specs.declared.step.ChildStep.TheVariants as step
use Rattle.nk_half_laws.specs.Settled.{forced_by, FlushedBy}
use Rattle.nk_half_laws.proofs.Targets.{same_self, same_is}
use Rattle.nk_half_laws.proofs.Tools.{keeps_if, second_false}
use Rattle.nk_half_laws.proofs.LivelyQueue.{same_number, target_some, FlushOk, Lively, IsLively, class_ok, appended_lively, suspended_lively, resumed_lively, prepended_lively, cleared_lively, retargeted_lively, idle_lively, unforced_lively, above, completed_lively, ended_lively, over_lively, flushing_lively}
use Rattle.nk_half_laws.proofs.Plans.{GoodReactions, GoodPlan}

-- a child whose queue is lively, with this forced count

abbrev LivelyAt : ℕ → Option (Target × ChildEvent) → ChildState → Type 0
LivelyAt f r s = Lively s.queue f r s.suspends × (s.running ≡ r)

lively_at : (r : Option (Target × ChildEvent)) (s : ChildState) → LivelyAt (forced_by r) r s → IsLively s
lively_at r s (l, e) = subst (λ (x : Option (Target × ChildEvent)). Lively s.queue (forced_by x) x s.suspends) (sym e) l

forced_lively : (q : Queue ChildEvent) (t : Target) (e : ChildEvent) (n : ℕ) → is_target q.flushing t ≡ true → Lively q 0 None n
    → Lively (forced_once q) 1 (Some (t, e)) n
forced_lively q t e n h l = record {
  count_is = l.count_is;
  forced_is = ap (λ x. x + 1) l.forced_is;
  flush_is = h;
  alive = inr (inl (target_some q.flushing t h));
  flagged = l.flagged;
  tasks = l.tasks;
  flush_ok = l.flush_ok;
}

plain_lively : (q : Queue ChildEvent) (t : Target) (e : ChildEvent) (n : ℕ) → is_target q.flushing t ≡ true → Lively q 0 None n
    → Lively q 0 (Some (t, e)) n
plain_lively q t e n h l = record {
  count_is = l.count_is;
  forced_is = l.forced_is;
  flush_is = h;
  alive = l.alive;
  flagged = l.flagged;
  tasks = l.tasks;
  flush_ok = l.flush_ok;
}

at_none : (q : Queue ChildEvent) (r : Option (Target × ChildEvent)) (n : ℕ) → r ≡ None → Lively q 0 None n → Lively q (forced_by r) r n
at_none q r n e l = rw e l

bytes_lively : (s : ChildState) (t : Target) (at : ℕ) (p : List ℕ) (k : Option Status) (st : Status) → s.running ≡ None
    → is_target s.queue.flushing t ≡ true → Lively s.queue 0 None s.suspends → IsLively (run_bytes s t at p k st)
bytes_lively s t at p None st e h l = plain_lively s.queue t (Bytes at p st) s.suspends h l
bytes_lively s t at p (Some q) st e h l = at_none s.queue s.running s.suspends e l

run_lively : (c : ChannelPlan) (t : Target) (e : ChildEvent) (s : ChildState) → s.running ≡ None → is_target s.queue.flushing t ≡ true
    → Lively s.queue 0 None s.suspends → IsLively (run_event c t e s)
run_lively c t (Start code st) s e h l = forced_lively s.queue t (Start code st) s.suspends h l
run_lively c t (Bytes at p st) s e h l = bytes_lively s t at p (merged s.kept st) st e h l
run_lively c t (Stop st) s e h l = forced_lively s.queue t (Stop st) s.suspends h l
run_lively c t (Redirect1 i) s e h l = at_none s.queue s.running s.suspends e l
run_lively c t (Redirect3 i) s e h l = at_none s.queue s.running s.suspends e l
run_lively c t (Cancel st) s e h l = at_none s.queue s.running s.suspends e l

pub nothing_runs : (r : Option (Target × ChildEvent)) (f : Option Target) → FlushedBy r f → is_some f ≡ false → r ≡ None
nothing_runs None f h e = refl
nothing_runs (Some x) f h e = let z : is_some f ≡ true = target_some f x.0 h in absurd (cc)

pub no_flush : (a b d e g : Bool) → (not (a || (b || (d || e))) && g) ≡ true → d ≡ false
no_flush true b d e g h = cc
no_flush false true d e g h = cc
no_flush false false true e g h = cc
no_flush false false false true g h = cc
no_flush false false false false g h = refl

and_last : (a b : Bool) → (a && b) ≡ true → b ≡ true
and_last true b h = h
and_last false b h = cc

pub offered_lively : (c : ChannelPlan) (here : Target) (e : ChildEvent) (s : ChildState) → IsLively s → IsLively (offer_event c here e s)
offered_lively c here e s l =
    let s1 : ChildState = record s { queue = running_now s.queue here } in
    keeps_if IsLively (runs_now class_of s.queue e here) (run_event c here e s1) (record s { queue = appended class_of s.queue e })
    (λ r.
    let none : is_some s.queue.flushing ≡ false =
    no_flush (nat_lt 0 s.queue.forced) s.queue.suspended (is_some s.queue.flushing) (has_some s.queue.waiting)
    (same_target (target_in s.queue.data_target (class_of e)) here) r in
    let idle : s.running ≡ None = nothing_runs s.running s.queue.flushing l.flush_is none in
    let l0 : Lively s.queue 0 None s.suspends =
    subst (λ (x : Option (Target × ChildEvent)). Lively s.queue (forced_by x) x s.suspends) idle l in
    let same : target_number (target_in s.queue.data_target (class_of e)) ≡ target_number here =
    same_number (target_in s.queue.data_target (class_of e)) here
    (and_last (not (is_busy s.queue)) (same_target (target_in s.queue.data_target (class_of e)) here) r) in
    let in_range : target_number here < 17 = rw same at (class_ok s.queue.data_target e l.tasks.delivers) in
    run_lively c here e s1 idle (same_self here) (flushing_lively 0 s.queue s.suspends s.queue.waiting here in_range l0))
    (λ r. appended_lively (forced_by s.running) s.queue e s.running s.suspends l)

offered_all_lively : (c : ChannelPlan) (here : Target) (es : List ChildEvent) (s : ChildState) → IsLively s
    → IsLively (offer_all c here es s)
offered_all_lively c here [] s l = l
offered_all_lively c here (e ∷ es) s l = offered_all_lively c here es (offer_event c here e s) (offered_lively c here e s l)

retarget_lively : (f : ℕ) (r : Option (Target × ChildEvent)) (o : Option RetargetError) (n : ℕ) (s : ChildState) → (1 ≤ n) × (n ≤ 16)
    → LivelyAt f r s → LivelyAt f r (call_retarget o n s)
retarget_lively f r (Some e) n s p l = l
retarget_lively f r None n s p l = (retargeted_lively f s.queue r s.suspends n p l.0, l.1)

-- the worker of a call is in range
abbrev RangeOk : Act → Type 0
RangeOk act.Suspend = Unit {0}
RangeOk act.Resume = Unit {0}
RangeOk (act.Cancel st) = Unit {0}
RangeOk (act.Retarget n) = (1 ≤ n) × (n ≤ 16)
RangeOk (act.Break st) = ⊥

performed_lively : (c : ChannelPlan) (f : ℕ) (r : Option (Target × ChildEvent)) (x : Act) (s : ChildState) → RangeOk x → LivelyAt f r s
    → LivelyAt f r (perform_call c x s)
performed_lively c f r act.Suspend s p l =
    keeps_if (LivelyAt f r) s.stopped (with_entry child.NoEffect s) (call_suspend s) (λ y. l)
    (λ y. (suspended_lively f s.queue r s.suspends l.0, l.1))
performed_lively c f r act.Resume s p l =
    keeps_if (LivelyAt f r) (s.stopped || (s.suspends == 0)) (with_entry child.NoEffect s) (call_resume s) (λ y. l)
    (λ y. (resumed_lively f s.queue r s.suspends (above s.suspends (second_false s.stopped (s.suspends == 0) y)) l.0, l.1))
performed_lively c f r (act.Cancel st) s p l =
    keeps_if (LivelyAt f r) (s.stopped || is_some s.kept) (with_entry child.NoEffect s) (call_cancel st s) (λ y. l) (λ y. l)
performed_lively c f r (act.Retarget n) s p l = retarget_lively f r (refusal c s) n s p l
performed_lively c f r (act.Break st) s p l = absurd p

broken_lively : (c : ChannelPlan) (st : Status) (s : ChildState) → IsLively s → IsLively (perform_call c (act.Break st) s)
broken_lively c st s l =
    let s1 : ChildState =
    record s { broken = true; kept = merged s.kept st; queue = cleared s.queue; journal = s.journal ++ child.Break st ∷ [] } in
    keeps_if IsLively (s.stopped || s.broken) (with_entry child.NoEffect s) (call_break c st s) (λ r. l)
    (λ r. offered_all_lively c target.Main (if is_empty s.trace then Start 0 st ∷ Stop st ∷ [] else Stop st ∷ []) s1
    (cleared_lively (forced_by s.running) s.queue s.running s.suspends l))

act_lively : (c : ChannelPlan) (x : Act) (s : ChildState) → IsGoodAct x → IsLively s → IsLively (perform_call c x s)
act_lively c act.Suspend s g l =
    lively_at s.running (perform_call c act.Suspend s) (performed_lively c (forced_by s.running) s.running act.Suspend s tt (l, refl))
act_lively c act.Resume s g l =
    lively_at s.running (perform_call c act.Resume s) (performed_lively c (forced_by s.running) s.running act.Resume s tt (l, refl))
act_lively c (act.Cancel st) s g l =
    lively_at s.running (perform_call c (act.Cancel st) s)
    (performed_lively c (forced_by s.running) s.running (act.Cancel st) s tt (l, refl))
act_lively c (act.Retarget n) s g l =
    lively_at s.running (perform_call c (act.Retarget n) s)
    (performed_lively c (forced_by s.running) s.running (act.Retarget n) s g (l, refl))
act_lively c (act.Break st) s g l = broken_lively c st s l

control_lively : (c : ChannelPlan) (o : Option Control) (s : ChildState) → ((x : Control) → o ≡ Some x → IsGoodAct x.act) → IsLively s
    → IsLively (perform_control c o s)
control_lively c None s g l = l
control_lively c (Some control) s g l =
    let s1 : ChildState = record s { next = suc s.next } in
    keeps_if IsLively (nat_le control.after s.finished) (perform_call c control.act s1) s
    (λ r. act_lively c control.act s1 (g control refl) l) (λ r. l)

acted_lively : (c : ChannelPlan) (s : ChildState) → GoodPlan c → IsLively s → IsLively (step_act c s)
acted_lively c s g l =
    keeps_if IsLively c.closed s _ (λ r. l)
    (λ r. keeps_if IsLively s.opened (perform_control c (slice_get c.controls s.next) s) _
    (λ q. control_lively c (slice_get c.controls s.next) s (g.controls s.next) l) (λ q. l))

verdict_lively : (c : ChannelPlan) (o : Option ℕ) (s : ChildState) → IsLively s → IsLively (step_verdict c o s)
verdict_lively c None s l = l
verdict_lively c (Some i) s l = l

reported_lively : (l : StartLane) (m : MainMsg) (s : ChildState) → IsLively s → IsLively (note_main l m s)
reported_lively l (main.Start h st head) s k = k
reported_lively l (main.FailedOpen h st) s k = k
reported_lively l (main.Redirect1 h code) s k = k
reported_lively lane.Main (main.Redirect3 h) s k = k
reported_lively lane.Back (main.Redirect3 h) s k = k

main_lively : (c : ChannelPlan) (m : MainMsg) (s : ChildState) → IsLively s → IsLively (step_main c m s)
main_lively c m s l =
    reported_lively c.start m (offer_all c target.Main (main_events_of m) s) (offered_all_lively c target.Main (main_events_of m) s l)

passed_lively : (c : ChannelPlan) (m : BackMsg) (s : ChildState) → IsLively s → IsLively (hold_back c m s)
passed_lively c m s l =
    keeps_if IsLively (is_among s.hold.released (back_hop m)) (offer_all c target.Back (back_events_of m) s) _
    (λ r. offered_all_lively c target.Back (back_events_of m) s l) (λ r. l)

back_lively : (c : ChannelPlan) (m : BackMsg) (s : ChildState) → IsLively s → IsLively (step_back c m s)
back_lively c (back.StartSent h) s l = l
back_lively c (back.Start h st head) s l = passed_lively c (back.Start h st head) s l
back_lively c (back.Bytes h st o p) s l = passed_lively c (back.Bytes h st o p) s l
back_lively c (back.Stop h st trailers) s l = passed_lively c (back.Stop h st trailers) s l

release_lively : (c : ChannelPlan) (o : Option ℕ) (s : ChildState) → IsLively s → IsLively (step_release c o s)
release_lively c None s l = l
release_lively c (Some h) s l =
    let s1 : ChildState =
    record s { hold = released_hold h s.hold; journal = s.journal ++ child.Release (length (of_hop h s.hold.kept)) ∷ [] } in
    offered_all_lively c target.Back (back_events (of_hop h s.hold.kept)) s1 l

-- a flush goes on only where nothing runs
pub runs_elsewhere : (r : Option (Target × ChildEvent)) (f : Option Target) (t : Target) → runs_on r t ≡ false → is_target f t ≡ true
    → FlushedBy r f → r ≡ None
runs_elsewhere None f t e h k = refl
runs_elsewhere (Some x) None t e h k = cc
runs_elsewhere (Some x) (Some g) t e h k =
    let a : x.0 ≡ t = sym (same_is g x.0 k) ∙ same_is g t h in
    let y : same_target x.0 t ≡ true = subst (λ u. same_target x.0 u ≡ true) a (same_self x.0) in absurd (cc)

closed_case : (s : ChildState) (t : Target) (w : List ChildEvent) → LivelyAt 0 None s → s.queue.waiting ≡ w
    → (w ≡ []) ⊎ ((s.queue.suspended || nat_lt 0 s.queue.forced) ≡ true)
    → IsLively (record s { queue = flush_ended s.queue; journal = s.journal ++ child.Ended t ∷ [] })
closed_case s t w l e d =
    lively_at None (record s { queue = flush_ended s.queue; journal = s.journal ++ child.Ended t ∷ [] })
    (ended_lively 0 s.queue s.suspends (elim d [ inl x ↦ inl (e ∙ x) | inr x ↦ inr x ]) l.0, l.1)

taken_lively : (c : ChannelPlan) (t : Target) (w : List ChildEvent) (s : ChildState) → s.queue.waiting ≡ w
    → is_target s.queue.flushing t ≡ true → LivelyAt 0 None s
    → IsLively (flush_with c t (taken class_of s.queue t w) s)
taken_lively c t [] s e h l = closed_case s t [] l e (inl refl)
taken_lively c t (x ∷ es) s e h l =
    let P : Taken ChildEvent → Type 0 = λ y. IsLively (flush_with c t y s) in
    let u : Target = target_in s.queue.data_target (class_of x) in
    keeps_if P (s.queue.suspended || nat_lt 0 s.queue.forced) Ended (if same_target u t then Event x es else Over u)
    (λ r. closed_case s t (x ∷ es) l e (inr r))
    (λ r. keeps_if P (same_target u t) (Event x es) (Over u)
    (λ q.
    let s1 : ChildState = record s { queue = record s.queue { waiting = es } } in
    let a : is_some s.queue.flushing ≡ true = target_some s.queue.flushing t h in
    let l1 : Lively s1.queue 0 None s.suspends = record {
      count_is = l.0.count_is;
      forced_is = l.0.forced_is;
      flush_is = tt;
      alive = inr (inl a);
      flagged = l.0.flagged;
      tasks = l.0.tasks;
      flush_ok = l.0.flush_ok;
    } in
    run_lively c t x s1 l.1 h l1)
    (λ q. lively_at None (record s { queue = handed_over s.queue u; journal = s.journal ++ child.HandOver t u ∷ [] })
    (over_lively 0 s.queue s.suspends x l.0, l.1)))

begun_lively : (c : ChannelPlan) (t : Target) (s : ChildState) → IsLively s → IsLively (step_begin c t s)
begun_lively c t s l =
    keeps_if IsLively (runs_on s.running t) s _ (λ r. l)
    (λ r. keeps_if IsLively (is_target s.queue.flushing t) (flush_with c t (taken class_of s.queue t s.queue.waiting) s) _
    (λ q.
    let idle : s.running ≡ None = runs_elsewhere s.running s.queue.flushing t r q l.flush_is in
    taken_lively c t s.queue.waiting s refl q (
      subst
          (λ (x : Option (Target × ChildEvent)). Lively s.queue (forced_by x) x s.suspends) idle l,
      idle,
    ))
    (λ q. keeps_if IsLively _ (record s { queue = completed s.queue t; journal = s.journal ++ child.Complete t ∷ [] }) s
    (λ p. completed_lively (forced_by s.running) s.queue s.running s.suspends t
    (l.tasks.only (target_number t) (ltb-true 0 (slice_index s.queue.posted (target_number t)) p)) l) (λ p. l)))

reacted_lively : (c : ChannelPlan) (rs : List Reaction) (s : ChildState) → GoodReactions rs → LivelyAt 1 None s
    → LivelyAt 1 None (react_all c rs s)
reacted_lively c [] s g l = l
reacted_lively c (reaction.StartRetarget n ∷ rs) s g l =
    reacted_lively c rs (perform_call c (act.Retarget n) s) g.1 (performed_lively c 1 None (act.Retarget n) s g.0 l)
reacted_lively c (reaction.StartSuspend ∷ rs) s g l =
    reacted_lively c rs (perform_call c act.Suspend s) g.1 (performed_lively c 1 None act.Suspend s tt l)
reacted_lively c (reaction.StartCancel st ∷ rs) s g l =
    reacted_lively c rs (perform_call c (act.Cancel st) s) g.1 (performed_lively c 1 None (act.Cancel st) s tt l)
reacted_lively c (reaction.StartFail st ∷ rs) s g l =
    reacted_lively c rs (perform_call c (act.Cancel st) s) g.1 (performed_lively c 1 None (act.Cancel st) s tt l)
reacted_lively c (reaction.BytesFail n st ∷ rs) s g l = reacted_lively c rs s g.1 l

plus_minus : (n : ℕ) → n + 1 - 1 ≡ n
plus_minus n = omega arith

prepended_cancel_lively : (st : Status) (s : ChildState) → LivelyAt 0 None s → LivelyAt 0 None (prepend_cancel st s)
prepended_cancel_lively st s l =
    let p : 0 < s.suspends + 1 = omega arith in (
      subst (λ n. Lively (resumed_once class_of (prepended (suspended_once s.queue) (Cancel st))) 0 None n) (plus_minus s.suspends)
          (resumed_lively 0 (prepended (suspended_once s.queue) (Cancel st)) None (s.suspends + 1) p
          (prepended_lively 0 (suspended_once s.queue) (Cancel st) None (s.suspends + 1) p
          (suspended_lively 0 s.queue None s.suspends l.0))),
      l.1,
    )

failed_lively : (c : ChannelPlan) (t : Target) (o : Option Status) (s : ChildState) → LivelyAt 0 None s
    → LivelyAt 0 None (fail_data c t o s)
failed_lively c t None s l = l
failed_lively c t (Some d) s l =
    keeps_if (LivelyAt 0 None) (same_target t target.Main) (perform_call c (act.Cancel d) s) (prepend_cancel d s)
    (λ r. performed_lively c 0 None (act.Cancel d) s tt l) (λ r. prepended_cancel_lively d s l)

unforced_at : (t : Target) (s : ChildState) → target_number t < 17 → LivelyAt 1 None s → LivelyAt 0 None (end_forced t s)
unforced_at t s ok l = (unforced_lively s.queue None s.suspends t ok l.0, l.1)

event_lively : (c : ChannelPlan) (t : Target) (e : ChildEvent) (s : ChildState) → GoodPlan c → target_number t < 17
    → LivelyAt (forced_by (Some (t, e))) None s → LivelyAt 0 None (finish_event c t e s)
event_lively c t (Start code st) s v in_range l =
    unforced_at t (react_all c c.reactions s) in_range (reacted_lively c c.reactions s v.reactions l)
event_lively c t (Bytes at p st) s v in_range l =
    failed_lively c t (bytes_failure c.reactions s.data_begun) (record s { sent = s.sent ++ up.BytesRead (length p) ∷ [] }) l
event_lively c t (Stop st) s v in_range l = unforced_at t (record s { sent = s.sent ++ up.Deleting ∷ [] }) in_range l
event_lively c t (Redirect1 i) s v in_range l = l
event_lively c t (Redirect3 i) s v in_range l = l
event_lively c t (Cancel st) s v in_range l = l

forced_same : (t u : Target) (e : ChildEvent) → forced_by (Some (t, e)) ≡ forced_by (Some (u, e))
forced_same t u (Start code st) = refl
forced_same t u (Bytes at p st) = refl
forced_same t u (Stop st) = refl
forced_same t u (Redirect1 i) = refl
forced_same t u (Redirect3 i) = refl
forced_same t u (Cancel st) = refl

running_ok : (f : Option Target) (u t : Target) → is_target f u ≡ true → FlushOk f → same_target u t ≡ true → target_number t < 17
running_ok None u t h ok e = cc
running_ok (Some g) u t h ok e =
    let a : target_number g ≡ target_number u = same_number g u h in
    let b : target_number u ≡ target_number t = same_number u t e in
    let ok1 : target_number g < 17 = ok in
    omega arith

pub none_posted : (n k : ℕ) → slice_index (replicate n 0) k ≡ 0
none_posted zero k = refl
none_posted (suc n) zero = refl
none_posted (suc n) (suc k) = none_posted n k

finished_lively : (c : ChannelPlan) (t : Target) (o : Option (Target × ChildEvent)) (s : ChildState) → GoodPlan c → s.running ≡ o
    → IsLively s → IsLively (step_finish c t o s)
finished_lively c t None s v e l = l
finished_lively c t (Some (u, x)) s v e l =
    let s1 : ChildState = record s { running = None; finished = suc s.finished; journal = s.journal ++ child.Finish t ∷ [] } in
    let l0 : Lively s.queue (forced_by (Some (u, x))) (Some (u, x)) s.suspends =
    subst (λ (y : Option (Target × ChildEvent)). Lively s.queue (forced_by y) y s.suspends) e l in
    let l1 : Lively s.queue (forced_by (Some (t, x))) None s.suspends =
    rw (forced_same t u x) (idle_lively (forced_by (Some (u, x))) s.queue (Some (u, x)) s.suspends l0) in
    keeps_if IsLively (same_target u t) (finish_event c t x s1) s
    (λ r. lively_at None (finish_event c t x s1)
    (event_lively c t x s1 v (running_ok s.queue.flushing u t l0.flush_is l0.flush_ok r) (l1, refl))) (λ r. l)

step_lively : (c : ChannelPlan) (x : ChildStep) (s : ChildState) → GoodPlan c → IsLively s → IsLively (child_step c x s)
step_lively c step.Act s v l = acted_lively c s v l
step_lively c step.Verdict s v l =
    keeps_if IsLively s.broken s (step_verdict c s.question s) (λ r. l) (λ r. verdict_lively c s.question s l)
step_lively c (step.Main m) s v l =
    keeps_if IsLively s.broken s (step_main c m (with_entry (child.TookMain m) s)) (λ r. l)
    (λ r. main_lively c m (with_entry (child.TookMain m) s) l)
step_lively c (step.Back m) s v l =
    keeps_if IsLively s.broken s (step_back c m (with_entry (child.TookBack m) s)) (λ r. l)
    (λ r. back_lively c m (with_entry (child.TookBack m) s) l)
step_lively c step.Release s v l =
    keeps_if IsLively s.broken s (step_release c s.hold.report s) (λ r. l) (λ r. release_lively c s.hold.report s l)
step_lively c (step.Begin t) s v l = begun_lively c t s l
step_lively c (step.Finish t) s v l = finished_lively c t s.running s v refl l

pub child_lively : (c : ChannelPlan) (steps : List ChildStep) → GoodPlan c → IsLively (child_after c steps)
child_lively c [] v = record {
  count_is = refl;
  forced_is = refl;
  flush_is = tt;
  alive = inl refl;
  flagged = λ e. absurd (cc);
  tasks = record {
    targets = refl;
    only = λ k h. let z : slice_index (replicate 18 0) k
        ≡ 0 = none_posted 18 k in omega arith;
    delivers = omega arith;
  };
  flush_ok = tt;
}
child_lively c (x ∷ xs) v = step_lively c x (child_after c xs) v (child_lively c xs v)
