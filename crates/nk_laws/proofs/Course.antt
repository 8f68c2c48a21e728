-- The rows of the child's table keep the course of a calm load.
use Rattle.std.proofs.Common.{ℕ, suc, ◌≡◌, ◌+◌, refl, sym, ◌∙◌, ap, subst, List, [], ◌∷◌, ◌++◌, length, Bool, true, false, ◌||◌, Option, Some, None, is_some, ◌⊎◌, inl, inr, if◌then◌else◌, nat_lt, slice_get, slice_index, ◌==◌, arith, add_assoc, zero-add, add-zero}
use Rattle.nk_base.specs.declared.status.Status.{Status}
use Rattle.nk_base.specs.declared.status.Target.{Target}
use Rattle.nk_base.specs.declared.status.RetargetError.{RetargetError}
use Rattle.nk_base.specs.declared.message.MainMsg.{MainMsg}
use Rattle.nk_base.specs.declared.message.BackMsg.{BackMsg}
use Rattle.nk_base.specs.declared.message.UpMsg.{UpMsg}
use Rattle.nk_base.specs.declared.message.Entry.{Entry}
use Rattle.nk_plan.specs.declared.plan.ChannelPlan.{ChannelPlan}
use Rattle.nk_plan.specs.declared.plan.Reaction.{Reaction}
use Rattle.nk_plan.specs.declared.plan.Control.{Control}
use Rattle.nk_base.specs.Status.{ok, is_failure, kept_status, merged}
use Rattle.nk_plan.specs.Plan.{stop_trailers}
use Rattle.nk_laws.proofs.Taking.{no_cancel_append}
use Rattle.nk_laws.proofs.Premises.{EndsByFailure}
use Rattle.nk_base.specs.Queue.{Taken, Event, Over, Ended, same_target, is_target, target_number, target_in, runs_now, has_some, running_now, appended, completed, taken}
use Rattle.nk_plan.specs.declared.plan.StartLane.{StartLane}
use Rattle.nk_plan.specs.Child.{main_events_of, note_main, step_main, back_hop, back_events_of, back_events, is_among, hold_back, step_back, of_hop, released_hold, step_release, ChildState, run_bytes, run_event, offer_event, offer_all, with_entry, call_cancel, refusal, call_retarget, perform_call, perform_control, step_act, step_verdict, flush_with, step_begin, runs_on, react_all, bytes_failure, prepend_cancel, fail_data, finish_event, step_finish, not_of_hop, verdict_status}
use Rattle.nk_plan.specs.declared.event.ChildEvent.{ChildEvent}
use Rattle.nk_plan.specs.declared.event.ChildEvent.TheVariants.{Start, Bytes, Stop, Redirect1, Redirect3, Cancel}
use Rattle.nk_plan.specs.Event.{class_of}
use Rattle.nk_laws.proofs.Tools.{keeps_if, by_bool, none_has}
use Rattle.std.proofs.lemmas.Bool.{eqb-true}
use Rattle.std.proofs.lemmas.Bool.Decides.{eqb_tells}
use Rattle.nk_plan.specs.Calm.{NeverSuspends, start_reaction}
use Rattle.nk_laws.proofs.ChildLaw.{idle_empty}
use Rattle.nk_laws.proofs.Order.{NotCancel, NoCancel, CancelsFirst, first_then_event, first_if_none}
use Rattle.nk_laws.proofs.Flushes.{Flushes, offered_flushes, runs_alone, runs_elsewhere}
use Rattle.nk_laws.proofs.Tally.{has_stop, stop_then, or_false, or_true}
use Rattle.nk_base.specs.declared.status.Target.TheVariants as target
use Rattle.nk_base.specs.declared.message.MainMsg.TheVariants as main
use Rattle.nk_base.specs.declared.message.BackMsg.TheVariants as back
use Rattle.nk_base.specs.declared.message.UpMsg.TheVariants as up
use Rattle.nk_base.specs.declared.message.Entry.TheVariants as shown
use Rattle.nk_plan.specs.declared.plan.Reaction.TheVariants as reaction
use Rattle.nk_plan.specs.declared.plan.Act.TheVariants as act
use Rattle.nk_plan.specs.declared.journal.ChildEntry.TheVariants as child
use Rattle.nk_plan.specs.declared.plan.StartLane.TheVariants as lane
use Rattle.nk_laws.proofs.CourseState.{odd, data_count, HeadIs, odd_bytes, odd_stop, count_then, head_then, RightEvent, RightEvents, RightBack, RightBacks, RightMain, NoCancelUp, Silent, silent_then, event_bytes, events_bytes, back_bytes, backs_bytes, NoFail, RunOk, Course, Quiet, Going, Pending, Kept, Closing, Odd, Calms, Calmly, course_map, course_sum, course_says, merged_fails, start_calm, stop_calm, shown_calm, drop_calm, cancel_calm}

-- The rows, over whole states

course_idle : (c : ChannelPlan) (E : Status) (T : Status → Type 0) (G : Type 0) (trace : List Entry) (kept : Option Status) (stopped : Bool) (r r' : Option (Target × ChildEvent)) (w : List ChildEvent) (n : ℕ) (u : List UpMsg) (S : Type 0)
    → r ≡ r' → Course c E T G trace kept stopped r w n u S → Course c E T G trace kept stopped r' w n u S
course_idle c E T G trace kept stopped r r' w n u S e k = subst (λ (x : Option (Target × ChildEvent)). Course c E T G trace kept stopped x w n u S) e k

abbrev pub OkOrFails : Status → Type 0
OkOrFails E = (E ≡ ok) ⊎ (is_failure E ≡ true)

starts_with : (E : Status) → OkOrFails E → kept_status (merged None E) ≡ E
starts_with E (inl e) = rw e refl
starts_with E (inr f) = rw f refl

first_status : (c : ChannelPlan) (E : Status) (T : Status → Type 0) (G : Type 0) (trace : List Entry) (kept : Option Status) (stopped : Bool) (r : Option (Target × ChildEvent)) (w : List ChildEvent) (n : ℕ) (u : List UpMsg) (S : Type 0) (st : Status)
    → OkOrFails E → st ≡ E → trace ≡ [] → Course c E T G trace kept stopped r w n u S → kept_status (merged kept st) ≡ E
first_status c E T G trace kept stopped r w n u S st ef e z (Quiet a b d x y p s) = ap (λ k. kept_status (merged k st)) b ∙ (ap (λ k. kept_status (merged None k)) e ∙ starts_with E ef)
first_status c E T G trace kept stopped r w n u S st ef e z (Going y a b d x p q s) = absurd (a z)
first_status c E T G trace kept stopped r w n u S st ef e z (Pending y a b d x i q rest p f why) = absurd (a z)
first_status c E T G trace kept stopped r w n u S st ef e z (Kept y q bg a why) = absurd (bg z)
first_status c E T G trace kept stopped r w n u S st ef e z (Closing y q bg a fl b d x i p f s) = absurd (bg z)
first_status c E T G trace kept stopped r w n u S st ef e z (Odd a) = let x : odd [] ≡ true = rw z at a in cc

abbrev NotFront : List ChildEvent → Type 0
NotFront w = (q : Status) (rest : List ChildEvent) → w ≡ Cancel q ∷ rest → ⊥

zero_event : (n b h e p total : ℕ) → e ≡ 0 → n + (b + (h + (e + p))) ≡ total → n + (b + (h + p)) ≡ total
zero_event n b h e p total z s = omega arith

one_event : (n b h p total : ℕ) → n + (b + (h + (1 + p))) ≡ total → suc n + (b + (h + p)) ≡ total
one_event n b h p total s = omega arith

data_more : (n m : ℕ) → n ≡ m → n + 1 ≡ suc m
data_more n m e = omega arith

bytes_calm : (c : ChannelPlan) (E : Status) (T : Status → Type 0) (G : Type 0) (s : ChildState) (t : Target) (at : ℕ) (p : List ℕ) (k' : Option Status) (st : Status) (es : List ChildEvent) (total : ℕ)
    → s.running ≡ None → merged s.kept st ≡ k' → NotFront s.queue.waiting → (s.stopped ≡ true → ⊥) → Calmly c E T G s (Bytes at p st ∷ es) total → Calmly c E T G (run_bytes s t at p k' st) es total
bytes_calm c E T G s t at p None st es total idle m nf ns k =
    let x : Entry = shown.Bytes at p in
    let open_is : s.stopped ≡ false = by_bool s.stopped (λ e. absurd (ns e)) (λ e. e) in
    let k0 = course_idle c E T G s.trace s.kept s.stopped s.running None s.queue.waiting s.data_begun s.sent (s.data_begun + (events_bytes s.queue.waiting + (backs_bytes s.hold.kept + (1 + events_bytes es))) ≡ total) idle k.course in
    record {
      right_waiting = k.right_waiting;
      cancels_first = k.cancels_first;
      right_held = k.right_held;
      right_pend = k.right_pend.1;
      no_suspend = k.no_suspend;
      unbroken = k.unbroken;
      head_is = head_then E s.trace x (λ z. tt) k.head_is;
      data_is = count_then s.trace x ∙ data_more (data_count s.trace) s.data_begun k.data_is;
      stop_is = stop_then s.trace x ∙ (or_false (has_stop s.trace) ∙ k.stop_is);
      course = by_bool (odd (s.trace ++ x ∷ []))
          (λ o. Odd o)
          (λ o. shown_calm c E T G s.trace s.kept s.stopped s.queue.waiting s.data_begun s.sent (s.data_begun + (events_bytes s.queue.waiting + (backs_bytes s.hold.kept + (1 + events_bytes es))) ≡ total) (suc s.data_begun + (events_bytes s.queue.waiting + (backs_bytes s.hold.kept + events_bytes es)) ≡ total) t at p st x (odd_bytes s.trace at p o).0 open_is m
          (one_event s.data_begun (events_bytes s.queue.waiting) (backs_bytes s.hold.kept) (events_bytes es) total) k0 nf);
    }
bytes_calm c E T G s t at p (Some q) st es total idle m nf ns k = record {
  right_waiting = k.right_waiting;
  cancels_first = k.cancels_first;
  right_held = k.right_held;
  right_pend = k.right_pend.1;
  no_suspend = k.no_suspend;
  unbroken = k.unbroken;
  head_is = k.head_is;
  data_is = k.data_is;
  stop_is = k.stop_is;
  course = drop_calm c E T G s.trace s.kept s.stopped s.running s.queue.waiting s.data_begun s.sent (s.data_begun + (events_bytes s.queue.waiting + (backs_bytes s.hold.kept + (1 + events_bytes es))) ≡ total) (s.data_begun + (events_bytes s.queue.waiting + (backs_bytes s.hold.kept + events_bytes es)) ≡ total) st q k.right_pend.0 m ns k.course;
}

popped_calm : (c : ChannelPlan) (E : Status) (T : Status → Type 0) (G : Type 0) (e : ChildEvent) (s : ChildState) (es : List ChildEvent) (total : ℕ) → event_bytes e ≡ 0 → Calmly c E T G s (e ∷ es) total → Calmly c E T G s es total
popped_calm c E T G e s es total z k = record {
  right_waiting = k.right_waiting;
  cancels_first = k.cancels_first;
  right_held = k.right_held;
  right_pend = k.right_pend.1;
  no_suspend = k.no_suspend;
  unbroken = k.unbroken;
  head_is = k.head_is;
  data_is = k.data_is;
  stop_is = k.stop_is;
  course = course_sum c E T G s.trace s.kept s.stopped s.running s.queue.waiting s.data_begun s.sent _ _ (zero_event s.data_begun (events_bytes s.queue.waiting) (backs_bytes s.hold.kept) (event_bytes e) (events_bytes es) total z) k.course;
}

run_calm : (c : ChannelPlan) (E : Status) (T : Status → Type 0) (G : Type 0) (t : Target) (e : ChildEvent) (s : ChildState) (es : List ChildEvent) (total : ℕ)
    → OkOrFails E → s.running ≡ None → NotCancel e → NotFront s.queue.waiting → (s.stopped ≡ true → event_bytes e ≡ 0) → Calmly c E T G s (e ∷ es) total → Calmly c E T G (run_event c t e s) es total
run_calm c E T G t (Start code st) s es total ef idle nc nf nb k =
    let x : Entry = shown.Start code (kept_status (merged s.kept st)) in
    let S : Type 0 = s.data_begun + (events_bytes s.queue.waiting + (backs_bytes s.hold.kept + (0 + events_bytes es))) ≡ total in
    let S' : Type 0 = s.data_begun + (events_bytes s.queue.waiting + (backs_bytes s.hold.kept + events_bytes es)) ≡ total in
    let k0 : Course c E T G s.trace s.kept s.stopped s.running s.queue.waiting s.data_begun s.sent S' =
    course_sum c E T G s.trace s.kept s.stopped s.running s.queue.waiting s.data_begun s.sent S S' (zero_event s.data_begun (events_bytes s.queue.waiting) (backs_bytes s.hold.kept) 0 (events_bytes es) total refl) k.course in
    record {
      right_waiting = k.right_waiting;
      cancels_first = k.cancels_first;
      right_held = k.right_held;
      right_pend = k.right_pend.1;
      no_suspend = k.no_suspend;
      unbroken = k.unbroken;
      head_is = head_then E s.trace x (λ z. first_status c E T G s.trace s.kept s.stopped s.running s.queue.waiting s.data_begun s.sent S' st ef k.right_pend.0.0 z k0) k.head_is;
      data_is = count_then s.trace x ∙ (add-zero (data_count s.trace) ∙ k.data_is);
      stop_is = stop_then s.trace x ∙ (or_false (has_stop s.trace) ∙ k.stop_is);
      course = start_calm c E T G s.trace s.kept s.stopped s.running s.queue.waiting s.data_begun s.sent S' t code st k.right_pend.0.0 k.right_pend.0.1 k.stop_is k0;
    }
run_calm c E T G t (Bytes at p st) s es total ef idle nc nf nb k = bytes_calm c E T G s t at p (merged s.kept st) st es total idle refl nf (λ e. let x : 1 ≡ 0 = nb e in absurd (cc)) k
run_calm c E T G t (Stop st) s es total ef idle nc nf nb k =
    let l = stop_trailers c s.hop (kept_status (merged s.kept st)) in
    let x : Entry = shown.Stop (kept_status (merged s.kept st)) l in
    let S : Type 0 = s.data_begun + (events_bytes s.queue.waiting + (backs_bytes s.hold.kept + (0 + events_bytes es))) ≡ total in
    let S' : Type 0 = s.data_begun + (events_bytes s.queue.waiting + (backs_bytes s.hold.kept + events_bytes es)) ≡ total in
    let k0 : Course c E T G s.trace s.kept s.stopped s.running s.queue.waiting s.data_begun s.sent S' =
    course_sum c E T G s.trace s.kept s.stopped s.running s.queue.waiting s.data_begun s.sent S S' (zero_event s.data_begun (events_bytes s.queue.waiting) (backs_bytes s.hold.kept) 0 (events_bytes es) total refl) k.course in
    let k1 : Course c E T G s.trace s.kept s.stopped None s.queue.waiting s.data_begun s.sent S' = course_idle c E T G s.trace s.kept s.stopped s.running None s.queue.waiting s.data_begun s.sent S' idle k0 in
    record {
      right_waiting = k.right_waiting;
      cancels_first = k.cancels_first;
      right_held = k.right_held;
      right_pend = k.right_pend.1;
      no_suspend = k.no_suspend;
      unbroken = k.unbroken;
      head_is = head_then E s.trace x (λ z. tt) k.head_is;
      data_is = count_then s.trace x ∙ (add-zero (data_count s.trace) ∙ k.data_is);
      stop_is = stop_then s.trace x ∙ or_true (has_stop s.trace);
      course = by_bool (odd (s.trace ++ x ∷ []))
          (λ o. Odd o)
          (λ o. stop_calm c E T G s.trace s.kept s.stopped s.queue.waiting s.data_begun s.sent S' t st x (odd_stop s.trace (kept_status (merged s.kept st)) l o).0 k.right_pend.0 k1 nf);
    }
run_calm c E T G t (Redirect1 i) s es total ef idle nc nf nb k = popped_calm c E T G (Redirect1 i) s es total refl k
run_calm c E T G t (Redirect3 i) s es total ef idle nc nf nb k = popped_calm c E T G (Redirect3 i) s es total refl k
run_calm c E T G t (Cancel st) s es total ef idle nc nf nb k = absurd nc

appended_size : (xs : List ChildEvent) (e : ChildEvent) → events_bytes (xs ++ e ∷ []) ≡ events_bytes xs + (event_bytes e + 0)
appended_size [] e = sym (zero-add (event_bytes e + 0))
appended_size (x ∷ xs) e = let h : events_bytes (xs ++ e ∷ []) ≡ events_bytes xs + (event_bytes e + 0) = appended_size xs e in omega arith

appended_right : (E : Status) (T : Status → Type 0) (G : Type 0) (xs : List ChildEvent) (e : ChildEvent) → RightEvents E T G xs → RightEvent E T G e → RightEvents E T G (xs ++ e ∷ [])
appended_right E T G [] e a b = (b, tt)
appended_right E T G (x ∷ xs) e a b = (a.0, appended_right E T G xs e a.1 b)

no_cancel_more : (xs : List ChildEvent) (e : ChildEvent) → NotCancel e → NoCancel xs → NoCancel (xs ++ e ∷ [])
no_cancel_more [] e n h = (n, tt)
no_cancel_more (x ∷ xs) e n h = (h.0, no_cancel_more xs e n h.1)

front_more : (xs : List ChildEvent) (e : ChildEvent) (q : Status) (rest : List ChildEvent) → xs ≡ Cancel q ∷ rest → (rest' : List ChildEvent) × (xs ++ e ∷ [] ≡ Cancel q ∷ rest')
front_more xs e q rest h = (rest ++ e ∷ [], ap (λ t. t ++ e ∷ []) h)

moved_sum : (n b e h p total b' : ℕ) → b' ≡ b + (e + 0) → n + (b + (h + (e + p))) ≡ total → n + (b' + (h + p)) ≡ total
moved_sum n b e h p total b' z s = omega arith

appended_calm : (c : ChannelPlan) (E : Status) (T : Status → Type 0) (G : Type 0) (e : ChildEvent) (s : ChildState) (es : List ChildEvent) (total : ℕ) → NotCancel e
    → Calmly c E T G s (e ∷ es) total → Calmly c E T G (record s { queue = appended class_of s.queue e }) es total
appended_calm c E T G e s es total nc k = record {
  right_waiting = appended_right E T G s.queue.waiting e k.right_waiting k.right_pend.0;
  cancels_first = first_then_event s.queue.waiting e k.cancels_first nc;
  right_held = k.right_held;
  right_pend = k.right_pend.1;
  no_suspend = k.no_suspend;
  unbroken = k.unbroken;
  head_is = k.head_is;
  data_is = k.data_is;
  stop_is = k.stop_is;
  course = course_map c E T G s.trace s.kept s.stopped s.running s.queue.waiting (s.queue.waiting ++ e ∷ []) s.data_begun s.sent s.sent _ _
      (no_cancel_more s.queue.waiting e nc) (front_more s.queue.waiting e) (λ x y. x) (λ x. x)
      (moved_sum s.data_begun (events_bytes s.queue.waiting) (event_bytes e) (backs_bytes s.hold.kept) (events_bytes es) total (events_bytes (s.queue.waiting ++ e ∷ [])) (appended_size s.queue.waiting e)) k.course;
}

empty_front : (w : List ChildEvent) → w ≡ [] → NotFront w
empty_front [] e q rest h = cc
empty_front (x ∷ w) e q rest h = cc

offered_calm : (c : ChannelPlan) (E : Status) (T : Status → Type 0) (G : Type 0) (here : Target) (e : ChildEvent) (s : ChildState) (es : List ChildEvent) (total : ℕ)
    → OkOrFails E → NotCancel e → Flushes s → (s.stopped ≡ true → is_some s.queue.flushing ≡ false → event_bytes e ≡ 0) → Calmly c E T G s (e ∷ es) total → Calmly c E T G (offer_event c here e s) es total
offered_calm c E T G here e s es total ef nc l nb k =
    let s1 : ChildState = record s { queue = running_now s.queue here } in
    let same : Bool = same_target (target_in s.queue.data_target (class_of e)) here in
    keeps_if (λ (x : ChildState). Calmly c E T G x es total) (runs_now class_of s.queue e here) (run_event c here e s1) (record s { queue = appended class_of s.queue e })
    (λ r.
    let alone : (is_some s.queue.flushing ≡ false) × (s.running ≡ None) = runs_alone here e s l r in
    let empty : s.queue.waiting ≡ [] = none_has s.queue.waiting (idle_empty (nat_lt 0 s.queue.forced) s.queue.suspended (is_some s.queue.flushing) (has_some s.queue.waiting) same r) in
    run_calm c E T G here e s1 es total ef alone.1 nc (empty_front s.queue.waiting empty) (λ x. nb x alone.0)
    k)
    (λ r. appended_calm c E T G e s es total nc k)

flushing_bytes : (s : ChildState) (t : Target) (at : ℕ) (p : List ℕ) (k : Option Status) (st : Status) → (run_bytes s t at p k st).queue.flushing ≡ s.queue.flushing
flushing_bytes s t at p None st = refl
flushing_bytes s t at p (Some q) st = refl

flushing_stays : (c : ChannelPlan) (t : Target) (e : ChildEvent) (s : ChildState) → (run_event c t e s).queue.flushing ≡ s.queue.flushing
flushing_stays c t (Start code st) s = refl
flushing_stays c t (Bytes at p st) s = flushing_bytes s t at p (merged s.kept st) st
flushing_stays c t (Stop st) s = refl
flushing_stays c t (Redirect1 i) s = refl
flushing_stays c t (Redirect3 i) s = refl
flushing_stays c t (Cancel st) s = refl

-- one event alone runs
still_none : (c : ChannelPlan) (here : Target) (e : ChildEvent) (s : ChildState) (es : List ChildEvent) → (s.stopped ≡ true → is_some s.queue.flushing ≡ false → event_bytes e + events_bytes es ≡ 0)
    → (offer_event c here e s).stopped ≡ true → is_some (offer_event c here e s).queue.flushing ≡ false → events_bytes es ≡ 0
still_none c here e s es nb =
    let s1 : ChildState = record s { queue = running_now s.queue here } in
    keeps_if (λ (x : ChildState). x.stopped ≡ true → is_some x.queue.flushing ≡ false → events_bytes es ≡ 0) (runs_now class_of s.queue e here) (run_event c here e s1) (record s { queue = appended class_of s.queue e })
    (λ r a b. let f : is_some (run_event c here e s1).queue.flushing ≡ true = ap (λ x. is_some x) (flushing_stays c here e s1) in absurd (cc))
    (λ r a b. let h : event_bytes e + events_bytes es ≡ 0 = nb a b in omega arith)

offered_all_calm : (c : ChannelPlan) (E : Status) (T : Status → Type 0) (G : Type 0) (here : Target) (es : List ChildEvent) (s : ChildState) (total : ℕ)
    → OkOrFails E → NoCancel es → Flushes s → (s.stopped ≡ true → is_some s.queue.flushing ≡ false → events_bytes es ≡ 0) → Calmly c E T G s es total → Calmly c E T G (offer_all c here es s) [] total
offered_all_calm c E T G here [] s total ef nc l nb k = k
offered_all_calm c E T G here (e ∷ es) s total ef nc l nb k =
    offered_all_calm c E T G here es (offer_event c here e s) total ef nc.1 (offered_flushes c here e s l)
    (still_none c here e s es nb)
    (offered_calm c E T G here e s es total ef nc.0 l (λ x y. let h : event_bytes e + events_bytes es ≡ 0 = nb x y in omega arith) k)

-- Taking the first of those that wait

front_sum : (n e b h total : ℕ) → n + ((e + b) + (h + 0)) ≡ total → n + (b + (h + (e + 0))) ≡ total
front_sum n e b h total s = omega arith

not_front_of : (w w' : List ChildEvent) (e : ChildEvent) → w ≡ e ∷ w' → NotCancel e → NotFront w
not_front_of w w' (Start code st) h n q rest x = let y : Start code st ∷ w' ≡ Cancel q ∷ rest = sym h ∙ x in cc
not_front_of w w' (Bytes o p st) h n q rest x = let y : Bytes o p st ∷ w' ≡ Cancel q ∷ rest = sym h ∙ x in cc
not_front_of w w' (Stop st) h n q rest x = let y : Stop st ∷ w' ≡ Cancel q ∷ rest = sym h ∙ x in cc
not_front_of w w' (Redirect1 i) h n q rest x = let y : Redirect1 i ∷ w' ≡ Cancel q ∷ rest = sym h ∙ x in cc
not_front_of w w' (Redirect3 i) h n q rest x = let y : Redirect3 i ∷ w' ≡ Cancel q ∷ rest = sym h ∙ x in cc
not_front_of w w' (Cancel st) h n q rest x = absurd n

-- the first that waits is about to run; where it is no cancel none was prepended
poised : (c : ChannelPlan) (E : Status) (T : Status → Type 0) (G : Type 0) (trace : List Entry) (kept : Option Status) (stopped : Bool) (r : Option (Target × ChildEvent)) (e : ChildEvent) (w : List ChildEvent) (n : ℕ) (u : List UpMsg) (S S' : Type 0)
    → NotCancel e → (S → S') → Course c E T G trace kept stopped r (e ∷ w) n u S → Course c E T G trace kept stopped r w n u S'
poised c E T G trace kept stopped r e w n u S S' nc j k =
    course_map c E T G trace kept stopped r (e ∷ w) w n u u S S' (λ x. x.1) (λ q rest h. absurd (not_front_of (e ∷ w) w e refl nc q rest h)) (λ x y. x) (λ x. x) j k

no_cancel_front : (w : List ChildEvent) → NoCancel w → NotFront w
no_cancel_front [] n q rest h = cc
no_cancel_front (e ∷ w) n q rest h = not_front_of (e ∷ w) w e refl n.0 q rest h

rest_plain : (e : ChildEvent) (w : List ChildEvent) → NotCancel e → CancelsFirst (e ∷ w) → NoCancel w
rest_plain (Start code st) w n h = h
rest_plain (Bytes o p st) w n h = h
rest_plain (Stop st) w n h = h
rest_plain (Redirect1 i) w n h = h
rest_plain (Redirect3 i) w n h = h
rest_plain (Cancel st) w n h = absurd n

zero_front : (n b h total : ℕ) → n + ((0 + b) + (h + 0)) ≡ total → n + (b + (h + 0)) ≡ total
zero_front n b h total s = omega arith

take_plain : (c : ChannelPlan) (E : Status) (T : Status → Type 0) (G : Type 0) (t : Target) (x : ChildEvent) (es : List ChildEvent) (s : ChildState) (total : ℕ)
    → OkOrFails E → s.running ≡ None → NotCancel x → (s.stopped ≡ true → event_bytes x ≡ 0) → s.queue.waiting ≡ x ∷ es → Calmly c E T G s [] total
    → Calmly c E T G (run_event c t x (record s { queue = record s.queue { waiting = es } })) [] total
take_plain c E T G t x es s total ef idle nc nb e k =
    let s1 : ChildState = record s { queue = record s.queue { waiting = es } } in
    let k0 : Calms c E T G s.trace s.kept s.stopped s.broken s.suspends s.running (x ∷ es) s.hold.kept s.data_begun s.sent [] total =
    subst (λ (w : List ChildEvent). Calms c E T G s.trace s.kept s.stopped s.broken s.suspends s.running w s.hold.kept s.data_begun s.sent [] total) e k in
    let plain : NoCancel es = rest_plain x es nc k0.cancels_first in
    run_calm c E T G t x s1 [] total ef idle nc (no_cancel_front es plain) nb (record {
      right_waiting = k0.right_waiting.1;
      cancels_first = first_if_none es plain;
      right_held = k0.right_held;
      right_pend = (k0.right_waiting.0, tt);
      no_suspend = k0.no_suspend;
      unbroken = k0.unbroken;
      head_is = k0.head_is;
      data_is = k0.data_is;
      stop_is = k0.stop_is;
      course = poised c E T G s.trace s.kept s.stopped s.running x es s.data_begun s.sent _ _ nc (front_sum s.data_begun (event_bytes x) (events_bytes es) (backs_bytes s.hold.kept) total) k0.course;
    })

take_event : (c : ChannelPlan) (E : Status) (T : Status → Type 0) (G : Type 0) (t : Target) (x : ChildEvent) (es : List ChildEvent) (s : ChildState) (total : ℕ)
    → OkOrFails E → s.running ≡ None → (s.stopped ≡ true → event_bytes x ≡ 0) → s.queue.waiting ≡ x ∷ es → Calmly c E T G s [] total
    → Calmly c E T G (run_event c t x (record s { queue = record s.queue { waiting = es } })) [] total
take_event c E T G t (Start code st) es s total ef idle nb e k = take_plain c E T G t (Start code st) es s total ef idle tt nb e k
take_event c E T G t (Bytes at p st) es s total ef idle nb e k = take_plain c E T G t (Bytes at p st) es s total ef idle tt nb e k
take_event c E T G t (Stop st) es s total ef idle nb e k = take_plain c E T G t (Stop st) es s total ef idle tt nb e k
take_event c E T G t (Redirect1 i) es s total ef idle nb e k = take_plain c E T G t (Redirect1 i) es s total ef idle tt nb e k
take_event c E T G t (Redirect3 i) es s total ef idle nb e k = take_plain c E T G t (Redirect3 i) es s total ef idle tt nb e k
take_event c E T G t (Cancel st) es s total ef idle nb e k =
    let k0 : Calms c E T G s.trace s.kept s.stopped s.broken s.suspends s.running (Cancel st ∷ es) s.hold.kept s.data_begun s.sent [] total =
    subst (λ (w : List ChildEvent). Calms c E T G s.trace s.kept s.stopped s.broken s.suspends s.running w s.hold.kept s.data_begun s.sent [] total) e k in
    record {
      right_waiting = k0.right_waiting.1;
      cancels_first = k0.cancels_first;
      right_held = k0.right_held;
      right_pend = tt;
      no_suspend = k0.no_suspend;
      unbroken = k0.unbroken;
      head_is = k0.head_is;
      data_is = k0.data_is;
      stop_is = k0.stop_is;
      course = cancel_calm c E T G s.trace s.kept s.stopped s.running (Cancel st ∷ es) es s.data_begun s.sent _ _ st refl (zero_front s.data_begun (events_bytes es) (backs_bytes s.hold.kept) total) k0.course;
    }

taken_calm : (c : ChannelPlan) (E : Status) (T : Status → Type 0) (G : Type 0) (t : Target) (w : List ChildEvent) (s : ChildState) (total : ℕ)
    → OkOrFails E → s.running ≡ None → (s.stopped ≡ true → events_bytes w ≡ 0) → s.queue.waiting ≡ w → Calmly c E T G s [] total → Calmly c E T G (flush_with c t (taken class_of s.queue t w) s) [] total
taken_calm c E T G t [] s total ef idle nb e k = k
taken_calm c E T G t (x ∷ es) s total ef idle nb e k =
    let P : Taken ChildEvent → Type 0 = λ y. Calmly c E T G (flush_with c t y s) [] total in
    let u : Target = target_in s.queue.data_target (class_of x) in
    keeps_if P (s.queue.suspended || nat_lt 0 s.queue.forced) Ended (if same_target u t then Event x es else Over u)
    (λ r. k)
    (λ r. keeps_if P (same_target u t) (Event x es) (Over u)
    (λ q. take_event c E T G t x es s total ef idle (λ y. let h : event_bytes x + events_bytes es ≡ 0 = nb y in omega arith) e k)
    (λ q. k))

pub begun_calm : (c : ChannelPlan) (E : Status) (T : Status → Type 0) (G : Type 0) (t : Target) (s : ChildState) (total : ℕ)
    → OkOrFails E → Flushes s → (s.stopped ≡ true → events_bytes s.queue.waiting ≡ 0) → Calmly c E T G s [] total → Calmly c E T G (step_begin c t s) [] total
begun_calm c E T G t s total ef l nb k =
    let P : ChildState → Type 0 = λ x. Calmly c E T G x [] total in
    let posted : Bool = nat_lt 0 (slice_index s.queue.posted (target_number t)) in
    let done : ChildState = record s { queue = completed s.queue t; journal = s.journal ++ child.Complete t ∷ [] } in
    let taking : ChildState = flush_with c t (taken class_of s.queue t s.queue.waiting) s in
    keeps_if P (runs_on s.running t) s (if is_target s.queue.flushing t then taking else (if posted then done else s)) (λ r. k)
    (λ r. keeps_if P (is_target s.queue.flushing t) taking (if posted then done else s)
    (λ q. taken_calm c E T G t s.queue.waiting s total ef (runs_elsewhere s.running s.queue.flushing t r q l) nb refl k)
    (λ q. keeps_if P posted done s (λ p. k) (λ p. k)))

-- The end of a callback

-- all but the course
pub record Frame (E : Status) (T : Status → Type 0) (G : Type 0) (trace : List Entry) (stopped broken : Bool) (suspends : ℕ) (w : List ChildEvent) (held : List BackMsg) (n : ℕ) : Type 0 where
  right_waiting : RightEvents E T G w
  cancels_first : CancelsFirst w
  right_held : RightBacks E T G held
  no_suspend : suspends ≡ 0
  unbroken : broken ≡ false
  head_is : HeadIs E trace
  data_is : data_count trace ≡ n
  stop_is : has_stop trace ≡ stopped

abbrev Framed : Status → (Status → Type 0) → Type 0 → ChildState → Type 0
Framed E T G s = Frame E T G s.trace s.stopped s.broken s.suspends s.queue.waiting s.hold.kept s.data_begun

frame_of : (c : ChannelPlan) (E : Status) (T : Status → Type 0) (G : Type 0) (s : ChildState) (total : ℕ) → Calmly c E T G s [] total → Framed E T G s
frame_of c E T G s total k = record {
  right_waiting = k.right_waiting;
  cancels_first = k.cancels_first;
  right_held = k.right_held;
  no_suspend = k.no_suspend;
  unbroken = k.unbroken;
  head_is = k.head_is;
  data_is = k.data_is;
  stop_is = k.stop_is;
}

abbrev CourseAt : ChannelPlan → Status → (Status → Type 0) → Type 0 → ChildState → ℕ → Type 0
CourseAt c E T G s total = Course c E T G s.trace s.kept s.stopped s.running s.queue.waiting s.data_begun s.sent (s.data_begun + (events_bytes s.queue.waiting + (backs_bytes s.hold.kept + 0)) ≡ total)

calm_of : (c : ChannelPlan) (E : Status) (T : Status → Type 0) (G : Type 0) (s : ChildState) (total : ℕ) → Framed E T G s → CourseAt c E T G s total → Calmly c E T G s [] total
calm_of c E T G s total f k = record {
  right_waiting = f.right_waiting;
  cancels_first = f.cancels_first;
  right_held = f.right_held;
  right_pend = tt;
  no_suspend = f.no_suspend;
  unbroken = f.unbroken;
  head_is = f.head_is;
  data_is = f.data_is;
  stop_is = f.stop_is;
  course = k;
}

-- the start's callback ends: nothing is kept while these reactions are still to come, or it is settled
abbrev Reacts : ChannelPlan → Status → (Status → Type 0) → Type 0 → List Reaction → ChildState → ℕ → Type 0
Reacts c E T G rs s total =
    (G × (s.trace ≡ [] → ⊥) × (s.kept ≡ None) × (is_failure E ≡ false) × NoCancel s.queue.waiting × (s.data_begun ≡ 0) × (s.stopped ≡ false) × Silent s.sent × (s.data_begun + (events_bytes s.queue.waiting + (backs_bytes s.hold.kept + 0)) ≡ total) × (start_reaction c.reactions ≡ start_reaction rs) × (s.running ≡ None))
    ⊎ (CourseAt c E T G s total × ((is_some s.kept ≡ true) ⊎ (odd s.trace ≡ true)))

answered_reacts : (c : ChannelPlan) (E : Status) (T : Status → Type 0) (G : Type 0) (rs : List Reaction) (o : Option RetargetError) (i : ℕ) (s : ChildState) (total : ℕ) → Framed E T G s → Reacts c E T G rs s total → Framed E T G (call_retarget o i s) × Reacts c E T G rs (call_retarget o i s) total
answered_reacts c E T G rs (Some e) i s total f r = (f, r)
answered_reacts c E T G rs None i s total f r = (f, r)

nothing_kept : (a : Bool) (k : Option Status) → a ≡ false → k ≡ None → (a || is_some k) ≡ true → ⊥
nothing_kept true k e f h = cc
nothing_kept false None e f h = cc
nothing_kept false (Some x) e f h = cc

something_kept : (a : Bool) (k : Option Status) → is_some k ≡ true → (a || is_some k) ≡ false → ⊥
something_kept true k e h = cc
something_kept false k e h = cc

fail_reacts : (c : ChannelPlan) (E : Status) (T : Status → Type 0) (G : Type 0) (rs : List Reaction) (st : Status) (s : ChildState) (total : ℕ) → is_failure st ≡ true → Framed E T G s
    → (((start_reaction c.reactions ≡ Some st) × G × (s.trace ≡ [] → ⊥) × (s.kept ≡ None) × (is_failure E ≡ false) × (s.data_begun ≡ 0) × (s.stopped ≡ false)) ⊎ (CourseAt c E T G s total × ((is_some s.kept ≡ true) ⊎ (odd s.trace ≡ true))))
    → Framed E T G (perform_call c (act.Cancel st) s) × Reacts c E T G rs (perform_call c (act.Cancel st) s) total
fail_reacts c E T G rs st s total f fr (inl (e, g, b, n, ge, z, o)) =
    let some : merged s.kept st ≡ Some st = ap (λ x. merged x st) n ∙ merged_fails st f in
    keeps_if (λ (x : ChildState). Framed E T G x × Reacts c E T G rs x total) (s.stopped || is_some s.kept) (with_entry child.NoEffect s) (call_cancel st s)
    (λ r. absurd (nothing_kept s.stopped s.kept o n r))
    (λ r. (fr, inr (Kept g st b some (inr (inl (ge, e, z))), inl (ap (λ x. is_some x) some))))
fail_reacts c E T G rs st s total f fr (inr (k, x)) =
    keeps_if (λ (x : ChildState). Framed E T G x × Reacts c E T G rs x total) (s.stopped || is_some s.kept) (with_entry child.NoEffect s) (call_cancel st s)
    (λ r. (fr, inr (k, x)))
    (λ r. elim x [ inl y ↦ absurd (something_kept s.stopped s.kept y r) | inr y ↦ (fr, inr (Odd y, inr y)) ])

reacted_calm : (c : ChannelPlan) (E : Status) (T : Status → Type 0) (G : Type 0) (rs : List Reaction) (s : ChildState) (total : ℕ) → NeverSuspends rs → EndsByFailure rs → Framed E T G s → Reacts c E T G rs s total → Calmly c E T G (react_all c rs s) [] total
reacted_calm c E T G [] s total ns v f (inl (g, b, n, e, w, z, o, u, m, sf, idle)) =
    calm_of c E T G s total f (course_idle c E T G s.trace s.kept s.stopped None s.running s.queue.waiting s.data_begun s.sent _ (sym idle)
    (Going g b n e w (sf, λ i p q. absurd (omega arith)) u m))
reacted_calm c E T G [] s total ns v f (inr (k, x)) = calm_of c E T G s total f k
reacted_calm c E T G (reaction.StartRetarget i ∷ rs) s total ns v f r =
    let a : Framed E T G (perform_call c (act.Retarget i) s) × Reacts c E T G rs (perform_call c (act.Retarget i) s) total = answered_reacts c E T G rs (refusal c s) i s total f r in
    reacted_calm c E T G rs (perform_call c (act.Retarget i) s) total ns v a.0 a.1
reacted_calm c E T G (reaction.StartSuspend ∷ rs) s total ns v f r = absurd ns
reacted_calm c E T G (reaction.StartCancel st ∷ rs) s total ns v f r =
    let a = fail_reacts c E T G rs st s total v.0 f (elim r [ inl x ↦ inl (x.9, x.0, x.1, x.2, x.3, x.5, x.6) | inr x ↦ inr x ]) in
    reacted_calm c E T G rs (perform_call c (act.Cancel st) s) total ns v.1 a.0 a.1
reacted_calm c E T G (reaction.StartFail st ∷ rs) s total ns v f r =
    let a = fail_reacts c E T G rs st s total v.0 f (elim r [ inl x ↦ inl (x.9, x.0, x.1, x.2, x.3, x.5, x.6) | inr x ↦ inr x ]) in
    reacted_calm c E T G rs (perform_call c (act.Cancel st) s) total ns v.1 a.0 a.1
reacted_calm c E T G (reaction.BytesFail i st ∷ rs) s total ns v f r = reacted_calm c E T G rs s total ns v.2 f r

-- the callback of a piece ends

no_fail_more : (rs : List Reaction) (m n : ℕ) → n ≡ suc m → NoFail rs m → bytes_failure rs n ≡ None → NoFail rs n
no_fail_more rs m n e f z i p q = elim (eqb_tells i n) [
  | inl x ↦ let y : i ≡ n = eqb-true i n x.0 in rw y z
  | inr x ↦ let ne : i ≡ n → ⊥ = x.1 in f i p (omega arith)
]

-- no failure at this piece, or what was kept stays
data_goes : (c : ChannelPlan) (E : Status) (T : Status → Type 0) (G : Type 0) (trace : List Entry) (kept : Option Status) (stopped : Bool) (t : Target) (at : ℕ) (p : List ℕ) (st : Status) (w : List ChildEvent) (n : ℕ) (u : List UpMsg) (x : UpMsg) (S : Type 0)
    → NoCancelUp x → (kept ≡ None → stopped ≡ false → bytes_failure c.reactions n ≡ None) → Course c E T G trace kept stopped (Some (t, Bytes at p st)) w n u S → Course c E T G trace kept stopped None w n (u ++ x ∷ []) S
data_goes c E T G trace kept stopped t at p st w n u x S nx nf (Quiet a b d e y z s) = cc
data_goes c E T G trace kept stopped t at p st w n u x S nx nf (Going y a b d e (sf, op, m, nm, f) q s) = Going y a b d e (sf, no_fail_more c.reactions m n nm f (nf b op)) (silent_then u x q nx) s
data_goes c E T G trace kept stopped t at p st w n u x S nx nf (Pending y a b d e i q rest z f why) = cc
data_goes c E T G trace kept stopped t at p st w n u x S nx nf (Kept y q bg a why) = Kept y q bg a why
data_goes c E T G trace kept stopped t at p st w n u x S nx nf (Closing y q bg a fl b d e i z f s) = Closing y q bg a fl b d e i (silent_then u x z nx) f s
data_goes c E T G trace kept stopped t at p st w n u x S nx nf (Odd a) = Odd a

-- the failure is kept at once
data_called : (c : ChannelPlan) (E : Status) (T : Status → Type 0) (G : Type 0) (trace : List Entry) (kept : Option Status) (stopped : Bool) (t : Target) (at : ℕ) (p : List ℕ) (st : Status) (w : List ChildEvent) (n : ℕ) (u u' : List UpMsg) (d : Status) (S : Type 0)
    → is_failure d ≡ true → (stopped || is_some kept) ≡ false → bytes_failure c.reactions n ≡ Some d → Course c E T G trace kept stopped (Some (t, Bytes at p st)) w n u S → Course c E T G trace (merged kept d) stopped None w n u' S
data_called c E T G trace kept stopped t at p st w n u u' d S f g z (Quiet a b e h y i s) = cc
data_called c E T G trace kept stopped t at p st w n u u' d S f g z (Going y a b e h (sf, op, m, nm, nf) q s) = Kept y d a (ap (λ k. merged k d) b ∙ merged_fails d f) (inr (inr (e, sf, m, nm, nf, z)))
data_called c E T G trace kept stopped t at p st w n u u' d S f g z (Pending y a b e h i q rest x k why) = cc
data_called c E T G trace kept stopped t at p st w n u u' d S f g z (Kept y q bg a why) = absurd (something_kept stopped kept (ap (λ o. is_some o) a) g)
data_called c E T G trace kept stopped t at p st w n u u' d S f g z (Closing y q bg a fl b e h i x k s) = absurd (something_kept stopped kept (ap (λ o. is_some o) a) g)
data_called c E T G trace kept stopped t at p st w n u u' d S f g z (Odd a) = Odd a

-- a cancel is put in front of all that waits
data_pends : (c : ChannelPlan) (E : Status) (T : Status → Type 0) (G : Type 0) (trace : List Entry) (kept : Option Status) (stopped : Bool) (t : Target) (at : ℕ) (p : List ℕ) (st : Status) (w : List ChildEvent) (n : ℕ) (u : List UpMsg) (x : UpMsg) (d : Status) (S S' : Type 0)
    → NoCancelUp x → is_failure d ≡ true → bytes_failure c.reactions n ≡ Some d → (S → S') → Course c E T G trace kept stopped (Some (t, Bytes at p st)) w n u S → Course c E T G trace kept stopped None (Cancel d ∷ w) n (u ++ x ∷ []) S'
data_pends c E T G trace kept stopped t at p st w n u x d S S' nx f z j (Quiet a b e h y i s) = cc
data_pends c E T G trace kept stopped t at p st w n u x d S S' nx f z j (Going y a b e h (sf, op, m, nm, nf) q s) = Pending y a b e op refl d w refl f (inr (inr (e, sf, m, nm, nf, z)))
data_pends c E T G trace kept stopped t at p st w n u x d S S' nx f z j (Pending y a b e h i q rest k l why) = cc
data_pends c E T G trace kept stopped t at p st w n u x d S S' nx f z j (Kept y q bg a why) = Kept y q bg a why
data_pends c E T G trace kept stopped t at p st w n u x d S S' nx f z j (Closing y q bg a fl b e h i k l s) = Closing y q bg a fl b e h i (silent_then u x k nx) l (j s)
data_pends c E T G trace kept stopped t at p st w n u x d S S' nx f z j (Odd a) = Odd a

bytes_fail_fails : (rs : List Reaction) (n : ℕ) (d : Status) → EndsByFailure rs → bytes_failure rs n ≡ Some d → is_failure d ≡ true
bytes_fail_fails [] n d v e = cc
bytes_fail_fails (reaction.StartRetarget w ∷ rs) n d v e = bytes_fail_fails rs n d v e
bytes_fail_fails (reaction.StartSuspend ∷ rs) n d v e = bytes_fail_fails rs n d v e
bytes_fail_fails (reaction.StartCancel st ∷ rs) n d v e = bytes_fail_fails rs n d v.1 e
bytes_fail_fails (reaction.StartFail st ∷ rs) n d v e = bytes_fail_fails rs n d v.1 e
bytes_fail_fails (reaction.BytesFail k st ∷ rs) n d v e =
    keeps_if (λ o. o ≡ Some d → is_failure d ≡ true) (k == n) (Some st) (bytes_failure rs n) (λ r x. let y : st ≡ d = cc in rw (← y) v.0) (λ r x. bytes_fail_fails rs n d v.2 x) e

front_back : (n b h total : ℕ) → n + (b + (h + 0)) ≡ total → n + ((0 + b) + (h + 0)) ≡ total
front_back n b h total s = omega arith

data_finish : (c : ChannelPlan) (E : Status) (T : Status → Type 0) (G : Type 0) (t v : Target) (at : ℕ) (p : List ℕ) (st : Status) (o : Option Status) (s : ChildState) (total : ℕ) → EndsByFailure c.reactions → bytes_failure c.reactions s.data_begun ≡ o
    → Framed E T G s → Course c E T G s.trace s.kept s.stopped (Some (v, Bytes at p st)) s.queue.waiting s.data_begun s.sent (s.data_begun + (events_bytes s.queue.waiting + (backs_bytes s.hold.kept + 0)) ≡ total)
    → Calmly c E T G (fail_data c t o (record s { running = None; finished = suc s.finished; journal = s.journal ++ child.Finish t ∷ []; sent = s.sent ++ up.BytesRead (length p) ∷ [] })) [] total
data_finish c E T G t v at p st None s total ev e f k =
    let s2 : ChildState = record s { running = None; finished = suc s.finished; journal = s.journal ++ child.Finish t ∷ []; sent = s.sent ++ up.BytesRead (length p) ∷ [] } in
    calm_of c E T G s2 total f (data_goes c E T G s.trace s.kept s.stopped v at p st s.queue.waiting s.data_begun s.sent (up.BytesRead (length p)) _ tt (λ a b. e) k)
data_finish c E T G t v at p st (Some d) s total ev e f k =
    let s2 : ChildState = record s { running = None; finished = suc s.finished; journal = s.journal ++ child.Finish t ∷ []; sent = s.sent ++ up.BytesRead (length p) ∷ [] } in
    let fd : is_failure d ≡ true = bytes_fail_fails c.reactions s.data_begun d ev e in
    let P : ChildState → Type 0 = λ x. Calmly c E T G x [] total in
    keeps_if P (same_target t target.Main) (perform_call c (act.Cancel d) s2) (prepend_cancel d s2)
    (λ r. keeps_if P (s.stopped || is_some s.kept) (with_entry child.NoEffect s2) (call_cancel d s2)
    (λ q. calm_of c E T G (with_entry child.NoEffect s2) total f (data_goes c E T G s.trace s.kept s.stopped v at p st s.queue.waiting s.data_begun s.sent (up.BytesRead (length p)) _ tt (λ a b. absurd (nothing_kept s.stopped s.kept b a q)) k))
    (λ q. calm_of c E T G (call_cancel d s2) total f (data_called c E T G s.trace s.kept s.stopped v at p st s.queue.waiting s.data_begun s.sent _ d _ fd q e k)))
    (λ r. record {
      right_waiting = (tt, f.right_waiting);
      cancels_first = f.cancels_first;
      right_held = f.right_held;
      right_pend = tt;
      no_suspend = f.no_suspend;
      unbroken = f.unbroken;
      head_is = f.head_is;
      data_is = f.data_is;
      stop_is = f.stop_is;
      course = data_pends c E T G s.trace s.kept s.stopped v at p st s.queue.waiting s.data_begun s.sent (up.BytesRead (length p)) d _ _ tt fd e (front_back s.data_begun (events_bytes s.queue.waiting) (backs_bytes s.hold.kept) total) k;
    })

-- the other callbacks end

stop_goes : (c : ChannelPlan) (E : Status) (T : Status → Type 0) (G : Type 0) (trace : List Entry) (kept : Option Status) (stopped : Bool) (t : Target) (st : Status) (w : List ChildEvent) (n : ℕ) (u : List UpMsg) (S : Type 0)
    → Course c E T G trace kept stopped (Some (t, Stop st)) w n u S → Course c E T G trace kept stopped None w n (u ++ up.Deleting ∷ []) S
stop_goes c E T G trace kept stopped t st w n u S (Quiet a b d e y z s) = cc
stop_goes c E T G trace kept stopped t st w n u S (Going y a b d e r q s) = Going y a b d e r (silent_then u up.Deleting q tt) s
stop_goes c E T G trace kept stopped t st w n u S (Pending y a b d e i q rest z f why) = cc
stop_goes c E T G trace kept stopped t st w n u S (Kept y q bg a why) = Kept y q bg a why
stop_goes c E T G trace kept stopped t st w n u S (Closing y q bg a fl b d e i z f s) = Closing y q bg a fl b d e i (silent_then u up.Deleting z tt) f s
stop_goes c E T G trace kept stopped t st w n u S (Odd a) = Odd a

start_goes : (c : ChannelPlan) (E : Status) (T : Status → Type 0) (G : Type 0) (t v : Target) (code : ℕ) (st : Status) (s : ChildState) (total : ℕ)
    → Course c E T G s.trace s.kept s.stopped (Some (v, Start code st)) s.queue.waiting s.data_begun s.sent (s.data_begun + (events_bytes s.queue.waiting + (backs_bytes s.hold.kept + 0)) ≡ total)
    → Reacts c E T G c.reactions (record s { running = None; finished = suc s.finished; journal = s.journal ++ child.Finish t ∷ [] }) total
start_goes c E T G t v code st s total (Quiet a b d h y z x) = cc
start_goes c E T G t v code st s total (Going y a b d h (n, o) q x) = inl (y, a, b, d, h, n, o, q, x, refl, refl)
start_goes c E T G t v code st s total (Pending y a b d h i q rest z f why) = cc
start_goes c E T G t v code st s total (Kept y q bg a why) = inr (Kept y q bg a why, inl (ap (λ o. is_some o) a))
start_goes c E T G t v code st s total (Closing y q bg a fl b d h i z f x) = inr (Closing y q bg a fl b d h i z f x, inl (ap (λ o. is_some o) a))
start_goes c E T G t v code st s total (Odd a) = inr (Odd a, inr a)

never_runs : (c : ChannelPlan) (E : Status) (T : Status → Type 0) (G : Type 0) (trace : List Entry) (kept : Option Status) (stopped : Bool) (x : Target × ChildEvent) (w : List ChildEvent) (n : ℕ) (u : List UpMsg) (S : Type 0)
    → RunOk c.reactions (Some x) n stopped ≡ ⊥ → Course c E T G trace kept stopped (Some x) w n u S → Course c E T G trace kept stopped None w n u S
never_runs c E T G trace kept stopped x w n u S z (Quiet a b d e y q s) = cc
never_runs c E T G trace kept stopped x w n u S z (Going y a b d e r q s) = absurd (rw z at r)
never_runs c E T G trace kept stopped x w n u S z (Pending y a b d e i q rest k f why) = cc
never_runs c E T G trace kept stopped x w n u S z (Kept y q bg a why) = Kept y q bg a why
never_runs c E T G trace kept stopped x w n u S z (Closing y q bg a fl b d e i k f s) = Closing y q bg a fl b d e i k f s
never_runs c E T G trace kept stopped x w n u S z (Odd a) = Odd a

event_finish_calm : (c : ChannelPlan) (E : Status) (T : Status → Type 0) (G : Type 0) (t v : Target) (e : ChildEvent) (s : ChildState) (total : ℕ) → NeverSuspends c.reactions → EndsByFailure c.reactions
    → Framed E T G s → Course c E T G s.trace s.kept s.stopped (Some (v, e)) s.queue.waiting s.data_begun s.sent (s.data_begun + (events_bytes s.queue.waiting + (backs_bytes s.hold.kept + 0)) ≡ total)
    → Calmly c E T G (finish_event c t e (record s { running = None; finished = suc s.finished; journal = s.journal ++ child.Finish t ∷ [] })) [] total
event_finish_calm c E T G t v (Start code st) s total ns ev f k =
    let s1 : ChildState = record s { running = None; finished = suc s.finished; journal = s.journal ++ child.Finish t ∷ [] } in
    reacted_calm c E T G c.reactions s1 total ns ev f (start_goes c E T G t v code st s total k)
event_finish_calm c E T G t v (Bytes at p st) s total ns ev f k = data_finish c E T G t v at p st (bytes_failure c.reactions s.data_begun) s total ev refl f k
event_finish_calm c E T G t v (Stop st) s total ns ev f k = calm_of c E T G (record s { running = None; sent = s.sent ++ up.Deleting ∷ [] }) total f (stop_goes c E T G s.trace s.kept s.stopped v st s.queue.waiting s.data_begun s.sent _ k)
event_finish_calm c E T G t v (Redirect1 i) s total ns ev f k = calm_of c E T G (record s { running = None }) total f (never_runs c E T G s.trace s.kept s.stopped (v, Redirect1 i) s.queue.waiting s.data_begun s.sent _ refl k)
event_finish_calm c E T G t v (Redirect3 i) s total ns ev f k = calm_of c E T G (record s { running = None }) total f (never_runs c E T G s.trace s.kept s.stopped (v, Redirect3 i) s.queue.waiting s.data_begun s.sent _ refl k)
event_finish_calm c E T G t v (Cancel st) s total ns ev f k = calm_of c E T G (record s { running = None }) total f (never_runs c E T G s.trace s.kept s.stopped (v, Cancel st) s.queue.waiting s.data_begun s.sent _ refl k)

pub finished_calm : (c : ChannelPlan) (E : Status) (T : Status → Type 0) (G : Type 0) (t : Target) (x : Option (Target × ChildEvent)) (s : ChildState) (total : ℕ) → NeverSuspends c.reactions → EndsByFailure c.reactions → s.running ≡ x
    → Calmly c E T G s [] total → Calmly c E T G (step_finish c t x s) [] total
finished_calm c E T G t None s total ns ev e k = k
finished_calm c E T G t (Some (v, x)) s total ns ev e k =
    let s1 : ChildState = record s { running = None; finished = suc s.finished; journal = s.journal ++ child.Finish t ∷ [] } in
    keeps_if (λ (y : ChildState). Calmly c E T G y [] total) (same_target v t) (finish_event c t x s1) s
    (λ r. event_finish_calm c E T G t v x s total ns ev (frame_of c E T G s total k) (course_idle c E T G s.trace s.kept s.stopped s.running (Some (v, x)) s.queue.waiting s.data_begun s.sent _ e k.course))
    (λ r. k)

-- The other steps

pub acted_calm : (c : ChannelPlan) (E : Status) (T : Status → Type 0) (G : Type 0) (s : ChildState) (total : ℕ) → c.controls ≡ [] → Calmly c E T G s [] total → Calmly c E T G (step_act c s) [] total
acted_calm c E T G s total e k =
    let P : ChildState → Type 0 = λ x. Calmly c E T G x [] total in
    let none : slice_get c.controls s.next ≡ None = ap (λ t. slice_get t s.next) e in
    keeps_if P c.closed s _ (λ r. k)
    (λ r. keeps_if P s.opened (perform_control c (slice_get c.controls s.next) s) _
    (λ q. subst (λ (o : Option Control). P (perform_control c o s)) (sym none) k)
    (λ q. calm_of c E T G (record s { opened = true; sent = s.sent ++ up.Open ∷ []; journal = s.journal ++ child.Open ∷ [] }) total (frame_of c E T G s total k)
    (course_says c E T G s.trace s.kept s.stopped s.running s.queue.waiting s.data_begun s.sent up.Open _ (λ x. tt) tt k.course)))

pub verdict_calm : (c : ChannelPlan) (E : Status) (T : Status → Type 0) (G : Type 0) (x : Option ℕ) (s : ChildState) (total : ℕ) → Calmly c E T G s [] total → Calmly c E T G (step_verdict c x s) [] total
verdict_calm c E T G None s total k = k
verdict_calm c E T G (Some i) s total k =
    calm_of c E T G (step_verdict c (Some i) s) total (frame_of c E T G s total k)
    (course_says c E T G s.trace s.kept s.stopped s.running s.queue.waiting s.data_begun s.sent (up.Verify i (verdict_status c s.kept i)) _ (λ z. ap (λ o. verdict_status c o i) z) tt k.course)

reported_calm : (c : ChannelPlan) (E : Status) (T : Status → Type 0) (G : Type 0) (l : StartLane) (m : MainMsg) (s : ChildState) (total : ℕ) → Calmly c E T G s [] total → Calmly c E T G (note_main l m s) [] total
reported_calm c E T G l (main.Start h st head) s total k = k
reported_calm c E T G l (main.FailedOpen h st) s total k = k
reported_calm c E T G l (main.Redirect1 h code) s total k = k
reported_calm c E T G lane.Main (main.Redirect3 h) s total k = k
reported_calm c E T G lane.Back (main.Redirect3 h) s total k = k

main_right : (E : Status) (T : Status → Type 0) (G : Type 0) (m : MainMsg) → RightMain E T G m → RightEvents E T G (main_events_of m) × NoCancel (main_events_of m) × (events_bytes (main_events_of m) ≡ 0)
main_right E T G (main.Start h st head) r = (((r.0, r.1), tt), (tt, tt), refl)
main_right E T G (main.FailedOpen h st) r = (((r.0, r.1), (r.2, tt)), (tt, (tt, tt)), refl)
main_right E T G (main.Redirect1 h code) r = ((tt, tt), (tt, tt), refl)
main_right E T G (main.Redirect3 h) r = ((tt, tt), (tt, tt), refl)

back_right : (E : Status) (T : Status → Type 0) (G : Type 0) (m : BackMsg) → RightBack E T G m → RightEvents E T G (back_events_of m) × NoCancel (back_events_of m) × (events_bytes (back_events_of m) ≡ back_bytes m)
back_right E T G (back.Start h st head) r = (((r.0, r.1), tt), (tt, tt), refl)
back_right E T G (back.StartSent h) r = (tt, tt, refl)
back_right E T G (back.Bytes h st o p) r = ((r, tt), (tt, tt), refl)
back_right E T G (back.Stop h st trailers) r = ((r, tt), (tt, tt), refl)

come_sum : (n b h p k total : ℕ) → p ≡ k → n + (b + (h + 0)) ≡ total → n + (b + (h + p)) ≡ total + k
come_sum n b h p k total z s = omega arith

come_calm : (c : ChannelPlan) (E : Status) (T : Status → Type 0) (G : Type 0) (es : List ChildEvent) (s : ChildState) (total k : ℕ) → RightEvents E T G es → events_bytes es ≡ k → Calmly c E T G s [] total → Calmly c E T G s es (total + k)
come_calm c E T G es s total n r z k = record {
  right_waiting = k.right_waiting;
  cancels_first = k.cancels_first;
  right_held = k.right_held;
  right_pend = r;
  no_suspend = k.no_suspend;
  unbroken = k.unbroken;
  head_is = k.head_is;
  data_is = k.data_is;
  stop_is = k.stop_is;
  course = course_sum c E T G s.trace s.kept s.stopped s.running s.queue.waiting s.data_begun s.sent _ _ (come_sum s.data_begun (events_bytes s.queue.waiting) (backs_bytes s.hold.kept) (events_bytes es) n total z) k.course;
}

pub main_calm : (c : ChannelPlan) (E : Status) (T : Status → Type 0) (G : Type 0) (m : MainMsg) (s : ChildState) (total : ℕ) → OkOrFails E → RightMain E T G m → Flushes s → Calmly c E T G s [] total → Calmly c E T G (step_main c m s) [] (total + 0)
main_calm c E T G m s total ef r l k =
    let a = main_right E T G m r in
    reported_calm c E T G c.start m (offer_all c target.Main (main_events_of m) s) (total + 0)
    (offered_all_calm c E T G target.Main (main_events_of m) s (total + 0) ef a.1 l (λ x y. a.2) (come_calm c E T G (main_events_of m) s total 0 a.0 a.2 k))

held_size : (xs : List BackMsg) (m : BackMsg) → backs_bytes (xs ++ m ∷ []) ≡ backs_bytes xs + (back_bytes m + 0)
held_size [] m = sym (zero-add (back_bytes m + 0))
held_size (x ∷ xs) m = let h : backs_bytes (xs ++ m ∷ []) ≡ backs_bytes xs + (back_bytes m + 0) = held_size xs m in omega arith

held_right : (E : Status) (T : Status → Type 0) (G : Type 0) (xs : List BackMsg) (m : BackMsg) → RightBacks E T G xs → RightBack E T G m → RightBacks E T G (xs ++ m ∷ [])
held_right E T G [] m a b = (b, tt)
held_right E T G (x ∷ xs) m a b = (a.0, held_right E T G xs m a.1 b)

held_sum : (n b h h' k total : ℕ) → h' ≡ h + (k + 0) → n + (b + (h + 0)) ≡ total → n + (b + (h' + 0)) ≡ total + k
held_sum n b h h' k total z s = omega arith

passed_calm : (c : ChannelPlan) (E : Status) (T : Status → Type 0) (G : Type 0) (m : BackMsg) (s : ChildState) (total : ℕ) → OkOrFails E → RightBack E T G m → Flushes s → (s.stopped ≡ true → back_bytes m ≡ 0) → Calmly c E T G s [] total → Calmly c E T G (hold_back c m s) [] (total + back_bytes m)
passed_calm c E T G m s total ef r l nb k =
    let a = back_right E T G m r in
    keeps_if (λ (y : ChildState). Calmly c E T G y [] (total + back_bytes m)) (is_among s.hold.released (back_hop m)) (offer_all c target.Back (back_events_of m) s) _
    (λ q. offered_all_calm c E T G target.Back (back_events_of m) s (total + back_bytes m) ef a.1 l (λ x y. a.2 ∙ nb x) (come_calm c E T G (back_events_of m) s total (back_bytes m) a.0 a.2 k))
    (λ q. record {
      right_waiting = k.right_waiting;
      cancels_first = k.cancels_first;
      right_held = held_right E T G s.hold.kept m k.right_held r;
      right_pend = tt;
      no_suspend = k.no_suspend;
      unbroken = k.unbroken;
      head_is = k.head_is;
      data_is = k.data_is;
      stop_is = k.stop_is;
      course = course_sum c E T G s.trace s.kept s.stopped s.running s.queue.waiting s.data_begun s.sent _ _ (held_sum s.data_begun (events_bytes s.queue.waiting) (backs_bytes s.hold.kept) (backs_bytes (s.hold.kept ++ m ∷ [])) (back_bytes m) total (held_size s.hold.kept m)) k.course;
    })

pub back_calm : (c : ChannelPlan) (E : Status) (T : Status → Type 0) (G : Type 0) (m : BackMsg) (s : ChildState) (total : ℕ) → OkOrFails E → RightBack E T G m → Flushes s → (s.stopped ≡ true → back_bytes m ≡ 0) → Calmly c E T G s [] total → Calmly c E T G (step_back c m s) [] (total + back_bytes m)
back_calm c E T G (back.StartSent h) s total ef r l nb k = rw (add-zero total) k
back_calm c E T G (back.Start h st head) s total ef r l nb k = passed_calm c E T G (back.Start h st head) s total ef r l nb k
back_calm c E T G (back.Bytes h st o p) s total ef r l nb k = passed_calm c E T G (back.Bytes h st o p) s total ef r l nb k
back_calm c E T G (back.Stop h st trailers) s total ef r l nb k = passed_calm c E T G (back.Stop h st trailers) s total ef r l nb k

-- the hold is split

append_right : (E : Status) (T : Status → Type 0) (G : Type 0) (xs ys : List ChildEvent) → RightEvents E T G xs → RightEvents E T G ys → RightEvents E T G (xs ++ ys)
append_right E T G [] ys a b = b
append_right E T G (x ∷ xs) ys a b = (a.0, append_right E T G xs ys a.1 b)

pub append_bytes : (xs ys : List ChildEvent) → events_bytes (xs ++ ys) ≡ events_bytes xs + events_bytes ys
append_bytes [] ys = sym (zero-add (events_bytes ys))
append_bytes (e ∷ xs) ys = ap (λ t. event_bytes e + t) (append_bytes xs ys) ∙ sym (add_assoc (event_bytes e) (events_bytes xs) (events_bytes ys))

abbrev Splits : Status → (Status → Type 0) → Type 0 → List BackMsg → List BackMsg → ℕ → Type 0
Splits E T G xs ys n = RightEvents E T G (back_events xs) × NoCancel (back_events xs) × RightBacks E T G ys × (events_bytes (back_events xs) + backs_bytes ys ≡ n)

split_one : (E : Status) (T : Status → Type 0) (G : Type 0) (b : Bool) (m : BackMsg) (xs ys : List BackMsg) (n : ℕ) → RightBack E T G m → Splits E T G xs ys n → Splits E T G (if b then m ∷ xs else xs) (if b then ys else m ∷ ys) (back_bytes m + n)
split_one E T G true m xs ys n r s =
    let a = back_right E T G m r in
    let z : events_bytes (back_events_of m ++ back_events xs) ≡ events_bytes (back_events_of m) + events_bytes (back_events xs) = append_bytes (back_events_of m) (back_events xs) in
    let y : events_bytes (back_events_of m) ≡ back_bytes m = a.2 in
    let h : events_bytes (back_events xs) + backs_bytes ys ≡ n = s.3 in
    (append_right E T G (back_events_of m) (back_events xs) a.0 s.0, no_cancel_append (back_events_of m) (back_events xs) a.1 s.1, s.2, omega arith)
split_one E T G false m xs ys n r s = let h : events_bytes (back_events xs) + backs_bytes ys ≡ n = s.3 in (s.0, s.1, (r, s.2), omega arith)

split_all : (E : Status) (T : Status → Type 0) (G : Type 0) (i : ℕ) (ks : List BackMsg) → RightBacks E T G ks → Splits E T G (of_hop i ks) (not_of_hop i ks) (backs_bytes ks)
split_all E T G i [] r = (tt, tt, tt, refl)
split_all E T G i (m ∷ ks) r = split_one E T G (i == back_hop m) m (of_hop i ks) (not_of_hop i ks) (backs_bytes ks) r.0 (split_all E T G i ks r.1)

release_sum : (n b h h' e total : ℕ) → e + h' ≡ h → n + (b + (h + 0)) ≡ total → n + (b + (h' + e)) ≡ total
release_sum n b h h' e total z s = omega arith

pub release_calm : (c : ChannelPlan) (E : Status) (T : Status → Type 0) (G : Type 0) (x : Option ℕ) (s : ChildState) (total : ℕ) → OkOrFails E → Flushes s → (s.stopped ≡ true → backs_bytes s.hold.kept ≡ 0) → Calmly c E T G s [] total → Calmly c E T G (step_release c x s) [] total
release_calm c E T G None s total ef l nb k = k
release_calm c E T G (Some i) s total ef l nb k =
    let es : List ChildEvent = back_events (of_hop i s.hold.kept) in
    let s1 : ChildState = record s { hold = released_hold i s.hold; journal = s.journal ++ child.Release (length (of_hop i s.hold.kept)) ∷ [] } in
    let a : Splits E T G (of_hop i s.hold.kept) (not_of_hop i s.hold.kept) (backs_bytes s.hold.kept) = split_all E T G i s.hold.kept k.right_held in
    let z : events_bytes es + backs_bytes (not_of_hop i s.hold.kept) ≡ backs_bytes s.hold.kept = a.3 in
    offered_all_calm c E T G target.Back es s1 total ef a.1 l (λ x y. let h : backs_bytes s.hold.kept ≡ 0 = nb x in omega arith) (record {
      right_waiting = k.right_waiting;
      cancels_first = k.cancels_first;
      right_held = a.2;
      right_pend = a.0;
      no_suspend = k.no_suspend;
      unbroken = k.unbroken;
      head_is = k.head_is;
      data_is = k.data_is;
      stop_is = k.stop_is;
      course = course_sum c E T G s.trace s.kept s.stopped s.running s.queue.waiting s.data_begun s.sent _ _ (release_sum s.data_begun (events_bytes s.queue.waiting) (backs_bytes s.hold.kept) (backs_bytes (not_of_hop i s.hold.kept)) (events_bytes es) total z) k.course;
    })
