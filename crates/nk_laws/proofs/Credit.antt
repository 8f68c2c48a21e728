-- What a child has acknowledged is what it has shown, but for the piece whose callback runs; and it keeps no failure unless one was
-- sent to it or said by it, or it is broken.
use Rattle.std.proofs.Common.{ℕ, suc, ◌≡◌, ◌+◌, ◌≤◌, refl, sym, ◌∙◌, ap, subst, List, [], ◌∷◌, ◌++◌, length, Bool, true, false, ◌||◌, Option, Some, None, is_some, ◌⊎◌, inl, inr, if◌then◌else◌, nat_lt, nat_le, slice_get, ◌==◌, arith, add_assoc, zero-add, add-zero}
use Rattle.nk_base.specs.declared.status.Status.{Status}
use Rattle.nk_base.specs.declared.status.Target.{Target}
use Rattle.nk_base.specs.declared.status.RetargetError.{RetargetError}
use Rattle.nk_base.specs.declared.message.MainMsg.{MainMsg}
use Rattle.nk_base.specs.declared.message.BackMsg.{BackMsg}
use Rattle.nk_base.specs.declared.message.UpMsg.{UpMsg}
use Rattle.nk_base.specs.declared.message.Entry.{Entry}
use Rattle.nk_base.specs.declared.message.Entry.TheVariants as shown
use Rattle.nk_half_laws.specs.Sums.{sum_of}
use Rattle.nk_half_laws.specs.Pieces.{shown_weight, event_weight, message_weight, data_left}
use Rattle.nk_plan.specs.declared.plan.ChannelPlan.{ChannelPlan}
use Rattle.nk_plan.specs.declared.plan.Reaction.{Reaction}
use Rattle.nk_plan.specs.declared.plan.Act.{Act}
use Rattle.nk_plan.specs.declared.plan.Control.{Control}
use Rattle.nk_plan.specs.declared.journal.ChildEntry.{ChildEntry}
use Rattle.nk_base.specs.Status.{is_failure, merged}
use Rattle.nk_laws.proofs.Merge.{no_kept}
use Rattle.nk_laws.proofs.Premises.{Known}
use Rattle.nk_base.specs.Queue.{Taken, Event, Over, Ended, same_target, is_target, target_in, runs_now, running_now, appended, completed, cleared, taken}
use Rattle.nk_plan.specs.Journal.{mains_taken, backs_taken}
use Rattle.nk_plan.specs.declared.plan.StartLane.{StartLane}
use Rattle.nk_plan.specs.declared.step.ChildStep.{ChildStep}
use Rattle.nk_plan.specs.Child.{main_events_of, note_main, step_main, back_hop, back_events_of, back_events, is_among, hold_back, step_back, of_hop, released_hold, step_release, child_step, cancel_messages, ChildState, run_bytes, run_event, offer_event, offer_all, with_entry, call_suspend, call_resume, call_cancel, refusal, call_retarget, is_empty, call_break, perform_call, perform_control, step_act, step_verdict, flush_with, step_begin, runs_on, react_all, bytes_failure, prepend_cancel, fail_data, finish_event, step_finish, child_after, not_of_hop}
use Rattle.nk_plan.specs.declared.event.ChildEvent.{ChildEvent}
use Rattle.nk_plan.specs.declared.event.ChildEvent.TheVariants.{Start, Bytes, Stop, Redirect1, Redirect3, Cancel}
use Rattle.nk_plan.specs.Event.{class_of}
use Rattle.nk_laws.proofs.Tools.{keeps_if, append_nil, among_more, among_last, by_bool}
use Rattle.nk_plan.specs.Lanes.{Among}
use Rattle.nk_laws.proofs.Flushes.{Flushes, offered_flushes, runs_alone, runs_elsewhere}
use Rattle.nk_laws.proofs.Grows.{main_grows, back_grows, noted_grows, step_grows, Extends, mains-append, backs-append}
use Rattle.nk_laws.proofs.Joined.{main_says, back_says}
use Rattle.nk_base.specs.declared.status.Target.TheVariants as target
use Rattle.nk_base.specs.declared.message.MainMsg.TheVariants as main
use Rattle.nk_base.specs.declared.message.BackMsg.TheVariants as back
use Rattle.nk_base.specs.declared.message.UpMsg.TheVariants as up
use Rattle.nk_plan.specs.declared.plan.Reaction.TheVariants as reaction
use Rattle.nk_plan.specs.declared.plan.Act.TheVariants as act
use Rattle.nk_plan.specs.declared.journal.ChildEntry.TheVariants as child
use Rattle.nk_plan.specs.declared.plan.StartLane.TheVariants as lane
use Rattle.nk_plan.specs.declared.step.ChildStep.TheVariants as step

-- How many bytes were read, are running, were shown and were sent

abbrev pub read_of : List UpMsg → ℕ
read_of [] = 0
read_of (up.Open ∷ u) = read_of u
read_of (up.Suspend ∷ u) = read_of u
read_of (up.Resume ∷ u) = read_of u
read_of (up.Cancel st ∷ u) = read_of u
read_of (up.Verify h st ∷ u) = read_of u
read_of (up.BytesRead n ∷ u) = n + read_of u
read_of (up.Deleting ∷ u) = read_of u

abbrev pub by_length : ℕ → List ℕ → ℕ
by_length o p = length p

abbrev pub backs_size : List BackMsg → ℕ
backs_size ms = sum_of (message_weight by_length) ms

abbrev pub shown_size : List Entry → ℕ
shown_size t = sum_of (shown_weight by_length) t

abbrev pub run_size : Option (Target × ChildEvent) → ℕ
run_size None = 0
run_size (Some (t, e)) = event_weight by_length e

-- a status that is no failure, in all that a message or an event brings
abbrev pub GoodEvent : ChildEvent → Type 0
GoodEvent (Start code st) = is_failure st ≡ false
GoodEvent (Bytes o p st) = is_failure st ≡ false
GoodEvent (Stop st) = is_failure st ≡ false
GoodEvent (Redirect1 h) = Unit {0}
GoodEvent (Redirect3 h) = Unit {0}
GoodEvent (Cancel st) = Unit {0}

abbrev pub GoodEvents : List ChildEvent → Type 0
GoodEvents [] = Unit {0}
GoodEvents (e ∷ es) = GoodEvent e × GoodEvents es

abbrev pub GoodBack : BackMsg → Type 0
GoodBack (back.Start h st head) = is_failure st ≡ false
GoodBack (back.StartSent h) = Unit {0}
GoodBack (back.Bytes h st o p) = is_failure st ≡ false
GoodBack (back.Stop h st trailers) = is_failure st ≡ false

abbrev pub GoodBacks : List BackMsg → Type 0
GoodBacks [] = Unit {0}
GoodBacks (m ∷ ms) = GoodBack m × GoodBacks ms

abbrev pub GoodMain : MainMsg → Type 0
GoodMain (main.Start h st head) = is_failure st ≡ false
GoodMain (main.FailedOpen h st) = is_failure st ≡ false
GoodMain (main.Redirect1 h code) = Unit {0}
GoodMain (main.Redirect3 h) = Unit {0}

abbrev pub GoodMains : List MainMsg → Type 0
GoodMains [] = Unit {0}
GoodMains (m ∷ ms) = GoodMain m × GoodMains ms

-- a failure was said
abbrev pub SaidCancel : List UpMsg → Type 0
SaidCancel u = (q : Status) × (is_failure q ≡ true) × Among (up.Cancel q) u

abbrev pub Excused : Bool → Bool → List UpMsg → Type 0
Excused bad broken u = (broken ≡ true) ⊎ ((bad ≡ true) ⊎ SaidCancel u)

pub record Owes (bad : Bool) (r : Option (Target × ChildEvent)) (w : List ChildEvent) (held : List BackMsg) (kept : Option Status) (broken : Bool) (u : List UpMsg) (pend : List ChildEvent) (t : List Entry) : Type 0 where
  pub read : read_of u + run_size r ≡ shown_size t
  pub excuse : ((kept ≡ None) × GoodEvents w × GoodBacks held × GoodEvents pend) ⊎ Excused bad broken u

abbrev pub Owed : Bool → List ChildEvent → ChildState → Type 0
Owed bad pend s = Owes bad s.running s.queue.waiting s.hold.kept s.kept s.broken s.sent pend s.trace

pub read-append : (u v : List UpMsg) → read_of (u ++ v) ≡ read_of u + read_of v
read-append [] v = sym (zero-add (read_of v))
read-append (up.Open ∷ u) v = read-append u v
read-append (up.Suspend ∷ u) v = read-append u v
read-append (up.Resume ∷ u) v = read-append u v
read-append (up.Cancel st ∷ u) v = read-append u v
read-append (up.Verify h st ∷ u) v = read-append u v
read-append (up.BytesRead n ∷ u) v = ap (λ t. n + t) (read-append u v) ∙ sym (add_assoc n (read_of u) (read_of v))
read-append (up.Deleting ∷ u) v = read-append u v

pub backs_size-append : (xs ys : List BackMsg) → backs_size (xs ++ ys) ≡ backs_size xs + backs_size ys
backs_size-append [] ys = sym (zero-add (backs_size ys))
backs_size-append (m ∷ xs) ys = ap (λ t. message_weight by_length m + t) (backs_size-append xs ys) ∙ sym (add_assoc (message_weight by_length m) (backs_size xs) (backs_size ys))

shown_more : (t : List Entry) (e : Entry) → shown_size (t ++ e ∷ []) ≡ shown_size t + shown_weight by_length e
shown_more [] e = omega arith
shown_more (x ∷ t) e = let h : shown_size (t ++ e ∷ []) ≡ shown_size t + shown_weight by_length e = shown_more t e in omega arith

good_events-append : (xs ys : List ChildEvent) → GoodEvents xs → GoodEvents ys → GoodEvents (xs ++ ys)
good_events-append [] ys a b = b
good_events-append (e ∷ xs) ys a b = (a.0, good_events-append xs ys a.1 b)

good_backs-append : (xs ys : List BackMsg) → GoodBacks xs → GoodBacks ys → GoodBacks (xs ++ ys)
good_backs-append [] ys a b = b
good_backs-append (m ∷ xs) ys a b = (a.0, good_backs-append xs ys a.1 b)

good_backs_left : (xs ys : List BackMsg) → GoodBacks (xs ++ ys) → GoodBacks xs
good_backs_left [] ys a = tt
good_backs_left (m ∷ xs) ys a = (a.0, good_backs_left xs ys a.1)

good_backs_right : (xs ys : List BackMsg) → GoodBacks (xs ++ ys) → GoodBacks ys
good_backs_right [] ys a = a
good_backs_right (m ∷ xs) ys a = good_backs_right xs ys a.1

good_mains_left : (xs ys : List MainMsg) → GoodMains (xs ++ ys) → GoodMains xs
good_mains_left [] ys a = tt
good_mains_left (m ∷ xs) ys a = (a.0, good_mains_left xs ys a.1)

good_mains_right : (xs ys : List MainMsg) → GoodMains (xs ++ ys) → GoodMains ys
good_mains_right [] ys a = a
good_mains_right (m ∷ xs) ys a = good_mains_right xs ys a.1

back_event_good : (m : BackMsg) → GoodBack m → GoodEvents (back_events_of m)
back_event_good (back.Start h st head) g = (g, tt)
back_event_good (back.StartSent h) g = tt
back_event_good (back.Bytes h st o p) g = (g, tt)
back_event_good (back.Stop h st trailers) g = (g, tt)

main_event_good : (m : MainMsg) → GoodMain m → GoodEvents (main_events_of m)
main_event_good (main.Start h st head) g = (g, tt)
main_event_good (main.FailedOpen h st) g = (g, (g, tt))
main_event_good (main.Redirect1 h code) g = (tt, tt)
main_event_good (main.Redirect3 h) g = (tt, tt)

excused_more : (bad broken : Bool) (u v : List UpMsg) → Excused bad broken u → Excused bad broken (u ++ v)
excused_more bad broken u v (inl b) = inl b
excused_more bad broken u v (inr (inl b)) = inr (inl b)
excused_more bad broken u v (inr (inr (q, f, a))) = inr (inr (q, f, among_more (up.Cancel q) u v a))

merged_clean : (q : Option Status) (st : Status) → q ≡ None → is_failure st ≡ false → merged q st ≡ None
merged_clean None st e f = rw f refl
merged_clean (Some x) st e f = cc

-- what is said, but for what was read and for cancels
says_owes : (bad broken : Bool) (r : Option (Target × ChildEvent)) (w : List ChildEvent) (held : List BackMsg) (kept : Option Status) (u v : List UpMsg) (pend : List ChildEvent) (t : List Entry)
    → read_of v ≡ 0 → Owes bad r w held kept broken u pend t → Owes bad r w held kept broken (u ++ v) pend t
says_owes bad broken r w held kept u v pend t z o = record {
  read = rw (read-append u v, z, add-zero (read_of u)) o.read;
  excuse = elim o.excuse [ inl k ↦ inl k | inr x ↦ inr (excused_more bad broken u v x) ];
}

-- a cancel is said, where it is a failure
cancel_owes : (bad broken : Bool) (r : Option (Target × ChildEvent)) (w : List ChildEvent) (held : List BackMsg) (kept : Option Status) (u : List UpMsg) (st : Status) (pend : List ChildEvent) (t : List Entry)
    → Owes bad r w held kept broken u pend t → Owes bad r w held (merged kept st) broken (u ++ up.Cancel st ∷ []) pend t
cancel_owes bad broken r w held kept u st pend t o = record {
  read = rw (read-append u (up.Cancel st ∷ []), add-zero (read_of u)) o.read;
  excuse = elim o.excuse [
    | inl k ↦ by_bool (is_failure st)
        (λ f. inr (inr (inr (st, f, among_last (up.Cancel st) u))))
        (λ f. inl (merged_clean kept st k.0 f, k.1, k.2, k.3))
    | inr x ↦ inr (excused_more bad broken u (up.Cancel st ∷ []) x)
  ];
}

-- an event runs: it leaves those to come, and a status is kept
event_owes : (bad broken : Bool) (r r' : Option (Target × ChildEvent)) (e : ChildEvent) (es w : List ChildEvent) (held : List BackMsg) (kept k' : Option Status) (u : List UpMsg) (t : List Entry) (x : Entry)
    → run_size r ≡ 0 → run_size r' ≡ shown_weight by_length x → (kept ≡ None → GoodEvent e → k' ≡ None) → Owes bad r w held kept broken u (e ∷ es) t
    → Owes bad r' w held k' broken u es (t ++ x ∷ [])
event_owes bad broken r r' e es w held kept k' u t x z y f o =
    let h : read_of u + run_size r ≡ shown_size t = o.read in
    let a : shown_size (t ++ x ∷ []) ≡ shown_size t + shown_weight by_length x = shown_more t x in
    record {
      read = omega arith;
      excuse = elim o.excuse [ inl k ↦ inl (f k.0 k.3.0, k.1, k.2, k.3.1) | inr q ↦ inr q ];
    }

bytes_owes : (bad : Bool) (s : ChildState) (t : Target) (at : ℕ) (p : List ℕ) (k' : Option Status) (st : Status) (es : List ChildEvent) → s.running ≡ None → merged s.kept st ≡ k'
    → Owed bad (Bytes at p st ∷ es) s → Owed bad es (run_bytes s t at p k' st)
bytes_owes bad s t at p None st es idle m o =
    event_owes bad s.broken s.running (Some (t, Bytes at p st)) (Bytes at p st) es s.queue.waiting s.hold.kept s.kept None s.sent s.trace (shown.Bytes at p) (ap run_size idle) refl (λ a b. refl) o
bytes_owes bad s t at p (Some q) st es idle m o = record {
  read = o.read;
  excuse = elim o.excuse [ inl k ↦ let x : merged s.kept st ≡ None = merged_clean s.kept st k.0 k.3.0 in absurd (cc) | inr x ↦ inr x ];
}

cancel_run : (bad broken : Bool) (r : Option (Target × ChildEvent)) (w : List ChildEvent) (held : List BackMsg) (kept : Option Status) (u : List UpMsg) (st : Status) (pend : List ChildEvent) (t : List Entry)
    → Owes bad r w held kept broken u pend t → Owes bad r w held (merged kept st) broken (u ++ cancel_messages kept st) pend t
cancel_run bad broken r w held None u st pend t o = cancel_owes bad broken r w held None u st pend t o
cancel_run bad broken r w held (Some q) u st pend t o = rw (append_nil u) o

popped : (bad broken : Bool) (r : Option (Target × ChildEvent)) (e : ChildEvent) (es w : List ChildEvent) (held : List BackMsg) (kept : Option Status) (u : List UpMsg) (t : List Entry)
    → Owes bad r w held kept broken u (e ∷ es) t → Owes bad r w held kept broken u es t
popped bad broken r e es w held kept u t o = record { read = o.read; excuse = elim o.excuse [ inl k ↦ inl (k.0, k.1, k.2, k.3.1) | inr x ↦ inr x ] }

run_owes : (bad : Bool) (c : ChannelPlan) (t : Target) (e : ChildEvent) (s : ChildState) (es : List ChildEvent) → s.running ≡ None → Owed bad (e ∷ es) s → Owed bad es (run_event c t e s)
run_owes bad c t (Start code st) s es idle o =
    event_owes bad s.broken s.running (Some (t, Start code st)) (Start code st) es s.queue.waiting s.hold.kept s.kept (merged s.kept st) s.sent s.trace _ (ap run_size idle) refl (merged_clean s.kept st) o
run_owes bad c t (Bytes at p st) s es idle o = bytes_owes bad s t at p (merged s.kept st) st es idle refl o
run_owes bad c t (Stop st) s es idle o =
    event_owes bad s.broken s.running (Some (t, Stop st)) (Stop st) es s.queue.waiting s.hold.kept s.kept (merged s.kept st) s.sent s.trace _ (ap run_size idle) refl (merged_clean s.kept st) o
run_owes bad c t (Redirect1 i) s es idle o = popped bad s.broken s.running (Redirect1 i) es s.queue.waiting s.hold.kept s.kept s.sent s.trace o
run_owes bad c t (Redirect3 i) s es idle o = popped bad s.broken s.running (Redirect3 i) es s.queue.waiting s.hold.kept s.kept s.sent s.trace o
run_owes bad c t (Cancel st) s es idle o =
    cancel_run bad s.broken s.running s.queue.waiting s.hold.kept s.kept s.sent st es s.trace (popped bad s.broken s.running (Cancel st) es s.queue.waiting s.hold.kept s.kept s.sent s.trace o)

appended_owes : (bad broken : Bool) (r : Option (Target × ChildEvent)) (e : ChildEvent) (es w : List ChildEvent) (held : List BackMsg) (kept : Option Status) (u : List UpMsg) (t : List Entry)
    → Owes bad r w held kept broken u (e ∷ es) t → Owes bad r (w ++ e ∷ []) held kept broken u es t
appended_owes bad broken r e es w held kept u t o = record {
  read = o.read;
  excuse = elim o.excuse [ inl k ↦ inl (k.0, good_events-append w (e ∷ []) k.1 (k.3.0, tt), k.2, k.3.1) | inr x ↦ inr x ];
}

offered_owes : (bad : Bool) (c : ChannelPlan) (here : Target) (e : ChildEvent) (s : ChildState) (es : List ChildEvent) → Flushes s → Owed bad (e ∷ es) s → Owed bad es (offer_event c here e s)
offered_owes bad c here e s es l o =
    let s1 : ChildState = record s { queue = running_now s.queue here } in
    keeps_if (Owed bad es) (runs_now class_of s.queue e here) (run_event c here e s1) (record s { queue = appended class_of s.queue e })
    (λ r. run_owes bad c here e s1 es (runs_alone here e s l r).1 o)
    (λ r. appended_owes bad s.broken s.running e es s.queue.waiting s.hold.kept s.kept s.sent s.trace o)

offered_all_owes : (bad : Bool) (c : ChannelPlan) (here : Target) (es : List ChildEvent) (s : ChildState) → Flushes s → Owed bad es s → Owed bad [] (offer_all c here es s)
offered_all_owes bad c here [] s l o = o
offered_all_owes bad c here (e ∷ es) s l o = offered_all_owes bad c here es (offer_event c here e s) (offered_flushes c here e s l) (offered_owes bad c here e s es l o)

suspend_says : (n : ℕ) → read_of (if n == 0 then up.Suspend ∷ [] else []) ≡ 0
suspend_says n = keeps_if (λ v. read_of v ≡ 0) (n == 0) (up.Suspend ∷ []) [] (λ r. refl) (λ r. refl)

resume_says : (n : ℕ) → read_of (if n == 1 then up.Resume ∷ [] else []) ≡ 0
resume_says n = keeps_if (λ v. read_of v ≡ 0) (n == 1) (up.Resume ∷ []) [] (λ r. refl) (λ r. refl)

suspend_owes : (bad : Bool) (c : ChannelPlan) (s : ChildState) → Owed bad [] s → Owed bad [] (perform_call c act.Suspend s)
suspend_owes bad c s o =
    keeps_if (Owed bad []) s.stopped (with_entry child.NoEffect s) (call_suspend s) (λ r. o)
    (λ r. says_owes bad s.broken s.running s.queue.waiting s.hold.kept s.kept s.sent _ [] s.trace (suspend_says s.suspends) o)

resume_owes : (bad : Bool) (c : ChannelPlan) (s : ChildState) → Owed bad [] s → Owed bad [] (perform_call c act.Resume s)
resume_owes bad c s o =
    keeps_if (Owed bad []) (s.stopped || (s.suspends == 0)) (with_entry child.NoEffect s) (call_resume s) (λ r. o)
    (λ r. says_owes bad s.broken s.running s.queue.waiting s.hold.kept s.kept s.sent _ [] s.trace (resume_says s.suspends) o)

call_owes : (bad : Bool) (c : ChannelPlan) (st : Status) (s : ChildState) → Owed bad [] s → Owed bad [] (perform_call c (act.Cancel st) s)
call_owes bad c st s o =
    keeps_if (Owed bad []) (s.stopped || is_some s.kept) (with_entry child.NoEffect s) (call_cancel st s) (λ r. o)
    (λ r. cancel_owes bad s.broken s.running s.queue.waiting s.hold.kept s.kept s.sent st [] s.trace o)

answered_owes : (bad : Bool) (x : Option RetargetError) (i : ℕ) (s : ChildState) → Owed bad [] s → Owed bad [] (call_retarget x i s)
answered_owes bad (Some e) i s o = o
answered_owes bad None i s o = o

break_owes : (bad : Bool) (c : ChannelPlan) (st : Status) (s : ChildState) → Flushes s → Owed bad [] s → Owed bad [] (perform_call c (act.Break st) s)
break_owes bad c st s l o =
    let s1 : ChildState = record s { broken = true; kept = merged s.kept st; queue = cleared s.queue; journal = s.journal ++ child.Break st ∷ [] } in
    let es : List ChildEvent = if is_empty s.trace then Start 0 st ∷ Stop st ∷ [] else Stop st ∷ [] in
    let o1 : Owed bad es s1 = record { read = o.read; excuse = inr (inl refl) } in
    keeps_if (Owed bad []) (s.stopped || s.broken) (with_entry child.NoEffect s) (call_break c st s) (λ r. o)
    (λ r. offered_all_owes bad c target.Main es s1 l o1)

performed_owes : (bad : Bool) (c : ChannelPlan) (x : Act) (s : ChildState) → Flushes s → Owed bad [] s → Owed bad [] (perform_call c x s)
performed_owes bad c act.Suspend s l o = suspend_owes bad c s o
performed_owes bad c act.Resume s l o = resume_owes bad c s o
performed_owes bad c (act.Cancel st) s l o = call_owes bad c st s o
performed_owes bad c (act.Retarget i) s l o = answered_owes bad (refusal c s) i s o
performed_owes bad c (act.Break st) s l o = break_owes bad c st s l o

reacted_owes : (bad : Bool) (c : ChannelPlan) (rs : List Reaction) (s : ChildState) → Owed bad [] s → Owed bad [] (react_all c rs s)
reacted_owes bad c [] s o = o
reacted_owes bad c (reaction.StartRetarget i ∷ rs) s o = reacted_owes bad c rs (perform_call c (act.Retarget i) s) (answered_owes bad (refusal c s) i s o)
reacted_owes bad c (reaction.StartSuspend ∷ rs) s o = reacted_owes bad c rs (perform_call c act.Suspend s) (suspend_owes bad c s o)
reacted_owes bad c (reaction.StartCancel st ∷ rs) s o = reacted_owes bad c rs (perform_call c (act.Cancel st) s) (call_owes bad c st s o)
reacted_owes bad c (reaction.StartFail st ∷ rs) s o = reacted_owes bad c rs (perform_call c (act.Cancel st) s) (call_owes bad c st s o)
reacted_owes bad c (reaction.BytesFail i st ∷ rs) s o = reacted_owes bad c rs s o

control_owes : (bad : Bool) (c : ChannelPlan) (x : Option Control) (s : ChildState) → Flushes s → Owed bad [] s → Owed bad [] (perform_control c x s)
control_owes bad c None s l o = o
control_owes bad c (Some control) s l o =
    let s1 : ChildState = record s { next = suc s.next } in
    keeps_if (Owed bad []) (nat_le control.after s.finished) (perform_call c control.act s1) s (λ r. performed_owes bad c control.act s1 l o) (λ r. o)

acted_owes : (bad : Bool) (c : ChannelPlan) (s : ChildState) → Flushes s → Owed bad [] s → Owed bad [] (step_act c s)
acted_owes bad c s l o =
    keeps_if (Owed bad []) c.closed s _ (λ r. o)
    (λ r. keeps_if (Owed bad []) s.opened (perform_control c (slice_get c.controls s.next) s) _ (λ q. control_owes bad c (slice_get c.controls s.next) s l o)
    (λ q. says_owes bad s.broken s.running s.queue.waiting s.hold.kept s.kept s.sent (up.Open ∷ []) [] s.trace refl o))

verdict_owes : (bad : Bool) (c : ChannelPlan) (x : Option ℕ) (s : ChildState) → Owed bad [] s → Owed bad [] (step_verdict c x s)
verdict_owes bad c None s o = o
verdict_owes bad c (Some i) s o = says_owes bad s.broken s.running s.queue.waiting s.hold.kept s.kept s.sent (_ ∷ []) [] s.trace refl o

-- the first of those that wait is taken
front_owes : (bad broken : Bool) (r : Option (Target × ChildEvent)) (e : ChildEvent) (rest : List ChildEvent) (held : List BackMsg) (kept : Option Status) (u : List UpMsg) (t : List Entry)
    → Owes bad r (e ∷ rest) held kept broken u [] t → Owes bad r rest held kept broken u (e ∷ []) t
front_owes bad broken r e rest held kept u t o = record {
  read = o.read;
  excuse = elim o.excuse [ inl k ↦ inl (k.0, k.1.1, k.2, (k.1.0, tt)) | inr x ↦ inr x ];
}

taken_owes : (bad : Bool) (c : ChannelPlan) (t : Target) (w : List ChildEvent) (s : ChildState) → s.queue.waiting ≡ w → s.running ≡ None → Owed bad [] s → Owed bad [] (flush_with c t (taken class_of s.queue t w) s)
taken_owes bad c t [] s e idle o = o
taken_owes bad c t (x ∷ es) s e idle o =
    let P : Taken ChildEvent → Type 0 = λ y. Owed bad [] (flush_with c t y s) in
    let u : Target = target_in s.queue.data_target (class_of x) in
    let s1 : ChildState = record s { queue = record s.queue { waiting = es } } in
    let o0 : Owes bad s.running (x ∷ es) s.hold.kept s.kept s.broken s.sent [] s.trace = rw e at o in
    keeps_if P (s.queue.suspended || nat_lt 0 s.queue.forced) Ended (if same_target u t then Event x es else Over u)
    (λ r. o)
    (λ r. keeps_if P (same_target u t) (Event x es) (Over u)
    (λ q. run_owes bad c t x s1 [] idle (front_owes bad s.broken s.running x es s.hold.kept s.kept s.sent s.trace o0))
    (λ q. o))

begun_owes : (bad : Bool) (c : ChannelPlan) (t : Target) (s : ChildState) → Flushes s → Owed bad [] s → Owed bad [] (step_begin c t s)
begun_owes bad c t s l o =
    keeps_if (Owed bad []) (runs_on s.running t) s _ (λ r. o)
    (λ r. keeps_if (Owed bad []) (is_target s.queue.flushing t) (flush_with c t (taken class_of s.queue t s.queue.waiting) s) _
    (λ q. taken_owes bad c t s.queue.waiting s refl (runs_elsewhere s.running s.queue.flushing t r q l) o)
    (λ q. keeps_if (Owed bad []) _ (record s { queue = completed s.queue t; journal = s.journal ++ child.Complete t ∷ [] }) s (λ p. o) (λ p. o)))

prepended_owes : (bad broken : Bool) (r : Option (Target × ChildEvent)) (w : List ChildEvent) (held : List BackMsg) (kept : Option Status) (u : List UpMsg) (st : Status) (t : List Entry)
    → Owes bad r w held kept broken u [] t → Owes bad r (Cancel st ∷ w) held kept broken u [] t
prepended_owes bad broken r w held kept u st t o = record {
  read = o.read;
  excuse = elim o.excuse [ inl k ↦ inl (k.0, (tt, k.1), k.2, k.3) | inr x ↦ inr x ];
}

failed_owes : (bad : Bool) (c : ChannelPlan) (t : Target) (x : Option Status) (s : ChildState) → Owed bad [] s → Owed bad [] (fail_data c t x s)
failed_owes bad c t None s o = o
failed_owes bad c t (Some d) s o =
    keeps_if (Owed bad []) (same_target t target.Main) (perform_call c (act.Cancel d) s) (prepend_cancel d s)
    (λ r. call_owes bad c d s o) (λ r. prepended_owes bad s.broken s.running s.queue.waiting s.hold.kept s.kept s.sent d s.trace o)

-- the running event ends: its bytes were read
ended_owes : (bad broken : Bool) (r : Option (Target × ChildEvent)) (w : List ChildEvent) (held : List BackMsg) (kept : Option Status) (u v : List UpMsg) (t : List Entry)
    → read_of v ≡ run_size r → Owes bad r w held kept broken u [] t → Owes bad None w held kept broken (u ++ v) [] t
ended_owes bad broken r w held kept u v t y o =
    let h : read_of u + run_size r ≡ shown_size t = o.read in
    let a : read_of (u ++ v) ≡ read_of u + read_of v = read-append u v in
    record {
      read = omega arith;
      excuse = elim o.excuse [ inl x ↦ inl x | inr x ↦ inr (excused_more bad broken u v x) ];
    }

quiet_owes : (bad broken : Bool) (r : Option (Target × ChildEvent)) (w : List ChildEvent) (held : List BackMsg) (kept : Option Status) (u : List UpMsg) (t : List Entry)
    → 0 ≡ run_size r → Owes bad r w held kept broken u [] t → Owes bad None w held kept broken u [] t
quiet_owes bad broken r w held kept u t z o = rw (append_nil u) at (ended_owes bad broken r w held kept u [] t z o)

event_finish_owes : (bad : Bool) (c : ChannelPlan) (t v : Target) (e : ChildEvent) (s : ChildState) → s.running ≡ Some (v, e) → Owed bad [] s
    → Owed bad [] (finish_event c t e (record s { running = None; finished = suc s.finished; journal = s.journal ++ child.Finish t ∷ [] }))
event_finish_owes bad c t v (Start code st) s r o =
    reacted_owes bad c c.reactions (record s { running = None; finished = suc s.finished; journal = s.journal ++ child.Finish t ∷ [] }) (quiet_owes bad s.broken s.running s.queue.waiting s.hold.kept s.kept s.sent s.trace (sym (ap run_size r)) o)
event_finish_owes bad c t v (Bytes at p st) s r o =
    failed_owes bad c t (bytes_failure c.reactions s.data_begun) (record s { running = None; finished = suc s.finished; journal = s.journal ++ child.Finish t ∷ []; sent = s.sent ++ up.BytesRead (length p) ∷ [] })
    (ended_owes bad s.broken s.running s.queue.waiting s.hold.kept s.kept s.sent (up.BytesRead (length p) ∷ []) s.trace (add-zero (length p) ∙ sym (ap run_size r)) o)
event_finish_owes bad c t v (Stop st) s r o =
    ended_owes bad s.broken s.running s.queue.waiting s.hold.kept s.kept s.sent (up.Deleting ∷ []) s.trace (sym (ap run_size r)) o
event_finish_owes bad c t v (Redirect1 i) s r o = quiet_owes bad s.broken s.running s.queue.waiting s.hold.kept s.kept s.sent s.trace (sym (ap run_size r)) o
event_finish_owes bad c t v (Redirect3 i) s r o = quiet_owes bad s.broken s.running s.queue.waiting s.hold.kept s.kept s.sent s.trace (sym (ap run_size r)) o
event_finish_owes bad c t v (Cancel st) s r o = quiet_owes bad s.broken s.running s.queue.waiting s.hold.kept s.kept s.sent s.trace (sym (ap run_size r)) o

finished_owes : (bad : Bool) (c : ChannelPlan) (t : Target) (x : Option (Target × ChildEvent)) (s : ChildState) → s.running ≡ x → Owed bad [] s → Owed bad [] (step_finish c t x s)
finished_owes bad c t None s e o = o
finished_owes bad c t (Some (v, x)) s e o =
    let s1 : ChildState = record s { running = None; finished = suc s.finished; journal = s.journal ++ child.Finish t ∷ [] } in
    keeps_if (Owed bad []) (same_target v t) (finish_event c t x s1) s (λ r. event_finish_owes bad c t v x s e o) (λ r. o)

reported_owes : (bad : Bool) (l : StartLane) (m : MainMsg) (s : ChildState) → Owed bad [] s → Owed bad [] (note_main l m s)
reported_owes bad l (main.Start h st head) s o = o
reported_owes bad l (main.FailedOpen h st) s o = o
reported_owes bad l (main.Redirect1 h code) s o = o
reported_owes bad lane.Main (main.Redirect3 h) s o = o
reported_owes bad lane.Back (main.Redirect3 h) s o = o

-- events that come
come_owes : (bad broken : Bool) (r : Option (Target × ChildEvent)) (w es : List ChildEvent) (held : List BackMsg) (kept : Option Status) (u : List UpMsg) (t : List Entry)
    → (bad ≡ true) ⊎ GoodEvents es → Owes bad r w held kept broken u [] t → Owes bad r w held kept broken u es t
come_owes bad broken r w es held kept u t g o = record {
  read = o.read;
  excuse = elim o.excuse [ inl x ↦ elim g [ inl b ↦ inr (inr (inl b)) | inr y ↦ inl (x.0, x.1, x.2, y) ] | inr x ↦ inr x ];
}

held_owes : (bad broken : Bool) (r : Option (Target × ChildEvent)) (w : List ChildEvent) (held : List BackMsg) (m : BackMsg) (kept : Option Status) (u : List UpMsg) (t : List Entry)
    → (bad ≡ true) ⊎ GoodBack m → Owes bad r w held kept broken u [] t → Owes bad r w (held ++ m ∷ []) kept broken u [] t
held_owes bad broken r w held m kept u t g o = record {
  read = o.read;
  excuse = elim o.excuse [ inl x ↦ elim g [ inl b ↦ inr (inr (inl b)) | inr y ↦ inl (x.0, x.1, good_backs-append held (m ∷ []) x.2 (y, tt), x.3) ] | inr x ↦ inr x ];
}

main_owes : (bad : Bool) (c : ChannelPlan) (m : MainMsg) (s : ChildState) → (bad ≡ true) ⊎ GoodMain m → Flushes s → Owed bad [] s → Owed bad [] (step_main c m s)
main_owes bad c m s g l o =
    reported_owes bad c.start m (offer_all c target.Main (main_events_of m) s)
    (offered_all_owes bad c target.Main (main_events_of m) s l
    (come_owes bad s.broken s.running s.queue.waiting (main_events_of m) s.hold.kept s.kept s.sent s.trace (elim g [ inl b ↦ inl b | inr x ↦ inr (main_event_good m x) ]) o))

passed_owes : (bad : Bool) (c : ChannelPlan) (m : BackMsg) (s : ChildState) → (bad ≡ true) ⊎ GoodBack m → Flushes s → Owed bad [] s → Owed bad [] (hold_back c m s)
passed_owes bad c m s g l o =
    keeps_if (Owed bad []) (is_among s.hold.released (back_hop m)) (offer_all c target.Back (back_events_of m) s) _
    (λ r. offered_all_owes bad c target.Back (back_events_of m) s l
    (come_owes bad s.broken s.running s.queue.waiting (back_events_of m) s.hold.kept s.kept s.sent s.trace (elim g [ inl b ↦ inl b | inr x ↦ inr (back_event_good m x) ]) o))
    (λ r. held_owes bad s.broken s.running s.queue.waiting s.hold.kept m s.kept s.sent s.trace g o)

back_owes : (bad : Bool) (c : ChannelPlan) (m : BackMsg) (s : ChildState) → (bad ≡ true) ⊎ GoodBack m → Flushes s → Owed bad [] s → Owed bad [] (step_back c m s)
back_owes bad c (back.StartSent h) s g l o = o
back_owes bad c (back.Start h st head) s g l o = passed_owes bad c (back.Start h st head) s g l o
back_owes bad c (back.Bytes h st at p) s g l o = passed_owes bad c (back.Bytes h st at p) s g l o
back_owes bad c (back.Stop h st trailers) s g l o = passed_owes bad c (back.Stop h st trailers) s g l o

-- the hold is split
split_good : (b : Bool) (m : BackMsg) (xs ys : List BackMsg) → GoodBack m → GoodEvents (back_events xs) × GoodBacks ys
    → GoodEvents (back_events (if b then m ∷ xs else xs)) × GoodBacks (if b then ys else m ∷ ys)
split_good true m xs ys g h = (good_events-append (back_events_of m) (back_events xs) (back_event_good m g) h.0, h.1)
split_good false m xs ys g h = (h.0, (g, h.1))

hold_good : (i : ℕ) (ks : List BackMsg) → GoodBacks ks → GoodEvents (back_events (of_hop i ks)) × GoodBacks (not_of_hop i ks)
hold_good i [] g = (tt, tt)
hold_good i (m ∷ ks) g = split_good (i == back_hop m) m (of_hop i ks) (not_of_hop i ks) g.0 (hold_good i ks g.1)

release_owes : (bad : Bool) (c : ChannelPlan) (x : Option ℕ) (s : ChildState) → Flushes s → Owed bad [] s → Owed bad [] (step_release c x s)
release_owes bad c None s l o = o
release_owes bad c (Some i) s l o =
    let s1 : ChildState = record s { hold = released_hold i s.hold; journal = s.journal ++ child.Release (length (of_hop i s.hold.kept)) ∷ [] } in
    let o1 : Owed bad (back_events (of_hop i s.hold.kept)) s1 = record {
      read = o.read;
      excuse = elim o.excuse [ inl k ↦ let g : GoodEvents (back_events (of_hop i s.hold.kept)) × GoodBacks (not_of_hop i s.hold.kept) = hold_good i s.hold.kept k.2 in inl (k.0, k.1, g.1, g.0) | inr x ↦ inr x ];
    } in
    offered_all_owes bad c target.Back (back_events (of_hop i s.hold.kept)) s1 l o1

abbrev pub TookGood : Bool → List ChildEntry → Type 0
TookGood bad j = (bad ≡ false → GoodMains (mains_taken j)) × (bad ≡ false → GoodBacks (backs_taken j))

took_before : (bad : Bool) (j k i : List ChildEntry) → i ≡ j ++ k → TookGood bad i → TookGood bad j
took_before bad j k i e g = (
  λ b. good_mains_left (mains_taken j) (mains_taken k) (rw (e, mains-append j k) at (g.0 b)),
  λ b. good_backs_left (backs_taken j) (backs_taken k) (rw (e, backs-append j k) at (g.1 b)),
)

or_good : (bad : Bool) (P : Type 0) → (bad ≡ false → P) → (bad ≡ true) ⊎ P
or_good true P f = inl refl
or_good false P f = inr (f refl)

took_main_owes : (bad : Bool) (c : ChannelPlan) (m : MainMsg) (s : ChildState) → Flushes s → Owed bad [] s → TookGood bad (child_step c (step.Main m) s).journal → Owed bad [] (child_step c (step.Main m) s)
took_main_owes bad c m s l o =
    let s' = step_main c m (with_entry (child.TookMain m) s) in
    keeps_if (λ (x : ChildState). TookGood bad x.journal → Owed bad [] x) s.broken s s' (λ r g. o)
    (λ r g.
    let says = main_says c m s (main_grows c (s.journal ++ child.TookMain m ∷ []) s.sent m (with_entry (child.TookMain m) s) (noted_grows (child.TookMain m) s)) in
    let good : (bad ≡ true) ⊎ GoodMain m = or_good bad (GoodMain m) (λ b. let x : GoodMains (m ∷ []) = good_mains_right (mains_taken s.journal) (m ∷ []) (rw says.0 at (g.0 b)) in x.0) in
    main_owes bad c m (with_entry (child.TookMain m) s) good l o)

took_back_owes : (bad : Bool) (c : ChannelPlan) (m : BackMsg) (s : ChildState) → Flushes s → Owed bad [] s → TookGood bad (child_step c (step.Back m) s).journal → Owed bad [] (child_step c (step.Back m) s)
took_back_owes bad c m s l o =
    let s' = step_back c m (with_entry (child.TookBack m) s) in
    keeps_if (λ (x : ChildState). TookGood bad x.journal → Owed bad [] x) s.broken s s' (λ r g. o)
    (λ r g.
    let says = back_says c m s (back_grows c (s.journal ++ child.TookBack m ∷ []) s.sent m (with_entry (child.TookBack m) s) (noted_grows (child.TookBack m) s)) in
    let good : (bad ≡ true) ⊎ GoodBack m = or_good bad (GoodBack m) (λ b. let x : GoodBacks (m ∷ []) = good_backs_right (backs_taken s.journal) (m ∷ []) (rw says.1 at (g.1 b)) in x.0) in
    back_owes bad c m (with_entry (child.TookBack m) s) good l o)

step_owes : (bad : Bool) (c : ChannelPlan) (x : ChildStep) (s : ChildState) → Flushes s → Owed bad [] s → TookGood bad (child_step c x s).journal → Owed bad [] (child_step c x s)
step_owes bad c step.Act s l o g = acted_owes bad c s l o
step_owes bad c step.Verdict s l o g = keeps_if (Owed bad []) s.broken s (step_verdict c s.question s) (λ r. o) (λ r. verdict_owes bad c s.question s o)
step_owes bad c (step.Main m) s l o g = took_main_owes bad c m s l o g
step_owes bad c (step.Back m) s l o g = took_back_owes bad c m s l o g
step_owes bad c step.Release s l o g = keeps_if (Owed bad []) s.broken s (step_release c s.hold.report s) (λ r. o) (λ r. release_owes bad c s.hold.report s l o)
step_owes bad c (step.Begin t) s l o g = begun_owes bad c t s l o
step_owes bad c (step.Finish t) s l o g = finished_owes bad c t s.running s refl o

pub child_owes : (bad : Bool) (c : ChannelPlan) (steps : List ChildStep) → Known c → TookGood bad (child_after c steps).journal → Owed bad [] (child_after c steps)
child_owes bad c [] v g = record { read = refl; excuse = inl (refl, tt, subst GoodBacks (sym (no_kept c.start)) tt, tt) }
child_owes bad c (x ∷ xs) v g =
    let s = child_after c xs in
    let l : Flushes s = (v.queue c xs v.accepted).2 in
    let e : Extends s (child_step c x s) = step_grows c x s in
    let o : Owed bad [] s = child_owes bad c xs v (took_before bad s.journal e.0.0 (child_step c x s).journal e.0.1 g) in
    step_owes bad c x s l o g

-- no more was read than was taken
pub read_most : (c : ChannelPlan) (steps : List ChildStep) → Known c → read_of (child_after c steps).sent ≤ backs_size (backs_taken (child_after c steps).journal)
read_most c steps v =
    let s : ChildState = child_after c steps in
    let o : Owed true [] s = child_owes true c steps v ((λ e. cc), (λ e. cc)) in
    let h : read_of s.sent + run_size s.running ≡ shown_size s.trace = o.read in
    let n : shown_size s.trace + data_left by_length s ≤ backs_size (backs_taken s.journal) = (v.shown c steps by_length).0 in
    omega arith

-- and all of it, where all is shown
pub read_all : (c : ChannelPlan) (steps : List ChildStep) → Known c → let s = child_after c steps in
    s.broken ≡ false → s.kept ≡ None → s.running ≡ None → s.queue.waiting ≡ [] → s.hold.kept ≡ [] → read_of s.sent + run_size s.running ≡ shown_size s.trace
    → read_of s.sent ≡ backs_size (backs_taken s.journal)
read_all c steps v nb nk idle none held h =
    let s : ChildState = child_after c steps in
    let n : shown_size s.trace + data_left by_length s ≡ backs_size (backs_taken s.journal) = (v.shown c steps by_length).1 nb nk in
    let a : run_size s.running ≡ 0 = ap run_size idle in
    let b : sum_of (event_weight by_length) s.queue.waiting ≡ 0 = ap (sum_of (event_weight by_length)) none in
    let d : backs_size s.hold.kept ≡ 0 = ap backs_size held in
    omega arith
