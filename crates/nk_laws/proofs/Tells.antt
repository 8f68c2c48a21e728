-- What a child's journal tells, of every child run: its first failure is the one that is kept, its final hop the child's, no
-- piece runs behind a failure, and its entries name all that was sent. The rows in the order of the child's table.
use Rattle.std.proofs.Common.{ℕ, suc, ◌≡◌, ◌+◌, refl, sym, ◌∙◌, ap, List, [], ◌∷◌, ◌++◌, length, Bool, true, false, ◌||◌, Option, Some, None, is_some, if◌then◌else◌, nat_lt, nat_le, slice_get, slice_index, ◌==◌, append_assoc, arith}
use Rattle.nk_base.specs.declared.status.Status.{Status}
use Rattle.nk_base.specs.declared.status.Target.{Target}
use Rattle.nk_base.specs.declared.status.Target.TheVariants as target
use Rattle.nk_base.specs.declared.status.RetargetError.{RetargetError}
use Rattle.nk_base.specs.declared.message.MainMsg.{MainMsg}
use Rattle.nk_base.specs.declared.message.MainMsg.TheVariants as main
use Rattle.nk_base.specs.declared.message.BackMsg.{BackMsg}
use Rattle.nk_base.specs.declared.message.BackMsg.TheVariants as back
use Rattle.nk_base.specs.declared.message.UpMsg.TheVariants as up
use Rattle.nk_base.specs.Status.{or_else, merged, kept_status}
use Rattle.nk_base.specs.Queue.{Taken, Event, Over, Ended, same_target, is_target, target_number, runs_now, running_now, cleared, completed, taken}
use Rattle.nk_plan.specs.declared.plan.ChannelPlan.{ChannelPlan}
use Rattle.nk_plan.specs.declared.plan.StartLane.{StartLane}
use Rattle.nk_plan.specs.declared.plan.StartLane.TheVariants as lane
use Rattle.nk_plan.specs.declared.plan.Reaction.{Reaction}
use Rattle.nk_plan.specs.declared.plan.Reaction.TheVariants as reaction
use Rattle.nk_plan.specs.declared.plan.Act.{Act}
use Rattle.nk_plan.specs.declared.plan.Act.TheVariants as act
use Rattle.nk_plan.specs.declared.plan.Control.{Control}
use Rattle.nk_plan.specs.declared.event.ChildEvent.{ChildEvent}
use Rattle.nk_plan.specs.declared.event.ChildEvent.TheVariants.{Start, Bytes, Stop, Redirect1, Redirect3, Cancel}
use Rattle.nk_plan.specs.declared.journal.ChildEntry.{ChildEntry}
use Rattle.nk_plan.specs.declared.journal.ChildEntry.TheVariants as child
use Rattle.nk_plan.specs.declared.step.ChildStep.{ChildStep}
use Rattle.nk_plan.specs.declared.step.ChildStep.TheVariants as step
use Rattle.nk_plan.specs.Event.{class_of}
use Rattle.nk_plan.specs.Journal.{first, failure_in, final, is_redirect3, is_data, NoDataBehind}
use Rattle.nk_plan.specs.Telling.{Telling, new_telling, sends_at, telling_after, sends_from}
use Rattle.nk_plan.specs.Child.{ChildState, run_bytes, run_event, offer_event, offer_all, with_entry, call_suspend, call_resume, call_cancel, refusal, call_retarget, is_empty, call_break, perform_call, perform_control, step_act, verdict_status, step_verdict, note_main, main_events_of, step_main, back_hop, back_events_of, back_events, is_among, hold_back, step_back, of_hop, released_hold, step_release, flush_with, runs_on, step_begin, react, react_all, bytes_failure, prepend_cancel, fail_data, finish_event, step_finish, child_step, child_after}
use Rattle.nk_laws.proofs.Tools.{keeps_if}
use Rattle.nk_laws.proofs.ChildLaw.{cancel_says}
use Rattle.nk_laws.proofs.Order.{or_else_none, first_then, merged_says, merged_none}
use Rattle.nk_half_laws.specs.Growth.{GrowthLaw, Adds, telling_of, telling_at, hop_by, hop_after}

-- What the entries name

telling-append : (t : Telling) (j k : List ChildEntry) → telling_at t (j ++ k) ≡ telling_at (telling_at t j) k
telling-append t [] k = refl
telling-append t (e ∷ j) k = telling-append (telling_after t e) j k

pub sends-append : (t : Telling) (j k : List ChildEntry) → sends_from t (j ++ k) ≡ sends_from t j ++ sends_from (telling_at t j) k
sends-append t [] k = refl
sends-append t (e ∷ j) k =
    ap (λ u. sends_at t e ++ u) (sends-append (telling_after t e) j k)
    ∙ sym (append_assoc (sends_at t e) (sends_from (telling_after t e) j) (sends_from (telling_at (telling_after t e) j) k))

hop-append : (h : ℕ) (j k : List ChildEntry) → hop_after h (j ++ k) ≡ hop_after (hop_after h j) k
hop-append h [] k = refl
hop-append h (e ∷ j) k = hop-append (hop_by h e) j k

hop_at_once : (h : ℕ) (e : ChildEntry) → hop_by h e ≡ (if is_redirect3 e then suc h else h)
hop_at_once h (child.RunRedirect3 t i) = refl
hop_at_once h _ = refl

counted : (b : Bool) (h k f : ℕ) → k ≡ (if b then suc h else h) → k + f ≡ h + (if b then suc f else f)
counted true h k f e = omega arith
counted false h k f e = omega arith

hop_is : (h : ℕ) (j : List ChildEntry) → hop_after h j ≡ h + final j
hop_is h [] = omega arith
hop_is h (e ∷ j) = hop_is (hop_by h e) j ∙ counted (is_redirect3 e) h (hop_by h e) (final j) (hop_at_once h e)

pub record Named (s : ChildState) : Type 0 where
  telling : telling_at new_telling s.journal ≡ telling_of s
  pub sends : sends_from new_telling s.journal ≡ s.sent
  hop : hop_after 0 s.journal ≡ s.hop

pub child_named : GrowthLaw → (c : ChannelPlan) (steps : List ChildStep) → Named (child_after c steps)
child_named law c [] = record { telling = refl; sends = refl; hop = refl }
child_named law c (x ∷ xs) =
    let s : ChildState = child_after c xs in
    let a : Adds c x s (child_step c x s) = law c x s in
    let n : Named s = child_named law c xs in
    record {
      telling =
          ap (telling_at new_telling) a.journal
          ∙ (telling-append new_telling s.journal a.entries ∙ (ap (λ (t : Telling). telling_at t a.entries) n.telling ∙ sym a.telling));
      sends =
          ap (sends_from new_telling) a.journal
          ∙ (sends-append new_telling s.journal a.entries
          ∙ (ap (λ u. u ++ sends_from (telling_at new_telling s.journal) a.entries) n.sends
          ∙ (ap (λ (t : Telling). s.sent ++ sends_from t a.entries) n.telling ∙ sym a.sent)));
      hop = ap (hop_after 0) a.journal ∙ (hop-append 0 s.journal a.entries ∙ (ap (λ h. hop_after h a.entries) n.hop ∙ sym a.hop));
    }

zero_and : (n m : ℕ) → n ≡ 0 + m → m ≡ n
zero_and n m e = omega arith

pub final_is : GrowthLaw → (c : ChannelPlan) (steps : List ChildStep) → final (child_after c steps).journal ≡ (child_after c steps).hop
final_is law c steps =
    let j : List ChildEntry = (child_after c steps).journal in
    zero_and (hop_after 0 j) (final j) (hop_is 0 j) ∙ (child_named law c steps).hop

-- The first failure

pub record Tells (j : List ChildEntry) (kept : Option Status) : Type 0 where
  pub first_is : first j ≡ kept
  pub drops : NoDataBehind None j

abbrev pub IsTelling : ChildState → Type 0
IsTelling s = Tells s.journal s.kept

or_assoc : (a b d : Option Status) → or_else (or_else a b) d ≡ or_else a (or_else b d)
or_assoc None b d = refl
or_assoc (Some a) b d = refl

drops_then : (q : Option Status) (j : List ChildEntry) (e : ChildEntry) → (is_data e ≡ true → or_else q (first j) ≡ None) → NoDataBehind q j → NoDataBehind q (j ++ e ∷ [])
drops_then q [] e f h = ((λ d. sym (or_else_none q) ∙ f d), tt)
drops_then q (d ∷ j) e f h = (h.0, drops_then (or_else q (failure_in d)) j e (λ x. or_assoc q (failure_in d) (first j) ∙ f x) h.1)

tells_next : (j : List ChildEntry) (e : ChildEntry) (k k' : Option Status) → or_else k (failure_in e) ≡ k' → (is_data e ≡ true → k ≡ None) → Tells j k → Tells (j ++ e ∷ []) k'
tells_next j e k k' ek ed s = record {
  first_is = first_then j e ∙ (ap (λ t. or_else t (failure_in e)) s.first_is ∙ ek);
  drops = drops_then None j e (λ d. s.first_is ∙ ed d) s.drops;
}

-- an entry that brings no failure and no piece
same_entry : (e : ChildEntry) (s : ChildState) → failure_in e ≡ None → is_data e ≡ false → IsTelling s → Tells (s.journal ++ e ∷ []) s.kept
same_entry e s ef ed i = tells_next s.journal e s.kept s.kept (rw ef (or_else_none s.kept)) (λ d. let x : true ≡ false = sym d ∙ ed in cc) i

bytes_tells : (s : ChildState) (t : Target) (at : ℕ) (p : List ℕ) (k : Option Status) (st : Status) → merged s.kept st ≡ k → IsTelling s → IsTelling (run_bytes s t at p k st)
bytes_tells s t at p None st e i =
    let none : s.kept ≡ None = merged_none s.kept st e in
    tells_next s.journal (child.RunBytes t at (length p)) s.kept None (or_else_none s.kept ∙ none) (λ d. none) i
bytes_tells s t at p (Some q) st e i = tells_next s.journal (child.RunDrop t at q) s.kept (Some q) (merged_says s.kept st (Some q) e) (λ d. cc) i

run_tells : (c : ChannelPlan) (t : Target) (e : ChildEvent) (s : ChildState) → IsTelling s → IsTelling (run_event c t e s)
run_tells c t (Start code st) s i =
    tells_next s.journal (child.RunStart t code (kept_status (merged s.kept st))) s.kept (merged s.kept st) (merged_says s.kept st (merged s.kept st) refl) (λ d. cc) i
run_tells c t (Bytes at p st) s i = bytes_tells s t at p (merged s.kept st) st refl i
run_tells c t (Stop st) s i =
    tells_next s.journal (child.RunStop t (kept_status (merged s.kept st))) s.kept (merged s.kept st) (merged_says s.kept st (merged s.kept st) refl) (λ d. cc) i
run_tells c t (Redirect1 h) s i = same_entry (child.RunRedirect1 t h) s refl refl i
run_tells c t (Redirect3 h) s i = same_entry (child.RunRedirect3 t h) s refl refl i
run_tells c t (Cancel st) s i = tells_next s.journal (child.RunCancel t st) s.kept (merged s.kept st) (cancel_says s.kept st) (λ d. cc) i

offered_tells : (c : ChannelPlan) (here : Target) (e : ChildEvent) (s : ChildState) → IsTelling s → IsTelling (offer_event c here e s)
offered_tells c here e s i =
    keeps_if IsTelling (runs_now class_of s.queue e here) (run_event c here e (record s { queue = running_now s.queue here })) _
    (λ r. run_tells c here e (record s { queue = running_now s.queue here }) i) (λ r. i)

offered_all_tells : (c : ChannelPlan) (here : Target) (es : List ChildEvent) (s : ChildState) → IsTelling s → IsTelling (offer_all c here es s)
offered_all_tells c here [] s i = i
offered_all_tells c here (e ∷ es) s i = offered_all_tells c here es (offer_event c here e s) (offered_tells c here e s i)

-- The calls of the page

no_effect : (s : ChildState) → IsTelling s → IsTelling (with_entry child.NoEffect s)
no_effect s i = same_entry child.NoEffect s refl refl i

retarget_tells : (o : Option RetargetError) (n : ℕ) (s : ChildState) → IsTelling s → IsTelling (call_retarget o n s)
retarget_tells (Some e) n s i = same_entry (child.NoRetarget e) s refl refl i
retarget_tells None n s i = same_entry (child.Retarget n) s refl refl i

break_tells : (c : ChannelPlan) (st : Status) (s : ChildState) → IsTelling s → IsTelling (call_break c st s)
break_tells c st s i =
    offered_all_tells c target.Main (if is_empty s.trace then Start 0 st ∷ Stop st ∷ [] else Stop st ∷ [])
    (record s { broken = true; kept = merged s.kept st; queue = cleared s.queue; journal = s.journal ++ child.Break st ∷ [] })
    (tells_next s.journal (child.Break st) s.kept (merged s.kept st) (cancel_says s.kept st) (λ d. cc) i)

performed_tells : (c : ChannelPlan) (x : Act) (s : ChildState) → IsTelling s → IsTelling (perform_call c x s)
performed_tells c act.Suspend s i = keeps_if IsTelling s.stopped (with_entry child.NoEffect s) (call_suspend s) (λ r. no_effect s i) (λ r. same_entry child.Suspend s refl refl i)
performed_tells c act.Resume s i = keeps_if IsTelling (s.stopped || (s.suspends == 0)) (with_entry child.NoEffect s) (call_resume s) (λ r. no_effect s i) (λ r. same_entry child.Resume s refl refl i)
performed_tells c (act.Cancel st) s i = keeps_if IsTelling (s.stopped || is_some s.kept) (with_entry child.NoEffect s) (call_cancel st s) (λ r. no_effect s i) (λ r. tells_next s.journal (child.Cancel st) s.kept (merged s.kept st) (cancel_says s.kept st) (λ d. cc) i)
performed_tells c (act.Retarget n) s i = retarget_tells (refusal c s) n s i
performed_tells c (act.Break st) s i = keeps_if IsTelling (s.stopped || s.broken) (with_entry child.NoEffect s) (call_break c st s) (λ r. no_effect s i) (λ r. break_tells c st s i)

-- The steps

control_tells : (c : ChannelPlan) (o : Option Control) (s : ChildState) → IsTelling s → IsTelling (perform_control c o s)
control_tells c None s i = i
control_tells c (Some control) s i =
    let s1 : ChildState = record s { next = suc s.next } in
    keeps_if IsTelling (nat_le control.after s.finished) (perform_call c control.act s1) s (λ r. performed_tells c control.act s1 i) (λ r. i)

act_tells : (c : ChannelPlan) (s : ChildState) → IsTelling s → IsTelling (step_act c s)
act_tells c s i =
    keeps_if IsTelling c.closed s _ (λ r. i)
    (λ r. keeps_if IsTelling s.opened (perform_control c (slice_get c.controls s.next) s) _ (λ q. control_tells c (slice_get c.controls s.next) s i)
    (λ q. same_entry child.Open s refl refl i))

verdict_tells : (c : ChannelPlan) (o : Option ℕ) (s : ChildState) → IsTelling s → IsTelling (step_verdict c o s)
verdict_tells c None s i = i
verdict_tells c (Some h) s i = same_entry (child.Verdict h (verdict_status c s.kept h)) s refl refl i

noted_tells : (l : StartLane) (m : MainMsg) (s : ChildState) → IsTelling s → IsTelling (note_main l m s)
noted_tells l (main.Start h st head) s i = i
noted_tells l (main.FailedOpen h st) s i = i
noted_tells l (main.Redirect1 h code) s i = i
noted_tells lane.Main (main.Redirect3 h) s i = i
noted_tells lane.Back (main.Redirect3 h) s i = i

main_tells : (c : ChannelPlan) (m : MainMsg) (s : ChildState) → IsTelling s → IsTelling (step_main c m s)
main_tells c m s i = noted_tells c.start m (offer_all c target.Main (main_events_of m) s) (offered_all_tells c target.Main (main_events_of m) s i)

held_tells : (c : ChannelPlan) (m : BackMsg) (s : ChildState) → IsTelling s → IsTelling (hold_back c m s)
held_tells c m s i =
    keeps_if IsTelling (is_among s.hold.released (back_hop m)) (offer_all c target.Back (back_events_of m) s) _ (λ r. offered_all_tells c target.Back (back_events_of m) s i) (λ r. i)

back_tells : (c : ChannelPlan) (m : BackMsg) (s : ChildState) → IsTelling s → IsTelling (step_back c m s)
back_tells c (back.StartSent h) s i = i
back_tells c (back.Start h st head) s i = held_tells c (back.Start h st head) s i
back_tells c (back.Bytes h st o p) s i = held_tells c (back.Bytes h st o p) s i
back_tells c (back.Stop h st trailers) s i = held_tells c (back.Stop h st trailers) s i

release_tells : (c : ChannelPlan) (o : Option ℕ) (s : ChildState) → IsTelling s → IsTelling (step_release c o s)
release_tells c None s i = i
release_tells c (Some h) s i =
    let s1 : ChildState = record s { hold = released_hold h s.hold; journal = s.journal ++ child.Release (length (of_hop h s.hold.kept)) ∷ [] } in
    offered_all_tells c target.Back (back_events (of_hop h s.hold.kept)) s1 (same_entry (child.Release (length (of_hop h s.hold.kept))) s refl refl i)

flush_tells : (c : ChannelPlan) (t : Target) (x : Taken ChildEvent) (s : ChildState) → IsTelling s → IsTelling (flush_with c t x s)
flush_tells c t (Event e rest) s i = run_tells c t e (record s { queue = record s.queue { waiting = rest } }) i
flush_tells c t (Over u) s i = same_entry (child.HandOver t u) s refl refl i
flush_tells c t Ended s i = same_entry (child.Ended t) s refl refl i

begin_tells : (c : ChannelPlan) (t : Target) (s : ChildState) → IsTelling s → IsTelling (step_begin c t s)
begin_tells c t s i =
    keeps_if IsTelling (runs_on s.running t) s _ (λ r. i)
    (λ r. keeps_if IsTelling (is_target s.queue.flushing t) (flush_with c t (taken class_of s.queue t s.queue.waiting) s) _
    (λ q. flush_tells c t (taken class_of s.queue t s.queue.waiting) s i)
    (λ q. keeps_if IsTelling (nat_lt 0 (slice_index s.queue.posted (target_number t))) (record s { queue = completed s.queue t; journal = s.journal ++ child.Complete t ∷ [] }) s
    (λ p. same_entry (child.Complete t) s refl refl i) (λ p. i)))

reacted_tells : (c : ChannelPlan) (r : Reaction) (s : ChildState) → IsTelling s → IsTelling (react c r s)
reacted_tells c (reaction.StartRetarget n) s i = performed_tells c (act.Retarget n) s i
reacted_tells c reaction.StartSuspend s i = performed_tells c act.Suspend s i
reacted_tells c (reaction.StartCancel st) s i = performed_tells c (act.Cancel st) s i
reacted_tells c (reaction.StartFail st) s i = performed_tells c (act.Cancel st) s i
reacted_tells c (reaction.BytesFail n st) s i = i

reacted_all_tells : (c : ChannelPlan) (rs : List Reaction) (s : ChildState) → IsTelling s → IsTelling (react_all c rs s)
reacted_all_tells c [] s i = i
reacted_all_tells c (r ∷ rs) s i = reacted_all_tells c rs (react c r s) (reacted_tells c r s i)

failed_tells : (c : ChannelPlan) (t : Target) (o : Option Status) (s : ChildState) → IsTelling s → IsTelling (fail_data c t o s)
failed_tells c t None s i = i
failed_tells c t (Some d) s i =
    keeps_if IsTelling (same_target t target.Main) (perform_call c (act.Cancel d) s) (prepend_cancel d s)
    (λ r. performed_tells c (act.Cancel d) s i) (λ r. same_entry (child.Prepend d) s refl refl i)

event_tells : (c : ChannelPlan) (t : Target) (e : ChildEvent) (s : ChildState) → IsTelling s → IsTelling (finish_event c t e s)
event_tells c t (Start code st) s i = reacted_all_tells c c.reactions s i
event_tells c t (Bytes at p st) s i = failed_tells c t (bytes_failure c.reactions s.data_begun) (record s { sent = s.sent ++ up.BytesRead (length p) ∷ [] }) i
event_tells c t (Stop st) s i = i
event_tells c t (Redirect1 h) s i = i
event_tells c t (Redirect3 h) s i = i
event_tells c t (Cancel st) s i = i

finish_tells : (c : ChannelPlan) (t : Target) (o : Option (Target × ChildEvent)) (s : ChildState) → IsTelling s → IsTelling (step_finish c t o s)
finish_tells c t None s i = i
finish_tells c t (Some (v, e)) s i =
    let s1 : ChildState = record s { running = None; finished = suc s.finished; journal = s.journal ++ child.Finish t ∷ [] } in
    keeps_if IsTelling (same_target v t) (finish_event c t e s1) s (λ q. event_tells c t e s1 (same_entry (child.Finish t) s refl refl i)) (λ q. i)

step_tells : (c : ChannelPlan) (x : ChildStep) (s : ChildState) → IsTelling s → IsTelling (child_step c x s)
step_tells c step.Act s i = act_tells c s i
step_tells c step.Verdict s i = keeps_if IsTelling s.broken s (step_verdict c s.question s) (λ r. i) (λ r. verdict_tells c s.question s i)
step_tells c (step.Main m) s i =
    keeps_if IsTelling s.broken s (step_main c m (with_entry (child.TookMain m) s)) (λ r. i)
    (λ r. main_tells c m (with_entry (child.TookMain m) s) (same_entry (child.TookMain m) s refl refl i))
step_tells c (step.Back m) s i =
    keeps_if IsTelling s.broken s (step_back c m (with_entry (child.TookBack m) s)) (λ r. i)
    (λ r. back_tells c m (with_entry (child.TookBack m) s) (same_entry (child.TookBack m) s refl refl i))
step_tells c step.Release s i = keeps_if IsTelling s.broken s (step_release c s.hold.report s) (λ r. i) (λ r. release_tells c s.hold.report s i)
step_tells c (step.Begin t) s i = begin_tells c t s i
step_tells c (step.Finish t) s i = finish_tells c t s.running s i

pub child_tells : (c : ChannelPlan) (steps : List ChildStep) → IsTelling (child_after c steps)
child_tells c [] = record { first_is = refl; drops = tt }
child_tells c (x ∷ xs) = step_tells c x (child_after c xs) (child_tells c xs)
