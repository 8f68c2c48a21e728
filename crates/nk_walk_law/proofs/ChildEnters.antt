-- What a step of a child enters: entries at the end of its journal, of which the first alone may take a message.
use Rattle.std.proofs.Common.{ℕ, suc, ◌≡◌, refl, sym, ◌∙◌, ap, List, [], ◌∷◌, ◌++◌, length, true, ◌||◌, Option, Some, None, is_some, if◌then◌else◌, nat_le, slice_get, ◌==◌, append_assoc}
use Rattle.nk_base.specs.declared.status.Status.{Status}
use Rattle.nk_base.specs.declared.status.Target.{Target}
use Rattle.nk_base.specs.declared.status.Target.TheVariants as target
use Rattle.nk_base.specs.declared.status.RetargetError.{RetargetError}
use Rattle.nk_base.specs.declared.message.MainMsg.{MainMsg}
use Rattle.nk_base.specs.declared.message.MainMsg.TheVariants as main
use Rattle.nk_base.specs.declared.message.BackMsg.{BackMsg}
use Rattle.nk_base.specs.declared.message.BackMsg.TheVariants as back
use Rattle.nk_base.specs.declared.message.UpMsg.TheVariants as up
use Rattle.nk_base.specs.Queue.{Taken, Event, Over, Ended, same_target, is_target, runs_now, running_now, completed, cleared, taken}
use Rattle.nk_plan.specs.declared.plan.ChannelPlan.{ChannelPlan}
use Rattle.nk_plan.specs.declared.plan.Reaction.{Reaction}
use Rattle.nk_plan.specs.declared.plan.Reaction.TheVariants as reaction
use Rattle.nk_plan.specs.declared.plan.Act.{Act}
use Rattle.nk_plan.specs.declared.plan.Act.TheVariants as act
use Rattle.nk_plan.specs.declared.plan.Control.{Control}
use Rattle.nk_plan.specs.declared.plan.StartLane.{StartLane}
use Rattle.nk_plan.specs.declared.plan.StartLane.TheVariants as lane
use Rattle.nk_plan.specs.declared.event.ChildEvent.{ChildEvent}
use Rattle.nk_plan.specs.declared.event.ChildEvent.TheVariants.{Start, Bytes, Stop, Redirect1, Redirect3, Cancel}
use Rattle.nk_plan.specs.declared.journal.ChildEntry.{ChildEntry}
use Rattle.nk_plan.specs.declared.journal.ChildEntry.TheVariants as child
use Rattle.nk_plan.specs.declared.step.ChildStep.{ChildStep}
use Rattle.nk_plan.specs.declared.step.ChildStep.TheVariants as step
use Rattle.nk_plan.specs.Event.{class_of}
use Rattle.nk_base.specs.Status.{merged}
use Rattle.nk_plan.specs.Journal.{main_in, mains_taken, back_in, backs_taken}
use Rattle.nk_plan.specs.Child.{ChildState, main_events_of, note_main, step_main, back_hop, back_events_of, back_events, is_among, hold_back, step_back, of_hop, released_hold, step_release, child_step, run_bytes, run_event, offer_event, offer_all, with_entry, call_suspend, call_resume, call_cancel, refusal, call_retarget, is_empty, call_break, perform_call, perform_control, step_act, step_verdict, flush_with, step_begin, runs_on, react, react_all, bytes_failure, prepend_cancel, fail_data, finish_event, step_finish}
use Rattle.nk_walk_law.proofs.Tools.{keeps_if, append_nil, last_empty}

-- One journal behind another, with no message taken between them

record Grown (j i : List ChildEntry) : Type 0 where
  entries : List ChildEntry
  journal_is : i ≡ j ++ entries
  no_main : mains_taken entries ≡ []
  no_back : backs_taken entries ≡ []

abbrev Grows : List ChildEntry → ChildState → Type 0
Grows j s = Grown j s.journal

mains-append : (j k : List ChildEntry) → mains_taken (j ++ k) ≡ mains_taken j ++ mains_taken k
mains-append [] k = refl
mains-append (e ∷ j) k = ap (λ t. main_in e ++ t) (mains-append j k) ∙ sym (append_assoc (main_in e) (mains_taken j) (mains_taken k))

backs-append : (j k : List ChildEntry) → backs_taken (j ++ k) ≡ backs_taken j ++ backs_taken k
backs-append [] k = refl
backs-append (e ∷ j) k = ap (λ t. back_in e ++ t) (backs-append j k) ∙ sym (append_assoc (back_in e) (backs_taken j) (backs_taken k))

same : (j : List ChildEntry) → Grown j j
same j = record { entries = []; journal_is = sym (append_nil j); no_main = refl; no_back = refl }

more : (j i : List ChildEntry) (e : ChildEntry) → main_in e ≡ [] → back_in e ≡ [] → Grown j i → Grown j (i ++ e ∷ [])
more j i e m b g = record {
  entries = g.entries ++ e ∷ [];
  journal_is = ap (λ t. t ++ e ∷ []) g.journal_is ∙ append_assoc j g.entries (e ∷ []);
  no_main = mains-append g.entries (e ∷ []) ∙ rw (g.no_main, m) refl;
  no_back = backs-append g.entries (e ∷ []) ∙ rw (g.no_back, b) refl;
}

-- The events of the queue

bytes_grows : (j : List ChildEntry) (s : ChildState) (t : Target) (at : ℕ) (p : List ℕ) (k : Option Status) (st : Status) → Grows j s → Grows j (run_bytes s t at p k st)
bytes_grows j s t at p None st g = more j _ _ refl refl g
bytes_grows j s t at p (Some q) st g = more j _ _ refl refl g

run_grows : (c : ChannelPlan) (j : List ChildEntry) (t : Target) (e : ChildEvent) (s : ChildState) → Grows j s → Grows j (run_event c t e s)
run_grows c j t (Start code st) s g = more j _ _ refl refl g
run_grows c j t (Bytes at p st) s g = bytes_grows j s t at p (merged s.kept st) st g
run_grows c j t (Stop st) s g = more j _ _ refl refl g
run_grows c j t (Redirect1 i) s g = more j _ _ refl refl g
run_grows c j t (Redirect3 i) s g = more j _ _ refl refl g
run_grows c j t (Cancel st) s g = more j _ _ refl refl g

offered_grows : (c : ChannelPlan) (j : List ChildEntry) (here : Target) (e : ChildEvent) (s : ChildState) → Grows j s → Grows j (offer_event c here e s)
offered_grows c j here e s g =
    keeps_if (Grows j) (runs_now class_of s.queue e here) (run_event c here e (record s { queue = running_now s.queue here })) _
    (λ r. run_grows c j here e (record s { queue = running_now s.queue here }) g) (λ r. g)

all_grows : (c : ChannelPlan) (j : List ChildEntry) (here : Target) (es : List ChildEvent) (s : ChildState) → Grows j s → Grows j (offer_all c here es s)
all_grows c j here [] s g = g
all_grows c j here (e ∷ es) s g = all_grows c j here es (offer_event c here e s) (offered_grows c j here e s g)

-- The calls of the page

retarget_grows : (j : List ChildEntry) (o : Option RetargetError) (n : ℕ) (s : ChildState) → Grows j s → Grows j (call_retarget o n s)
retarget_grows j (Some e) n s g = more j _ _ refl refl g
retarget_grows j None n s g = more j _ _ refl refl g

call_grows : (c : ChannelPlan) (j : List ChildEntry) (x : Act) (s : ChildState) → Grows j s → Grows j (perform_call c x s)
call_grows c j act.Suspend s g = keeps_if (Grows j) s.stopped (with_entry child.NoEffect s) (call_suspend s) (λ r. more j _ _ refl refl g) (λ r. more j _ _ refl refl g)
call_grows c j act.Resume s g = keeps_if (Grows j) (s.stopped || (s.suspends == 0)) (with_entry child.NoEffect s) (call_resume s) (λ r. more j _ _ refl refl g) (λ r. more j _ _ refl refl g)
call_grows c j (act.Cancel st) s g = keeps_if (Grows j) (s.stopped || is_some s.kept) (with_entry child.NoEffect s) (call_cancel st s) (λ r. more j _ _ refl refl g) (λ r. more j _ _ refl refl g)
call_grows c j (act.Retarget n) s g = retarget_grows j (refusal c s) n s g
call_grows c j (act.Break st) s g =
    let s1 : ChildState = record s { broken = true; kept = merged s.kept st; queue = cleared s.queue; journal = s.journal ++ child.Break st ∷ [] } in
    keeps_if (Grows j) (s.stopped || s.broken) (with_entry child.NoEffect s) (call_break c st s) (λ r. more j _ _ refl refl g)
    (λ r. all_grows c j target.Main (if is_empty s.trace then Start 0 st ∷ Stop st ∷ [] else Stop st ∷ []) s1 (more j _ (child.Break st) refl refl g))

react_grows : (c : ChannelPlan) (j : List ChildEntry) (r : Reaction) (s : ChildState) → Grows j s → Grows j (react c r s)
react_grows c j (reaction.StartRetarget n) s g = call_grows c j (act.Retarget n) s g
react_grows c j reaction.StartSuspend s g = call_grows c j act.Suspend s g
react_grows c j (reaction.StartCancel st) s g = call_grows c j (act.Cancel st) s g
react_grows c j (reaction.StartFail st) s g = call_grows c j (act.Cancel st) s g
react_grows c j (reaction.BytesFail n st) s g = g

reacts_grow : (c : ChannelPlan) (j : List ChildEntry) (rs : List Reaction) (s : ChildState) → Grows j s → Grows j (react_all c rs s)
reacts_grow c j [] s g = g
reacts_grow c j (r ∷ rs) s g = reacts_grow c j rs (react c r s) (react_grows c j r s g)

control_grows : (c : ChannelPlan) (j : List ChildEntry) (o : Option Control) (s : ChildState) → Grows j s → Grows j (perform_control c o s)
control_grows c j None s g = g
control_grows c j (Some control) s g =
    let s1 : ChildState = record s { next = suc s.next } in
    keeps_if (Grows j) (nat_le control.after s.finished) (perform_call c control.act s1) s (λ r. call_grows c j control.act s1 g) (λ r. g)

act_grows : (c : ChannelPlan) (j : List ChildEntry) (s : ChildState) → Grows j s → Grows j (step_act c s)
act_grows c j s g =
    keeps_if (Grows j) c.closed s _ (λ r. g)
    (λ r. keeps_if (Grows j) s.opened (perform_control c (slice_get c.controls s.next) s) _
    (λ q. control_grows c j (slice_get c.controls s.next) s g) (λ q. more j _ child.Open refl refl g))

-- The steps that take nothing

verdict_grows : (c : ChannelPlan) (j : List ChildEntry) (o : Option ℕ) (s : ChildState) → Grows j s → Grows j (step_verdict c o s)
verdict_grows c j None s g = g
verdict_grows c j (Some i) s g = more j _ _ refl refl g

taken_grows : (c : ChannelPlan) (j : List ChildEntry) (t : Target) (x : Taken ChildEvent) (s : ChildState) → Grows j s → Grows j (flush_with c t x s)
taken_grows c j t (Event e rest) s g = run_grows c j t e (record s { queue = record s.queue { waiting = rest } }) g
taken_grows c j t (Over v) s g = more j _ _ refl refl g
taken_grows c j t Ended s g = more j _ _ refl refl g

begin_grows : (c : ChannelPlan) (j : List ChildEntry) (t : Target) (s : ChildState) → Grows j s → Grows j (step_begin c t s)
begin_grows c j t s g =
    keeps_if (Grows j) (runs_on s.running t) s _ (λ r. g)
    (λ r. keeps_if (Grows j) (is_target s.queue.flushing t) (flush_with c t (taken class_of s.queue t s.queue.waiting) s) _
    (λ q. taken_grows c j t (taken class_of s.queue t s.queue.waiting) s g)
    (λ q. keeps_if (Grows j) _ (record s { queue = completed s.queue t; journal = s.journal ++ child.Complete t ∷ [] }) s (λ p. more j _ (child.Complete t) refl refl g) (λ p. g)))

failed_grows : (c : ChannelPlan) (j : List ChildEntry) (t : Target) (o : Option Status) (s : ChildState) → Grows j s → Grows j (fail_data c t o s)
failed_grows c j t None s g = g
failed_grows c j t (Some d) s g =
    keeps_if (Grows j) (same_target t target.Main) (perform_call c (act.Cancel d) s) (prepend_cancel d s)
    (λ r. call_grows c j (act.Cancel d) s g) (λ r. more j _ (child.Prepend d) refl refl g)

event_grows : (c : ChannelPlan) (j : List ChildEntry) (t : Target) (e : ChildEvent) (s : ChildState) → Grows j s → Grows j (finish_event c t e s)
event_grows c j t (Start code st) s g = reacts_grow c j c.reactions s g
event_grows c j t (Bytes at p st) s g = failed_grows c j t (bytes_failure c.reactions s.data_begun) (record s { sent = s.sent ++ up.BytesRead (length p) ∷ [] }) g
event_grows c j t (Stop st) s g = g
event_grows c j t (Redirect1 i) s g = g
event_grows c j t (Redirect3 i) s g = g
event_grows c j t (Cancel st) s g = g

finish_grows : (c : ChannelPlan) (j : List ChildEntry) (t : Target) (o : Option (Target × ChildEvent)) (s : ChildState) → Grows j s → Grows j (step_finish c t o s)
finish_grows c j t None s g = g
finish_grows c j t (Some r) s g =
    let s1 : ChildState = record s { running = None; finished = suc s.finished; journal = s.journal ++ child.Finish t ∷ [] } in
    keeps_if (Grows j) (same_target r.0 t) (finish_event c t r.1 s1) s (λ q. event_grows c j t r.1 s1 (more j _ (child.Finish t) refl refl g)) (λ q. g)

release_grows : (c : ChannelPlan) (j : List ChildEntry) (o : Option ℕ) (s : ChildState) → Grows j s → Grows j (step_release c o s)
release_grows c j None s g = g
release_grows c j (Some h) s g =
    let s1 : ChildState = record s { hold = released_hold h s.hold; journal = s.journal ++ child.Release (length (of_hop h s.hold.kept)) ∷ [] } in
    all_grows c j target.Back (back_events (of_hop h s.hold.kept)) s1 (more j _ (child.Release (length (of_hop h s.hold.kept))) refl refl g)

-- The steps that take a message

noted_grows : (j : List ChildEntry) (l : StartLane) (m : MainMsg) (s : ChildState) → Grows j s → Grows j (note_main l m s)
noted_grows j l (main.Start h st head) s g = g
noted_grows j l (main.FailedOpen h st) s g = g
noted_grows j l (main.Redirect1 h code) s g = g
noted_grows j lane.Main (main.Redirect3 h) s g = g
noted_grows j lane.Back (main.Redirect3 h) s g = g

main_grows : (c : ChannelPlan) (j : List ChildEntry) (m : MainMsg) (s : ChildState) → Grows j s → Grows j (step_main c m s)
main_grows c j m s g = noted_grows j c.start m (offer_all c target.Main (main_events_of m) s) (all_grows c j target.Main (main_events_of m) s g)

held_grows : (c : ChannelPlan) (j : List ChildEntry) (m : BackMsg) (s : ChildState) → Grows j s → Grows j (hold_back c m s)
held_grows c j m s g =
    keeps_if (Grows j) (is_among s.hold.released (back_hop m)) (offer_all c target.Back (back_events_of m) s) _ (λ r. all_grows c j target.Back (back_events_of m) s g) (λ r. g)

back_grows : (c : ChannelPlan) (j : List ChildEntry) (m : BackMsg) (s : ChildState) → Grows j s → Grows j (step_back c m s)
back_grows c j (back.StartSent h) s g = g
back_grows c j (back.Start h st head) s g = held_grows c j (back.Start h st head) s g
back_grows c j (back.Bytes h st o p) s g = held_grows c j (back.Bytes h st o p) s g
back_grows c j (back.Stop h st trailers) s g = held_grows c j (back.Stop h st trailers) s g

-- Each step

-- the entries behind the first take nothing
abbrev pub TakesFirst : List ChildEntry → Type 0
TakesFirst [] = Unit {0}
TakesFirst (e ∷ j) = (mains_taken j ≡ []) × (backs_taken j ≡ [])

takes_none : (j : List ChildEntry) → mains_taken j ≡ [] → backs_taken j ≡ [] → TakesFirst j
takes_none [] m b = tt
takes_none (e ∷ j) m b = (last_empty (main_in e) (mains_taken j) m, last_empty (back_in e) (backs_taken j) b)

pub record Enters (s s' : ChildState) : Type 0 where
  pub entries : List ChildEntry
  pub journal_is : s'.journal ≡ s.journal ++ entries
  pub takes_first : TakesFirst entries

plain : (s s' : ChildState) → Grows s.journal s' → Enters s s'
plain s s' g = record { entries = g.entries; journal_is = g.journal_is; takes_first = takes_none g.entries g.no_main g.no_back }

behind : (e : ChildEntry) (s s' : ChildState) → Grows (s.journal ++ e ∷ []) s' → Enters s s'
behind e s s' g = record {
  entries = e ∷ g.entries;
  journal_is = g.journal_is ∙ append_assoc s.journal (e ∷ []) g.entries;
  takes_first = (g.no_main, g.no_back);
}

pub child_enters : (c : ChannelPlan) (x : ChildStep) (s : ChildState) → Enters s (child_step c x s)
child_enters c step.Act s = plain s (child_step c step.Act s) (act_grows c s.journal s (same s.journal))
child_enters c step.Verdict s =
    keeps_if (Enters s) s.broken s (step_verdict c s.question s) (λ r. plain s s (same s.journal))
    (λ r. plain s (step_verdict c s.question s) (verdict_grows c s.journal s.question s (same s.journal)))
child_enters c (step.Main m) s =
    keeps_if (Enters s) s.broken s (step_main c m (with_entry (child.TookMain m) s)) (λ r. plain s s (same s.journal))
    (λ r. behind (child.TookMain m) s (step_main c m (with_entry (child.TookMain m) s)) (main_grows c (s.journal ++ child.TookMain m ∷ []) m (with_entry (child.TookMain m) s) (same (s.journal ++ child.TookMain m ∷ []))))
child_enters c (step.Back m) s =
    keeps_if (Enters s) s.broken s (step_back c m (with_entry (child.TookBack m) s)) (λ r. plain s s (same s.journal))
    (λ r. behind (child.TookBack m) s (step_back c m (with_entry (child.TookBack m) s)) (back_grows c (s.journal ++ child.TookBack m ∷ []) m (with_entry (child.TookBack m) s) (same (s.journal ++ child.TookBack m ∷ []))))
child_enters c step.Release s =
    keeps_if (Enters s) s.broken s (step_release c s.hold.report s) (λ r. plain s s (same s.journal))
    (λ r. plain s (step_release c s.hold.report s) (release_grows c s.journal s.hold.report s (same s.journal)))
child_enters c (step.Begin t) s = plain s (child_step c (step.Begin t) s) (begin_grows c s.journal t s (same s.journal))
child_enters c (step.Finish t) s = plain s (child_step c (step.Finish t) s) (finish_grows c s.journal t s.running s (same s.journal))
