-- Every step of a child adds to the end of its journal and to the end of what it sent; only a taken message is entered as taken.
use Rattle.std.proofs.Common.{ℕ, suc, ◌≡◌, refl, sym, ◌∙◌, ap, List, [], ◌∷◌, ◌++◌, length, true, ◌||◌, Option, Some, None, is_some, if◌then◌else◌, nat_le, slice_get, ◌==◌, append_assoc}
use Rattle.nk_base.specs.declared.status.Status.{Status}
use Rattle.nk_base.specs.declared.status.Target.{Target}
use Rattle.nk_base.specs.declared.status.RetargetError.{RetargetError}
use Rattle.nk_base.specs.declared.message.MainMsg.{MainMsg}
use Rattle.nk_base.specs.declared.message.BackMsg.{BackMsg}
use Rattle.nk_base.specs.declared.message.UpMsg.{UpMsg}
use Rattle.nk_plan.specs.declared.plan.ChannelPlan.{ChannelPlan}
use Rattle.nk_plan.specs.declared.plan.Reaction.{Reaction}
use Rattle.nk_plan.specs.declared.plan.Act.{Act}
use Rattle.nk_plan.specs.declared.plan.Control.{Control}
use Rattle.nk_plan.specs.declared.journal.ChildEntry.{ChildEntry}
use Rattle.nk_base.specs.Status.{merged}
use Rattle.nk_base.specs.Queue.{Taken, Event, Over, Ended, same_target, is_target, runs_now, running_now, completed, cleared, taken}
use Rattle.nk_plan.specs.Journal.{main_in, mains_taken, back_in, backs_taken}
use Rattle.nk_plan.specs.declared.plan.StartLane.{StartLane}
use Rattle.nk_plan.specs.declared.step.ChildStep.{ChildStep}
use Rattle.nk_plan.specs.Child.{main_events_of, note_main, step_main, back_hop, back_events_of, back_events, is_among, hold_back, step_back, of_hop, released_hold, step_release, child_step, ChildState, run_bytes, run_event, offer_event, offer_all, with_entry, call_suspend, call_resume, call_cancel, refusal, call_retarget, is_empty, call_break, perform_call, perform_control, step_act, step_verdict, flush_with, step_begin, runs_on, react, react_all, bytes_failure, prepend_cancel, fail_data, finish_event, step_finish}
use Rattle.nk_plan.specs.declared.event.ChildEvent.{ChildEvent}
use Rattle.nk_plan.specs.declared.event.ChildEvent.TheVariants.{Start, Bytes, Stop, Redirect1, Redirect3, Cancel}
use Rattle.nk_plan.specs.Event.{class_of}
use Rattle.nk_laws.proofs.Tools.{keeps_if, append_nil}
use Rattle.nk_base.specs.declared.status.Target.TheVariants as target
use Rattle.nk_base.specs.declared.message.MainMsg.TheVariants as main
use Rattle.nk_base.specs.declared.message.BackMsg.TheVariants as back
use Rattle.nk_base.specs.declared.message.UpMsg.TheVariants as up
use Rattle.nk_plan.specs.declared.plan.Reaction.TheVariants as reaction
use Rattle.nk_plan.specs.declared.plan.Act.TheVariants as act
use Rattle.nk_plan.specs.declared.journal.ChildEntry.TheVariants as child
use Rattle.nk_plan.specs.declared.plan.StartLane.TheVariants as lane
use Rattle.nk_plan.specs.declared.step.ChildStep.TheVariants as step

-- Every step adds to the journal's end, and to the end of what was sent. Only a taken message is entered as taken

pub record Grown (j : List ChildEntry) (u : List UpMsg) (i : List ChildEntry) (v : List UpMsg) : Type 0 where
  pub entries : List ChildEntry
  pub messages : List UpMsg
  pub journal_is : i ≡ j ++ entries
  pub sent_is : v ≡ u ++ messages
  pub no_main : mains_taken entries ≡ []
  pub no_back : backs_taken entries ≡ []

abbrev pub Grows : List ChildEntry → List UpMsg → ChildState → Type 0
Grows j u s = Grown j u s.journal s.sent

pub mains-append : (j k : List ChildEntry) → mains_taken (j ++ k) ≡ mains_taken j ++ mains_taken k
mains-append [] k = refl
mains-append (e ∷ j) k = ap (λ t. main_in e ++ t) (mains-append j k) ∙ sym (append_assoc (main_in e) (mains_taken j) (mains_taken k))

pub backs-append : (j k : List ChildEntry) → backs_taken (j ++ k) ≡ backs_taken j ++ backs_taken k
backs-append [] k = refl
backs-append (e ∷ j) k = ap (λ t. back_in e ++ t) (backs-append j k) ∙ sym (append_assoc (back_in e) (backs_taken j) (backs_taken k))

grown : (j : List ChildEntry) (u : List UpMsg) (i : List ChildEntry) (v : List UpMsg) (e : ChildEntry) → main_in e ≡ [] → back_in e ≡ [] → Grown j u i v → Grown j u (i ++ e ∷ []) v
grown j u i v e m b g = record {
  entries = g.entries ++ e ∷ [];
  messages = g.messages;
  journal_is = ap (λ t. t ++ e ∷ []) g.journal_is ∙ append_assoc j g.entries (e ∷ []);
  sent_is = g.sent_is;
  no_main = mains-append g.entries (e ∷ []) ∙ rw (g.no_main, m) refl;
  no_back = backs-append g.entries (e ∷ []) ∙ rw (g.no_back, b) refl;
}

said : (j : List ChildEntry) (u : List UpMsg) (i : List ChildEntry) (v m : List UpMsg) → Grown j u i v → Grown j u i (v ++ m)
said j u i v m g = record {
  entries = g.entries;
  messages = g.messages ++ m;
  journal_is = g.journal_is;
  sent_is = ap (λ t. t ++ m) g.sent_is ∙ append_assoc u g.messages m;
  no_main = g.no_main;
  no_back = g.no_back;
}

bytes_grows : (j : List ChildEntry) (u : List UpMsg) (s : ChildState) (t : Target) (at : ℕ) (p : List ℕ) (k : Option Status) (st : Status) → Grows j u s → Grows j u (run_bytes s t at p k st)
bytes_grows j u s t at p None st g = grown j u _ _ _ refl refl g
bytes_grows j u s t at p (Some q) st g = grown j u _ _ _ refl refl g

run_grows : (c : ChannelPlan) (j : List ChildEntry) (u : List UpMsg) (t : Target) (e : ChildEvent) (s : ChildState) → Grows j u s → Grows j u (run_event c t e s)
run_grows c j u t (Start code st) s g = grown j u _ _ _ refl refl g
run_grows c j u t (Bytes at p st) s g = bytes_grows j u s t at p (merged s.kept st) st g
run_grows c j u t (Stop st) s g = grown j u _ _ _ refl refl g
run_grows c j u t (Redirect1 i) s g = grown j u _ _ _ refl refl g
run_grows c j u t (Redirect3 i) s g = grown j u _ _ _ refl refl g
run_grows c j u t (Cancel st) s g = said j u _ _ _ (grown j u _ _ _ refl refl g)

offered_grows : (c : ChannelPlan) (j : List ChildEntry) (u : List UpMsg) (here : Target) (e : ChildEvent) (s : ChildState) → Grows j u s → Grows j u (offer_event c here e s)
offered_grows c j u here e s g =
    keeps_if (Grows j u) (runs_now class_of s.queue e here) (run_event c here e (record s { queue = running_now s.queue here })) _
    (λ r. run_grows c j u here e (record s { queue = running_now s.queue here }) g) (λ r. g)

pub offered_all_grows : (c : ChannelPlan) (j : List ChildEntry) (u : List UpMsg) (here : Target) (es : List ChildEvent) (s : ChildState) → Grows j u s → Grows j u (offer_all c here es s)
offered_all_grows c j u here [] s g = g
offered_all_grows c j u here (e ∷ es) s g = offered_all_grows c j u here es (offer_event c here e s) (offered_grows c j u here e s g)

retarget_grows : (j : List ChildEntry) (u : List UpMsg) (o : Option RetargetError) (n : ℕ) (s : ChildState) → Grows j u s → Grows j u (call_retarget o n s)
retarget_grows j u (Some e) n s g = grown j u _ _ _ refl refl g
retarget_grows j u None n s g = grown j u _ _ _ refl refl g

performed_grows : (c : ChannelPlan) (j : List ChildEntry) (u : List UpMsg) (x : Act) (s : ChildState) → Grows j u s → Grows j u (perform_call c x s)
performed_grows c j u act.Suspend s g = keeps_if (Grows j u) s.stopped (with_entry child.NoEffect s) (call_suspend s) (λ r. grown j u _ _ _ refl refl g) (λ r. said j u _ _ _ (grown j u _ _ _ refl refl g))
performed_grows c j u act.Resume s g = keeps_if (Grows j u) (s.stopped || (s.suspends == 0)) (with_entry child.NoEffect s) (call_resume s) (λ r. grown j u _ _ _ refl refl g) (λ r. said j u _ _ _ (grown j u _ _ _ refl refl g))
performed_grows c j u (act.Cancel st) s g = keeps_if (Grows j u) (s.stopped || is_some s.kept) (with_entry child.NoEffect s) (call_cancel st s) (λ r. grown j u _ _ _ refl refl g) (λ r. said j u _ _ _ (grown j u _ _ _ refl refl g))
performed_grows c j u (act.Retarget n) s g = retarget_grows j u (refusal c s) n s g
performed_grows c j u (act.Break st) s g =
    let s1 : ChildState = record s { broken = true; kept = merged s.kept st; queue = cleared s.queue; journal = s.journal ++ child.Break st ∷ [] } in
    keeps_if (Grows j u) (s.stopped || s.broken) (with_entry child.NoEffect s) (call_break c st s) (λ r. grown j u _ _ _ refl refl g)
    (λ r. offered_all_grows c j u target.Main (if is_empty s.trace then Start 0 st ∷ Stop st ∷ [] else Stop st ∷ []) s1 (grown j u _ _ (child.Break st) refl refl g))

reacted_grows : (c : ChannelPlan) (j : List ChildEntry) (u : List UpMsg) (r : Reaction) (s : ChildState) → Grows j u s → Grows j u (react c r s)
reacted_grows c j u (reaction.StartRetarget n) s g = performed_grows c j u (act.Retarget n) s g
reacted_grows c j u reaction.StartSuspend s g = performed_grows c j u act.Suspend s g
reacted_grows c j u (reaction.StartCancel st) s g = performed_grows c j u (act.Cancel st) s g
reacted_grows c j u (reaction.StartFail st) s g = performed_grows c j u (act.Cancel st) s g
reacted_grows c j u (reaction.BytesFail n st) s g = g

reacted_all_grows : (c : ChannelPlan) (j : List ChildEntry) (u : List UpMsg) (rs : List Reaction) (s : ChildState) → Grows j u s → Grows j u (react_all c rs s)
reacted_all_grows c j u [] s g = g
reacted_all_grows c j u (r ∷ rs) s g = reacted_all_grows c j u rs (react c r s) (reacted_grows c j u r s g)

control_grows : (c : ChannelPlan) (j : List ChildEntry) (u : List UpMsg) (o : Option Control) (s : ChildState) → Grows j u s → Grows j u (perform_control c o s)
control_grows c j u None s g = g
control_grows c j u (Some control) s g =
    let s1 : ChildState = record s { next = suc s.next } in
    keeps_if (Grows j u) (nat_le control.after s.finished) (perform_call c control.act s1) s (λ r. performed_grows c j u control.act s1 g) (λ r. g)

acted_grows : (c : ChannelPlan) (j : List ChildEntry) (u : List UpMsg) (s : ChildState) → Grows j u s → Grows j u (step_act c s)
acted_grows c j u s g =
    keeps_if (Grows j u) c.closed s _ (λ r. g)
    (λ r. keeps_if (Grows j u) s.opened (perform_control c (slice_get c.controls s.next) s) _
    (λ q. control_grows c j u (slice_get c.controls s.next) s g) (λ q. said j u _ _ _ (grown j u _ _ child.Open refl refl g)))

verdict_grows : (c : ChannelPlan) (j : List ChildEntry) (u : List UpMsg) (o : Option ℕ) (s : ChildState) → Grows j u s → Grows j u (step_verdict c o s)
verdict_grows c j u None s g = g
verdict_grows c j u (Some i) s g = said j u _ _ _ (grown j u _ _ _ refl refl g)

taken_grows : (c : ChannelPlan) (j : List ChildEntry) (u : List UpMsg) (t : Target) (x : Taken ChildEvent) (s : ChildState) → Grows j u s → Grows j u (flush_with c t x s)
taken_grows c j u t (Event e rest) s g = run_grows c j u t e (record s { queue = record s.queue { waiting = rest } }) g
taken_grows c j u t (Over v) s g = grown j u _ _ _ refl refl g
taken_grows c j u t Ended s g = grown j u _ _ _ refl refl g

begun_grows : (c : ChannelPlan) (j : List ChildEntry) (u : List UpMsg) (t : Target) (s : ChildState) → Grows j u s → Grows j u (step_begin c t s)
begun_grows c j u t s g =
    keeps_if (Grows j u) (runs_on s.running t) s _ (λ r. g)
    (λ r. keeps_if (Grows j u) (is_target s.queue.flushing t) (flush_with c t (taken class_of s.queue t s.queue.waiting) s) _
    (λ q. taken_grows c j u t (taken class_of s.queue t s.queue.waiting) s g)
    (λ q. keeps_if (Grows j u) _ (record s { queue = completed s.queue t; journal = s.journal ++ child.Complete t ∷ [] }) s (λ p. grown j u _ _ (child.Complete t) refl refl g) (λ p. g)))

failed_grows : (c : ChannelPlan) (j : List ChildEntry) (u : List UpMsg) (t : Target) (o : Option Status) (s : ChildState) → Grows j u s → Grows j u (fail_data c t o s)
failed_grows c j u t None s g = g
failed_grows c j u t (Some d) s g =
    keeps_if (Grows j u) (same_target t target.Main) (perform_call c (act.Cancel d) s) (prepend_cancel d s)
    (λ r. performed_grows c j u (act.Cancel d) s g) (λ r. grown j u _ _ (child.Prepend d) refl refl g)

event_grows : (c : ChannelPlan) (j : List ChildEntry) (u : List UpMsg) (t : Target) (e : ChildEvent) (s : ChildState) → Grows j u s → Grows j u (finish_event c t e s)
event_grows c j u t (Start code st) s g = reacted_all_grows c j u c.reactions s g
event_grows c j u t (Bytes at p st) s g =
    failed_grows c j u t (bytes_failure c.reactions s.data_begun) (record s { sent = s.sent ++ up.BytesRead (length p) ∷ [] }) (said j u s.journal s.sent (up.BytesRead (length p) ∷ []) g)
event_grows c j u t (Stop st) s g = said j u s.journal s.sent (up.Deleting ∷ []) g
event_grows c j u t (Redirect1 i) s g = g
event_grows c j u t (Redirect3 i) s g = g
event_grows c j u t (Cancel st) s g = g

finished_grows : (c : ChannelPlan) (j : List ChildEntry) (u : List UpMsg) (t : Target) (o : Option (Target × ChildEvent)) (s : ChildState) → Grows j u s → Grows j u (step_finish c t o s)
finished_grows c j u t None s g = g
finished_grows c j u t (Some r) s g =
    let s1 : ChildState = record s { running = None; finished = suc s.finished; journal = s.journal ++ child.Finish t ∷ [] } in
    keeps_if (Grows j u) (same_target r.0 t) (finish_event c t r.1 s1) s (λ q. event_grows c j u t r.1 s1 (grown j u _ _ (child.Finish t) refl refl g)) (λ q. g)

reported_grows : (j : List ChildEntry) (u : List UpMsg) (l : StartLane) (m : MainMsg) (s : ChildState) → Grows j u s → Grows j u (note_main l m s)
reported_grows j u l (main.Start h st head) s g = g
reported_grows j u l (main.FailedOpen h st) s g = g
reported_grows j u l (main.Redirect1 h code) s g = g
reported_grows j u lane.Main (main.Redirect3 h) s g = g
reported_grows j u lane.Back (main.Redirect3 h) s g = g

pub main_grows : (c : ChannelPlan) (j : List ChildEntry) (u : List UpMsg) (m : MainMsg) (s : ChildState) → Grows j u s → Grows j u (step_main c m s)
main_grows c j u m s g = reported_grows j u c.start m (offer_all c target.Main (main_events_of m) s) (offered_all_grows c j u target.Main (main_events_of m) s g)

passed_grows : (c : ChannelPlan) (j : List ChildEntry) (u : List UpMsg) (m : BackMsg) (s : ChildState) → Grows j u s → Grows j u (hold_back c m s)
passed_grows c j u m s g =
    keeps_if (Grows j u) (is_among s.hold.released (back_hop m)) (offer_all c target.Back (back_events_of m) s) _ (λ r. offered_all_grows c j u target.Back (back_events_of m) s g) (λ r. g)

pub back_grows : (c : ChannelPlan) (j : List ChildEntry) (u : List UpMsg) (m : BackMsg) (s : ChildState) → Grows j u s → Grows j u (step_back c m s)
back_grows c j u (back.StartSent h) s g = g
back_grows c j u (back.Start h st head) s g = passed_grows c j u (back.Start h st head) s g
back_grows c j u (back.Bytes h st o p) s g = passed_grows c j u (back.Bytes h st o p) s g
back_grows c j u (back.Stop h st trailers) s g = passed_grows c j u (back.Stop h st trailers) s g

release_grows : (c : ChannelPlan) (j : List ChildEntry) (u : List UpMsg) (o : Option ℕ) (s : ChildState) → Grows j u s → Grows j u (step_release c o s)
release_grows c j u None s g = g
release_grows c j u (Some h) s g =
    let s1 : ChildState = record s { hold = released_hold h s.hold; journal = s.journal ++ child.Release (length (of_hop h s.hold.kept)) ∷ [] } in
    offered_all_grows c j u target.Back (back_events (of_hop h s.hold.kept)) s1 (grown j u _ _ (child.Release (length (of_hop h s.hold.kept))) refl refl g)

start_grows : (s : ChildState) → Grows s.journal s.sent s
start_grows s = record { entries = []; messages = []; journal_is = sym (append_nil s.journal); sent_is = sym (append_nil s.sent); no_main = refl; no_back = refl }

pub noted_grows : (e : ChildEntry) (s : ChildState) → Grows (s.journal ++ e ∷ []) s.sent (with_entry e s)
noted_grows e s = record { entries = []; messages = []; journal_is = sym (append_nil (s.journal ++ e ∷ [])); sent_is = sym (append_nil s.sent); no_main = refl; no_back = refl }

abbrev pub NoLane : ChildStep → Type 0
NoLane step.Act = Unit {0}
NoLane step.Verdict = Unit {0}
NoLane (step.Main m) = ⊥
NoLane (step.Back m) = ⊥
NoLane step.Release = Unit {0}
NoLane (step.Begin t) = Unit {0}
NoLane (step.Finish t) = Unit {0}

-- a step that takes nothing of a lane
pub plain_grows : (c : ChannelPlan) (x : ChildStep) (s : ChildState) → NoLane x → Grows s.journal s.sent (child_step c x s)
plain_grows c step.Act s n = acted_grows c s.journal s.sent s (start_grows s)
plain_grows c step.Verdict s n = keeps_if (Grows s.journal s.sent) s.broken s (step_verdict c s.question s) (λ r. start_grows s) (λ r. verdict_grows c s.journal s.sent s.question s (start_grows s))
plain_grows c (step.Main m) s n = absurd n
plain_grows c (step.Back m) s n = absurd n
plain_grows c step.Release s n = keeps_if (Grows s.journal s.sent) s.broken s (step_release c s.hold.report s) (λ r. start_grows s) (λ r. release_grows c s.journal s.sent s.hold.report s (start_grows s))
plain_grows c (step.Begin t) s n = begun_grows c s.journal s.sent t s (start_grows s)
plain_grows c (step.Finish t) s n = finished_grows c s.journal s.sent t s.running s (start_grows s)

abbrev pub Extends : ChildState → ChildState → Type 0
Extends s s' = ((x : List ChildEntry) × (s'.journal ≡ s.journal ++ x)) × ((y : List UpMsg) × (s'.sent ≡ s.sent ++ y))

extends_plain : (s s' : ChildState) → Grows s.journal s.sent s' → Extends s s'
extends_plain s s' g = ((g.entries, g.journal_is), (g.messages, g.sent_is))

extends_after : (s s' : ChildState) (e : ChildEntry) → Grows (s.journal ++ e ∷ []) s.sent s' → Extends s s'
extends_after s s' e g = ((e ∷ g.entries, g.journal_is ∙ append_assoc s.journal (e ∷ []) g.entries), (g.messages, g.sent_is))

pub step_grows : (c : ChannelPlan) (x : ChildStep) (s : ChildState) → Extends s (child_step c x s)
step_grows c step.Act s = extends_plain s (child_step c step.Act s) (plain_grows c step.Act s tt)
step_grows c step.Verdict s = extends_plain s (child_step c step.Verdict s) (plain_grows c step.Verdict s tt)
step_grows c (step.Main m) s =
    keeps_if (Extends s) s.broken s (step_main c m (with_entry (child.TookMain m) s)) (λ r. extends_plain s s (start_grows s))
    (λ r. extends_after s (step_main c m (with_entry (child.TookMain m) s)) (child.TookMain m) (main_grows c (s.journal ++ child.TookMain m ∷ []) s.sent m (with_entry (child.TookMain m) s) (noted_grows (child.TookMain m) s)))
step_grows c (step.Back m) s =
    keeps_if (Extends s) s.broken s (step_back c m (with_entry (child.TookBack m) s)) (λ r. extends_plain s s (start_grows s))
    (λ r. extends_after s (step_back c m (with_entry (child.TookBack m) s)) (child.TookBack m) (back_grows c (s.journal ++ child.TookBack m ∷ []) s.sent m (with_entry (child.TookBack m) s) (noted_grows (child.TookBack m) s)))
step_grows c step.Release s = extends_plain s (child_step c step.Release s) (plain_grows c step.Release s tt)
step_grows c (step.Begin t) s = extends_plain s (child_step c (step.Begin t) s) (plain_grows c (step.Begin t) s tt)
step_grows c (step.Finish t) s = extends_plain s (child_step c (step.Finish t) s) (plain_grows c (step.Finish t) s tt)
