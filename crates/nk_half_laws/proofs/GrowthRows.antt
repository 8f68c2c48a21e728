-- What each step adds. The rows in the order of the child's table.
use Rattle.std.proofs.Common.{ℕ, suc, ◌≡◌, ◌∙◌, refl, sym, ap, subst, List, [], ◌∷◌, ◌++◌, length, true, false, ◌||◌, Option, Some, None, is_some, if◌then◌else◌, nat_le, ◌==◌, slice_get}
use Rattle.nk_base.specs.declared.status.Status.{Status}
use Rattle.nk_base.specs.declared.status.Target.{Target}
use Rattle.nk_base.specs.declared.status.Target.TheVariants as target
use Rattle.nk_base.specs.declared.status.RetargetError.{RetargetError}
use Rattle.nk_base.specs.declared.message.MainMsg.{MainMsg}
use Rattle.nk_base.specs.declared.message.MainMsg.TheVariants as main
use Rattle.nk_base.specs.declared.message.BackMsg.{BackMsg}
use Rattle.nk_base.specs.declared.message.BackMsg.TheVariants as back
use Rattle.nk_base.specs.declared.message.UpMsg.{UpMsg}
use Rattle.nk_base.specs.declared.message.UpMsg.TheVariants as up
use Rattle.nk_base.specs.declared.message.Entry.TheVariants as shown
use Rattle.nk_base.specs.Status.{is_failure, merged, kept_status}
use Rattle.nk_base.specs.Queue.{Taken, Event, Over, Ended, same_target, running_now, cleared, taken}
use Rattle.nk_plan.specs.declared.plan.ChannelPlan.{ChannelPlan}
use Rattle.nk_plan.specs.declared.plan.StartLane.{StartLane}
use Rattle.nk_plan.specs.declared.plan.StartLane.TheVariants as lane
use Rattle.nk_plan.specs.declared.plan.Reaction.{Reaction}
use Rattle.nk_plan.specs.declared.plan.Reaction.TheVariants as reaction
use Rattle.nk_plan.specs.declared.plan.Act.{Act}
use Rattle.nk_plan.specs.declared.plan.Act.TheVariants as act
use Rattle.nk_plan.specs.declared.plan.Control.{Control}
use Rattle.nk_plan.specs.declared.event.ChildEvent.{ChildEvent}
use Rattle.nk_plan.specs.declared.event.ChildEvent.TheVariants.{Start, Bytes, Stop, Redirect1, Redirect3, Cancel}
use Rattle.nk_plan.specs.declared.journal.ChildEntry.TheVariants as child
use Rattle.nk_plan.specs.declared.step.ChildStep.{ChildStep}
use Rattle.nk_plan.specs.declared.step.ChildStep.TheVariants as step
use Rattle.nk_plan.specs.Event.{class_of}
use Rattle.nk_plan.specs.Plan.{stop_trailers}
use Rattle.nk_plan.specs.Child.{ChildState, run_bytes, cancel_messages, run_event, offer_event, offer_all, with_entry, call_suspend, call_resume, call_cancel, refusal, call_retarget, is_empty, call_break, perform_call, perform_control, step_act, verdict_status, step_verdict, note_main, main_events_of, step_main, keep_back, back_hop, back_events_of, back_events, is_among, hold_back, step_back, of_hop, released_hold, step_release, flush_with, step_begin, react, react_all, bytes_failure, prepend_cancel, fail_data, finish_event, step_finish, child_step, child_after}
use Rattle.nk_half_laws.specs.Growth.{shapes, told, hop_after, owed_by, telling_of, mains_of, backs_of, Adds, GrowthLaw, ToldLaw}
use Rattle.nk_half_laws.proofs.Tools.{keeps_if}
use Rattle.std.proofs.lemmas.List.{append-nil}
use Rattle.nk_half_laws.proofs.GrowthEntries.{hops_then, tolds_then, shapes_then, Grows, plain, sends, displays, failed_merged, failed_shown, cancel_same, with_failed}
use Rattle.nk_half_laws.proofs.Failures.{merged_none}
use Rattle.nk_half_laws.proofs.Table.{offer_if, act_if, begin_if}

-- Running and offering an event

bytes_grows : (c : ChannelPlan) (z : ChildState) (m : List MainMsg) (b : List BackMsg) (s : ChildState) (t : Target) (o : ℕ) (p : List ℕ)
    (k : Option Status) (st : Status) → merged s.kept st ≡ k
    → Grows c z m b s → Grows c z m b (run_bytes s t o p k st)
bytes_grows c z m b s t o p None st e g =
    let owed : List UpMsg = up.BytesRead (length p) ∷ [] in
    displays g (child.RunBytes t o (length p)) (with_failed s owed false) s.hop (shown.Bytes o p) refl refl
    (ap (with_failed s owed) (ap is_some (merged_none s.kept st e))) refl refl refl
bytes_grows c z m b s t o p (Some q) st e g =
    let f : (is_some s.kept || is_failure q) ≡ true =
    subst (λ (x : Option Status). (is_some s.kept || is_failure (kept_status x)) ≡ is_some x) e (failed_shown s.kept st) in
    plain g (child.RunDrop t o q) (with_failed s (owed_by s.running) true) s.hop refl refl
    (ap (with_failed s (owed_by s.running)) f) refl refl refl

run_grows : (c : ChannelPlan) (z : ChildState) (m : List MainMsg) (b : List BackMsg) (s : ChildState) (t : Target) (e : ChildEvent)
    → Grows c z m b s → Grows c z m b (run_event c t e s)
run_grows c z m b s t (Start code st) g =
    let k : Option Status = merged s.kept st in
    displays g (child.RunStart t code (kept_status k)) (with_failed s [] (is_some k)) s.hop (shown.Start code (kept_status k)) refl refl
    (ap (with_failed s []) (failed_shown s.kept st)) refl refl refl
run_grows c z m b s t (Bytes o p st) g = bytes_grows c z m b s t o p (merged s.kept st) st refl g
run_grows c z m b s t (Stop st) g =
    let k : Option Status = merged s.kept st in
    displays g (child.RunStop t (kept_status k)) (with_failed s (up.Deleting ∷ []) (is_some k)) s.hop
    (shown.Stop (kept_status k) (stop_trailers c s.hop (kept_status k))) refl refl
    (ap (with_failed s (up.Deleting ∷ [])) (failed_shown s.kept st)) refl refl refl
run_grows c z m b s t (Redirect1 i) g = plain g (child.RunRedirect1 t i) (telling_of s) s.hop refl refl refl refl refl refl
run_grows c z m b s t (Redirect3 i) g = plain g (child.RunRedirect3 t i) (telling_of s) (suc s.hop) refl refl refl refl refl refl
run_grows c z m b s t (Cancel st) g =
    sends g (child.RunCancel t st) (with_failed s (owed_by s.running) (is_some (merged s.kept st))) s.hop (cancel_messages s.kept st)
    (cancel_same s.kept st) refl
    (ap (with_failed s (owed_by s.running)) (failed_merged s.kept st)) refl refl refl

offered_grows : (c : ChannelPlan) (z : ChildState) (m : List MainMsg) (b : List BackMsg) (s : ChildState) (here : Target) (e : ChildEvent)
    → Grows c z m b s → Grows c z m b (offer_event c here e s)
offered_grows c z m b s here e g =
    offer_if (Grows c z m b) c here e s (run_grows c z m b (record s { queue = running_now s.queue here }) here e g) g

all_offered : (c : ChannelPlan) (z : ChildState) (m : List MainMsg) (b : List BackMsg) (s : ChildState) (here : Target)
    (es : List ChildEvent) → Grows c z m b s → Grows c z m b (offer_all c here es s)
all_offered c z m b s here [] g = g
all_offered c z m b s here (e ∷ es) g = all_offered c z m b (offer_event c here e s) here es (offered_grows c z m b s here e g)

-- The calls of the page

retarget_grows : (c : ChannelPlan) (z : ChildState) (m : List MainMsg) (b : List BackMsg) (s : ChildState) (o : Option RetargetError)
    (n : ℕ) → Grows c z m b s → Grows c z m b (call_retarget o n s)
retarget_grows c z m b s (Some e) n g = plain g (child.NoRetarget e) (telling_of s) s.hop refl refl refl refl refl refl
retarget_grows c z m b s None n g = plain g (child.Retarget n) (telling_of s) s.hop refl refl refl refl refl refl

idle : (c : ChannelPlan) (z : ChildState) (m : List MainMsg) (b : List BackMsg) (s : ChildState) → Grows c z m b s
    → Grows c z m b (with_entry child.NoEffect s)
idle c z m b s g = plain g child.NoEffect (telling_of s) s.hop refl refl refl refl refl refl

call_grows : (c : ChannelPlan) (z : ChildState) (m : List MainMsg) (b : List BackMsg) (s : ChildState) (x : Act) → Grows c z m b s
    → Grows c z m b (perform_call c x s)
call_grows c z m b s act.Suspend g =
    keeps_if (Grows c z m b) s.stopped (with_entry child.NoEffect s) (call_suspend s) (λ r. idle c z m b s g)
    (λ r. sends g child.Suspend (telling_of (call_suspend s)) s.hop
    (if s.suspends == 0 then up.Suspend ∷ [] else []) refl refl refl refl refl refl)
call_grows c z m b s act.Resume g =
    keeps_if (Grows c z m b) (s.stopped || (s.suspends == 0)) (with_entry child.NoEffect s) (call_resume s) (λ r. idle c z m b s g)
    (λ r. sends g child.Resume (telling_of (call_resume s)) s.hop
    (if s.suspends == 1 then up.Resume ∷ [] else []) refl refl refl refl refl refl)
call_grows c z m b s (act.Cancel st) g =
    keeps_if (Grows c z m b) (s.stopped || is_some s.kept) (with_entry child.NoEffect s) (call_cancel st s) (λ r. idle c z m b s g)
    (λ r. sends g (child.Cancel st) (telling_of (call_cancel st s)) s.hop (up.Cancel st ∷ []) refl refl
    (ap (with_failed s (owed_by s.running)) (failed_merged s.kept st)) refl refl refl)
call_grows c z m b s (act.Retarget n) g = retarget_grows c z m b s (refusal c s) n g
call_grows c z m b s (act.Break st) g =
    let s1 : ChildState =
    record s { broken = true; kept = merged s.kept st; queue = cleared s.queue; journal = s.journal ++ child.Break st ∷ [] } in
    keeps_if (Grows c z m b) (s.stopped || s.broken) (with_entry child.NoEffect s) (call_break c st s) (λ r. idle c z m b s g)
    (λ r. all_offered c z m b s1 target.Main (if is_empty s.trace then Start 0 st ∷ Stop st ∷ [] else Stop st ∷ [])
    (plain g (child.Break st) (telling_of s1) s.hop refl refl
    (ap (with_failed s (owed_by s.running)) (failed_merged s.kept st)) refl refl refl))

control_grows : (c : ChannelPlan) (z : ChildState) (m : List MainMsg) (b : List BackMsg) (s : ChildState) (o : Option Control)
    → Grows c z m b s → Grows c z m b (perform_control c o s)
control_grows c z m b s None g = g
control_grows c z m b s (Some control) g =
    keeps_if (Grows c z m b) (nat_le control.after s.finished) (perform_call c control.act (record s { next = suc s.next })) s
    (λ r. call_grows c z m b (record s { next = suc s.next }) control.act g) (λ r. g)

act_grows : (c : ChannelPlan) (z : ChildState) (m : List MainMsg) (b : List BackMsg) (s : ChildState) → Grows c z m b s
    → Grows c z m b (step_act c s)
act_grows c z m b s g =
    act_if (Grows c z m b) c s g (control_grows c z m b s (slice_get c.controls s.next) g)
    (λ q. sends g child.Open (telling_of s) s.hop (up.Open ∷ []) refl refl refl refl refl refl)

-- The verdict, and the messages of the lanes

verdict_grows : (c : ChannelPlan) (z : ChildState) (m : List MainMsg) (b : List BackMsg) (s : ChildState) (o : Option ℕ) → Grows c z m b s
    → Grows c z m b (step_verdict c o s)
verdict_grows c z m b s None g = g
verdict_grows c z m b s (Some i) g =
    let st : Status = verdict_status c s.kept i in
    sends g (child.Verdict i st) (telling_of s) s.hop (up.Verify i st ∷ []) refl refl refl refl refl refl

note_grows : (c : ChannelPlan) (z : ChildState) (m : List MainMsg) (b : List BackMsg) (s : ChildState) (l : StartLane) (x : MainMsg)
    → Grows c z m b s → Grows c z m b (note_main l x s)
note_grows c z m b s l (main.Start i st head) g = g
note_grows c z m b s l (main.FailedOpen i st) g = g
note_grows c z m b s l (main.Redirect1 i code) g = g
note_grows c z m b s lane.Main (main.Redirect3 i) g = g
note_grows c z m b s lane.Back (main.Redirect3 i) g = g

main_grows : (c : ChannelPlan) (z : ChildState) (m : List MainMsg) (b : List BackMsg) (s : ChildState) (x : MainMsg) → Grows c z m b s
    → Grows c z m b (step_main c x s)
main_grows c z m b s x g =
    note_grows c z m b (offer_all c target.Main (main_events_of x) s) c.start x (all_offered c z m b s target.Main (main_events_of x) g)

held_grows : (c : ChannelPlan) (z : ChildState) (m : List MainMsg) (b : List BackMsg) (s : ChildState) (x : BackMsg) → Grows c z m b s
    → Grows c z m b (hold_back c x s)
held_grows c z m b s x g =
    keeps_if (Grows c z m b) (is_among s.hold.released (back_hop x)) (offer_all c target.Back (back_events_of x) s) (keep_back x s)
    (λ r. all_offered c z m b s target.Back (back_events_of x) g) (λ r. g)

back_grows : (c : ChannelPlan) (z : ChildState) (m : List MainMsg) (b : List BackMsg) (s : ChildState) (x : BackMsg) → Grows c z m b s
    → Grows c z m b (step_back c x s)
back_grows c z m b s (back.StartSent i) g = g
back_grows c z m b s (back.Start i st head) g = held_grows c z m b s (back.Start i st head) g
back_grows c z m b s (back.Bytes i st o p) g = held_grows c z m b s (back.Bytes i st o p) g
back_grows c z m b s (back.Stop i st trailers) g = held_grows c z m b s (back.Stop i st trailers) g

release_grows : (c : ChannelPlan) (z : ChildState) (m : List MainMsg) (b : List BackMsg) (s : ChildState) (o : Option ℕ) → Grows c z m b s
    → Grows c z m b (step_release c o s)
release_grows c z m b s None g = g
release_grows c z m b s (Some i) g =
    let n : ℕ = length (of_hop i s.hold.kept) in
    let s1 : ChildState = record s { hold = released_hold i s.hold; journal = s.journal ++ child.Release n ∷ [] } in
    all_offered c z m b s1 target.Back (back_events (of_hop i s.hold.kept))
    (plain g (child.Release n) (telling_of s) s.hop refl refl refl refl refl refl)

-- A target's turn

flush_grows : (c : ChannelPlan) (z : ChildState) (m : List MainMsg) (b : List BackMsg) (s : ChildState) (t : Target)
    (x : Taken ChildEvent) → Grows c z m b s → Grows c z m b (flush_with c t x s)
flush_grows c z m b s t (Event e rest) g = run_grows c z m b (record s { queue = record s.queue { waiting = rest } }) t e g
flush_grows c z m b s t (Over v) g = plain g (child.HandOver t v) (telling_of s) s.hop refl refl refl refl refl refl
flush_grows c z m b s t Ended g = plain g (child.Ended t) (telling_of s) s.hop refl refl refl refl refl refl

begin_grows : (c : ChannelPlan) (z : ChildState) (m : List MainMsg) (b : List BackMsg) (s : ChildState) (t : Target) → Grows c z m b s
    → Grows c z m b (step_begin c t s)
begin_grows c z m b s t g =
    begin_if (Grows c z m b) c t s g (flush_grows c z m b s t (taken class_of s.queue t s.queue.waiting) g)
    (plain g (child.Complete t) (telling_of s) s.hop refl refl refl refl refl refl)

-- The end of a callback

react_grows : (c : ChannelPlan) (z : ChildState) (m : List MainMsg) (b : List BackMsg) (s : ChildState) (r : Reaction) → Grows c z m b s
    → Grows c z m b (react c r s)
react_grows c z m b s (reaction.StartRetarget n) g = call_grows c z m b s (act.Retarget n) g
react_grows c z m b s reaction.StartSuspend g = call_grows c z m b s act.Suspend g
react_grows c z m b s (reaction.StartCancel st) g = call_grows c z m b s (act.Cancel st) g
react_grows c z m b s (reaction.StartFail st) g = call_grows c z m b s (act.Cancel st) g
react_grows c z m b s (reaction.BytesFail n st) g = g

all_react : (c : ChannelPlan) (z : ChildState) (m : List MainMsg) (b : List BackMsg) (s : ChildState) (rs : List Reaction)
    → Grows c z m b s → Grows c z m b (react_all c rs s)
all_react c z m b s [] g = g
all_react c z m b s (r ∷ rs) g = all_react c z m b (react c r s) rs (react_grows c z m b s r g)

fail_grows : (c : ChannelPlan) (z : ChildState) (m : List MainMsg) (b : List BackMsg) (s : ChildState) (t : Target) (o : Option Status)
    → Grows c z m b s → Grows c z m b (fail_data c t o s)
fail_grows c z m b s t None g = g
fail_grows c z m b s t (Some st) g =
    keeps_if (Grows c z m b) (same_target t target.Main) (perform_call c (act.Cancel st) s) (prepend_cancel st s)
    (λ r. call_grows c z m b s (act.Cancel st) g)
    (λ r. plain g (child.Prepend st) (telling_of s) s.hop refl refl refl refl refl refl)

abbrev at_end : Target → ChildState → ChildState
at_end t s = record s { running = None; finished = suc s.finished; journal = s.journal ++ child.Finish t ∷ [] }

nothing_owed : (c : ChannelPlan) (z : ChildState) (m : List MainMsg) (b : List BackMsg) (s : ChildState) (t : Target)
    → owed_by s.running ≡ [] → Grows c z m b s → Grows c z m b (at_end t s)
nothing_owed c z m b s t q g = plain g (child.Finish t) (with_failed s [] (is_some s.kept)) s.hop q refl refl refl refl refl

owed_sent : (c : ChannelPlan) (z : ChildState) (m : List MainMsg) (b : List BackMsg) (s : ChildState) (t : Target) (x : UpMsg)
    → owed_by s.running ≡ x ∷ [] → Grows c z m b s
    → Grows c z m b
    (record s { running = None; finished = suc s.finished; journal = s.journal ++ child.Finish t ∷ []; sent = s.sent ++ x ∷ [] })
owed_sent c z m b s t x q g = sends g (child.Finish t) (with_failed s [] (is_some s.kept)) s.hop (x ∷ []) q refl refl refl refl refl

event_grows : (c : ChannelPlan) (z : ChildState) (m : List MainMsg) (b : List BackMsg) (s : ChildState) (t v : Target) (e : ChildEvent)
    → owed_by s.running ≡ owed_by (Some (v, e))
    → Grows c z m b s → Grows c z m b (finish_event c t e (at_end t s))
event_grows c z m b s t v (Start code st) q g = all_react c z m b (at_end t s) c.reactions (nothing_owed c z m b s t q g)
event_grows c z m b s t v (Bytes o p st) q g =
    let s1 : ChildState = record (at_end t s) { sent = s.sent ++ up.BytesRead (length p) ∷ [] } in
    fail_grows c z m b s1 t (bytes_failure c.reactions s.data_begun) (owed_sent c z m b s t (up.BytesRead (length p)) q g)
event_grows c z m b s t v (Stop st) q g = owed_sent c z m b s t up.Deleting q g
event_grows c z m b s t v (Redirect1 i) q g = nothing_owed c z m b s t q g
event_grows c z m b s t v (Redirect3 i) q g = nothing_owed c z m b s t q g
event_grows c z m b s t v (Cancel st) q g = nothing_owed c z m b s t q g

finish_grows : (c : ChannelPlan) (z : ChildState) (m : List MainMsg) (b : List BackMsg) (s : ChildState) (t : Target)
    (o : Option (Target × ChildEvent)) → s.running ≡ o
    → Grows c z m b s → Grows c z m b (step_finish c t o s)
finish_grows c z m b s t None q g = g
finish_grows c z m b s t (Some (v, e)) q g =
    keeps_if (Grows c z m b) (same_target v t) (finish_event c t e (at_end t s)) s (λ r. event_grows c z m b s t v e (ap owed_by q) g)
    (λ r. g)

-- All steps

start : (c : ChannelPlan) (z : ChildState) → Grows c z [] [] z
start c z = record {
  entries = [];
  showing = [];
  journal = sym (append-nil z.journal);
  sent = sym (append-nil z.sent);
  trace = sym (append-nil z.trace);
  shows = refl;
  telling = refl;
  hop = refl;
  mains = refl;
  backs = refl;
}

took_main : (c : ChannelPlan) (z : ChildState) (x : MainMsg) → Grows c z (x ∷ []) [] (with_entry (child.TookMain x) z)
took_main c z x = record {
  entries = child.TookMain x ∷ [];
  showing = [];
  journal = refl;
  sent = sym (append-nil z.sent);
  trace = sym (append-nil z.trace);
  shows = refl;
  telling = refl;
  hop = refl;
  mains = refl;
  backs = refl;
}

took_back : (c : ChannelPlan) (z : ChildState) (x : BackMsg) → Grows c z [] (x ∷ []) (with_entry (child.TookBack x) z)
took_back c z x = record {
  entries = child.TookBack x ∷ [];
  showing = [];
  journal = refl;
  sent = sym (append-nil z.sent);
  trace = sym (append-nil z.trace);
  shows = refl;
  telling = refl;
  hop = refl;
  mains = refl;
  backs = refl;
}

adds : (c : ChannelPlan) (x : ChildStep) (s s' : ChildState) (m : List MainMsg) (b : List BackMsg) → m ≡ mains_of x s.broken
    → b ≡ backs_of x s.broken → Grows c s m b s' → Adds c x s s'
adds c x s s' m b p q g = record {
  entries = g.entries;
  showing = g.showing;
  journal = g.journal;
  sent = g.sent;
  trace = g.trace;
  shows = g.shows;
  hop = sym g.hop;
  telling = sym g.telling;
  main = g.mains ∙ p;
  back = g.backs ∙ q;
}

pub growth : GrowthLaw
growth c step.Act s = adds c step.Act s (child_step c step.Act s) [] [] refl refl (act_grows c s [] [] s (start c s))
growth c step.Verdict s =
    adds c step.Verdict s (child_step c step.Verdict s) [] [] refl refl
    (keeps_if (Grows c s [] []) s.broken s (step_verdict c s.question s) (λ r. start c s)
    (λ r. verdict_grows c s [] [] s s.question (start c s)))
growth c (step.Main x) s =
    let s1 : ChildState = with_entry (child.TookMain x) s in
    keeps_if (Adds c (step.Main x) s) s.broken s (step_main c x s1)
    (λ r. adds c (step.Main x) s s [] [] (ap (mains_of (step.Main x)) (sym r)) refl (start c s))
    (λ r. adds c (step.Main x) s (step_main c x s1) (x ∷ []) [] (ap (mains_of (step.Main x)) (sym r)) refl
    (main_grows c s (x ∷ []) [] s1 x (took_main c s x)))
growth c (step.Back x) s =
    let s1 : ChildState = with_entry (child.TookBack x) s in
    keeps_if (Adds c (step.Back x) s) s.broken s (step_back c x s1)
    (λ r. adds c (step.Back x) s s [] [] refl (ap (backs_of (step.Back x)) (sym r)) (start c s))
    (λ r. adds c (step.Back x) s (step_back c x s1) [] (x ∷ []) refl (ap (backs_of (step.Back x)) (sym r))
    (back_grows c s [] (x ∷ []) s1 x (took_back c s x)))
growth c step.Release s =
    adds c step.Release s (child_step c step.Release s) [] [] refl refl
    (keeps_if (Grows c s [] []) s.broken s (step_release c s.hold.report s) (λ r. start c s)
    (λ r. release_grows c s [] [] s s.hold.report (start c s)))
growth c (step.Begin t) s = adds c (step.Begin t) s (child_step c (step.Begin t) s) [] [] refl refl (begin_grows c s [] [] s t (start c s))
growth c (step.Finish t) s =
    adds c (step.Finish t) s (child_step c (step.Finish t) s) [] [] refl refl (finish_grows c s [] [] s t s.running refl (start c s))

-- The whole trace

hop_told : (c : ChannelPlan) (steps : List ChildStep) → hop_after 0 (child_after c steps).journal ≡ (child_after c steps).hop
hop_told c [] = refl
hop_told c (x ∷ xs) =
    let s : ChildState = child_after c xs in
    let a : Adds c x s (child_step c x s) = growth c x s in
    ap (hop_after 0) a.journal ∙ (hops_then 0 s.journal a.entries ∙ (ap (λ h. hop_after h a.entries) (hop_told c xs) ∙ sym a.hop))

pub trace_told : ToldLaw
trace_told c [] = refl
trace_told c (x ∷ xs) =
    let s : ChildState = child_after c xs in
    let a : Adds c x s (child_step c x s) = growth c x s in
    let q : told c 0 s.journal ++ told c (hop_after 0 s.journal) a.entries ≡ told c 0 (s.journal ++ a.entries) =
    sym (tolds_then c 0 s.journal a.entries) in
    ap shapes a.trace
    ∙ (shapes_then s.trace a.showing
    ∙ (ap (λ t. t ++ shapes a.showing) (trace_told c xs)
    ∙ (ap (λ t. told c 0 s.journal ++ t) (a.shows ∙ ap (λ h. told c h a.entries) (sym (hop_told c xs)))
    ∙ (q ∙ ap (told c 0) (sym a.journal)))))
