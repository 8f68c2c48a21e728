-- The child's table: what each step does to the half of a channel that the page sees.
-- In outline after Firefox's HttpChannelChild and HttpBackgroundChannelChild; the table is this project's own.
use Rattle.std.specs.Prelude.{ℕ, suc, ◌+◌, ◌-◌, Bool, true, false, not, ◌||◌, if◌then◌else◌, nat_lt, nat_le, ◌==◌, List, [], ◌∷◌, ◌++◌, length, slice_get, slice_index, Option, Some, None, is_some}
use Rattle.nk_base.specs.declared.status.Status.{Status}
use Rattle.nk_base.specs.declared.status.Target.{Target}
use Rattle.nk_base.specs.declared.status.RetargetError.{RetargetError}
use Rattle.nk_base.specs.declared.message.MainMsg.{MainMsg}
use Rattle.nk_base.specs.declared.message.BackMsg.{BackMsg}
use Rattle.nk_base.specs.declared.message.UpMsg.{UpMsg}
use Rattle.nk_base.specs.declared.message.Entry.{Entry}
pub use Rattle.nk_base.specs.Hold.{Hold, hold_with, back_hop, is_among, of_hop, not_of_hop, released_hold}
use Rattle.nk_base.specs.Queue.{Queue, Taken, Event, Over, Ended, empty_queue, same_target, is_target, target_number, runs_now, running_now, appended, suspended_once, resumed_once, completed, forced_once, unforced, prepended, cleared, retargeted, taken, flush_ended, handed_over}
use Rattle.nk_base.specs.Status.{ok, merged, kept_status}
use Rattle.nk_plan.specs.declared.plan.ChannelPlan.{ChannelPlan}
use Rattle.nk_plan.specs.declared.plan.StartLane.{StartLane}
use Rattle.nk_plan.specs.declared.plan.Hop.{Hop}
use Rattle.nk_plan.specs.declared.plan.Reaction.{Reaction}
use Rattle.nk_plan.specs.declared.plan.Act.{Act}
use Rattle.nk_plan.specs.declared.plan.Control.{Control}
use Rattle.nk_plan.specs.declared.event.ChildEvent.{ChildEvent}
use Rattle.nk_plan.specs.declared.event.ChildEvent.TheVariants.{Start, Bytes, Stop, Redirect1, Redirect3, Cancel}
use Rattle.nk_plan.specs.declared.journal.ChildEntry.{ChildEntry}
use Rattle.nk_plan.specs.declared.step.ChildStep.{ChildStep}
use Rattle.nk_plan.specs.Event.{class_of}
use Rattle.nk_plan.specs.Plan.{hop_at, stop_trailers}
use Rattle.nk_base.specs.declared.status.Target.TheVariants as target
use Rattle.nk_base.specs.declared.status.RetargetError.TheVariants as refused
use Rattle.nk_base.specs.declared.message.MainMsg.TheVariants as main
use Rattle.nk_base.specs.declared.message.BackMsg.TheVariants as back
use Rattle.nk_base.specs.declared.message.UpMsg.TheVariants as up
use Rattle.nk_base.specs.declared.message.Entry.TheVariants as shown
use Rattle.nk_plan.specs.declared.plan.StartLane.TheVariants as lane
use Rattle.nk_plan.specs.declared.plan.Hop.TheVariants as hop
use Rattle.nk_plan.specs.declared.plan.Verdict.TheVariants as verdict
use Rattle.nk_plan.specs.declared.plan.Reaction.TheVariants as reaction
use Rattle.nk_plan.specs.declared.plan.Act.TheVariants as act
use Rattle.nk_plan.specs.declared.journal.ChildEntry.TheVariants as child
use Rattle.nk_plan.specs.declared.step.ChildStep.TheVariants as step

-- what a child is, between two steps
pub record ChildState : Type 0 where
  pub opened : Bool
  pub stopped : Bool
  pub broken : Bool
  -- the number of the page's next call, and how many callbacks have returned
  pub next : ℕ
  pub finished : ℕ
  -- how many suspends are not resumed, and how many data callbacks have begun
  pub suspends : ℕ
  pub data_begun : ℕ
  pub hop : ℕ
  -- the first failure, and the hop whose redirect is in question
  pub kept : Option Status
  pub question : Option ℕ
  pub hold : Hold
  -- the worker to which the data was retargeted
  pub delivery : Option ℕ
  pub queue : Queue ChildEvent
  -- the callback that runs, and its target
  pub running : Option (Target × ChildEvent)
  pub journal : List ChildEntry
  -- what the listener was shown, and what was sent on the up lane
  pub trace : List Entry
  pub sent : List UpMsg

-- where starts travel on the background lane, hop 0 is released from the beginning
abbrev pub new_hold : StartLane → Hold
new_hold lane.Main = hold_with []
new_hold lane.Back = hold_with (0 ∷ [])

abbrev pub new_child : ChannelPlan → ChildState
new_child c = record {
  opened = false;
  stopped = false;
  broken = false;
  next = 0;
  finished = 0;
  suspends = 0;
  data_begun = 0;
  hop = 0;
  kept = None;
  question = None;
  hold = new_hold c.start;
  delivery = None;
  queue = empty_queue;
  running = None;
  journal = [];
  trace = [];
  sent = [];
}

abbrev pub with_entry : ChildEntry → ChildState → ChildState
with_entry e s = record s { journal = s.journal ++ e ∷ [] }

-- Running an event on a target

-- a piece is shown where no failure is kept, its own status merged; else it is dropped and nothing runs
abbrev pub run_bytes : ChildState → Target → ℕ → List ℕ → Option Status → Status → ChildState
run_bytes s t o p None st =
    record s {
      kept = None;
      trace = s.trace ++ shown.Bytes o p ∷ [];
      data_begun = suc s.data_begun;
      running = Some (t, Bytes o p st);
      journal = s.journal ++ child.RunBytes t o (length p) ∷ [];
    }
run_bytes s t o p (Some q) st = record s { kept = Some q; journal = s.journal ++ child.RunDrop t o q ∷ [] }

-- a cancel is sent where no failure is kept
abbrev pub cancel_messages : Option Status → Status → List UpMsg
cancel_messages None s = up.Cancel s ∷ []
cancel_messages (Some q) s = []

abbrev pub run_event : ChannelPlan → Target → ChildEvent → ChildState → ChildState
run_event c t (Start code st) s =
    record s {
      kept = merged s.kept st;
      trace = s.trace ++ shown.Start code (kept_status (merged s.kept st)) ∷ [];
      queue = forced_once s.queue;
      running = Some (t, Start code st);
      journal = s.journal ++ child.RunStart t code (kept_status (merged s.kept st)) ∷ [];
    }
run_event c t (Bytes o p st) s = run_bytes s t o p (merged s.kept st) st
run_event c t (Stop st) s =
    record s {
      kept = merged s.kept st;
      trace = s.trace ++ shown.Stop (kept_status (merged s.kept st)) (stop_trailers c s.hop (kept_status (merged s.kept st))) ∷ [];
      stopped = true;
      queue = forced_once s.queue;
      running = Some (t, Stop st);
      journal = s.journal ++ child.RunStop t (kept_status (merged s.kept st)) ∷ [];
    }
run_event c t (Redirect1 h) s = record s { question = Some h; journal = s.journal ++ child.RunRedirect1 t h ∷ [] }
run_event c t (Redirect3 h) s = record s { hop = suc s.hop; journal = s.journal ++ child.RunRedirect3 t h ∷ [] }
run_event c t (Cancel st) s =
    record s {
      kept = merged s.kept st;
      sent = s.sent ++ cancel_messages s.kept st;
      journal = s.journal ++ child.RunCancel t st ∷ [];
    }

-- an event is offered to the queue from this target, and runs at once where the queue says so
abbrev pub offer_event : ChannelPlan → Target → ChildEvent → ChildState → ChildState
offer_event c here e s =
    if runs_now class_of s.queue e here
    then run_event c here e (record s { queue = running_now s.queue here })
    else record s { queue = appended class_of s.queue e }

abbrev pub offer_all : ChannelPlan → Target → List ChildEvent → ChildState → ChildState
offer_all c here [] s = s
offer_all c here (e ∷ es) s = offer_all c here es (offer_event c here e s)

-- The calls of the page

abbrev pub call_suspend : ChildState → ChildState
call_suspend s =
    record s {
      sent = s.sent ++ (if s.suspends == 0 then up.Suspend ∷ [] else []);
      suspends = s.suspends + 1;
      queue = suspended_once s.queue;
      journal = s.journal ++ child.Suspend ∷ [];
    }

abbrev pub call_resume : ChildState → ChildState
call_resume s =
    record s {
      sent = s.sent ++ (if s.suspends == 1 then up.Resume ∷ [] else []);
      suspends = s.suspends - 1;
      queue = resumed_once class_of s.queue;
      journal = s.journal ++ child.Resume ∷ [];
    }

abbrev pub call_cancel : Status → ChildState → ChildState
call_cancel st s =
    record s { kept = merged s.kept st; sent = s.sent ++ up.Cancel st ∷ []; journal = s.journal ++ child.Cancel st ∷ [] }

-- why the data of an opened channel that has not stopped is not retargeted
abbrev pub later_refusal : Bool → Option Status → Option ℕ → Option RetargetError
later_refusal retargetable (Some q) w = Some (refused.Failed q)
later_refusal false None w = Some refused.NotRetargetable
later_refusal true None (Some w) = Some (refused.AlreadyRetargeted w)
later_refusal true None None = None

abbrev pub refusal : ChannelPlan → ChildState → Option RetargetError
refusal c s =
    if not s.opened then Some refused.NotOpened
    else (if s.stopped then Some refused.Stopped else later_refusal c.retargetable s.kept s.delivery)

abbrev pub call_retarget : Option RetargetError → ℕ → ChildState → ChildState
call_retarget (Some e) w s = with_entry (child.NoRetarget e) s
call_retarget None w s =
    record s { delivery = Some w; queue = retargeted s.queue (target.Worker w); journal = s.journal ++ child.Retarget w ∷ [] }

abbrev pub is_empty : List Entry → Bool
is_empty [] = true
is_empty (e ∷ t) = false

-- the parent process is gone: what waits is dropped, and the listener gets the start, if it has had none, and the stop
abbrev pub call_break : ChannelPlan → Status → ChildState → ChildState
call_break c st s =
    offer_all c target.Main (if is_empty s.trace then Start 0 st ∷ Stop st ∷ [] else Stop st ∷ [])
    (record s { broken = true; kept = merged s.kept st; queue = cleared s.queue; journal = s.journal ++ child.Break st ∷ [] })

abbrev pub perform_call : ChannelPlan → Act → ChildState → ChildState
perform_call c act.Suspend s = if s.stopped then with_entry child.NoEffect s else call_suspend s
perform_call c act.Resume s = if s.stopped || (s.suspends == 0) then with_entry child.NoEffect s else call_resume s
perform_call c (act.Cancel st) s = if s.stopped || is_some s.kept then with_entry child.NoEffect s else call_cancel st s
perform_call c (act.Retarget w) s = call_retarget (refusal c s) w s
perform_call c (act.Break st) s = if s.stopped || s.broken then with_entry child.NoEffect s else call_break c st s

-- The steps

-- a control is due once so many callbacks have returned
abbrev pub is_due : ChildState → Option Control → Bool
is_due s None = false
is_due s (Some control) = nat_le control.after s.finished

abbrev pub perform_control : ChannelPlan → Option Control → ChildState → ChildState
perform_control c None s = s
perform_control c (Some control) s =
    if nat_le control.after s.finished then perform_call c control.act (record s { next = suc s.next }) else s

abbrev pub step_act : ChannelPlan → ChildState → ChildState
step_act c s =
    if c.closed then s
    else (if s.opened then perform_control c (slice_get c.controls s.next) s
    else record s { opened = true; sent = s.sent ++ up.Open ∷ []; journal = s.journal ++ child.Open ∷ [] })

abbrev pub hop_verdict : Option Hop → Status
hop_verdict None = ok
hop_verdict (Some (hop.Fail s)) = ok
hop_verdict (Some (hop.Redirect code verdict.Allow)) = ok
hop_verdict (Some (hop.Redirect code (verdict.Veto s))) = s
hop_verdict (Some (hop.Response head pieces end trailers)) = ok

-- the first failure, or else what the plan says of the hop
abbrev pub verdict_status : ChannelPlan → Option Status → ℕ → Status
verdict_status c (Some q) h = q
verdict_status c None h = hop_verdict (hop_at c h)

abbrev pub step_verdict : ChannelPlan → Option ℕ → ChildState → ChildState
step_verdict c None s = s
step_verdict c (Some h) s =
    record s {
      question = None;
      sent = s.sent ++ up.Verify h (verdict_status c s.kept h) ∷ [];
      journal = s.journal ++ child.Verdict h (verdict_status c s.kept h) ∷ [];
    }

-- the hold is told that the start of this hop is queued
abbrev pub note_report : ℕ → ChildState → ChildState
note_report h s = record s { hold = record s.hold { report = Some h } }

abbrev pub note_redirect : StartLane → ℕ → ChildState → ChildState
note_redirect lane.Main h s = s
note_redirect lane.Back h s = note_report h s

-- the events of a message of the main lane
abbrev pub main_events_of : MainMsg → List ChildEvent
main_events_of (main.Start h st head) = Start head.code st ∷ []
main_events_of (main.FailedOpen h st) = Start 0 st ∷ Stop st ∷ []
main_events_of (main.Redirect1 h code) = Redirect1 h ∷ []
main_events_of (main.Redirect3 h) = Redirect3 h ∷ []

-- a start tells its hop to the hold; where starts travel on the background lane, a completed redirect tells the next hop
abbrev pub note_main : StartLane → MainMsg → ChildState → ChildState
note_main l (main.Start h st head) s = note_report h s
note_main l (main.FailedOpen h st) s = s
note_main l (main.Redirect1 h code) s = s
note_main l (main.Redirect3 h) s = note_redirect l (suc h) s

abbrev pub step_main : ChannelPlan → MainMsg → ChildState → ChildState
step_main c m s = note_main c.start m (offer_all c target.Main (main_events_of m) s)

-- the events of a message of the background lane, and of several
abbrev pub back_events_of : BackMsg → List ChildEvent
back_events_of (back.Start h st head) = Start head.code st ∷ []
back_events_of (back.StartSent h) = []
back_events_of (back.Bytes h st o p) = Bytes o p st ∷ []
back_events_of (back.Stop h st trailers) = Stop st ∷ []

abbrev pub back_events : List BackMsg → List ChildEvent
back_events [] = []
back_events (m ∷ ms) = back_events_of m ++ back_events ms

abbrev pub keep_back : BackMsg → ChildState → ChildState
keep_back m s = record s { hold = record s.hold { kept = s.hold.kept ++ m ∷ [] } }

-- a message passes where its hop was released, and is kept elsewhere
abbrev pub hold_back : ChannelPlan → BackMsg → ChildState → ChildState
hold_back c m s =
    if is_among s.hold.released (back_hop m) then offer_all c target.Back (back_events_of m) s else keep_back m s

abbrev pub step_back : ChannelPlan → BackMsg → ChildState → ChildState
step_back c (back.StartSent h) s = s
step_back c (back.Start h st head) s = hold_back c (back.Start h st head) s
step_back c (back.Bytes h st o p) s = hold_back c (back.Bytes h st o p) s
step_back c (back.Stop h st trailers) s = hold_back c (back.Stop h st trailers) s

abbrev pub step_release : ChannelPlan → Option ℕ → ChildState → ChildState
step_release c None s = s
step_release c (Some h) s =
    offer_all c target.Back (back_events (of_hop h s.hold.kept))
    (record s { hold = released_hold h s.hold; journal = s.journal ++ child.Release (length (of_hop h s.hold.kept)) ∷ [] })

-- what a flush does with what its take answers
abbrev pub flush_with : ChannelPlan → Target → Taken ChildEvent → ChildState → ChildState
flush_with c t (Event e rest) s = run_event c t e (record s { queue = record s.queue { waiting = rest } })
flush_with c t (Over u) s = record s { queue = handed_over s.queue u; journal = s.journal ++ child.HandOver t u ∷ [] }
flush_with c t Ended s = record s { queue = flush_ended s.queue; journal = s.journal ++ child.Ended t ∷ [] }

abbrev pub runs_on : Option (Target × ChildEvent) → Target → Bool
runs_on None t = false
runs_on (Some r) t = same_target r.0 t

-- a flush by this target goes on with the next event; else a task that is posted there completes
abbrev pub step_begin : ChannelPlan → Target → ChildState → ChildState
step_begin c t s =
    if runs_on s.running t then s
    else (if is_target s.queue.flushing t then flush_with c t (taken class_of s.queue t s.queue.waiting) s
    else (if nat_lt 0 (slice_index s.queue.posted (target_number t))
    then record s { queue = completed s.queue t; journal = s.journal ++ child.Complete t ∷ [] }
    else s))

-- a reaction of the start callback is the page's call; a listener's failure is a cancel
abbrev pub react : ChannelPlan → Reaction → ChildState → ChildState
react c (reaction.StartRetarget w) s = perform_call c (act.Retarget w) s
react c reaction.StartSuspend s = perform_call c act.Suspend s
react c (reaction.StartCancel st) s = perform_call c (act.Cancel st) s
react c (reaction.StartFail st) s = perform_call c (act.Cancel st) s
react c (reaction.BytesFail n st) s = s

abbrev pub react_all : ChannelPlan → List Reaction → ChildState → ChildState
react_all c [] s = s
react_all c (r ∷ rs) s = react_all c rs (react c r s)

-- the failure of data callback n: that of the first reaction that names it
abbrev pub bytes_failure : List Reaction → ℕ → Option Status
bytes_failure [] n = None
bytes_failure (reaction.BytesFail k st ∷ rs) n = if k == n then Some st else bytes_failure rs n
bytes_failure (reaction.StartRetarget w ∷ rs) n = bytes_failure rs n
bytes_failure (reaction.StartSuspend ∷ rs) n = bytes_failure rs n
bytes_failure (reaction.StartCancel st ∷ rs) n = bytes_failure rs n
bytes_failure (reaction.StartFail st ∷ rs) n = bytes_failure rs n

-- a worker may not cancel: it puts a cancel in front of what waits, with the queue suspended meanwhile
abbrev pub prepend_cancel : Status → ChildState → ChildState
prepend_cancel st s =
    record s {
      queue = resumed_once class_of (prepended (suspended_once s.queue) (Cancel st));
      journal = s.journal ++ child.Prepend st ∷ [];
    }

abbrev pub fail_data : ChannelPlan → Target → Option Status → ChildState → ChildState
fail_data c t None s = s
fail_data c t (Some st) s = if same_target t target.Main then perform_call c (act.Cancel st) s else prepend_cancel st s

abbrev pub end_forced : Target → ChildState → ChildState
end_forced t s = record s { queue = unforced s.queue t }

-- what a callback does at its end
abbrev pub finish_event : ChannelPlan → Target → ChildEvent → ChildState → ChildState
finish_event c t (Start code st) s = end_forced t (react_all c c.reactions s)
finish_event c t (Bytes o p st) s =
    fail_data c t (bytes_failure c.reactions s.data_begun) (record s { sent = s.sent ++ up.BytesRead (length p) ∷ [] })
finish_event c t (Stop st) s = end_forced t (record s { sent = s.sent ++ up.Deleting ∷ [] })
finish_event c t (Redirect1 h) s = s
finish_event c t (Redirect3 h) s = s
finish_event c t (Cancel st) s = s

abbrev pub step_finish : ChannelPlan → Target → Option (Target × ChildEvent) → ChildState → ChildState
step_finish c t None s = s
step_finish c t (Some r) s =
    if same_target r.0 t
    then finish_event c t r.1
    (record s { running = None; finished = suc s.finished; journal = s.journal ++ child.Finish t ∷ [] })
    else s

-- one step of a child; one that is not enabled leaves it as it is
abbrev pub child_step : ChannelPlan → ChildStep → ChildState → ChildState
child_step c step.Act s = step_act c s
child_step c step.Verdict s = if s.broken then s else step_verdict c s.question s
child_step c (step.Main m) s = if s.broken then s else step_main c m (with_entry (child.TookMain m) s)
child_step c (step.Back m) s = if s.broken then s else step_back c m (with_entry (child.TookBack m) s)
child_step c step.Release s = if s.broken then s else step_release c s.hold.report s
child_step c (step.Begin t) s = step_begin c t s
child_step c (step.Finish t) s = step_finish c t s.running s

-- the state after these steps, of which the newest stands first
abbrev pub child_after : ChannelPlan → List ChildStep → ChildState
child_after c [] = new_child c
child_after c (x ∷ xs) = child_step c x (child_after c xs)
