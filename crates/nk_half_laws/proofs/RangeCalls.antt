-- A call of the page, and what a callback does at its end, send what is in range.
use Rattle.std.proofs.Common.{ℕ, suc, ◌≡◌, List, [], ◌∷◌, ◌++◌, length, All, Bool, true, false, ◌||◌, Option, Some, None, is_some, if◌then◌else◌, ◌==◌}
use Rattle.std.proofs.lemmas.List.Elements.{All-nil, All-append}
use Rattle.nk_base.specs.declared.status.Status.{Status}
use Rattle.nk_base.specs.declared.status.Target.{Target}
use Rattle.nk_base.specs.declared.status.Target.TheVariants as target
use Rattle.nk_base.specs.declared.status.RetargetError.{RetargetError}
use Rattle.nk_base.specs.declared.message.UpMsg.{UpMsg}
use Rattle.nk_base.specs.declared.message.UpMsg.TheVariants as up
use Rattle.nk_base.specs.Queue.{cleared, same_target}
use Rattle.nk_base.specs.Ranges.{IsUpInRange}
use Rattle.nk_base.specs.Status.{is_failure, merged}
use Rattle.nk_plan.specs.declared.plan.ChannelPlan.{ChannelPlan}
use Rattle.nk_plan.specs.declared.plan.Reaction.{Reaction}
use Rattle.nk_plan.specs.declared.plan.Reaction.TheVariants as reaction
use Rattle.nk_plan.specs.declared.plan.Act.{Act}
use Rattle.nk_plan.specs.declared.plan.Act.TheVariants as act
use Rattle.nk_plan.specs.declared.event.ChildEvent.{ChildEvent}
use Rattle.nk_plan.specs.declared.event.ChildEvent.TheVariants.{Start, Bytes, Stop, Redirect1, Redirect3, Cancel}
use Rattle.nk_plan.specs.declared.journal.ChildEntry.TheVariants as child
use Rattle.nk_plan.specs.Accepted.{IsGoodAct, IsGoodReaction}
use Rattle.nk_plan.specs.Child.{ChildState, with_entry, offer_all, call_suspend, call_resume, call_cancel, refusal, call_retarget, is_empty, call_break, perform_call, react, react_all, bytes_failure, prepend_cancel, fail_data, finish_event, step_finish}
use Rattle.nk_half_laws.proofs.Tools.{keeps_if, only}
use Rattle.nk_half_laws.proofs.Failures.{IsKept, merged_kept}
use Rattle.nk_half_laws.proofs.RangeEvents.{GoodEvent, GoodRunning, Holds, says, events_offered}
use Rattle.nk_half_laws.proofs.Plans.{GoodReactions, bytes_may_fail}

-- more is sent
sends : (s : ChildState) (ms : List UpMsg) → All IsUpInRange ms → Holds s → All IsUpInRange (s.sent ++ ms)
sends s ms r h = All-append IsUpInRange s.sent ms h.sent r

one_or_none : (b : Bool) (m : UpMsg) → IsUpInRange m → All IsUpInRange (if b then m ∷ [] else [])
one_or_none true m r = only IsUpInRange m r
one_or_none false m r = All-nil IsUpInRange

-- The calls of the page

suspended : (s : ChildState) → Holds s → Holds (call_suspend s)
suspended s h = record {
  kept = h.kept;
  question = h.question;
  held = h.held;
  waiting = h.waiting;
  running = h.running;
  sent = sends s (if s.suspends == 0 then up.Suspend ∷ [] else []) (one_or_none (s.suspends == 0) up.Suspend tt) h;
}

resumed : (s : ChildState) → Holds s → Holds (call_resume s)
resumed s h = record {
  kept = h.kept;
  question = h.question;
  held = h.held;
  waiting = h.waiting;
  running = h.running;
  sent = sends s (if s.suspends == 1 then up.Resume ∷ [] else []) (one_or_none (s.suspends == 1) up.Resume tt) h;
}

cancelled : (s : ChildState) (st : Status) → is_failure st ≡ true → Holds s → Holds (call_cancel st s)
cancelled s st g h = record {
  kept = merged_kept s.kept st h.kept;
  question = h.question;
  held = h.held;
  waiting = h.waiting;
  running = h.running;
  sent = says s.sent (up.Cancel st) h.sent g;
}

retargeted : (s : ChildState) (o : Option RetargetError) (w : ℕ) → Holds s → Holds (call_retarget o w s)
retargeted s (Some e) w h = h
retargeted s None w h =
    record { kept = h.kept; question = h.question; held = h.held; waiting = h.waiting; running = h.running; sent = h.sent }

broke : (c : ChannelPlan) (s : ChildState) (st : Status) → Holds s → Holds (call_break c st s)
broke c s st h =
    let s1 : ChildState =
    record s { broken = true; kept = merged s.kept st; queue = cleared s.queue; journal = s.journal ++ child.Break st ∷ [] } in
    let k : Holds s1 =
    record { kept = merged_kept s.kept st h.kept; question = h.question; held = h.held; waiting = tt; running = h.running; sent = h.sent }
    in
    keeps_if (λ (es : List ChildEvent). Holds (offer_all c target.Main es s1)) (is_empty s.trace) (Start 0 st ∷ Stop st ∷ []) (Stop st ∷ [])
    (λ r. events_offered c s1 target.Main (Start 0 st ∷ Stop st ∷ []) (tt, (tt, tt)) k)
    (λ r. events_offered c s1 target.Main (Stop st ∷ []) (tt, tt) k)

pub called : (c : ChannelPlan) (s : ChildState) (x : Act) → IsGoodAct x → Holds s → Holds (perform_call c x s)
called c s act.Suspend g h = keeps_if Holds s.stopped (with_entry child.NoEffect s) (call_suspend s) (λ r. h) (λ r. suspended s h)
called c s act.Resume g h =
    keeps_if Holds (s.stopped || (s.suspends == 0)) (with_entry child.NoEffect s) (call_resume s) (λ r. h) (λ r. resumed s h)
called c s (act.Cancel st) g h =
    keeps_if Holds (s.stopped || is_some s.kept) (with_entry child.NoEffect s) (call_cancel st s) (λ r. h) (λ r. cancelled s st g h)
called c s (act.Retarget w) g h = retargeted s (refusal c s) w h
called c s (act.Break st) g h =
    keeps_if Holds (s.stopped || s.broken) (with_entry child.NoEffect s) (call_break c st s) (λ r. h) (λ r. broke c s st h)

-- The end of a callback

reacted : (c : ChannelPlan) (s : ChildState) (r : Reaction) → IsGoodReaction r → Holds s → Holds (react c r s)
reacted c s (reaction.StartRetarget w) g h = called c s (act.Retarget w) g h
reacted c s reaction.StartSuspend g h = called c s act.Suspend tt h
reacted c s (reaction.StartCancel st) g h = called c s (act.Cancel st) g h
reacted c s (reaction.StartFail st) g h = called c s (act.Cancel st) g h
reacted c s (reaction.BytesFail k st) g h = h

all_reacted : (c : ChannelPlan) (s : ChildState) (rs : List Reaction) → GoodReactions rs → Holds s → Holds (react_all c rs s)
all_reacted c s [] g h = h
all_reacted c s (r ∷ rs) g h = all_reacted c (react c r s) rs g.1 (reacted c s r g.0 h)

cancel_waits : (s : ChildState) (st : Status) → is_failure st ≡ true → Holds s → Holds (prepend_cancel st s)
cancel_waits s st f h =
    record { kept = h.kept; question = h.question; held = h.held; waiting = (f, h.waiting); running = h.running; sent = h.sent }

data_failed : (c : ChannelPlan) (s : ChildState) (t : Target) (o : Option Status) → IsKept o → Holds s → Holds (fail_data c t o s)
data_failed c s t None f h = h
data_failed c s t (Some st) f h =
    keeps_if Holds (same_target t target.Main) (perform_call c (act.Cancel st) s) (prepend_cancel st s)
    (λ r. called c s (act.Cancel st) f h) (λ r. cancel_waits s st f h)

said : (s : ChildState) (m : UpMsg) → IsUpInRange m → Holds s → Holds (record s { sent = s.sent ++ m ∷ [] })
said s m r h =
    record { kept = h.kept; question = h.question; held = h.held; waiting = h.waiting; running = h.running; sent = says s.sent m h.sent r }

finished : (c : ChannelPlan) (s : ChildState) (t : Target) (e : ChildEvent) → GoodReactions c.reactions → GoodEvent e → Holds s
    → Holds (finish_event c t e s)
finished c s t (Start code st) g r h = all_reacted c s c.reactions g h
finished c s t (Bytes o p st) g r h =
    data_failed c (record s { sent = s.sent ++ up.BytesRead (length p) ∷ [] }) t (bytes_failure c.reactions s.data_begun)
    (bytes_may_fail c.reactions s.data_begun g) (said s (up.BytesRead (length p)) r h)
finished c s t (Stop st) g r h = said s up.Deleting tt h
finished c s t (Redirect1 i) g r h = h
finished c s t (Redirect3 i) g r h = h
finished c s t (Cancel st) g r h = h

pub returned : (c : ChannelPlan) (s : ChildState) (t : Target) (o : Option (Target × ChildEvent)) → GoodReactions c.reactions
    → GoodRunning o → Holds s → Holds (step_finish c t o s)
returned c s t None g r h = h
returned c s t (Some x) g r h =
    let s1 : ChildState = record s { running = None; finished = suc s.finished; journal = s.journal ++ child.Finish t ∷ [] } in
    keeps_if Holds (same_target x.0 t) (finish_event c t x.1 s1) s
    (λ e. finished c s1 t x.1 g r (record {
      kept = h.kept;
      question = h.question;
      held = h.held;
      waiting = h.waiting;
      running = tt;
      sent =
          h.sent;
    }))
    (λ e. h)
