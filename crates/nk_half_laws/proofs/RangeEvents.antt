-- What a child sends is in range, where what waits and runs is: an event that runs or is offered.
use Rattle.std.proofs.Common.{ℕ, ◌≡◌, List, [], ◌∷◌, ◌++◌, length, All, true, Option, Some, None}
use Rattle.std.proofs.lemmas.List.Elements.{All-nil, All-append}
use Rattle.nk_base.specs.declared.status.Status.{Status}
use Rattle.nk_base.specs.declared.status.Target.{Target}
use Rattle.nk_base.specs.declared.message.BackMsg.{BackMsg}
use Rattle.nk_base.specs.declared.message.UpMsg.{UpMsg}
use Rattle.nk_base.specs.declared.message.UpMsg.TheVariants as up
use Rattle.nk_base.specs.Queue.{running_now}
use Rattle.nk_base.specs.Ranges.{IsHop, IsReadCount, IsBackInRange, IsUpInRange}
use Rattle.nk_base.specs.Status.{is_failure, merged}
use Rattle.nk_plan.specs.declared.plan.ChannelPlan.{ChannelPlan}
use Rattle.nk_plan.specs.declared.event.ChildEvent.{ChildEvent}
use Rattle.nk_plan.specs.declared.event.ChildEvent.TheVariants.{Start, Bytes, Stop, Redirect1, Redirect3, Cancel}
use Rattle.nk_plan.specs.Child.{ChildState, run_bytes, cancel_messages, run_event, offer_event, offer_all}
use Rattle.nk_half_laws.proofs.Tools.{only}
use Rattle.nk_half_laws.proofs.Failures.{IsKept, merged_kept}
use Rattle.nk_half_laws.proofs.Table.{offer_if}

-- what an event may send: that so many bytes were read, the answer of a question, a cancel
abbrev pub GoodEvent : ChildEvent → Type 0
GoodEvent (Start code s) = Unit {0}
GoodEvent (Bytes o p s) = IsReadCount (length p)
GoodEvent (Stop s) = Unit {0}
GoodEvent (Redirect1 h) = IsHop h
GoodEvent (Redirect3 h) = Unit {0}
GoodEvent (Cancel s) = is_failure s ≡ true

abbrev pub GoodEvents : List ChildEvent → Type 0
GoodEvents [] = Unit {0}
GoodEvents (e ∷ es) = GoodEvent e × GoodEvents es

pub good_more : (w : List ChildEvent) (e : ChildEvent) → GoodEvents w → GoodEvent e → GoodEvents (w ++ e ∷ [])
good_more [] e g h = (h, tt)
good_more (x ∷ w) e g h = (g.0, good_more w e g.1 h)

abbrev pub GoodRunning : Option (Target × ChildEvent) → Type 0
GoodRunning None = Unit {0}
GoodRunning (Some r) = GoodEvent r.1

abbrev pub GoodQuestion : Option ℕ → Type 0
GoodQuestion None = Unit {0}
GoodQuestion (Some h) = IsHop h

abbrev pub GoodHeld : List BackMsg → Type 0
GoodHeld [] = Unit {0}
GoodHeld (m ∷ ms) = IsBackInRange m × GoodHeld ms

-- the failure that is kept, the open question, what is held, what waits, what runs, and what was sent
pub record Ranged (k : Option Status) (q : Option ℕ) (h : List BackMsg) (w : List ChildEvent) (r : Option (Target × ChildEvent))
    (u : List UpMsg) : Type 0 where
  pub kept : IsKept k
  pub question : GoodQuestion q
  pub held : GoodHeld h
  pub waiting : GoodEvents w
  pub running : GoodRunning r
  pub sent : All IsUpInRange u

abbrev pub Holds : ChildState → Type 0
Holds s = Ranged s.kept s.question s.hold.kept s.queue.waiting s.running s.sent

-- a message is sent
pub says : (u : List UpMsg) (m : UpMsg) → All IsUpInRange u → IsUpInRange m → All IsUpInRange (u ++ m ∷ [])
says u m a r = All-append IsUpInRange u (m ∷ []) a (only IsUpInRange m r)

-- Running an event

bytes_run : (s : ChildState) (t : Target) (o : ℕ) (p : List ℕ) (k : Option Status) (st : Status) → IsKept k → IsReadCount (length p)
    → Holds s → Holds (run_bytes s t o p k st)
bytes_run s t o p None st k g h =
    record { kept = tt; question = h.question; held = h.held; waiting = h.waiting; running = g; sent = h.sent }
bytes_run s t o p (Some q) st k g h =
    record { kept = k; question = h.question; held = h.held; waiting = h.waiting; running = h.running; sent = h.sent }

cancels_range : (k : Option Status) (st : Status) → is_failure st ≡ true → All IsUpInRange (cancel_messages k st)
cancels_range None st g = only IsUpInRange (up.Cancel st) g
cancels_range (Some q) st g = All-nil IsUpInRange

pub event_run : (c : ChannelPlan) (s : ChildState) (t : Target) (e : ChildEvent) → GoodEvent e → Holds s → Holds (run_event c t e s)
event_run c s t (Start code st) g h =
    record { kept = merged_kept s.kept st h.kept; question = h.question; held = h.held; waiting = h.waiting; running = tt; sent = h.sent }
event_run c s t (Bytes o p st) g h = bytes_run s t o p (merged s.kept st) st (merged_kept s.kept st h.kept) g h
event_run c s t (Stop st) g h =
    record { kept = merged_kept s.kept st h.kept; question = h.question; held = h.held; waiting = h.waiting; running = tt; sent = h.sent }
event_run c s t (Redirect1 i) g h =
    record { kept = h.kept; question = g; held = h.held; waiting = h.waiting; running = h.running; sent = h.sent }
event_run c s t (Redirect3 i) g h =
    record { kept = h.kept; question = h.question; held = h.held; waiting = h.waiting; running = h.running; sent = h.sent }
event_run c s t (Cancel st) g h = record {
  kept = merged_kept s.kept st h.kept;
  question = h.question;
  held = h.held;
  waiting = h.waiting;
  running = h.running;
  sent = All-append IsUpInRange s.sent (cancel_messages s.kept st) h.sent (cancels_range s.kept st g);
}

-- Offering events

event_offered : (c : ChannelPlan) (s : ChildState) (here : Target) (e : ChildEvent) → GoodEvent e → Holds s → Holds (offer_event c here e s)
event_offered c s here e g h =
    offer_if Holds c here e s (event_run c (record s { queue = running_now s.queue here }) here e g h)
    (record {
      kept = h.kept;
      question = h.question;
      held = h.held;
      waiting = good_more s.queue.waiting e h.waiting g;
      running = h.running;
      sent = h.sent;
    })

pub events_offered : (c : ChannelPlan) (s : ChildState) (here : Target) (es : List ChildEvent) → GoodEvents es → Holds s
    → Holds (offer_all c here es s)
events_offered c s here [] g h = h
events_offered c s here (e ∷ es) g h = events_offered c (offer_event c here e s) here es g.1 (event_offered c s here e g.0 h)
