-- How a child is seen. This project's own.
use Rattle.std.specs.Prelude.{ℕ, ◌≡◌, ◌++◌, ◌<◌, ◌≤◌, ◌+◌, ◌^◌, List, length, drop}
use Rattle.nk_base.specs.declared.status.Target.{Target}
use Rattle.nk_base.specs.Queue.{Queue, posted_to}
use Rattle.nk_plan.specs.declared.plan.ChannelPlan.{ChannelPlan}
use Rattle.nk_plan.specs.declared.event.ChildEvent.{ChildEvent}
use Rattle.nk_plan.specs.Child.{ChildState}
use Rattle.nk_plan.specs.Run.{sends_of}

-- a child: its plan, and what it is between two steps
pub record ChildView : Type 0 where
  pub plan : ChannelPlan
  pub state : ChildState

-- a child does not keep what it sent: its plan and its journal tell it
abbrev pub with_sent : ChannelPlan → ChildState → ChildState
with_sent c s = record s { sent = sends_of c s.journal }

-- for how many items there is room in each part
pub record Rooms : Type 0 where
  pub journal : ℕ
  pub sent : ℕ
  pub trace : ℕ
  pub queue : ℕ
  pub hold : ℕ

-- a child at work
pub record WorkView : Type 0 where
  pub plan : ChannelPlan
  pub state : ChildState
  pub rooms : Rooms

-- there is room for so many entries and messages to be sent, and for so many items elsewhere
pub record HasRoom (entries items : ℕ) (r : Rooms) : Type 0 where
  pub journal : entries ≤ r.journal
  pub sent : entries ≤ r.sent
  pub trace : items ≤ r.trace
  pub queue : items ≤ r.queue
  pub hold : items ≤ r.hold

-- each room is lower by at most so much
pub record Spends (entries items : ℕ) (old new : Rooms) : Type 0 where
  pub journal : old.journal ≤ new.journal + entries
  pub sent : old.sent ≤ new.sent + entries
  pub trace : old.trace ≤ new.trace + items
  pub queue : old.queue ≤ new.queue + items
  pub hold : old.hold ≤ new.hold + items

-- the child is in this state then, with the same plan, and each room is lower by at most so much
pub record Leaves (entries items : ℕ) (old new : WorkView) (s : ChildState) : Type 0 where
  pub plan : new.plan ≡ old.plan
  pub state : new.state ≡ s
  pub rooms : Spends entries items old.rooms new.rooms

-- no count is near the end of the numbers that it has
pub record AreCounts (returned begun hops : ℕ) (q : Queue ChildEvent) : Type 0 where
  pub finished : returned < 2 ^ 62
  pub data_begun : begun < 2 ^ 62
  pub hop : hops < 2 ^ 62
  pub count : q.count < 2 ^ 62
  pub posted : (t : Target) → posted_to q t < 2 ^ 62

abbrev pub Counted : ChildState → Type 0
Counted s = AreCounts s.finished s.data_begun s.hop s.queue

-- what was made ready is what a list has gained
abbrev pub Gains : {A : Type 0} → (old new before after : List A) → Type 0
Gains old new before after = after ≡ before ++ drop (length old) new
