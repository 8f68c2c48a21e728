-- What clauses see of a parent. This project's own.
use Rattle.std.specs.Prelude.{ℕ, Bool, true, false, List, length, drop}
use Rattle.std.specs.declared.alloc.Global.{Global}
use Rattle.nk_plan.specs.declared.plan.ChannelPlan.{ChannelPlan}
use Rattle.nk_plan.specs.declared.step.Phase.{Phase}
use Rattle.nk_plan.specs.declared.step.Phase.TheVariants.{Closed, Ready, Asking, Follow, Body, Done}
use Rattle.nk_plan.specs.declared.journal.ParentEntry.{ParentEntry}
use Rattle.nk_plan.specs.Parent.{ParentState}

-- a parent: its plan, and what it is between two steps
pub record ParentView : Type 0 where
  pub plan : ChannelPlan
  pub state : ParentState

-- a load: a parent, the allocator of its lists, and for how many more entries its journal has room
pub record LoadView : Type 0 where
  pub plan : ChannelPlan
  pub state : ParentState
  pub alloc : Global
  pub room : ℕ

-- the entries that a step added to the journal
abbrev pub added : ParentState → ParentState → List ParentEntry
added old new = drop (length old.journal) new.journal

-- whether the page has opened the channel, or is done with it
abbrev pub is_open : Phase → Bool
is_open Closed = false
is_open Ready = true
is_open Asking = true
is_open Follow = true
is_open Body = true
is_open Done = true

-- whether the load is over
abbrev pub is_done : Phase → Bool
is_done Closed = false
is_done Ready = false
is_done Asking = false
is_done Follow = false
is_done Body = false
is_done Done = true

-- whether the page is asked about a redirect
abbrev pub is_asking : Phase → Bool
is_asking Closed = false
is_asking Ready = false
is_asking Asking = true
is_asking Follow = false
is_asking Body = false
is_asking Done = false
