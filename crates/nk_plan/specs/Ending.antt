-- How a channel ends. This project's own.
use Rattle.std.specs.Prelude.{ℕ, Bool, true, false, not, ◌&&◌, if◌then◌else◌, nat_lt, nat_le, List, [], ◌∷◌, slice_get, Option, Some, None, is_some}
use Rattle.nk_base.specs.declared.message.Entry.{Entry}
use Rattle.nk_plan.specs.declared.plan.ChannelPlan.{ChannelPlan}
use Rattle.nk_plan.specs.declared.plan.Control.{Control}
use Rattle.nk_plan.specs.declared.event.ChildEvent.{ChildEvent}
use Rattle.nk_plan.specs.declared.event.ChildEvent.TheVariants.{Start, Bytes, Stop, Redirect1, Redirect3, Cancel}
use Rattle.nk_plan.specs.declared.journal.ChildEntry.{ChildEntry}
use Rattle.nk_plan.specs.declared.ends.Ending.{Ending}
use Rattle.nk_plan.specs.declared.ends.Ending.TheVariants.{Stopped, Suspended, Unopened, Going}
use Rattle.nk_plan.specs.Journal.{count_of, has_open, is_suspend, is_resume, is_finish}
use Rattle.nk_plan.specs.Child.{ChildState, is_due}
use Rattle.nk_plan.specs.Run.{state_of, trace_of}
use Rattle.nk_base.specs.declared.message.Entry.TheVariants as shown

-- whether the last entry of a trace is a stop
abbrev pub ends_in_stop : List Entry → Bool
ends_in_stop [] = false
ends_in_stop (shown.Stop s trailers ∷ []) = true
ends_in_stop (shown.Start code s ∷ []) = false
ends_in_stop (shown.Bytes o p ∷ []) = false
ends_in_stop (e ∷ d ∷ t) = ends_in_stop (d ∷ t)

-- whether a stop is among the events that wait
abbrev pub waits_to_stop : List ChildEvent → Bool
waits_to_stop [] = false
waits_to_stop (Start code s ∷ es) = waits_to_stop es
waits_to_stop (Bytes o p s ∷ es) = waits_to_stop es
waits_to_stop (Stop s ∷ es) = true
waits_to_stop (Redirect1 h ∷ es) = waits_to_stop es
waits_to_stop (Redirect3 h ∷ es) = waits_to_stop es
waits_to_stop (Cancel s ∷ es) = waits_to_stop es

-- whether a control that is next is due, after so many callbacks
abbrev pub comes_at : ℕ → Option Control → Bool
comes_at n None = false
comes_at n (Some control) = nat_le control.after n

-- whether a channel that has not stopped is left suspended: it is opened and suspended, nothing runs, and no control is due
abbrev pub is_left_suspended : (opened suspended runs due : Bool) → Bool
is_left_suspended opened suspended runs due = opened && (suspended && (not runs && not due))

-- The ending of a channel whose child has this journal and trace, and has come to this state.
-- It is suspended where more suspends than resumes were made.
abbrev pub ending_by : ChannelPlan → List ChildEntry → List Entry → ChildState → Ending
ending_by c j t s =
    if c.closed then Unopened
    else (if ends_in_stop t then Stopped
    else (if is_left_suspended
    (has_open j)
    (nat_lt (count_of is_resume j) (count_of is_suspend j))
    (is_some s.running)
    (comes_at (count_of is_finish j) (slice_get c.controls s.next))
    then Suspended
    else Going))

-- the ending, told by the journal alone
abbrev pub ending_of : ChannelPlan → List ChildEntry → Ending
ending_of c j = ending_by c j (trace_of c j) (state_of c j)

-- the same, told by the fields of a child's state
abbrev pub state_ending : ChannelPlan → ChildState → Ending
state_ending c s =
    if c.closed then Unopened
    else (if s.stopped then Stopped
    else (if is_left_suspended s.opened (nat_lt 0 s.suspends) (is_some s.running) (is_due s (slice_get c.controls s.next))
    then Suspended
    else Going))
