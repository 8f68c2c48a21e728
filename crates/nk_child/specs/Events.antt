-- The events that wait in a child's queue. This project's own.
use Rattle.std.specs.Prelude.{ℕ, ◌≡◌, true, Option, Some, None}
use Rattle.nk_base.specs.Status.{is_failure}
use Rattle.nk_base.specs.Ranges.{IsHop}
use Rattle.nk_plan.specs.declared.event.ChildEvent.{ChildEvent}
use Rattle.nk_plan.specs.declared.event.ChildEvent.TheVariants.{Start, Bytes, Stop, Redirect1, Redirect3, Cancel}

-- what an event may lead to being sent is in range: the hop that is asked about, and the status of a cancel
abbrev pub IsEventInRange : ChildEvent → Type 0
IsEventInRange (Start code s) = Unit {0}
IsEventInRange (Bytes o p s) = Unit {0}
IsEventInRange (Stop s) = Unit {0}
IsEventInRange (Redirect1 h) = IsHop h
IsEventInRange (Redirect3 h) = Unit {0}
IsEventInRange (Cancel s) = is_failure s ≡ true

-- the question that is open is on a hop in range
abbrev pub IsQuestion : Option ℕ → Type 0
IsQuestion None = Unit {0}
IsQuestion (Some h) = IsHop h
