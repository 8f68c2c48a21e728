-- What runs in a child. This project's own.
use Rattle.std.specs.Prelude.{ℕ, ◌<◌, Option, Some, None}
use Rattle.nk_base.specs.declared.status.Target.{Target}
use Rattle.nk_base.specs.Queue.{IsTarget}
use Rattle.nk_plan.specs.declared.event.ChildEvent.{ChildEvent}
use Rattle.nk_plan.specs.declared.event.ChildEvent.TheVariants.{Start, Bytes, Stop, Redirect1, Redirect3, Cancel}

-- while a start or a stop runs, events are queued by force
abbrev pub IsForced : ChildEvent → ℕ → Type 0
IsForced (Start code s) forced = 0 < forced
IsForced (Bytes o p s) forced = Unit {0}
IsForced (Stop s) forced = 0 < forced
IsForced (Redirect1 h) forced = Unit {0}
IsForced (Redirect3 h) forced = Unit {0}
IsForced (Cancel s) forced = Unit {0}

-- what runs does so on a target that is one
abbrev pub IsRunning : Option (Target × ChildEvent) → ℕ → Type 0
IsRunning None forced = Unit {0}
IsRunning (Some r) forced = IsTarget r.0 × IsForced r.1 forced

-- the target on which a callback runs
abbrev pub running_target : Option (Target × ChildEvent) → Option Target
running_target None = None
running_target (Some r) = Some r.0
