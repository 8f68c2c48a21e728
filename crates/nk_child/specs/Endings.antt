-- How a load stands, by what its child keeps. This project's own.
use Rattle.std.specs.Prelude.{Bool, true, false, if◌then◌else◌, nat_lt, slice_get, Option, Some, None, is_some}
use Rattle.nk_base.specs.declared.message.Entry.{Entry}
use Rattle.nk_base.specs.declared.message.Entry.TheVariants as shown
use Rattle.nk_plan.specs.declared.plan.ChannelPlan.{ChannelPlan}
use Rattle.nk_plan.specs.declared.ends.Ending.{Ending}
use Rattle.nk_plan.specs.declared.ends.Ending.TheVariants.{Stopped, Suspended, Unopened, Going}
use Rattle.nk_plan.specs.Child.{ChildState, is_due}
use Rattle.nk_plan.specs.Ending.{ends_in_stop, is_left_suspended}

-- whether there is an entry, and it is a stop
abbrev pub is_stop : Option Entry → Bool
is_stop None = false
is_stop (Some (shown.Start code s)) = false
is_stop (Some (shown.Bytes o p)) = false
is_stop (Some (shown.Stop s trailers)) = true

-- the ending, told by the trace and the fields of a child's state
abbrev pub standing : ChannelPlan → ChildState → Ending
standing c s =
    if c.closed then Unopened
    else (if ends_in_stop s.trace then Stopped
    else (if is_left_suspended s.opened (nat_lt 0 s.suspends) (is_some s.running) (is_due s (slice_get c.controls s.next))
    then Suspended
    else Going))
