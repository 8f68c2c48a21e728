-- Where the data of a channel is delivered. After Firefox's HttpChannelChild, whose target for data is set once; the
-- order of the refusals is this project's own.
use Rattle.std.specs.Prelude.{ℕ, Bool, not, if◌then◌else◌, Option, Some, None}
use Rattle.nk_base.specs.declared.status.Target.{Target}
use Rattle.nk_base.specs.declared.status.Target.TheVariants as target
use Rattle.nk_base.specs.declared.status.RetargetError.{RetargetError}
use Rattle.nk_base.specs.declared.status.RetargetError.TheVariants as refused
use Rattle.nk_base.specs.Status.{is_failure}
use Rattle.nk_retarget.specs.declared.view.ChannelView.{ChannelView}

-- whether data may be delivered on a worker, and on which it is
pub record Delivering : Type 0 where
  pub retargetable : Bool
  pub worker : Option ℕ

-- data is delivered on the main thread
abbrev pub at_first : Bool → Delivering
at_first retargetable = record { retargetable = retargetable; worker = None }

-- where data is delivered
abbrev pub target_of : Option ℕ → Target
target_of None = target.Main
target_of (Some w) = target.Worker w

-- why data that may be moved is not: it is on a worker already
abbrev pub second_refusal : Option ℕ → Option RetargetError
second_refusal None = None
second_refusal (Some w) = Some (refused.AlreadyRetargeted w)

-- why the data of a channel is not moved to a worker: the first reason that holds
abbrev pub refusal : ChannelView → Delivering → Option RetargetError
refusal view d =
    if not view.opened then Some refused.NotOpened
    else (if view.stopped then Some refused.Stopped
    else (if is_failure view.status then Some (refused.Failed view.status)
    else (if not d.retargetable then Some refused.NotRetargetable
    else second_refusal d.worker)))
