-- What running an event shows the listener and sends up. It is got ready before the event runs. This project's own.
use Rattle.std.specs.Prelude.{ℕ, if◌then◌else◌, List, [], ◌∷◌, ◌++◌, Option, Some, None}
use Rattle.nk_base.specs.declared.status.Status.{Status}
use Rattle.nk_base.specs.declared.status.Target.{Target}
use Rattle.nk_base.specs.declared.message.UpMsg.{UpMsg}
use Rattle.nk_base.specs.declared.message.Entry.{Entry}
use Rattle.nk_base.specs.declared.message.Entry.TheVariants as shown
use Rattle.nk_base.specs.Queue.{Queue, runs_now}
use Rattle.nk_plan.specs.declared.plan.ChannelPlan.{ChannelPlan}
use Rattle.nk_plan.specs.declared.event.ChildEvent.{ChildEvent}
use Rattle.nk_plan.specs.declared.event.ChildEvent.TheVariants.{Start, Bytes, Stop, Redirect1, Redirect3, Cancel}
use Rattle.nk_plan.specs.Event.{class_of}
use Rattle.nk_base.specs.Status.{merged, kept_status}
use Rattle.nk_plan.specs.Plan.{stop_trailers}
use Rattle.nk_plan.specs.Child.{cancel_messages}

-- the list with one more item, where there is one
abbrev pub with_shown : {A : Type 0} → List A → Option A → List A
with_shown xs None = xs
with_shown xs (Some x) = xs ++ x ∷ []

-- a piece is shown where no failure is kept
abbrev pub bytes_shown : Option Status → ℕ → List ℕ → Option Entry
bytes_shown None o p = Some (shown.Bytes o p)
bytes_shown (Some q) o p = None

-- what an event shows that runs on this hop with this failure kept
abbrev pub event_shown : ChannelPlan → ℕ → Option Status → ChildEvent → Option Entry
event_shown c hop kept (Start code s) = Some (shown.Start code (kept_status (merged kept s)))
event_shown c hop kept (Bytes o p s) = bytes_shown (merged kept s) o p
event_shown c hop kept (Stop s) =
    Some (shown.Stop (kept_status (merged kept s)) (stop_trailers c hop (kept_status (merged kept s))))
event_shown c hop kept (Redirect1 h) = None
event_shown c hop kept (Redirect3 h) = None
event_shown c hop kept (Cancel s) = None

-- what an event sends that runs with this failure kept
abbrev pub event_sends : Option Status → ChildEvent → List UpMsg
event_sends kept (Start code s) = []
event_sends kept (Bytes o p s) = []
event_sends kept (Stop s) = []
event_sends kept (Redirect1 h) = []
event_sends kept (Redirect3 h) = []
event_sends kept (Cancel s) = cancel_messages kept s

-- what an event shows that is offered from this target
abbrev pub offer_shown : ChannelPlan → ℕ → Option Status → Queue ChildEvent → Target → ChildEvent → Option Entry
offer_shown c hop kept q here e = if runs_now class_of q e here then event_shown c hop kept e else None

-- what the event shows that a flush takes, if it takes one
abbrev pub next_shown : ChannelPlan → ℕ → Option Status → Option ChildEvent → Option Entry
next_shown c hop kept None = None
next_shown c hop kept (Some e) = event_shown c hop kept e

abbrev pub next_sends : Option Status → Option ChildEvent → List UpMsg
next_sends kept None = []
next_sends kept (Some e) = event_sends kept e
