-- Where the events of a child run.
use Rattle.nk_base.specs.declared.status.Target.TheVariants as target
use Rattle.nk_base.specs.declared.queue.Class.{Class}
use Rattle.nk_base.specs.declared.queue.Class.TheVariants as kind
use Rattle.nk_plan.specs.declared.event.ChildEvent.{ChildEvent}
use Rattle.nk_plan.specs.declared.event.ChildEvent.TheVariants as event

-- where an event of a child runs: data where it is delivered, all else on the main target
-- (after Firefox's HttpChannelChild, whose data events alone name the retargeted thread)
abbrev pub class_of : ChildEvent → Class
class_of (event.Start code s) = kind.Fixed target.Main
class_of (event.Bytes o p s) = kind.Delivery
class_of (event.Stop s) = kind.Fixed target.Main
class_of (event.Redirect1 h) = kind.Fixed target.Main
class_of (event.Redirect3 h) = kind.Fixed target.Main
class_of (event.Cancel s) = kind.Fixed target.Main
