-- How many steps a channel has left at most. Its work is a sum that no step raises; a step that leaves the work as it is
-- passes on the turn of the child's queue, and so lowers the queue's number. This project's own; any other measure that
-- every step lowers would do as well.
use Rattle.std.specs.Prelude.{ℕ, ◌+◌, ◌*◌, length}
use Rattle.nk_plan.specs.declared.plan.ChannelPlan.{ChannelPlan}
use Rattle.nk_plan.specs.Channel.{Channel, main_lane, back_lane, up_lane, half_lane}
use Rattle.nk_half_laws.specs.Work.{main_weight, half_weight, back_weight, up_weight, queue_number, IsLower}
use Rattle.nk_half_laws.specs.System.{stairs}
use Rattle.nk_half_laws.specs.Falls.{combined_work}

-- what all that is on the lanes weighs
abbrev pub lanes_weight : Channel → ℕ
lanes_weight w =
    main_weight * length (main_lane w)
    + half_weight * length (half_lane w)
    + back_weight * length (back_lane w)
    + up_weight * length (up_lane w)

-- what the two halves have to do, with all that is on the lanes
abbrev pub work : ChannelPlan → Channel → ℕ
work c w = combined_work c w.parent w.child (lanes_weight w)

-- the channel w' has less to do than w
abbrev pub Falls : ChannelPlan → Channel → Channel → Type 0
Falls c w' w = IsLower (work c w') (queue_number w'.child.queue) (work c w) (queue_number w.child.queue)

-- both in one number
abbrev pub steps_left : ChannelPlan → Channel → ℕ
steps_left c w = stairs (work c w) + queue_number w.child.queue
