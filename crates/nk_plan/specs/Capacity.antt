-- How much can be sent on each lane of a channel in all, and so how many items the rings of its lanes hold. This project's own.
use Rattle.std.specs.Prelude.{ℕ, ◌+◌, ◌*◌, length}
use Rattle.nk_plan.specs.declared.plan.ChannelPlan.{ChannelPlan}
use Rattle.nk_plan.specs.Accepted.{body_of}

-- the main lane
abbrev pub main_capacity : ChannelPlan → ℕ
main_capacity c = 2 * length c.hops + 2

-- from the parent to its background half, and on from there to the child
abbrev pub inner_capacity : ChannelPlan → ℕ
inner_capacity c = length (body_of c) + 4

abbrev pub back_capacity : ChannelPlan → ℕ
back_capacity c = length (body_of c) + 5

-- from the child to the listener
abbrev pub delivery_capacity : ChannelPlan → ℕ
delivery_capacity c = 4 * length c.hops + length (body_of c) + 16

-- the up lane
abbrev pub up_capacity : ChannelPlan → ℕ
up_capacity c = 4 * length c.hops + length (body_of c) + 2 * length c.controls + 24
