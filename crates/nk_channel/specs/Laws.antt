-- The laws of a channel's parts.
use Rattle.std.specs.Prelude.{◌≡◌, ◌<◌, ◌^◌, false, List, ◌++◌, length}
use Rattle.nk_plan.specs.declared.plan.ChannelPlan.{ChannelPlan}
use Rattle.nk_plan.specs.declared.step.Step.{Step}
use Rattle.nk_plan.specs.Accepted.{Accepted}
use Rattle.nk_plan.specs.Channel.{Channel, channel_step, channel_after}
use Rattle.nk_plan.specs.Enabled.{channel_enabled}
use Rattle.nk_channel.specs.Parts.{Parts, parts_of, parts_step, parts_enabled, shown_by, IsRoomy}

-- WHATEVER THE LISTS HOLD

-- a step that is not enabled changes nothing
abbrev pub IdleLaw : Type 0
IdleLaw = (x : Step) (p : Parts) → parts_enabled x p ≡ false → parts_step x p ≡ p

-- what a step shows is the end of the trace
abbrev pub GrowsLaw : Type 0
GrowsLaw = (x : Step) (p : Parts) → p.child.trace ++ shown_by x p ≡ (parts_step x p).child.trace

-- WHERE THE LISTS HOLD WHAT THE JOURNALS SAY

-- a step of the parts is the step of the whole channel, for every list of steps
abbrev pub StepLaw : Type 0
StepLaw = (c : ChannelPlan) (steps : List Step) (x : Step) →
    let w = channel_after c steps in parts_step x (parts_of c w) ≡ parts_of c (channel_step c x w)

-- and is enabled exactly where that one is, whatever the channel
abbrev pub EnabledLaw : Type 0
EnabledLaw = (c : ChannelPlan) (x : Step) (w : Channel) → parts_enabled x (parts_of c w) ≡ channel_enabled c x w

-- what is on the way is little
abbrev pub RoomyLaw : Type 0
RoomyLaw = (c : ChannelPlan) (steps : List Step) → Accepted c → IsRoomy (parts_of c (channel_after c steps))

-- and so is what was shown
abbrev pub ShownLaw : Type 0
ShownLaw = (c : ChannelPlan) (steps : List Step) → Accepted c → length (channel_after c steps).child.trace < 2 ^ 24
