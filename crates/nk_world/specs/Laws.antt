-- The laws of the drain, over every list of channels at play, and what they rest on. This project's own.
use Rattle.std.specs.Prelude.{ℕ, ◌≡◌, List, map, All}
use Rattle.nk_plan.specs.declared.plan.ChannelPlan.{ChannelPlan}
use Rattle.nk_plan.specs.declared.step.Step.{Step}
use Rattle.nk_plan.specs.Accepted.{Accepted}
use Rattle.nk_channel.specs.Laws as channels
use Rattle.nk_drain.specs.Laws as drain
use Rattle.nk_sink.specs.Reached as sink
use Rattle.nk_world.specs.Play.{Play, new_play, IsReached}
use Rattle.nk_world.specs.World.{world_step, AreDrained}

-- what the layers below say of a step: of the channel, told by its parts; of one that is not enabled; and of a read that is not
pub record PlayLaws : Type 0 where
  pub step : channels.StepLaw
  pub enabled : channels.EnabledLaw
  pub grows : channels.GrowsLaw
  pub roomy : channels.RoomyLaw
  pub shown : channels.ShownLaw
  pub idle : drain.IdleLaw
  pub reads : sink.IdleLaw

-- the channels of accepted plans are such as steps lead to, and stay so
abbrev pub NewLaw : Type 0
NewLaw = (cs : List ChannelPlan) → All Accepted cs → All IsReached (map new_play cs)

abbrev pub StepLaw : Type 0
StepLaw = (channel : ℕ) (x : Step) (ps : List Play) → All IsReached ps → All IsReached (world_step channel x ps)

-- their drain ends
abbrev pub EndsLaw : Type 0
EndsLaw = (ps : List Play) → All IsReached ps → (qs : List Play) × AreDrained ps qs

-- and leaves one thing
abbrev pub OneLaw : Type 0
OneLaw = (ps qs rs : List Play) → All IsReached ps → AreDrained ps qs → AreDrained ps rs → qs ≡ rs
