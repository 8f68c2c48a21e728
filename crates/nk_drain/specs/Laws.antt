-- The laws of the drain, each the contract of a public function.
use Rattle.std.specs.Prelude.{◌≡◌, ◌<◌, ◌⊎◌, true, false, List, [], ◌∷◌, ◌++◌}
use Rattle.nk_plan.specs.declared.plan.ChannelPlan.{ChannelPlan}
use Rattle.nk_plan.specs.declared.step.Step.{Step}
use Rattle.nk_plan.specs.Accepted.{Accepted}
use Rattle.nk_plan.specs.Channel.{Channel, channel_step, channel_after}
use Rattle.nk_plan.specs.Enabled.{channel_enabled}
use Rattle.nk_drain.specs.Work.{steps_left, Falls}

-- an enabled step leaves less to do
abbrev pub FallsLaw : Type 0
FallsLaw = (c : ChannelPlan) (steps : List Step) (x : Step) → Accepted c →
    let w = channel_after c steps in channel_enabled c x w ≡ true → Falls c (channel_step c x w) w

-- so it lowers the number of the steps left
abbrev pub LeftLaw : Type 0
LeftLaw = (c : ChannelPlan) (steps : List Step) (x : Step) → Accepted c →
    let w = channel_after c steps in channel_enabled c x w ≡ true → steps_left c (channel_step c x w) < steps_left c w

-- a step that is not enabled changes nothing, whatever the channel
abbrev pub IdleLaw : Type 0
IdleLaw = (c : ChannelPlan) (x : Step) (w : Channel) → channel_enabled c x w ≡ false → channel_step c x w ≡ w

-- one of these steps, of which the newest stands first, was enabled when its turn came
abbrev pub SomeEnabled : ChannelPlan → List Step → List Step → Type 0
SomeEnabled c [] steps = ⊥
SomeEnabled c (x ∷ xs) steps = (channel_enabled c x (channel_after c (xs ++ steps)) ≡ true) ⊎ SomeEnabled c xs steps

-- a round of steps of which one was enabled lowers the number, and any other round changes nothing
abbrev pub RoundLaw : Type 0
RoundLaw = (c : ChannelPlan) (xs steps : List Step) → Accepted c →
    let w = channel_after c steps in
    let w' = channel_after c (xs ++ steps) in
    (SomeEnabled c xs steps → steps_left c w' < steps_left c w) × ((SomeEnabled c xs steps → ⊥) → w' ≡ w)
