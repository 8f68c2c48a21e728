-- The measure of a worked example.
use Rattle.std.proofs.Common.{ℕ, ◌≡◌, refl, List, [], ◌∷◌, false}
use Rattle.nk_base.specs.declared.status.Status.{Status}
use Rattle.nk_base.specs.declared.status.Target.TheVariants as target
use Rattle.nk_plan.specs.declared.plan.ChannelPlan.{ChannelPlan}
use Rattle.nk_plan.specs.declared.plan.Hop.TheVariants as hop
use Rattle.nk_plan.specs.declared.plan.ListenerKind.TheVariants as listener
use Rattle.nk_plan.specs.declared.plan.StartLane.TheVariants as lane
use Rattle.nk_plan.specs.declared.step.Step.{Step}
use Rattle.nk_plan.specs.declared.step.Step.TheVariants.{Act, Fetch, Up, Main, Begin, Finish}
use Rattle.nk_plan.specs.Accepted.{plan_of}
use Rattle.nk_plan.specs.Channel.{channel_after, new_channel}
use Rattle.nk_drain.specs.Work.{work, steps_left}

-- a load whose only hop cannot be opened

refused : Status
refused = record { 0 = 0x804b000d }

plan : ChannelPlan
plan = plan_of (hop.Fail refused ∷ []) listener.Plain false [] [] 1 false lane.Main

-- the work at the start, which stands last, and after each step
works : List Step → List ℕ
works [] = work plan (new_channel plan) ∷ []
works (x ∷ xs) = work plan (channel_after plan (x ∷ xs)) ∷ works xs

-- it is opened; the parent hears it, and fails; the child takes that, runs the start and then the stop; its flush ends, and
-- the parent hears that the child is done
whole : List Step
whole = Up ∷ Begin target.Main ∷ Finish target.Main ∷ Begin target.Main ∷ Finish target.Main ∷ Main ∷ Fetch ∷ Up ∷ Act ∷ []

falls_to_nothing : works whole ≡ 0 ∷ 2 ∷ 3 ∷ 131 ∷ 134 ∷ 264 ∷ 269 ∷ 1624 ∷ 1626 ∷ 1893 ∷ []
unfolding works whole plan refused
falls_to_nothing = refl

nothing_left : steps_left plan (channel_after plan whole) ≡ 0
unfolding whole plan refused
nothing_left = refl
