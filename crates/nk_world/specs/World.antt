-- A world: the channels of some plans, each at play, with the schedule's steps and the drain over all of them.
-- This project's own.
use Rattle.std.specs.Prelude.{ℕ, zero, suc, ◌≡◌, ◌-◌, Bool, false, List, [], ◌∷◌, map, slice_get, slice_set, Option, Some, None, All}
use Rattle.nk_plan.specs.declared.plan.ChannelPlan.{ChannelPlan}
use Rattle.nk_plan.specs.declared.step.Step.{Step}
use Rattle.nk_world.specs.Play.{Play, new_play, play_step, play_enabled, round, IsQuiet}

-- the channels, and whether the world has met want of memory
pub record WorldView : Type 0 where
  pub plays : List Play
  pub failed : Bool

abbrev pub new_world : List ChannelPlan → WorldView
new_world plans = record { plays = map new_play plans; failed = false }

abbrev pub plan_of : Play → ChannelPlan
plan_of p = p.plan

abbrev pub plans_of : WorldView → List ChannelPlan
plans_of w = map plan_of w.plays

-- A STEP OF THE SCHEDULE

abbrev pub step_in : ℕ → Step → List Play → Option Play → List Play
step_in i x ps None = ps
step_in i x ps (Some p) = slice_set ps i (play_step x p)

-- a step of one channel, of which the first has number 1
abbrev pub world_step : ℕ → Step → List Play → List Play
world_step channel x ps = step_in (channel - 1) x ps (slice_get ps (channel - 1))

abbrev pub enabled_in : Step → Option Play → Bool
enabled_in x None = false
enabled_in x (Some p) = play_enabled x p

abbrev pub world_enabled : ℕ → Step → List Play → Bool
world_enabled channel x ps = enabled_in x (slice_get ps (channel - 1))

-- THE DRAIN

-- a round takes the channels in order, and tries each step of each
abbrev pub world_round : List Play → List Play
world_round [] = []
world_round (p ∷ ps) = round p ∷ world_round ps

abbrev pub world_rounds : ℕ → List Play → List Play
world_rounds zero ps = ps
world_rounds (suc n) ps = world_rounds n (world_round ps)

-- the drain goes in rounds, and ends after the first round in which every step was idle
pub record AreDrained (ps qs : List Play) : Type 0 where
  pub count : ℕ
  pub led : world_rounds count ps ≡ qs
  pub quiet : All IsQuiet qs
