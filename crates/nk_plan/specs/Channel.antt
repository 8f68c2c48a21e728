-- A whole channel: its two halves and the three lanes between them, as one list of steps. This project's own.
use Rattle.std.specs.Prelude.{ℕ, suc, if◌then◌else◌, nat_lt, List, [], ◌∷◌, length, take, drop}
use Rattle.nk_base.specs.declared.message.MainMsg.{MainMsg}
use Rattle.nk_base.specs.declared.message.BackMsg.{BackMsg}
use Rattle.nk_base.specs.declared.message.UpMsg.{UpMsg}
use Rattle.nk_plan.specs.declared.plan.ChannelPlan.{ChannelPlan}
use Rattle.nk_plan.specs.declared.step.Step.{Step}
use Rattle.nk_plan.specs.declared.step.Step.TheVariants.{Act, Verdict, Fetch, Up, Forward, Main, Back, Release, Begin, Finish, Read}
use Rattle.nk_plan.specs.Journal.{mains_taken, backs_taken, ups_taken, mains_sent, backs_sent}
use Rattle.nk_plan.specs.Parent.{ParentState, new_parent, parent_step}
use Rattle.nk_plan.specs.Child.{ChildState, new_child, child_step}
use Rattle.nk_plan.specs.declared.step.ParentStep.TheVariants as parent
use Rattle.nk_plan.specs.declared.step.ChildStep.TheVariants as child

-- the two halves, and how many messages the parent's background half has moved on
pub record Channel : Type 0 where
  pub parent : ParentState
  pub forwarded : ℕ
  pub child : ChildState

-- what is on a lane: what was sent, and on the background lane moved on, and not yet taken

abbrev pub main_lane : Channel → List MainMsg
main_lane w = drop (length (mains_taken w.child.journal)) (mains_sent w.parent.journal)

-- what the parent has handed to its background half, and that has not moved on
abbrev pub half_lane : Channel → List BackMsg
half_lane w = drop w.forwarded (backs_sent w.parent.journal)

abbrev pub back_lane : Channel → List BackMsg
back_lane w = drop (length (backs_taken w.child.journal)) (take w.forwarded (backs_sent w.parent.journal))

abbrev pub up_lane : Channel → List UpMsg
up_lane w = drop (length (ups_taken w.parent.journal)) w.child.sent

-- the first message of a lane is taken

abbrev pub up_step : ChannelPlan → List UpMsg → Channel → Channel
up_step c [] w = w
up_step c (m ∷ ms) w = record w { parent = parent_step c (parent.Up m) w.parent }

abbrev pub main_step : ChannelPlan → List MainMsg → Channel → Channel
main_step c [] w = w
main_step c (m ∷ ms) w = record w { child = child_step c (child.Main m) w.child }

abbrev pub back_step : ChannelPlan → List BackMsg → Channel → Channel
back_step c [] w = w
back_step c (m ∷ ms) w = record w { child = child_step c (child.Back m) w.child }

-- the first message at the background half is moved on
abbrev pub forward_step : Channel → Channel
forward_step w = if nat_lt w.forwarded (length (backs_sent w.parent.journal)) then record w { forwarded = suc w.forwarded } else w

-- one step of a channel; one that is not enabled leaves it as it is, and so does a read, which is the listener's
abbrev pub channel_step : ChannelPlan → Step → Channel → Channel
channel_step c Act w = record w { child = child_step c child.Act w.child }
channel_step c Verdict w = record w { child = child_step c child.Verdict w.child }
channel_step c Fetch w = record w { parent = parent_step c parent.Fetch w.parent }
channel_step c Up w = up_step c (up_lane w) w
channel_step c Forward w = forward_step w
channel_step c Main w = main_step c (main_lane w) w
channel_step c Back w = back_step c (back_lane w) w
channel_step c Release w = record w { child = child_step c child.Release w.child }
channel_step c (Begin t) w = record w { child = child_step c (child.Begin t) w.child }
channel_step c (Finish t) w = record w { child = child_step c (child.Finish t) w.child }
channel_step c (Read reader) w = w

abbrev pub new_channel : ChannelPlan → Channel
new_channel c = record { parent = new_parent c; forwarded = 0; child = new_child c }

-- the channel after these steps, of which the newest stands first
abbrev pub channel_after : ChannelPlan → List Step → Channel
channel_after c [] = new_channel c
channel_after c (x ∷ xs) = channel_step c x (channel_after c xs)
