-- How the steps of a whole channel move its lanes: what each takes off a lane, and what it adds to one. This project's own.
use Rattle.std.specs.Prelude.{suc, ◌≡◌, ◌≤◌, Bool, true, false, List, [], ◌∷◌, ◌++◌, length, take, drop}
use Rattle.nk_base.specs.declared.message.MainMsg.{MainMsg}
use Rattle.nk_base.specs.declared.message.BackMsg.{BackMsg}
use Rattle.nk_base.specs.declared.message.UpMsg.{UpMsg}
use Rattle.nk_plan.specs.declared.plan.ChannelPlan.{ChannelPlan}
use Rattle.nk_plan.specs.declared.step.ParentStep.{ParentStep}
use Rattle.nk_plan.specs.declared.step.ParentStep.TheVariants as parent
use Rattle.nk_plan.specs.declared.step.ChildStep.{ChildStep}
use Rattle.nk_plan.specs.declared.step.ChildStep.TheVariants as child
use Rattle.nk_plan.specs.Journal.{ups_taken, mains_taken, backs_taken, mains_sent, backs_sent}
use Rattle.nk_plan.specs.Parent.{ParentState, parent_step, parent_after}
use Rattle.nk_plan.specs.Child.{ChildState, child_step, child_after}
use Rattle.nk_plan.specs.Channel.{Channel, main_lane, back_lane, up_lane, half_lane}
use Rattle.nk_plan.specs.Lanes.{IsPrefix}

-- both sides of a channel are runs of their tables, and each took what begins what the other sent
pub record Joined (c : ChannelPlan) (w : Channel) : Type 0 where
  pub parent_steps : List ParentStep
  pub parent_is : parent_after c parent_steps ≡ w.parent
  pub child_steps : List ChildStep
  pub child_is : child_after c child_steps ≡ w.child
  pub mains : IsPrefix (mains_taken w.child.journal) (mains_sent w.parent.journal)
  pub within : w.forwarded ≤ length (backs_sent w.parent.journal)
  pub backs : IsPrefix (backs_taken w.child.journal) (take w.forwarded (backs_sent w.parent.journal))
  pub ups : IsPrefix (ups_taken w.parent.journal) w.child.sent

-- what a step takes off a lane; a child that is broken takes nothing

abbrev pub ups_of : ParentStep → List UpMsg
ups_of (parent.Up m) = m ∷ []
ups_of parent.Fetch = []

abbrev pub mains_of : ChildStep → Bool → List MainMsg
mains_of child.Act broken = []
mains_of child.Verdict broken = []
mains_of (child.Main m) true = []
mains_of (child.Main m) false = m ∷ []
mains_of (child.Back m) broken = []
mains_of child.Release broken = []
mains_of (child.Begin t) broken = []
mains_of (child.Finish t) broken = []

abbrev pub backs_of : ChildStep → Bool → List BackMsg
backs_of child.Act broken = []
backs_of child.Verdict broken = []
backs_of (child.Main m) broken = []
backs_of (child.Back m) true = []
backs_of (child.Back m) false = m ∷ []
backs_of child.Release broken = []
backs_of (child.Begin t) broken = []
backs_of (child.Finish t) broken = []

-- a step of the parent adds what it sends to the end of a lane, and takes off the up lane what it takes
pub record ParentMoves (w : Channel) (x : ParentStep) (s : ParentState) : Type 0 where
  pub main : main_lane w ++ mains_sent (drop (length w.parent.journal) s.journal) ≡ main_lane (record w { parent = s })
  pub inner : half_lane w ++ backs_sent (drop (length w.parent.journal) s.journal) ≡ half_lane (record w { parent = s })
  pub back : back_lane w ≡ back_lane (record w { parent = s })
  pub up : drop (length (ups_of x)) (up_lane w) ≡ up_lane (record w { parent = s })

-- a step of the child adds what it sends to the end of the up lane, and takes off a down lane what it takes
pub record ChildMoves (w : Channel) (x : ChildStep) (s : ChildState) : Type 0 where
  pub main : drop (length (mains_of x w.child.broken)) (main_lane w) ≡ main_lane (record w { child = s })
  pub back : drop (length (backs_of x w.child.broken)) (back_lane w) ≡ back_lane (record w { child = s })
  pub up : up_lane w ++ drop (length w.child.sent) s.sent ≡ up_lane (record w { child = s })

-- the background half moves the first message that waits to the end of the background lane
pub record HalfMoves (w w' : Channel) : Type 0 where
  pub inner : drop 1 (half_lane w) ≡ half_lane w'
  pub back : back_lane w ++ take 1 (half_lane w) ≡ back_lane w'

-- what every step does to the lanes
pub record Moves (c : ChannelPlan) (w : Channel) : Type 0 where
  pub parent : (x : ParentStep) → ParentMoves w x (parent_step c x w.parent)
  pub child : (x : ChildStep) → ChildMoves w x (child_step c x w.child)
  pub half : HalfMoves w (record w { forwarded = suc w.forwarded })
