-- The parts of a channel, and what each step does to them. What is on its way is told by lists alone: what a list holds need
-- not be what the journals say that was sent and not taken. This project's own.
use Rattle.std.specs.Prelude.{ℕ, suc, ◌<◌, ◌^◌, Bool, true, false, not, ◌&&◌, List, [], ◌∷◌, ◌++◌, length, drop, slice_get, Option, None}
use Rattle.nk_base.specs.declared.message.MainMsg.{MainMsg}
use Rattle.nk_base.specs.declared.message.BackMsg.{BackMsg}
use Rattle.nk_base.specs.declared.message.UpMsg.{UpMsg}
use Rattle.nk_base.specs.declared.message.Entry.{Entry}
use Rattle.nk_base.specs.Queue.{has_some}
use Rattle.nk_plan.specs.declared.plan.ChannelPlan.{ChannelPlan}
use Rattle.nk_plan.specs.declared.step.Step.{Step}
use Rattle.nk_plan.specs.declared.step.Step.TheVariants.{Act, Verdict, Fetch, Up, Forward, Main, Back, Release, Begin, Finish, Read}
use Rattle.nk_plan.specs.declared.step.ParentStep.TheVariants as parent
use Rattle.nk_plan.specs.declared.step.ChildStep.{ChildStep}
use Rattle.nk_plan.specs.declared.step.ChildStep.TheVariants as child
use Rattle.nk_plan.specs.Journal.{mains_sent, backs_sent}
use Rattle.nk_plan.specs.Parent.{ParentState, new_parent, parent_step}
use Rattle.nk_plan.specs.Child.{ChildState, new_child, child_step}
use Rattle.nk_plan.specs.Channel.{Channel, main_lane, back_lane, up_lane, half_lane}
use Rattle.nk_plan.specs.Enabled.{child_enabled, parent_enabled}
use Rattle.nk_parent.specs.Views.{added}

-- the plan; both halves; how many messages the parent's background half has moved on; and what is on the way: on the main
-- lane, from the parent to its background half, on the background lane, and on the up lane
pub record Parts : Type 0 where
  pub plan : ChannelPlan
  pub parent : ParentState
  pub forwarded : ℕ
  pub child : ChildState
  pub main : List MainMsg
  pub inner : List BackMsg
  pub back : List BackMsg
  pub up : List UpMsg

-- before the first step
abbrev pub new_parts : ChannelPlan → Parts
new_parts c = record {
  plan = c;
  parent = new_parent c;
  forwarded = 0;
  child = new_child c;
  main = [];
  inner = [];
  back = [];
  up = [];
}

-- the parts of a channel whose lists hold what its journals say was sent and not taken
abbrev pub parts_of : ChannelPlan → Channel → Parts
parts_of c w = record {
  plan = c;
  parent = w.parent;
  forwarded = w.forwarded;
  child = w.child;
  main = main_lane w;
  inner = half_lane w;
  back = back_lane w;
  up = up_lane w;
}

-- A STEP

-- a step of the child: what it has sent more goes to the end of the up lane
abbrev pub child_turned : ChildState → Parts → Parts
child_turned s p = record p { child = s; up = p.up ++ drop (length p.child.sent) s.sent }

abbrev pub turned : ChildStep → Parts → Parts
turned x p = child_turned (child_step p.plan x p.child) p

-- a fetch of the parent: what it has sent goes to the end of the main lane, and to its background half
abbrev pub fetched : ParentState → Parts → Parts
fetched s p =
    record p {
      parent = s;
      main = p.main ++ mains_sent (added p.parent s);
      inner = p.inner ++ backs_sent (added p.parent s);
    }

-- the first message of a list is taken, where there is one

abbrev pub up_taken : List UpMsg → Parts → Parts
up_taken [] p = p
up_taken (m ∷ ms) p = record p { parent = parent_step p.plan (parent.Up m) p.parent; up = ms }

abbrev pub moved_on : List BackMsg → Parts → Parts
moved_on [] p = p
moved_on (m ∷ ms) p = record p { forwarded = suc p.forwarded; inner = ms; back = p.back ++ m ∷ [] }

-- of the message that is next for a child: a broken child takes none
abbrev pub next_for : {M : Type 0} → Bool → List M → Option M
next_for true ms = None
next_for false ms = slice_get ms 0

abbrev pub main_taken : Bool → List MainMsg → Parts → Parts
main_taken true ms p = p
main_taken false [] p = p
main_taken false (m ∷ ms) p = turned (child.Main m) (record p { main = ms })

abbrev pub back_taken : Bool → List BackMsg → Parts → Parts
back_taken true ms p = p
back_taken false [] p = p
back_taken false (m ∷ ms) p = turned (child.Back m) (record p { back = ms })

-- one step; one that is not enabled changes nothing, and so does a read, which is the listener's
abbrev pub parts_step : Step → Parts → Parts
parts_step Act p = turned child.Act p
parts_step Verdict p = turned child.Verdict p
parts_step Fetch p = fetched (parent_step p.plan parent.Fetch p.parent) p
parts_step Up p = up_taken p.up p
parts_step Forward p = moved_on p.inner p
parts_step Main p = main_taken p.child.broken p.main p
parts_step Back p = back_taken p.child.broken p.back p
parts_step Release p = turned child.Release p
parts_step (Begin t) p = turned (child.Begin t) p
parts_step (Finish t) p = turned (child.Finish t) p
parts_step (Read reader) p = p

-- whether a step is enabled
abbrev pub parts_enabled : Step → Parts → Bool
parts_enabled Act p = child_enabled p.plan child.Act p.child
parts_enabled Verdict p = child_enabled p.plan child.Verdict p.child
parts_enabled Fetch p = parent_enabled p.plan parent.Fetch p.parent
parts_enabled Up p = has_some p.up
parts_enabled Forward p = has_some p.inner
parts_enabled Main p = not p.child.broken && has_some p.main
parts_enabled Back p = not p.child.broken && has_some p.back
parts_enabled Release p = child_enabled p.plan child.Release p.child
parts_enabled (Begin t) p = child_enabled p.plan (child.Begin t) p.child
parts_enabled (Finish t) p = child_enabled p.plan (child.Finish t) p.child
parts_enabled (Read reader) p = false

-- the entries that a step shows
abbrev pub shown_by : Step → Parts → List Entry
shown_by x p = drop (length p.child.trace) (parts_step x p).child.trace

-- ROOM

-- what is on the way is little, so that each list has room for what a step sends, and the messages moved on can be counted
pub record IsRoomy (p : Parts) : Type 0 where
  pub main : length p.main < 2 ^ 24
  pub inner : length p.inner < 2 ^ 24
  pub back : length p.back < 2 ^ 24
  pub up : length p.up < 2 ^ 24
  pub forwarded : p.forwarded < 2 ^ 24
