-- Runs: what the two halves of a channel did, each by its own journal, and how the two go together. This project's own.
use Rattle.std.specs.Prelude.{ℕ, zero, suc, ◌≡◌, ◌≤◌, List, [], ◌∷◌, ◌++◌, length, take, drop, slice_get, Option, Some, None}
use Rattle.nk_base.specs.declared.message.Entry.{Entry}
use Rattle.nk_base.specs.declared.message.UpMsg.{UpMsg}
use Rattle.nk_base.specs.Queue.{has_some}
use Rattle.nk_plan.specs.declared.plan.ChannelPlan.{ChannelPlan}
use Rattle.nk_plan.specs.declared.journal.ParentEntry.{ParentEntry}
use Rattle.nk_plan.specs.declared.journal.ChildEntry.{ChildEntry}
use Rattle.nk_plan.specs.declared.step.ParentStep.{ParentStep}
use Rattle.nk_plan.specs.declared.step.ChildStep.{ChildStep}
use Rattle.nk_plan.specs.Journal.{mains_taken, backs_taken, ups_taken, mains_sent, backs_sent}
use Rattle.nk_plan.specs.Lanes.{IsPrefix}
use Rattle.nk_plan.specs.Parent.{ParentState, new_parent, parent_step, parent_after}
use Rattle.nk_plan.specs.Child.{ChildState, new_child, child_step, child_after}
use Rattle.nk_plan.specs.Walk.{ParentBlock, ChildBlock, walk_start, CanPlace}
use Rattle.nk_plan.specs.declared.journal.ParentEntry.TheVariants as parent
use Rattle.nk_plan.specs.declared.journal.ChildEntry.TheVariants as child
use Rattle.nk_plan.specs.declared.step.ParentStep.TheVariants as up
use Rattle.nk_plan.specs.declared.step.ChildStep.TheVariants as step

-- a parent, or a child, of this plan may come to be in this state
abbrev pub IsParentState : ChannelPlan → ParentState → Type 0
IsParentState c s = (steps : List ParentStep) × (parent_after c steps ≡ s)

abbrev pub IsChildState : ChannelPlan → ChildState → Type 0
IsChildState c s = (steps : List ChildStep) × (child_after c steps ≡ s)

-- a journal is a run: the blocks of some steps, one behind the other
abbrev pub IsParentRun : ChannelPlan → List ParentEntry → Type 0
IsParentRun c p = (steps : List ParentStep) × ((parent_after c steps).journal ≡ p)

abbrev pub IsChildRun : ChannelPlan → List ChildEntry → Type 0
IsChildRun c j = (steps : List ChildStep) × ((child_after c steps).journal ≡ j)

-- The state that a run leaves, told by its journal alone: the first entry of each block names the step that entered it

abbrev pub step_of : ChildEntry → ChildStep
step_of child.Open = step.Act
step_of child.Suspend = step.Act
step_of child.Resume = step.Act
step_of (child.Cancel s) = step.Act
step_of (child.Break s) = step.Act
step_of (child.Retarget w) = step.Act
step_of (child.NoRetarget e) = step.Act
step_of child.NoEffect = step.Act
step_of (child.Verdict h s) = step.Verdict
step_of (child.TookMain m) = step.Main m
step_of (child.TookBack m) = step.Back m
step_of (child.Release n) = step.Release
step_of (child.RunStart t code s) = step.Begin t
step_of (child.RunBytes t o n) = step.Begin t
step_of (child.RunDrop t o s) = step.Begin t
step_of (child.RunStop t s) = step.Begin t
step_of (child.RunRedirect1 t h) = step.Begin t
step_of (child.RunRedirect3 t h) = step.Begin t
step_of (child.RunCancel t s) = step.Begin t
step_of (child.HandOver t to) = step.Begin t
step_of (child.Ended t) = step.Begin t
step_of (child.Complete t) = step.Begin t
step_of (child.Finish t) = step.Finish t
-- no block begins with this entry
step_of (child.Prepend s) = step.Act

abbrev pub replay_entry : ChannelPlan → ChildState → Option ChildEntry → ChildState
replay_entry c s None = s
replay_entry c s (Some e) = child_step c (step_of e) s

-- the next block begins behind what was entered so far
abbrev pub replay_block : ChannelPlan → List ChildEntry → ChildState → ChildState
replay_block c j s = replay_entry c s (slice_get j (length s.journal))

-- the state that the first blocks of a journal leave, at most so many
abbrev pub replayed : ChannelPlan → List ChildEntry → ℕ → ChildState
replayed c j zero = new_child c
replayed c j (suc blocks) = replay_block c j (replayed c j blocks)

abbrev pub state_of : ChannelPlan → List ChildEntry → ChildState
state_of c j = replayed c j (length j)

abbrev pub trace_of : ChannelPlan → List ChildEntry → List Entry
trace_of c j = (state_of c j).trace

abbrev pub sends_of : ChannelPlan → List ChildEntry → List UpMsg
sends_of c j = (state_of c j).sent

abbrev pub parent_step_of : ParentEntry → ParentStep
parent_step_of (parent.Took m) = up.Up m
parent_step_of (parent.SentMain m) = up.Fetch
parent_step_of (parent.SentBack m) = up.Fetch

abbrev pub parent_replay_entry : ChannelPlan → ParentState → Option ParentEntry → ParentState
parent_replay_entry c s None = s
parent_replay_entry c s (Some e) = parent_step c (parent_step_of e) s

abbrev pub parent_replay_block : ChannelPlan → List ParentEntry → ParentState → ParentState
parent_replay_block c p s = parent_replay_entry c s (slice_get p (length s.journal))

abbrev pub parent_replayed : ChannelPlan → List ParentEntry → ℕ → ParentState
parent_replayed c p zero = new_parent c
parent_replayed c p (suc blocks) = parent_replay_block c p (parent_replayed c p blocks)

abbrev pub parent_state_of : ChannelPlan → List ParentEntry → ParentState
parent_state_of c p = parent_replayed c p (length p)

-- How the two halves go together

-- A run of each half, and n forwards, of which the child took no more than the parent sent and the forwards moved, lane by
-- lane and in order
pub record Down (c : ChannelPlan) (p : List ParentEntry) (j : List ChildEntry) (n : ℕ) : Type 0 where
  pub parent_run : IsParentRun c p
  pub child_run : IsChildRun c j
  pub mains : IsPrefix (mains_taken j) (mains_sent p)
  pub forwards : n ≤ length (backs_sent p)
  pub backs : IsPrefix (backs_taken j) (take n (backs_sent p))

-- a block, by what it took and sent
abbrev pub parent_block : List ParentEntry → ParentBlock
parent_block block = record {
  takes_up = has_some (ups_taken block);
  mains = length (mains_sent block);
  backs = length (backs_sent block);
}

abbrev pub child_block : List ChildEntry → List UpMsg → ChildBlock
child_block block ups = record {
  takes_main = has_some (mains_taken block);
  takes_back = has_some (backs_taken block);
  ups = length ups;
}

-- the blocks of these steps, of which the newest stands first; a step that was not enabled has an empty block
abbrev pub parent_blocks : ChannelPlan → List ParentStep → List ParentBlock
parent_blocks c [] = []
parent_blocks c (x ∷ xs) =
    parent_blocks c xs ++ parent_block (drop (length (parent_after c xs).journal) (parent_after c (x ∷ xs)).journal) ∷ []

abbrev pub child_blocks : ChannelPlan → List ChildStep → List ChildBlock
child_blocks c [] = []
child_blocks c (x ∷ xs) =
    child_blocks c xs
    ++ child_block
    (drop (length (child_after c xs).journal) (child_after c (x ∷ xs)).journal)
    (drop (length (child_after c xs).sent) (child_after c (x ∷ xs)).sent)
    ∷ []

-- A run of a whole channel: the parent, too, took no more than the child sent, and some order places the blocks of the two
-- runs and the forwards, so that each message is taken after it was sent
pub record Run (c : ChannelPlan) (p : List ParentEntry) (j : List ChildEntry) (n : ℕ) : Type 0 where
  pub down : Down c p j n
  pub ups : IsPrefix (ups_taken p) (sends_of c j)
  pub placed : CanPlace (walk_start (parent_blocks c down.parent_run.0) n (child_blocks c down.child_run.0))
