-- The laws over the definitions, each the contract of a public function. None has a premise but that the plan is one that
-- `ChannelPlan::new` accepts, where it needs that.
use Rattle.std.specs.Prelude.{ℕ, ◌≡◌, ◌+◌, ◌↔◌, true, false, List, [], Some, None, ◌≤◌, ◌⊎◌, length}
use Rattle.nk_base.specs.declared.status.Target.{Target}
use Rattle.nk_base.specs.Queue.{posted_to}
use Rattle.nk_plan.specs.declared.plan.ChannelPlan.{ChannelPlan}
use Rattle.nk_plan.specs.declared.journal.ParentEntry.{ParentEntry}
use Rattle.nk_plan.specs.declared.journal.ChildEntry.{ChildEntry}
use Rattle.nk_plan.specs.declared.step.Step.{Step}
use Rattle.nk_plan.specs.declared.step.ParentStep.{ParentStep}
use Rattle.nk_plan.specs.declared.step.ChildStep.{ChildStep}
use Rattle.nk_plan.specs.declared.ends.Ending.TheVariants as ending
use Rattle.nk_plan.specs.Accepted.{Accepted}
use Rattle.nk_plan.specs.Trace.{SeqTrace}
use Rattle.nk_plan.specs.Journal.{first, final, cut, opening, NoDataBehind, count_of, has_open, is_suspend, is_resume, is_finish, ups_taken, mains_sent, backs_sent}
use Rattle.nk_plan.specs.Lanes.{LaneLaw, MainsStart, BacksStart}
use Rattle.nk_plan.specs.Parent.{parent_after}
use Rattle.nk_plan.specs.Child.{child_after}
use Rattle.nk_plan.specs.Channel.{channel_after}
use Rattle.nk_plan.specs.Enabled.{IsSettled}
use Rattle.nk_plan.specs.Run.{IsParentRun, state_of, parent_state_of, trace_of, Down, parent_blocks, child_blocks, Run}
use Rattle.nk_plan.specs.Ending.{ending_of, state_ending, ends_in_stop, waits_to_stop}
use Rattle.nk_plan.specs.Calm.{IsCalm, calm_trace}
use Rattle.nk_plan.specs.Walk.{Walk, Turn, walk_start, can, placed, is_done, CanPlace, places_all}
use Rattle.nk_plan.specs.Telling.{new_telling, sends_from, parent_entries, child_entries}
use Rattle.nk_laws.specs.Moves.{Joined, Moves}

-- The parent

-- whatever messages of the up lane a parent took, strays included, what it sent obeys the lane law
abbrev pub LanesLaw : Type 0
LanesLaw = (c : ChannelPlan) (p : List ParentEntry) → Accepted c → IsParentRun c p
    → LaneLaw c (ups_taken p) (mains_sent p) (backs_sent p)

-- The lanes of a whole channel, for every order of steps

-- each side took what begins what the other sent
abbrev pub JoinedLaw : Type 0
JoinedLaw = (c : ChannelPlan) (steps : List Step) → Joined c (channel_after c steps)

-- each step takes off a lane's front and adds to a lane's end
abbrev pub MovesLaw : Type 0
MovesLaw = (c : ChannelPlan) (steps : List Step) → Moves c (channel_after c steps)

-- The merge

-- what a child has shown, of what it took of a parent's two lanes, is the trace of one sequential channel
abbrev pub MergeLaw : Type 0
MergeLaw = (c : ChannelPlan) (p : List ParentEntry) (j : List ChildEntry) (n : ℕ) → Accepted c → Down c p j n
    → SeqTrace c (final j) (first j) (cut j) (trace_of c j)

-- so for every run
abbrev pub RunLaw : Type 0
RunLaw = (c : ChannelPlan) (p : List ParentEntry) (j : List ChildEntry) (n : ℕ) → Accepted c → Run c p j n
    → SeqTrace c (final j) (first j) (cut j) (trace_of c j)

-- once a start has run, and no break came before it, the final hop is the hop of the start that the parent sent
abbrev pub HopLaw : Type 0
HopLaw = (c : ChannelPlan) (p : List ParentEntry) (j : List ChildEntry) (n : ℕ) → Accepted c → Down c p j n
    → opening j ≡ Some false → MainsStart (final j) (mains_sent p) × BacksStart (final j) (backs_sent p)

-- What a child's journal says of its state, for every list of steps

-- the failure that is kept is the journal's first, and no piece runs behind it; the hop is the final one
abbrev pub FailureLaw : Type 0
FailureLaw = (c : ChannelPlan) (steps : List ChildStep) →
    let s = child_after c steps in (s.kept ≡ first s.journal) × NoDataBehind None s.journal × (s.hop ≡ final s.journal)

-- a child is opened, suspended and has finished callbacks as its journal counts them
abbrev pub CountsLaw : Type 0
CountsLaw = (c : ChannelPlan) (steps : List ChildStep) →
    let s = child_after c steps in
    (s.opened ≡ has_open s.journal)
    × (s.suspends + count_of is_resume s.journal ≡ count_of is_suspend s.journal)
    × (s.finished ≡ count_of is_finish s.journal)

-- the queue is suspended as often as the child is, its events are queued by force at most once, and no target has more
-- posted tasks than the journal has entries
abbrev pub BoundsLaw : Type 0
BoundsLaw = (c : ChannelPlan) (steps : List ChildStep) → Accepted c →
    let s = child_after c steps in
    (s.queue.count ≡ s.suspends) × (s.queue.forced ≤ 1) × ((t : Target) → posted_to s.queue t ≤ length s.journal)

-- the entries name all that was sent
abbrev pub SendsLaw : Type 0
SendsLaw = (c : ChannelPlan) (steps : List ChildStep) →
    let s = child_after c steps in s.sent ≡ sends_from new_telling s.journal

-- the state that steps leave is a function of the journal, on each side
abbrev pub StateLaw : Type 0
StateLaw = (c : ChannelPlan) →
    ((steps : List ChildStep) → state_of c (child_after c steps).journal ≡ child_after c steps)
    × ((steps : List ParentStep) → parent_state_of c (parent_after c steps).journal ≡ parent_after c steps)

-- Runs and orders

-- every order of steps of a whole channel gives a run
abbrev pub OrderRunsLaw : Type 0
OrderRunsLaw = (c : ChannelPlan) (steps : List Step) →
    let w = channel_after c steps in Run c w.parent.journal w.child.journal w.forwarded

-- and every run comes from one
abbrev pub RunOrderLaw : Type 0
RunOrderLaw = (c : ChannelPlan) (p : List ParentEntry) (j : List ChildEntry) (n : ℕ) → Run c p j n
    → (steps : List Step)
    × ((channel_after c steps).parent.journal ≡ p)
    × ((channel_after c steps).child.journal ≡ j)
    × ((channel_after c steps).forwarded ≡ n)

-- The walk

-- the greedy walk places everything exactly where some order does
abbrev pub GreedyLaw : Type 0
GreedyLaw = (w : Walk) → places_all w ≡ true ↔ CanPlace w

-- whatever is placed, the rest can be placed exactly where it could before
abbrev pub KeepLaw : Type 0
KeepLaw = (w : Walk) (t : Turn) → can t w ≡ true → places_all (placed t w) ≡ places_all w

-- where nothing can be placed, everything was, or no order places everything
abbrev pub StuckLaw : Type 0
StuckLaw = (w : Walk) → ((t : Turn) → can t w ≡ false) → places_all w ≡ is_done w

-- the blocks of two runs can be placed exactly where the greedy walk places the entries of their journals, one by one
abbrev pub EntriesLaw : Type 0
EntriesLaw = (c : ChannelPlan) (xs : List ParentStep) (ys : List ChildStep) (n : ℕ) →
    let p = (parent_after c xs).journal in
    let j = (child_after c ys).journal in
    places_all (walk_start (parent_entries p) n (child_entries new_telling j)) ≡ true
    ↔ CanPlace (walk_start (parent_blocks c xs) n (child_blocks c ys))

-- The ending, over the steps of a whole channel

-- the ending that the journal tells is the one that the child's fields tell
abbrev pub EndingToldLaw : Type 0
EndingToldLaw = (c : ChannelPlan) (steps : List Step) → Accepted c →
    let s = (channel_after c steps).child in (ending_of c s.journal ≡ state_ending c s) × (s.stopped ≡ ends_in_stop s.trace)

-- where no step that a drain tries is enabled, the channel is not going on
abbrev pub EndingLaw : Type 0
EndingLaw = (c : ChannelPlan) (steps : List Step) → Accepted c → IsSettled c (channel_after c steps)
    → ending_of c (channel_after c steps).child.journal ≡ ending.Going → ⊥

-- once a channel is broken, its stop was shown or waits
abbrev pub BrokenLaw : Type 0
BrokenLaw = (c : ChannelPlan) (p : List ParentEntry) (j : List ChildEntry) (n : ℕ) → Accepted c → Down c p j n
    → (state_of c j).broken ≡ true
    → (ends_in_stop (trace_of c j) ≡ true) ⊎ (waits_to_stop (state_of c j).queue.waiting ≡ true)

-- Calm plans, and closed ones

-- what a run of a calm plan that has stopped was shown is the calm trace, and it is never left suspended
abbrev pub CalmLaw : Type 0
CalmLaw = (c : ChannelPlan) (p : List ParentEntry) (j : List ChildEntry) (n : ℕ) → Accepted c → IsCalm c → Run c p j n →
    (ending_of c j ≡ ending.Stopped → trace_of c j ≡ calm_trace c) × (ending_of c j ≡ ending.Suspended → ⊥)

-- a run of a closed plan does nothing
abbrev pub ClosedLaw : Type 0
ClosedLaw = (c : ChannelPlan) (p : List ParentEntry) (j : List ChildEntry) (n : ℕ) → c.closed ≡ true → Run c p j n →
    (p ≡ []) × (j ≡ []) × (n ≡ 0) × (trace_of c j ≡ [])
