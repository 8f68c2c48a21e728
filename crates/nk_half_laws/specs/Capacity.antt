-- How much each half sends and shows at most, and the capacities of the rings that give it room. This project's own.
use Rattle.std.specs.Prelude.{ℕ, zero, suc, ◌+◌, ◌-◌, ◌*◌, ◌<◌, ◌≤◌, Bool, true, false, List, length, take, Option, Some, None}
use Rattle.nk_base.specs.declared.status.Status.{Status}
use Rattle.nk_base.specs.declared.status.Target.{Target}
use Rattle.nk_plan.specs.declared.plan.ChannelPlan.{ChannelPlan}
use Rattle.nk_plan.specs.declared.event.ChildEvent.{ChildEvent}
use Rattle.nk_plan.specs.declared.event.ChildEvent.TheVariants.{Start, Bytes, Stop, Redirect1, Redirect3, Cancel}
use Rattle.nk_plan.specs.declared.step.ChildStep.{ChildStep}
use Rattle.nk_plan.specs.declared.step.ParentStep.{ParentStep}
use Rattle.nk_plan.specs.Accepted.{Accepted, body_of}
use Rattle.nk_plan.specs.Journal.{mains_taken, backs_taken, mains_sent, backs_sent}
use Rattle.nk_plan.specs.Parent.{parent_after}
use Rattle.nk_plan.specs.Child.{ChildState, child_after}
use Rattle.nk_plan.specs.Capacity.{main_capacity, inner_capacity, back_capacity, delivery_capacity, up_capacity}
use Rattle.nk_half_laws.specs.Sums.{sum_of}

-- WHAT A CHILD MAY STILL SEND AND SHOW, of what it has taken and of its plan. With what was sent and shown, each sum stays
-- within what the messages that were taken and the plan allow; any other sums that the steps keep so would do as well.

-- Messages of the up lane

-- one where this has not come yet: the opening, or the break, which offers one stop
abbrev pub until : Bool → ℕ
until true = 0
until false = 1

-- the cancel, where no failure is kept
abbrev pub cancels_left : Option Status → ℕ
cancels_left None = 1
cancels_left (Some q) = 0

-- the next suspend, where none is in force
abbrev pub suspends_left : ℕ → ℕ
suspends_left zero = 1
suspends_left (suc n) = 0

-- the page's calls: a resume is one message, and makes room for a suspend
abbrev pub calls_left : ChannelPlan → ℕ → ℕ
calls_left c next = 2 * (length c.controls - next)

-- a piece that waits brings what says that it was read, a stop the end, and the question on a redirect its answer; a cancel
-- that waits sends its message in place of another cancel
abbrev pub event_ups : ChildEvent → ℕ
event_ups (Start code s) = 0
event_ups (Bytes o p s) = 1
event_ups (Stop s) = 1
event_ups (Redirect1 h) = 1
event_ups (Redirect3 h) = 0
event_ups (Cancel s) = 0

-- a callback says at its end that a piece was read, or that the load is over
abbrev pub callback_ups : ChildEvent → ℕ
callback_ups (Start code s) = 0
callback_ups (Bytes o p s) = 1
callback_ups (Stop s) = 1
callback_ups (Redirect1 h) = 0
callback_ups (Redirect3 h) = 0
callback_ups (Cancel s) = 0

abbrev pub running_ups : Option (Target × ChildEvent) → ℕ
running_ups None = 0
running_ups (Some r) = callback_ups r.1

-- the answer of an open question
abbrev pub question_ups : Option ℕ → ℕ
question_ups None = 0
question_ups (Some h) = 1

-- a message that is held brings one event at most
abbrev pub ups_left : ChannelPlan → ChildState → ℕ
ups_left c s =
    until s.opened
    + cancels_left s.kept
    + suspends_left s.suspends
    + until s.broken
    + calls_left c s.next
    + length s.hold.kept
    + sum_of event_ups s.queue.waiting
    + running_ups s.running
    + question_ups s.question

-- Entries of the trace

abbrev pub event_shown : ChildEvent → ℕ
event_shown (Start code s) = 1
event_shown (Bytes o p s) = 1
event_shown (Stop s) = 1
event_shown (Redirect1 h) = 0
event_shown (Redirect3 h) = 0
event_shown (Cancel s) = 0

-- a break offers a start and a stop at most
abbrev pub shown_left : ChildState → ℕ
shown_left s = 2 * until s.broken + length s.hold.kept + sum_of event_shown s.queue.waiting

-- THE LAWS OF A CHILD

-- with M messages taken of the main lane, B of the background lane and G calls in the plan, a child has sent at most
-- M + B + 2G + 4 messages
abbrev pub ChildSendsLaw : Type 0
ChildSendsLaw = (c : ChannelPlan) (steps : List ChildStep) → Accepted c →
    let s = child_after c steps in
    length s.sent ≤ length (mains_taken s.journal) + length (backs_taken s.journal) + 2 * length c.controls + 4

-- and shown at most 2M + B + 2 entries
abbrev pub ChildShowsLaw : Type 0
ChildShowsLaw = (c : ChannelPlan) (steps : List ChildStep) → Accepted c →
    let s = child_after c steps in
    length s.trace ≤ 2 * length (mains_taken s.journal) + length (backs_taken s.journal) + 2

-- both stay so with what the child may still send and show of what it has taken
abbrev pub ChildLeftLaw : Type 0
ChildLeftLaw = (c : ChannelPlan) (steps : List ChildStep) → Accepted c →
    let s = child_after c steps in
    (length s.sent + ups_left c s ≤ length (mains_taken s.journal) + length (backs_taken s.journal) + 2 * length c.controls + 4)
    × (length s.trace + shown_left s ≤ 2 * length (mains_taken s.journal) + length (backs_taken s.journal) + 2)

-- so, whatever its two down rings give it, which is at most their capacities, a child's up ring has four free places at each
-- moment, and its delivery ring one
abbrev pub ChildRoomLaw : Type 0
ChildRoomLaw = (c : ChannelPlan) (steps : List ChildStep) → Accepted c →
    let s = child_after c steps in
    length (mains_taken s.journal) ≤ main_capacity c → length (backs_taken s.journal) ≤ back_capacity c →
    (length s.sent + 4 ≤ up_capacity c) × (length s.trace + 1 ≤ delivery_capacity c)

-- THE LAWS OF A PARENT

-- with H hops and N pieces in the plan's body, a parent sends fewer than 2H messages on the main lane, and hands at most N + 2
-- to its background half
abbrev pub ParentSendsLaw : Type 0
ParentSendsLaw = (c : ChannelPlan) (steps : List ParentStep) → Accepted c →
    let j = (parent_after c steps).journal in
    (length (mains_sent j) < 2 * length c.hops) × (length (backs_sent j) ≤ length (body_of c) + 2)

-- so both of its rings have two free places at each moment
abbrev pub ParentRoomLaw : Type 0
ParentRoomLaw = (c : ChannelPlan) (steps : List ParentStep) → Accepted c →
    let j = (parent_after c steps).journal in
    (length (mains_sent j) + 2 ≤ main_capacity c) × (length (backs_sent j) + 2 ≤ inner_capacity c)

-- the half has moved on the first n of them, whatever n: at most N + 2, so the ring on to the child has three free places
abbrev pub HalfRoomLaw : Type 0
HalfRoomLaw = (c : ChannelPlan) (steps : List ParentStep) (n : ℕ) → Accepted c →
    let moved = take n (backs_sent (parent_after c steps).journal) in
    (length moved ≤ length (body_of c) + 2) × (length moved + 3 ≤ back_capacity c)
