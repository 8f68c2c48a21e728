-- Where the data of a child goes: the pieces in what it took, holds back, has waiting, ran, dropped and showed. This
-- project's own.
use Rattle.std.specs.Prelude.{ℕ, ◌≡◌, ◌+◌, ◌≤◌, Bool, true, false, List, [], ◌∷◌, ◌++◌, length, slice_get, Some, None}
use Rattle.nk_base.specs.declared.status.Status.{Status}
use Rattle.nk_base.specs.declared.status.Target.{Target}
use Rattle.nk_base.specs.declared.message.BackMsg.{BackMsg}
use Rattle.nk_base.specs.declared.message.BackMsg.TheVariants as back
use Rattle.nk_base.specs.declared.message.Entry.{Entry}
use Rattle.nk_base.specs.declared.message.Entry.TheVariants as shown
use Rattle.nk_plan.specs.declared.plan.ChannelPlan.{ChannelPlan}
use Rattle.nk_plan.specs.declared.event.ChildEvent.{ChildEvent}
use Rattle.nk_plan.specs.declared.event.ChildEvent.TheVariants.{Start, Bytes, Stop, Redirect1, Redirect3, Cancel}
use Rattle.nk_plan.specs.declared.journal.ChildEntry.{ChildEntry}
use Rattle.nk_plan.specs.declared.journal.ChildEntry.TheVariants as child
use Rattle.nk_plan.specs.declared.step.ChildStep.{ChildStep}
use Rattle.nk_base.specs.Status.{is_failure}
use Rattle.nk_plan.specs.Journal.{is_data, count_of, backs_taken}
use Rattle.nk_plan.specs.Child.{ChildState, child_after}
use Rattle.nk_half_laws.specs.Sums.{sum_of}

-- IN ORDER: where each piece begins, and how long it is

abbrev pub shown_in : Entry → List (ℕ × ℕ)
shown_in (shown.Start code s) = []
shown_in (shown.Bytes o p) = (o, length p) ∷ []
shown_in (shown.Stop s trailers) = []

abbrev pub data_shown : List Entry → List (ℕ × ℕ)
data_shown [] = []
data_shown (e ∷ t) = shown_in e ++ data_shown t

abbrev pub run_in : ChildEntry → List (ℕ × ℕ)
run_in (child.RunBytes t o n) = (o, n) ∷ []
run_in _ = []

abbrev pub data_run : List ChildEntry → List (ℕ × ℕ)
data_run [] = []
data_run (e ∷ j) = run_in e ++ data_run j

-- IN SUM: each piece has a weight, by where it begins and what it is. Where each weighs 1, the sum is their number; where
-- those at one place or with certain bytes weigh 1 and others 0, it is the number of these

abbrev pub shown_weight : (ℕ → List ℕ → ℕ) → Entry → ℕ
shown_weight w (shown.Start code s) = 0
shown_weight w (shown.Bytes o p) = w o p
shown_weight w (shown.Stop s trailers) = 0

abbrev pub event_weight : (ℕ → List ℕ → ℕ) → ChildEvent → ℕ
event_weight w (Start code s) = 0
event_weight w (Bytes o p s) = w o p
event_weight w (Stop s) = 0
event_weight w (Redirect1 h) = 0
event_weight w (Redirect3 h) = 0
event_weight w (Cancel s) = 0

abbrev pub message_weight : (ℕ → List ℕ → ℕ) → BackMsg → ℕ
message_weight w (back.StartSent h) = 0
message_weight w (back.Start h st head) = 0
message_weight w (back.Bytes h st o p) = w o p
message_weight w (back.Stop h st trailers) = 0

-- the journal tells where a piece begins, and not its bytes: there the weight is by its place alone

abbrev pub run_weight : (ℕ → ℕ) → ChildEntry → ℕ
run_weight v (child.RunBytes t o n) = v o
run_weight v _ = 0

abbrev pub drop_weight : (ℕ → ℕ) → ChildEntry → ℕ
drop_weight v (child.RunDrop t o s) = v o
drop_weight v _ = 0

-- what a child has taken, and what of it waits or is held
abbrev pub data_taken : (ℕ → List ℕ → ℕ) → ChildState → ℕ
data_taken w s = sum_of (message_weight w) (backs_taken s.journal)

abbrev pub data_left : (ℕ → List ℕ → ℕ) → ChildState → ℕ
data_left w s = sum_of (event_weight w) s.queue.waiting + sum_of (message_weight w) s.hold.kept

-- a piece by its place; each piece the same
abbrev pub by_place : (ℕ → ℕ) → ℕ → List ℕ → ℕ
by_place v o p = v o

abbrev pub one_each : ℕ → List ℕ → ℕ
one_each o p = 1

-- the drop of a piece
abbrev pub is_drop : ChildEntry → Bool
is_drop (child.RunDrop t o s) = true
is_drop _ = false

-- THE LAWS

-- the data entries of the trace are, in order, the runs of pieces in the journal
abbrev pub DataOrderLaw : Type 0
DataOrderLaw = (c : ChannelPlan) (steps : List ChildStep) → let s = child_after c steps in data_shown s.trace ≡ data_run s.journal

-- what ran, was dropped and is left is within what was taken, and all of it while the child is not broken: whatever the
-- weights of places, so at each place
abbrev pub DataLaw : Type 0
DataLaw = (c : ChannelPlan) (steps : List ChildStep) (v : ℕ → ℕ) →
    let s = child_after c steps in
    let w = by_place v in
    (sum_of (run_weight v) s.journal + sum_of (drop_weight v) s.journal + data_left w s ≤ data_taken w s)
    × (s.broken ≡ false → sum_of (run_weight v) s.journal + sum_of (drop_weight v) s.journal + data_left w s ≡ data_taken w s)

-- the same in numbers of pieces
abbrev pub DataCountLaw : Type 0
DataCountLaw = (c : ChannelPlan) (steps : List ChildStep) →
    let s = child_after c steps in
    (count_of is_data s.journal + count_of is_drop s.journal + data_left one_each s ≤ data_taken one_each s)
    × (s.broken ≡ false → count_of is_data s.journal + count_of is_drop s.journal + data_left one_each s ≡ data_taken one_each s)

-- what was shown and is left is within what was taken, and all of it while the child is not broken and keeps no failure:
-- whatever the weights of pieces, so for each piece, place and bytes
abbrev pub ShownLaw : Type 0
ShownLaw = (c : ChannelPlan) (steps : List ChildStep) (w : ℕ → List ℕ → ℕ) →
    let s = child_after c steps in
    (sum_of (shown_weight w) s.trace + data_left w s ≤ data_taken w s)
    × (s.broken ≡ false → s.kept ≡ None → sum_of (shown_weight w) s.trace + data_left w s ≡ data_taken w s)

-- where the journal has the drop of a piece, the status there is the failure that is kept
abbrev pub DropsLaw : Type 0
DropsLaw = (c : ChannelPlan) (steps : List ChildStep) (i : ℕ) (t : Target) (o : ℕ) (q : Status) →
    let s = child_after c steps in
    slice_get s.journal i ≡ Some (child.RunDrop t o q) → (s.kept ≡ Some q) × (is_failure q ≡ true)
