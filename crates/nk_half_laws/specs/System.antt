-- The two halves with lanes of any contents: what a half sends stands behind what is on its way, and what is taken is the
-- first of a lane. What a lane holds need not be what the other half sent. This project's own.
use Rattle.std.specs.Prelude.{ℕ, zero, suc, ◌≡◌, ◌+◌, ◌*◌, Bool, true, not, ◌&&◌, List, [], ◌∷◌, ◌++◌, length, drop}
use Rattle.nk_base.specs.declared.status.Target.{Target}
use Rattle.nk_base.specs.declared.message.MainMsg.{MainMsg}
use Rattle.nk_base.specs.declared.message.BackMsg.{BackMsg}
use Rattle.nk_base.specs.declared.message.UpMsg.{UpMsg}
use Rattle.nk_base.specs.declared.message.Entry.{Entry}
use Rattle.nk_base.specs.Queue.{has_some}
use Rattle.nk_plan.specs.declared.plan.ChannelPlan.{ChannelPlan}
use Rattle.nk_plan.specs.Journal.{mains_sent, backs_sent}
use Rattle.nk_plan.specs.Parent.{ParentState, parent_step}
use Rattle.nk_plan.specs.Child.{ChildState, child_step}
use Rattle.nk_plan.specs.Enabled.{child_enabled, parent_enabled}
use Rattle.nk_half_laws.specs.Work.{up_weight, entry_weight, main_weight, back_weight, half_weight, child_work, parent_work, queue_number, IsLower}
use Rattle.nk_plan.specs.declared.step.ChildStep.TheVariants as child
use Rattle.nk_plan.specs.declared.step.ParentStep.TheVariants as parent

-- the two halves; the lanes, of which the background lane has a part at the parent's half; and the entries that were shown and
-- are still to be taken up by whoever they were shown to
pub record System : Type 0 where
  pub parent : ParentState
  pub child : ChildState
  pub mains : List MainMsg
  pub half : List BackMsg
  pub backs : List BackMsg
  pub ups : List UpMsg
  pub shown : List Entry

-- what a half does, and what moves
pub data Move : Type 0 where
  Act : Move
  Verdict : Move
  Release : Move
  Begin : (t : Target) → Move
  Finish : (t : Target) → Move
  -- the child takes the first message of a down lane
  Main : Move
  Back : Move
  Fetch : Move
  -- the parent takes the first message of the up lane
  Up : Move
  -- the first message at the half is moved on; or it is taken there, and the parent hears a message that no child sent
  Forward : Move
  Direct : (m : UpMsg) → Move
  -- the first entry that was shown is taken up; or the parent hears a message for it
  See : Move
  Answer : (m : UpMsg) → Move

-- the child steps, and the parent does: what they send and show goes to the ends

abbrev pub child_moves : ChildState → System → System
child_moves s w =
    record w {
      child = s;
      ups = w.ups ++ drop (length w.child.sent) s.sent;
      shown = w.shown ++ drop (length w.child.trace) s.trace;
    }

abbrev pub parent_moves : ParentState → System → System
parent_moves p w =
    record w {
      parent = p;
      mains = w.mains ++ drop (length (mains_sent w.parent.journal)) (mains_sent p.journal);
      half = w.half ++ drop (length (backs_sent w.parent.journal)) (backs_sent p.journal);
    }

abbrev pub takes_main : ChannelPlan → List MainMsg → System → System
takes_main c [] w = w
takes_main c (m ∷ ms) w = child_moves (child_step c (child.Main m) w.child) (record w { mains = ms })

abbrev pub takes_back : ChannelPlan → List BackMsg → System → System
takes_back c [] w = w
takes_back c (m ∷ ms) w = child_moves (child_step c (child.Back m) w.child) (record w { backs = ms })

abbrev pub takes_up : ChannelPlan → List UpMsg → System → System
takes_up c [] w = w
takes_up c (m ∷ ms) w = parent_moves (parent_step c (parent.Up m) w.parent) (record w { ups = ms })

abbrev pub moves_on : List BackMsg → System → System
moves_on [] w = w
moves_on (m ∷ ms) w = record w { half = ms; backs = w.backs ++ m ∷ [] }

abbrev pub takes_half : ChannelPlan → UpMsg → List BackMsg → System → System
takes_half c u [] w = w
takes_half c u (m ∷ ms) w = parent_moves (parent_step c (parent.Up u) w.parent) (record w { half = ms })

abbrev pub takes_shown : List Entry → System → System
takes_shown [] w = w
takes_shown (e ∷ es) w = record w { shown = es }

abbrev pub answers_shown : ChannelPlan → UpMsg → List Entry → System → System
answers_shown c u [] w = w
answers_shown c u (e ∷ es) w = parent_moves (parent_step c (parent.Up u) w.parent) (record w { shown = es })

abbrev pub move : ChannelPlan → Move → System → System
move c Act w = child_moves (child_step c child.Act w.child) w
move c Verdict w = child_moves (child_step c child.Verdict w.child) w
move c Release w = child_moves (child_step c child.Release w.child) w
move c (Begin t) w = child_moves (child_step c (child.Begin t) w.child) w
move c (Finish t) w = child_moves (child_step c (child.Finish t) w.child) w
move c Main w = takes_main c w.mains w
move c Back w = takes_back c w.backs w
move c Fetch w = parent_moves (parent_step c parent.Fetch w.parent) w
move c Up w = takes_up c w.ups w
move c Forward w = moves_on w.half w
move c (Direct u) w = takes_half c u w.half w
move c See w = takes_shown w.shown w
move c (Answer u) w = answers_shown c u w.shown w

abbrev pub can_move : ChannelPlan → Move → System → Bool
can_move c Act w = child_enabled c child.Act w.child
can_move c Verdict w = child_enabled c child.Verdict w.child
can_move c Release w = child_enabled c child.Release w.child
can_move c (Begin t) w = child_enabled c (child.Begin t) w.child
can_move c (Finish t) w = child_enabled c (child.Finish t) w.child
can_move c Main w = not w.child.broken && has_some w.mains
can_move c Back w = not w.child.broken && has_some w.backs
can_move c Fetch w = parent_enabled c parent.Fetch w.parent
can_move c Up w = has_some w.ups
can_move c Forward w = has_some w.half
can_move c (Direct u) w = has_some w.half
can_move c See w = has_some w.shown
can_move c (Answer u) w = has_some w.shown

-- THE MEASURE: both halves' work, and all that is on its way by its weight

abbrev pub system_work : ChannelPlan → System → ℕ
system_work c w =
    parent_work c w.parent
    + child_work c w.child
    + main_weight * length w.mains
    + half_weight * length w.half
    + back_weight * length w.backs
    + up_weight * length w.ups
    + entry_weight * length w.shown

-- w' has less to do than w, or as much and the queue's number is lower
abbrev pub SystemFalls : ChannelPlan → System → System → Type 0
SystemFalls c w' w = IsLower (system_work c w') (queue_number w'.child.queue) (system_work c w) (queue_number w.child.queue)

-- BOTH IN ONE NUMBER. The queue's number is at most four times the work, whatever the lanes' lengths.

-- 4 times the sum of the numbers up to this one
abbrev pub stairs : ℕ → ℕ
stairs zero = 0
stairs (suc n) = stairs n + 4 * suc n

abbrev pub moves_left : ChannelPlan → System → ℕ
moves_left c w = stairs (system_work c w) + queue_number w.child.queue

-- the system after these moves, of which the newest stands first
abbrev pub system_after : ChannelPlan → System → List Move → System
system_after c w [] = w
system_after c w (x ∷ xs) = move c x (system_after c w xs)

-- each of these moves could be made when its turn came
abbrev pub AllMoved : ChannelPlan → System → List Move → Type 0
AllMoved c w [] = Unit {0}
AllMoved c w (x ∷ xs) = (can_move c x (system_after c w xs) ≡ true) × AllMoved c w xs
