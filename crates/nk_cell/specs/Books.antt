-- A child's book, and what its steps do. This project's own.
use Rattle.std.specs.Prelude.{ℕ, ◌≡◌, ◌⊎◌, true, false, List, [], ◌∷◌, ◌++◌, length, drop}
use Rattle.nk_base.specs.declared.status.Moved.{Moved}
use Rattle.nk_base.specs.declared.status.Moved.TheVariants.{Did, Idle}
use Rattle.nk_base.specs.declared.message.MainMsg.{MainMsg}
use Rattle.nk_base.specs.declared.message.BackMsg.{BackMsg}
use Rattle.nk_base.specs.declared.message.UpMsg.{UpMsg}
use Rattle.nk_base.specs.declared.message.Entry.{Entry}
use Rattle.nk_base.specs.Status.{moved_if}
use Rattle.nk_plan.specs.declared.step.Step.{Step}
use Rattle.nk_plan.specs.declared.step.Step.TheVariants.{Act, Verdict, Fetch, Up, Forward, Main, Back, Release, Begin, Finish, Read}
use Rattle.nk_plan.specs.declared.step.ChildStep.{ChildStep}
use Rattle.nk_plan.specs.declared.step.ChildStep.TheVariants as child
use Rattle.nk_plan.specs.Accepted.{Accepted}
use Rattle.nk_plan.specs.Capacity.{main_capacity, back_capacity}
use Rattle.nk_plan.specs.Journal.{mains_taken, backs_taken}
use Rattle.nk_plan.specs.Child.{child_step}
use Rattle.nk_plan.specs.Run.{state_of, sends_of, trace_of, IsChildRun}
use Rattle.nk_plan.specs.Enabled.{child_enabled}
use Rattle.nk_child.specs.Views.{ChildView}

-- a channel's number, its child, and its four lanes: what was taken from the two down lanes, and what their ends know of and
-- have not given; what was sent on the up lane, and delivered
pub record BookState : Type 0 where
  pub number : ℕ
  pub child : ChildView
  pub main_taken : List MainMsg
  pub main_left : List MainMsg
  pub back_taken : List BackMsg
  pub back_left : List BackMsg
  pub up_sent : List UpMsg
  pub delivered : List Entry

-- WHAT A BOOK KEEPS

-- the child is what its journal tells, and what its journal and plan tell was taken, sent and delivered on its lanes
pub record IsKept (b : BookState) : Type 0 where
  pub accepted : Accepted b.child.plan
  pub run : IsChildRun b.child.plan b.child.state.journal
  pub state : b.child.state ≡ state_of b.child.plan b.child.state.journal
  pub mains : b.main_taken ≡ mains_taken b.child.state.journal
  pub backs : b.back_taken ≡ backs_taken b.child.state.journal
  pub sends : b.up_sent ≡ sends_of b.child.plan b.child.state.journal
  pub trace : b.delivered ≡ trace_of b.child.plan b.child.state.journal

-- A STEP

-- the steps of a child
abbrev pub IsOfChild : Step → Type 0
IsOfChild Act = Unit {0}
IsOfChild Verdict = Unit {0}
IsOfChild Fetch = ⊥
IsOfChild Up = ⊥
IsOfChild Forward = ⊥
IsOfChild Main = Unit {0}
IsOfChild Back = Unit {0}
IsOfChild Release = Unit {0}
IsOfChild (Begin t) = Unit {0}
IsOfChild (Finish t) = Unit {0}
IsOfChild (Read reader) = ⊥

-- a step that takes no message
abbrev pub TakesNone : ChildStep → Type 0
TakesNone child.Act = Unit {0}
TakesNone child.Verdict = Unit {0}
TakesNone (child.Main m) = ⊥
TakesNone (child.Back m) = ⊥
TakesNone child.Release = Unit {0}
TakesNone (child.Begin t) = Unit {0}
TakesNone (child.Finish t) = Unit {0}

-- the child makes a step: what it has sent and shown more is sent and delivered
abbrev pub turned : ChildStep → BookState → BookState
turned x b =
    let s = child_step b.child.plan x b.child.state in
    record b {
      child = record b.child { state = s };
      up_sent = b.up_sent ++ drop (length b.child.state.sent) s.sent;
      delivered = b.delivered ++ drop (length b.child.state.trace) s.trace;
    }

-- nothing was taken, sent or delivered; a look may have found more on a lane
abbrev pub IsSame : BookState → BookState → Type 0
IsSame a b = b ≡ record a { main_left = b.main_left; back_left = b.back_left }

-- such a step, from a to b
abbrev pub IsTurn : ChildStep → Moved → BookState → BookState → Type 0
IsTurn x moved a b = (moved ≡ moved_if (child_enabled a.child.plan x a.child.state)) × (b ≡ turned x a)

-- a step that takes the next message of the main lane. It is idle where the child is broken, and where a look knew of no
-- message, or all were taken that can be sent
abbrev pub IsMain : Moved → BookState → BookState → Type 0
IsMain Did a b =
    (m : MainMsg)
    × (a.child.state.broken ≡ false)
    × (b ≡ record (turned (child.Main m) a) { main_taken = a.main_taken ++ m ∷ []; main_left = b.main_left })
IsMain Idle a b =
    IsSame a b
    × ((a.child.state.broken ≡ true) ⊎ ((b.main_left ≡ []) ⊎ (length b.main_taken ≡ main_capacity b.child.plan)))

-- and of the background lane
abbrev pub IsBack : Moved → BookState → BookState → Type 0
IsBack Did a b =
    (m : BackMsg)
    × (a.child.state.broken ≡ false)
    × (b ≡ record (turned (child.Back m) a) { back_taken = a.back_taken ++ m ∷ []; back_left = b.back_left })
IsBack Idle a b =
    IsSame a b
    × ((a.child.state.broken ≡ true) ⊎ ((b.back_left ≡ []) ⊎ (length b.back_taken ≡ back_capacity b.child.plan)))

-- what a step answers, from a to b
abbrev pub IsMade : Step → Moved → BookState → BookState → Type 0
IsMade Act moved a b = IsTurn child.Act moved a b
IsMade Verdict moved a b = IsTurn child.Verdict moved a b
IsMade Fetch moved a b = ⊥
IsMade Up moved a b = ⊥
IsMade Forward moved a b = ⊥
IsMade Main moved a b = IsMain moved a b
IsMade Back moved a b = IsBack moved a b
IsMade Release moved a b = IsTurn child.Release moved a b
IsMade (Begin t) moved a b = IsTurn (child.Begin t) moved a b
IsMade (Finish t) moved a b = IsTurn (child.Finish t) moved a b
IsMade (Read reader) moved a b = ⊥
