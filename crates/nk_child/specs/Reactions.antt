-- What the page's calls send up. This project's own.
use Rattle.std.specs.Prelude.{ℕ, ◌+◌, Bool, true, ◌||◌, nat_lt, nat_le, if◌then◌else◌, ◌==◌, List, [], ◌∷◌, ◌++◌, Option, Some, None, is_some}
use Rattle.nk_base.specs.declared.status.Status.{Status}
use Rattle.nk_base.specs.declared.message.UpMsg.{UpMsg}
use Rattle.nk_base.specs.declared.message.UpMsg.TheVariants as up
use Rattle.nk_plan.specs.declared.plan.Act.{Act}
use Rattle.nk_plan.specs.declared.plan.Control.{Control}
use Rattle.nk_plan.specs.declared.plan.Reaction.{Reaction}
use Rattle.nk_plan.specs.declared.plan.Reaction.TheVariants as reaction
use Rattle.nk_plan.specs.Child.{ChildState}

-- the first suspend is sent, and the resume of the last one
abbrev pub suspend_sends : ChildState → List UpMsg
suspend_sends s = if s.stopped then [] else (if s.suspends == 0 then up.Suspend ∷ [] else [])

abbrev pub resume_sends : ChildState → List UpMsg
resume_sends s = if s.stopped || (s.suspends == 0) then [] else (if s.suspends == 1 then up.Resume ∷ [] else [])

-- the first cancel is sent
abbrev pub cancel_sends : Status → ChildState → List UpMsg
cancel_sends status s = if s.stopped || is_some s.kept then [] else up.Cancel status ∷ []

-- the act of a control that is due
abbrev pub due_act : ChildState → Option Control → Option Act
due_act s None = None
due_act s (Some control) = if nat_le control.after s.finished then Some control.act else None

-- What the reactions of a start send, one after the other, where the channel is suspended, or has failed

abbrev pub reaction_sends : (suspended failed : Bool) → Reaction → List UpMsg
reaction_sends suspended failed (reaction.StartRetarget w) = []
reaction_sends suspended failed reaction.StartSuspend = if suspended then [] else up.Suspend ∷ []
reaction_sends suspended failed (reaction.StartCancel status) = if failed then [] else up.Cancel status ∷ []
reaction_sends suspended failed (reaction.StartFail status) = if failed then [] else up.Cancel status ∷ []
reaction_sends suspended failed (reaction.BytesFail n status) = []

abbrev pub suspended_by : Bool → Reaction → Bool
suspended_by suspended (reaction.StartRetarget w) = suspended
suspended_by suspended reaction.StartSuspend = true
suspended_by suspended (reaction.StartCancel status) = suspended
suspended_by suspended (reaction.StartFail status) = suspended
suspended_by suspended (reaction.BytesFail n status) = suspended

abbrev pub failed_by : Bool → Reaction → Bool
failed_by failed (reaction.StartRetarget w) = failed
failed_by failed reaction.StartSuspend = failed
failed_by failed (reaction.StartCancel status) = true
failed_by failed (reaction.StartFail status) = true
failed_by failed (reaction.BytesFail n status) = failed

abbrev pub reactions_send : (suspended failed : Bool) → List Reaction → List UpMsg
reactions_send suspended failed [] = []
reactions_send suspended failed (r ∷ rs) =
    reaction_sends suspended failed r ++ reactions_send (suspended_by suspended r) (failed_by failed r) rs

-- so many messages they may send
abbrev pub sends_left : (suspended failed : Bool) → ℕ
sends_left suspended failed = (if suspended then 0 else 1) + (if failed then 0 else 1)

-- after the stop they send nothing
abbrev pub start_sends : ChildState → List Reaction → List UpMsg
start_sends s rs = if s.stopped then [] else reactions_send (nat_lt 0 s.suspends) (is_some s.kept) rs

-- the failure of data callback n, if this reaction names it
abbrev pub failure_of : Reaction → ℕ → Option Status
failure_of (reaction.StartRetarget w) n = None
failure_of reaction.StartSuspend n = None
failure_of (reaction.StartCancel status) n = None
failure_of (reaction.StartFail status) n = None
failure_of (reaction.BytesFail k status) n = if k == n then Some status else None
