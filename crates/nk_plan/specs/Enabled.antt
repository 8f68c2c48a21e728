-- Which steps are enabled, on each side and of a whole channel. A step that is not enabled is Idle: it changes nothing.
-- This project's own.
use Rattle.std.specs.Prelude.{ℕ, ◌≡◌, ◌≤◌, Bool, true, false, not, ◌&&◌, ◌||◌, nat_lt, length, List, slice_get, slice_index, Option, Some, None, is_some, int_lt, pos}
use Rattle.nk_base.specs.declared.status.Status.{Status}
use Rattle.nk_base.specs.declared.status.Target.{Target}
use Rattle.nk_base.specs.Queue.{has_some, is_target, target_number}
use Rattle.nk_plan.specs.declared.plan.ChannelPlan.{ChannelPlan}
use Rattle.nk_plan.specs.declared.step.Phase.{Phase}
use Rattle.nk_plan.specs.declared.step.Phase.TheVariants.{Closed, Ready, Asking, Follow, Body, Done}
use Rattle.nk_plan.specs.declared.step.Step.{Step}
use Rattle.nk_plan.specs.declared.step.Step.TheVariants.{Act, Verdict, Fetch, Up, Forward, Main, Back, Release, Begin, Finish, Read}
use Rattle.nk_plan.specs.declared.step.ParentStep.{ParentStep}
use Rattle.nk_plan.specs.declared.step.ChildStep.{ChildStep}
use Rattle.nk_plan.specs.Journal.{backs_sent}
use Rattle.nk_plan.specs.Plan.{pieces_at}
use Rattle.nk_plan.specs.Parent.{ParentState}
use Rattle.nk_plan.specs.Child.{ChildState, is_due, runs_on}
use Rattle.nk_plan.specs.Channel.{Channel, main_lane, back_lane, up_lane}
use Rattle.nk_base.specs.declared.status.Target.TheVariants as target
use Rattle.nk_plan.specs.declared.step.ParentStep.TheVariants as parent
use Rattle.nk_plan.specs.declared.step.ChildStep.TheVariants as child

-- whether a row of the child's table is enabled, where a message to be taken is there
abbrev pub child_enabled : ChannelPlan → ChildStep → ChildState → Bool
child_enabled c child.Act s = not c.closed && (not s.opened || is_due s (slice_get c.controls s.next))
child_enabled c child.Verdict s = not s.broken && is_some s.question
child_enabled c (child.Main m) s = not s.broken
child_enabled c (child.Back m) s = not s.broken
child_enabled c child.Release s = not s.broken && is_some s.hold.report
child_enabled c (child.Begin t) s =
    not (runs_on s.running t) && (is_target s.queue.flushing t || nat_lt 0 (slice_index s.queue.posted (target_number t)))
child_enabled c (child.Finish t) s = runs_on s.running t

-- a body waits only where no failure is kept, a piece is next, and there is no credit
abbrev pub body_enabled : ParentState → Option Status → List (List ℕ) → Bool
body_enabled s (Some q) pieces = true
body_enabled s None pieces = not (is_some (slice_get pieces s.piece)) || int_lt (pos 0) s.credit

abbrev pub phase_enabled : ChannelPlan → ParentState → Phase → Bool
phase_enabled c s Closed = false
phase_enabled c s Ready = true
phase_enabled c s Asking = false
phase_enabled c s Follow = true
phase_enabled c s Body = body_enabled s s.kept (pieces_at c s.hop)
phase_enabled c s Done = false

-- whether a row of the parent's table is enabled
abbrev pub parent_enabled : ChannelPlan → ParentStep → ParentState → Bool
parent_enabled c (parent.Up m) s = true
parent_enabled c parent.Fetch s = not s.suspended && phase_enabled c s s.phase

-- whether a step of a whole channel is enabled; a read is the listener's
abbrev pub channel_enabled : ChannelPlan → Step → Channel → Bool
channel_enabled c Act w = child_enabled c child.Act w.child
channel_enabled c Verdict w = child_enabled c child.Verdict w.child
channel_enabled c Fetch w = parent_enabled c parent.Fetch w.parent
channel_enabled c Up w = has_some (up_lane w)
channel_enabled c Forward w = nat_lt w.forwarded (length (backs_sent w.parent.journal))
channel_enabled c Main w = not w.child.broken && has_some (main_lane w)
channel_enabled c Back w = not w.child.broken && has_some (back_lane w)
channel_enabled c Release w = child_enabled c child.Release w.child
channel_enabled c (Begin t) w = child_enabled c (child.Begin t) w.child
channel_enabled c (Finish t) w = child_enabled c (child.Finish t) w.child
channel_enabled c (Read reader) w = false

-- What a drain tries: of the steps on a target, those on the main target and on the workers 1 to 16

abbrev pub IsTried : Target → Type 0
IsTried target.Main = Unit {0}
IsTried (target.Worker w) = (1 ≤ w) × (w ≤ 16)
IsTried target.Back = ⊥

abbrev pub IsTriedStep : Step → Type 0
IsTriedStep Act = Unit {0}
IsTriedStep Verdict = Unit {0}
IsTriedStep Fetch = Unit {0}
IsTriedStep Up = Unit {0}
IsTriedStep Forward = Unit {0}
IsTriedStep Main = Unit {0}
IsTriedStep Back = Unit {0}
IsTriedStep Release = Unit {0}
IsTriedStep (Begin t) = IsTried t
IsTriedStep (Finish t) = IsTried t
IsTriedStep (Read reader) = Unit {0}

-- no step that a drain tries is enabled
abbrev pub IsSettled : ChannelPlan → Channel → Type 0
IsSettled c w = (x : Step) → IsTriedStep x → channel_enabled c x w ≡ false
