-- Halves of which no step is enabled, what a child's queue stands at, and which suspend is in force. This project's own.
use Rattle.std.specs.Prelude.{ℕ, ◌≡◌, ◌⊎◌, Bool, true, false, ◌||◌, List, [], ◌∷◌, slice_get, Option, Some, None, is_some, pos, ◌≤ℤ◌, ◌↔◌, ◌<◌}
use Rattle.nk_base.specs.declared.status.Target.{Target}
use Rattle.nk_base.specs.declared.message.MainMsg.{MainMsg}
use Rattle.nk_base.specs.declared.message.BackMsg.{BackMsg}
use Rattle.nk_base.specs.declared.message.UpMsg.{UpMsg}
use Rattle.nk_base.specs.Queue.{is_target, posted_to}
use Rattle.nk_plan.specs.declared.plan.ChannelPlan.{ChannelPlan}
use Rattle.nk_plan.specs.declared.event.ChildEvent.{ChildEvent}
use Rattle.nk_plan.specs.declared.event.ChildEvent.TheVariants.{Start, Bytes, Stop, Redirect1, Redirect3, Cancel}
use Rattle.nk_plan.specs.declared.journal.ParentEntry.{ParentEntry}
use Rattle.nk_plan.specs.declared.step.ChildStep.{ChildStep}
use Rattle.nk_plan.specs.declared.step.Phase.{Phase}
use Rattle.nk_plan.specs.declared.step.Phase.TheVariants.{Closed, Ready, Asking, Follow, Body, Done}
use Rattle.nk_base.specs.Status.{or_else}
use Rattle.nk_plan.specs.Journal.{is_true, ups_taken}
use Rattle.nk_plan.specs.Plan.{pieces_at}
use Rattle.nk_plan.specs.Child.{ChildState, child_after}
use Rattle.nk_plan.specs.Parent.{ParentState, parent_after}
use Rattle.nk_plan.specs.Enabled.{IsTried, child_enabled, parent_enabled}
use Rattle.nk_plan.specs.declared.step.ParentStep.{ParentStep}
use Rattle.nk_plan.specs.Accepted.{Accepted}
use Rattle.nk_base.specs.declared.message.MainMsg.TheVariants as main
use Rattle.nk_base.specs.declared.message.BackMsg.TheVariants as back
use Rattle.nk_base.specs.declared.message.UpMsg.TheVariants as up
use Rattle.nk_plan.specs.declared.journal.ParentEntry.TheVariants as entry
use Rattle.nk_plan.specs.declared.step.ChildStep.TheVariants as step
use Rattle.nk_plan.specs.declared.step.ParentStep.TheVariants as parent

-- A CHILD

-- a step that takes no message and is no call of the page, on a target that a drain tries
abbrev pub IsOwn : ChildStep → Type 0
IsOwn step.Act = ⊥
IsOwn step.Verdict = Unit {0}
IsOwn (step.Main m) = ⊥
IsOwn (step.Back m) = ⊥
IsOwn step.Release = Unit {0}
IsOwn (step.Begin t) = IsTried t
IsOwn (step.Finish t) = IsTried t

-- no such step is enabled
abbrev pub IsSettledChild : ChannelPlan → ChildState → Type 0
IsSettledChild c s = (x : ChildStep) → IsOwn x → child_enabled c x s ≡ false

-- nothing runs, nothing is to run or to be flushed; nothing is to be answered or let go, unless the parent process is gone
pub record IsIdle (s : ChildState) : Type 0 where
  pub running : s.running ≡ None
  pub flushing : s.queue.flushing ≡ None
  pub posted : (t : Target) → posted_to s.queue t ≡ 0
  pub forced : s.queue.forced ≡ 0
  pub question : (s.question ≡ None) ⊎ (s.broken ≡ true)
  pub report : (s.hold.report ≡ None) ⊎ (s.broken ≡ true)

-- how often what runs forces the queue: a start and a stop, once
abbrev pub forced_by : Option (Target × ChildEvent) → ℕ
forced_by None = 0
forced_by (Some (t, Start code st)) = 1
forced_by (Some (t, Bytes o p st)) = 0
forced_by (Some (t, Stop st)) = 1
forced_by (Some (t, Redirect1 h)) = 0
forced_by (Some (t, Redirect3 h)) = 0
forced_by (Some (t, Cancel st)) = 0

-- what runs is on the target of the flush
abbrev pub FlushedBy : Option (Target × ChildEvent) → Option Target → Type 0
FlushedBy None f = Unit {0}
FlushedBy (Some r) f = is_target f r.0 ≡ true

-- WHICH SUSPEND IS IN FORCE

-- what a message says: that the load is suspended (true), that it goes on (false), or neither
abbrev pub says : UpMsg → Option Bool
says up.Open = None
says up.Suspend = Some true
says up.Resume = Some false
says (up.Cancel s) = None
says (up.Verify h s) = None
says (up.BytesRead n) = None
says up.Deleting = None

-- what the last message says that says one of the two
abbrev pub last_said : List UpMsg → Option Bool
last_said [] = None
last_said (m ∷ ms) = or_else (last_said ms) (says m)

-- whether the last suspend or resume is a suspend
abbrev pub ends_suspended : List UpMsg → Bool
ends_suspended ms = is_true (last_said ms)

-- A PARENT

abbrev pub is_failed_open : MainMsg → Bool
is_failed_open (main.Start h s head) = false
is_failed_open (main.FailedOpen h s) = true
is_failed_open (main.Redirect1 h code) = false
is_failed_open (main.Redirect3 h) = false

abbrev pub is_stop : BackMsg → Bool
is_stop (back.Start h s head) = false
is_stop (back.StartSent h) = false
is_stop (back.Bytes h s o p) = false
is_stop (back.Stop h s trailers) = true

abbrev pub is_deleting : UpMsg → Bool
is_deleting up.Open = false
is_deleting up.Suspend = false
is_deleting up.Resume = false
is_deleting (up.Cancel s) = false
is_deleting (up.Verify h s) = false
is_deleting (up.BytesRead n) = false
is_deleting up.Deleting = true

-- a stop or a failed opening was sent, or the page was heard to be done
abbrev pub is_end : ParentEntry → Bool
is_end (entry.Took m) = is_deleting m
is_end (entry.SentMain m) = is_failed_open m
is_end (entry.SentBack m) = is_stop m

abbrev pub has_end : List ParentEntry → Bool
has_end [] = false
has_end (e ∷ j) = is_end e || has_end j

-- a piece is next, no failure is kept, and the page may be sent nothing more
pub record WantsCredit (c : ChannelPlan) (s : ParentState) : Type 0 where
  pub piece : is_some (slice_get (pieces_at c s.hop) s.piece) ≡ true
  pub kept : s.kept ≡ None
  pub credit : s.credit ≤ℤ pos 0

-- in this phase a parent waits for the page, or its load is over
abbrev pub WaitsIn : ChannelPlan → ParentState → Phase → Type 0
WaitsIn c s Closed = Unit {0}
WaitsIn c s Ready = ⊥
WaitsIn c s Asking = Unit {0}
WaitsIn c s Follow = ⊥
WaitsIn c s Body = WantsCredit c s
WaitsIn c s Done = Unit {0}

-- THE LAWS. One without the premise `Accepted` holds of every plan.

-- no step of a child is enabled, but a call of the page and the taking of a message, exactly where it is idle; and where an
-- idle child is not suspended, no event waits
abbrev pub ChildRestLaw : Type 0
ChildRestLaw = (c : ChannelPlan) (steps : List ChildStep) → Accepted c →
    let s = child_after c steps in
    (IsSettledChild c s ↔ IsIdle s) × (IsIdle s → s.suspends ≡ 0 → s.queue.waiting ≡ [])

-- the queue of a child is suspended as often as the child is, and forced while a start or a stop runs; and what runs is on the
-- target of the flush
abbrev pub ChildQueueLaw : Type 0
ChildQueueLaw = (c : ChannelPlan) (steps : List ChildStep) → Accepted c →
    let s = child_after c steps in
    (s.queue.count ≡ s.suspends) × (s.queue.forced ≡ forced_by s.running) × FlushedBy s.running s.queue.flushing

-- a parent's load is over exactly where its journal has the end
abbrev pub ParentEndLaw : Type 0
ParentEndLaw = (c : ChannelPlan) (steps : List ParentStep) →
    let s = parent_after c steps in
    (s.phase ≡ Done) ↔ (has_end s.journal ≡ true)

-- a parent is suspended exactly where the last suspend or resume that it took is a suspend
abbrev pub ParentSuspendLaw : Type 0
ParentSuspendLaw = (c : ChannelPlan) (steps : List ParentStep) →
    let s = parent_after c steps in
    s.suspended ≡ ends_suspended (ups_taken s.journal)

-- a suspend of a child is in force exactly where the last suspend or resume that it sent is a suspend
abbrev pub ChildSuspendLaw : Type 0
ChildSuspendLaw = (c : ChannelPlan) (steps : List ChildStep) →
    let s = child_after c steps in
    (0 < s.suspends) ↔ (ends_suspended s.sent ≡ true)

-- where a parent has taken all that a child has sent, it is suspended exactly where the child is
abbrev pub SuspendsAgreeLaw : Type 0
SuspendsAgreeLaw = (c : ChannelPlan) (xs : List ParentStep) (ys : List ChildStep) →
    let p = parent_after c xs in
    let s = child_after c ys in
    ups_taken p.journal ≡ s.sent → (p.suspended ≡ true) ↔ (0 < s.suspends)

-- a parent that is not suspended may not fetch exactly where it waits for the page, or its load is over
abbrev pub ParentRestLaw : Type 0
ParentRestLaw = (c : ChannelPlan) (steps : List ParentStep) →
    let s = parent_after c steps in
    s.suspended ≡ false → (parent_enabled c parent.Fetch s ≡ false) ↔ WaitsIn c s s.phase
