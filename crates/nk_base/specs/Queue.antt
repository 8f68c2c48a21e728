-- The queue machine: the events of a channel that wait, and on which target they run next. After Firefox's
-- ChannelEventQueue in outline; the exact rules are this project's own.
use Rattle.std.specs.Prelude.{ℕ, suc, ◌≡◌, ◌≤◌, ◌+◌, ◌-◌, Bool, true, false, not, ◌&&◌, ◌||◌, if◌then◌else◌, nat_lt, nat_le, ◌==◌, List, [], ◌∷◌, ◌++◌, length, replicate, slice_index, slice_set, Option, Some, None, is_some}
use Rattle.nk_base.specs.declared.status.Target.{Target}
use Rattle.nk_base.specs.declared.status.Target.TheVariants as target
use Rattle.nk_base.specs.declared.queue.Class.{Class}
use Rattle.nk_base.specs.declared.queue.Class.TheVariants as kind

-- the events that wait; how often the queue is suspended; the flag that it is not to be flushed; how often its events
-- are queued by force; the target that flushes it; the tasks posted to main, the workers 1 to 16 and back, in this
-- order; and the target of data
pub record Queue (E : Type 0) : Type 0 where
  pub waiting : List E
  pub count : ℕ
  pub suspended : Bool
  pub forced : ℕ
  pub flushing : Option Target
  pub posted : List ℕ
  pub data_target : Target

-- Targets.

-- a target that is one: workers are numbered 1 to 16
abbrev pub IsTarget : Target → Type 0
IsTarget target.Main = Unit {0}
IsTarget (target.Worker w) = (1 ≤ w) × (w ≤ 16)
IsTarget target.Back = Unit {0}

-- whether two targets are one
abbrev pub same_target : Target → Target → Bool
same_target target.Main target.Main = true
same_target target.Main (target.Worker w) = false
same_target target.Main target.Back = false
same_target (target.Worker v) target.Main = false
same_target (target.Worker v) (target.Worker w) = v == w
same_target (target.Worker v) target.Back = false
same_target target.Back target.Main = false
same_target target.Back (target.Worker w) = false
same_target target.Back target.Back = true

-- whether there is a target, and it is this one
abbrev pub is_target : Option Target → Target → Bool
is_target None t = false
is_target (Some u) t = same_target u t

-- where the posted number of a target stands; a worker outside 1 to 16 has none: its place is behind the last
abbrev pub target_number : Target → ℕ
target_number target.Main = 0
target_number (target.Worker w) = if nat_le 1 w && nat_le w 16 then w else 18
target_number target.Back = 17

-- the target of an event of this class, where data goes to this target
abbrev pub target_in : Target → Class → Target
target_in data_target kind.Delivery = data_target
target_in data_target (kind.Fixed t) = t

-- the class names a target that is one
abbrev pub HasTarget : Class → Type 0
HasTarget kind.Delivery = Unit {0}
HasTarget (kind.Fixed t) = IsTarget t

-- the class of each event does
abbrev pub AllHaveTargets : {E : Type 0} → (E → Class) → List E → Type 0
AllHaveTargets class [] = Unit {0}
AllHaveTargets class (e ∷ es) = HasTarget (class e) × AllHaveTargets class es

-- Posted tasks.

-- how many tasks are posted to a target: none to a worker outside 1 to 16
abbrev pub posted_to : {E : Type 0} → Queue E → Target → ℕ
posted_to q t = slice_index q.posted (target_number t)

-- one more task is posted to a target
abbrev pub raised : List ℕ → Target → List ℕ
raised posted t = slice_set posted (target_number t) (slice_index posted (target_number t) + 1)

-- a task posted to a target was done
abbrev pub lowered : List ℕ → Target → List ℕ
lowered posted t = slice_set posted (target_number t) (slice_index posted (target_number t) - 1)

-- whether a task is posted to any target
abbrev pub some_posted : List ℕ → Bool
some_posted [] = false
some_posted (n ∷ ns) = nat_lt 0 n || some_posted ns

-- a task is posted to the target of the first event
abbrev pub posted_first : {E : Type 0} → (E → Class) → Target → List ℕ → List E → List ℕ
posted_first class data_target posted [] = posted
posted_first class data_target posted (e ∷ es) = raised posted (target_in data_target (class e))

-- the target of the first event
abbrev pub first_target : {E : Type 0} → (E → Class) → Queue E → List E → Option Target
first_target class q [] = None
first_target class q (e ∷ es) = Some (target_in q.data_target (class e))

-- one more task may be posted to the target of the first event: the number stays within this bound
abbrev pub MayPost : {E : Type 0} → (E → Class) → Queue E → List E → ℕ → Type 0
MayPost class q [] most = Unit {0}
MayPost class q (e ∷ es) most = suc (slice_index q.posted (target_number (target_in q.data_target (class e)))) ≤ most

-- The rules.

-- a new queue: nothing waits, and data goes to main
abbrev pub empty_queue : {E : Type 0} → Queue E
empty_queue = record { waiting = []; count = 0; suspended = false; forced = 0; flushing = None; posted = replicate 18 0; data_target = target.Main }

-- whether events wait
abbrev pub has_some : {E : Type 0} → List E → Bool
has_some [] = false
has_some (e ∷ es) = true

-- whether an event that is offered has to wait: events are queued by force, the flag is on, a flush is under way, or
-- others wait
abbrev pub is_busy : {E : Type 0} → Queue E → Bool
is_busy q = nat_lt 0 q.forced || (q.suspended || (is_some q.flushing || has_some q.waiting))

-- whether an event that is offered from a target runs there at once
abbrev pub runs_now : {E : Type 0} → (E → Class) → Queue E → E → Target → Bool
runs_now class q e here = not (is_busy q) && same_target (target_in q.data_target (class e)) here

-- whether an event that is offered from a target is posted to another
abbrev pub is_posted : {E : Type 0} → (E → Class) → Queue E → E → Target → Bool
is_posted class q e here = not (is_busy q) && not (same_target (target_in q.data_target (class e)) here)

-- an event runs at once, as the first of a flush by this target
abbrev pub running_now : {E : Type 0} → Queue E → Target → Queue E
running_now q here = record q { flushing = Some here }

-- an event waits; where it need not have waited, it is posted to its target and the flag is on
abbrev pub appended : {E : Type 0} → (E → Class) → Queue E → E → Queue E
appended class q e =
    record q {
      waiting = q.waiting ++ e ∷ [];
      suspended = if is_busy q then q.suspended else true;
      posted = if is_busy q then q.posted else raised q.posted (target_in q.data_target (class e));
    }

-- the queue after an event was offered from a target
abbrev pub offer_leaves : {E : Type 0} → (E → Class) → Queue E → E → Target → Queue E
offer_leaves class q e here = if runs_now class q e here then running_now q here else appended class q e

-- the queue is suspended once more
abbrev pub suspended_once : {E : Type 0} → Queue E → Queue E
suspended_once q = record q { count = q.count + 1; suspended = true }

-- whether the last resume posts the first event, so that it is run
abbrev pub resume_posts : {E : Type 0} → Queue E → Bool
resume_posts q = (q.count == 1) && (has_some q.waiting && (q.forced == 0))

-- the queue is suspended once less; the last resume posts the first event, or clears the flag
abbrev pub resumed_once : {E : Type 0} → (E → Class) → Queue E → Queue E
resumed_once class q =
    record q {
      count = q.count - 1;
      suspended = q.suspended && not ((q.count == 1) && (not (has_some q.waiting) || nat_lt 0 q.forced));
      posted = if resume_posts q then posted_first class q.data_target q.posted q.waiting else q.posted;
    }

-- the target that a resume posted to
abbrev pub resume_answer : {E : Type 0} → (E → Class) → Queue E → Option Target
resume_answer class q = if resume_posts q then first_target class q q.waiting else None

-- whether a flush may begin, with this flag and this count of forced queueing
abbrev pub may_flush : {E : Type 0} → Queue E → Bool → ℕ → Bool
may_flush q flag forced = (forced == 0) && (not (is_some q.flushing) && (not flag && has_some q.waiting))

-- whether a flush begins when a posted task is done
abbrev pub complete_answer : {E : Type 0} → Queue E → Bool
complete_answer q = (q.count == 0) && may_flush q false q.forced

-- a task posted to this target is done; where the queue is not suspended, the flag is cleared and a flush may begin
abbrev pub completed : {E : Type 0} → Queue E → Target → Queue E
completed q here =
    record q {
      posted = lowered q.posted here;
      suspended = if q.count == 0 then false else q.suspended;
      flushing = if complete_answer q then Some here else q.flushing;
    }

-- events are queued by force once more
abbrev pub forced_once : {E : Type 0} → Queue E → Queue E
forced_once q = record q { forced = q.forced + 1 }

-- whether a flush begins when events are queued by force once less
abbrev pub unforced_answer : {E : Type 0} → Queue E → Bool
unforced_answer q = may_flush q q.suspended (q.forced - 1)

-- events are queued by force once less, and a flush by this target may begin
abbrev pub unforced : {E : Type 0} → Queue E → Target → Queue E
unforced q here = record q { forced = q.forced - 1; flushing = if unforced_answer q then Some here else q.flushing }

-- an event waits before all others
abbrev pub prepended : {E : Type 0} → Queue E → E → Queue E
prepended q e = record q { waiting = e ∷ q.waiting }

-- nothing waits any more
abbrev pub cleared : {E : Type 0} → Queue E → Queue E
cleared q = record q { waiting = [] }

-- data goes to this target
abbrev pub retargeted : {E : Type 0} → Queue E → Target → Queue E
retargeted q t = record q { data_target = t }

-- what a flush takes: an event, which leaves the rest; or it goes over to another target; or it ends
pub data Taken (E : Type 0) : Type 0 where
  Event : (event : E) → (rest : List E) → Taken E
  Over : (to : Target) → Taken E
  Ended : Taken E

-- what a flush by this target takes of the events that wait
abbrev pub taken : {E : Type 0} → (E → Class) → Queue E → Target → List E → Taken E
taken class q here [] = Ended
taken class q here (e ∷ es) =
    if q.suspended || nat_lt 0 q.forced
    then Ended
    else (if same_target (target_in q.data_target (class e)) here then Event e es else Over (target_in q.data_target (class e)))

-- the flush is over
abbrev pub flush_ended : {E : Type 0} → Queue E → Queue E
flush_ended q = record q { flushing = None }

-- the flush is over here, and a task is posted to the target where it is to go on
abbrev pub handed_over : {E : Type 0} → Queue E → Target → Queue E
handed_over q to = record q { flushing = None; suspended = true; posted = raised q.posted to }

-- the queue after a flush took this
abbrev pub take_leaves : {E : Type 0} → Queue E → Taken E → Queue E
take_leaves q (Event e rest) = record q { waiting = rest }
take_leaves q (Over t) = handed_over q t
take_leaves q Ended = flush_ended q

-- Legal queues.

-- the flag is on where the count is above 0; where events wait, a flush is under way, or the count or forced is above 0,
-- or a task is posted; where the flag is on, the count is above 0 or a task is posted
abbrev pub legal_parts : (suspended counted waits flushing forced posted : Bool) → Bool
legal_parts suspended counted waits flushing forced posted =
    (suspended || not counted)
    && ((not waits || (flushing || (counted || (forced || posted))))
    && (not suspended || (counted || posted)))

-- so no flush is lost
abbrev pub is_legal : {E : Type 0} → Queue E → Bool
is_legal q = legal_parts q.suspended (nat_lt 0 q.count) (has_some q.waiting) (is_some q.flushing) (nat_lt 0 q.forced) (some_posted q.posted)

-- a flush is by a target that is one
abbrev pub FlushHasTarget : Option Target → Type 0
FlushHasTarget None = Unit {0}
FlushHasTarget (Some t) = IsTarget t

-- what the type of a queue keeps: it is legal, and each target in it is one
pub record LegalQueue {E : Type 0} (class : E → Class) (q : Queue E) : Type 0 where
  pub legal : is_legal q ≡ true
  pub targets : length q.posted ≡ 18
  pub delivers : IsTarget q.data_target
  pub flusher : FlushHasTarget q.flushing
  pub classes : AllHaveTargets class q.waiting

-- Room.

-- a queue, and for how many events there is room
pub record Roomy (E : Type 0) : Type 0 where
  pub state : Queue E
  pub spare : ℕ

-- the room after a flush took this
abbrev pub take_spare : {E : Type 0} → Taken E → ℕ → ℕ
take_spare (Event e rest) n = n + 1
take_spare (Over t) n = n
take_spare Ended n = n
