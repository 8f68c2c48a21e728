-- What each step lowers: the work of a half, with what it sends and shows, or else the queue's number. For each accepted plan,
-- and each half that any list of its own steps leads to, strays included; then for systems of two such halves.
use Rattle.std.specs.Prelude.{suc, ◌≡◌, ◌+◌, ◌<◌, ◌≤◌, ◌⊎◌, true, false, List, length, ℕ, ◌*◌}
use Rattle.nk_base.specs.declared.message.UpMsg.{UpMsg}
use Rattle.nk_plan.specs.declared.plan.ChannelPlan.{ChannelPlan}
use Rattle.nk_plan.specs.declared.step.ChildStep.{ChildStep}
use Rattle.nk_plan.specs.declared.step.ParentStep.{ParentStep}
use Rattle.nk_plan.specs.Accepted.{Accepted}
use Rattle.nk_plan.specs.Journal.{mains_sent, backs_sent, ups_taken}
use Rattle.nk_plan.specs.Parent.{ParentState, parent_step, parent_after}
use Rattle.nk_plan.specs.Child.{ChildState, child_step, child_after}
use Rattle.nk_plan.specs.Enabled.{child_enabled, parent_enabled}
use Rattle.nk_half_laws.specs.Work.{taken_weight, child_work, spent, parent_work, given, queue_number, output_weight, sent_weight, IsLower}
use Rattle.nk_half_laws.specs.System.{System, Move, move, can_move, system_after, moves_left, AllMoved, SystemFalls, stairs}
use Rattle.nk_plan.specs.declared.step.ParentStep.TheVariants as parent

-- THE CHILD

-- from s to s' by the step x the child's work falls by more than what was sent and shown weighs, but for the message that x
-- takes; or x takes none, nothing was sent or shown, the work is as it was, and the queue's number is lower
abbrev pub ChildFalls : ChannelPlan → ChildStep → ChildState → ChildState → Type 0
ChildFalls c x s s' =
    (spent c s' < spent c s + taken_weight x)
    ⊎ ((taken_weight x ≡ 0)
    × (s'.sent ≡ s.sent)
    × (s'.trace ≡ s.trace)
    × (child_work c s' ≡ child_work c s)
    × (queue_number s'.queue < queue_number s.queue))

-- an enabled step of a child
abbrev pub ChildFallsLaw : Type 0
ChildFallsLaw = (c : ChannelPlan) (steps : List ChildStep) (x : ChildStep) → Accepted c →
    let s = child_after c steps in
    let s' = child_step c x s in
    child_enabled c x s ≡ true → ChildFalls c x s s'

-- nothing that was sent or shown is forgotten, whatever the child
abbrev pub ChildKeepsLaw : Type 0
ChildKeepsLaw = (c : ChannelPlan) (x : ChildStep) (s : ChildState) →
    let s' = child_step c x s in
    (length s.sent ≤ length s'.sent) × (length s.trace ≤ length s'.trace)

-- a step that is not enabled changes nothing, whatever the child
abbrev pub ChildIdleLaw : Type 0
ChildIdleLaw = (c : ChannelPlan) (x : ChildStep) (s : ChildState) → child_enabled c x s ≡ false → child_step c x s ≡ s

-- THE PARENT

-- from p to p' the parent's work falls by more than what was sent weighs, and nothing that was sent or taken is forgotten
abbrev pub FetchFalls : ChannelPlan → ParentState → ParentState → Type 0
FetchFalls c p p' =
    (given c p' < given c p)
    × (length (mains_sent p.journal) ≤ length (mains_sent p'.journal))
    × (length (backs_sent p.journal) ≤ length (backs_sent p'.journal))
    × (length (ups_taken p.journal) ≤ length (ups_taken p'.journal))

-- an enabled fetch
abbrev pub FetchFallsLaw : Type 0
FetchFallsLaw = (c : ChannelPlan) (steps : List ParentStep) → Accepted c →
    let p = parent_after c steps in
    parent_enabled c parent.Fetch p ≡ true → FetchFalls c p (parent_step c parent.Fetch p)

-- from p to p' no work is added, nothing was sent, and one more message was taken
abbrev pub UpFalls : ChannelPlan → ParentState → ParentState → Type 0
UpFalls c p p' =
    (parent_work c p' ≤ parent_work c p)
    × (length (mains_sent p'.journal) ≡ length (mains_sent p.journal))
    × (length (backs_sent p'.journal) ≡ length (backs_sent p.journal))
    × (length (ups_taken p'.journal) ≡ suc (length (ups_taken p.journal)))

-- a message of the up lane, whatever the parent and the message
abbrev pub UpFallsLaw : Type 0
UpFallsLaw = (c : ChannelPlan) (m : UpMsg) (p : ParentState) → UpFalls c p (parent_step c (parent.Up m) p)

-- a fetch that is not enabled changes nothing
abbrev pub FetchIdleLaw : Type 0
FetchIdleLaw = (c : ChannelPlan) (p : ParentState) → parent_enabled c parent.Fetch p ≡ false → parent_step c parent.Fetch p ≡ p

-- TWO HALVES WITH LANES

-- so each move of the two halves with lanes of any contents falls
abbrev pub SystemFallsLaw : Type 0
SystemFallsLaw = (c : ChannelPlan) (ps : List ParentStep) (cs : List ChildStep) (w : System) (x : Move) → Accepted c →
    w.parent ≡ parent_after c ps → w.child ≡ child_after c cs → can_move c x w ≡ true → SystemFalls c (move c x w) w

-- so a run of moves is no longer than one number of the system that it began with
abbrev pub SystemRunLaw : Type 0
SystemRunLaw = (c : ChannelPlan) (ps : List ParentStep) (cs : List ChildStep) (w : System) (xs : List Move) → Accepted c →
    w.parent ≡ parent_after c ps → w.child ≡ child_after c cs → AllMoved c w xs →
    length xs + moves_left c (system_after c w xs) ≤ moves_left c w

-- TWO HALVES, HOWEVER THEIR LANES ARE TOLD. Of all that is on its way only the weight is asked: n before a step and n' behind
-- it, which is at most n, with what the step sent and showed, less what it took

-- what two halves have to do, with n on its way
abbrev pub combined_work : ChannelPlan → ParentState → ChildState → ℕ → ℕ
combined_work c p s n = parent_work c p + child_work c s + n

-- an enabled step of the child; the parent stays
abbrev pub CombinedChildLaw : Type 0
CombinedChildLaw = (c : ChannelPlan) (steps : List ChildStep) (x : ChildStep) (p : ParentState) (n n' : ℕ) → Accepted c →
    let s = child_after c steps in
    let s' = child_step c x s in
    child_enabled c x s ≡ true → n' + taken_weight x + output_weight s ≤ n + output_weight s' →
    IsLower (combined_work c p s' n') (queue_number s'.queue) (combined_work c p s n) (queue_number s.queue)

-- an enabled fetch; the child stays
abbrev pub CombinedFetchLaw : Type 0
CombinedFetchLaw = (c : ChannelPlan) (steps : List ParentStep) (s : ChildState) (n n' : ℕ) → Accepted c →
    let p = parent_after c steps in
    let p' = parent_step c parent.Fetch p in
    parent_enabled c parent.Fetch p ≡ true → n' + sent_weight p ≤ n + sent_weight p' →
    combined_work c p' s n' < combined_work c p s n

-- the parent hears a message, from wherever it comes, and something is taken for it; the child stays
abbrev pub CombinedUpLaw : Type 0
CombinedUpLaw = (c : ChannelPlan) (m : UpMsg) (p : ParentState) (s : ChildState) (n n' : ℕ) →
    n' < n → combined_work c (parent_step c (parent.Up m) p) s n' < combined_work c p s n

-- one number of a work and a queue's number, v and q before, v' and q' behind
abbrev pub CombinedNumberLaw : Type 0
CombinedNumberLaw = (v v' q q' : ℕ) → q' ≤ 4 * v' → IsLower v' q' v q → stairs v' + q' < stairs v + q

-- the queue's number is that small in each state
abbrev pub CombinedQueueLaw : Type 0
CombinedQueueLaw = (c : ChannelPlan) (s : ChildState) → queue_number s.queue ≤ 4 * child_work c s
