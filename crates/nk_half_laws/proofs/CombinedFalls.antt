-- Any system of two halves.
use Rattle.std.proofs.Common.{ℕ, ◌≡◌, ◌+◌, ◌*◌, ◌<◌, ◌≤◌, inl, inr, ap, length, arith}
use Rattle.nk_plan.specs.declared.plan.ChannelPlan.{ChannelPlan}
use Rattle.nk_plan.specs.declared.step.ChildStep.{ChildStep}
use Rattle.nk_plan.specs.declared.step.ParentStep.TheVariants as parent
use Rattle.nk_plan.specs.Journal.{mains_sent, backs_sent}
use Rattle.nk_plan.specs.Parent.{ParentState, parent_step, parent_after}
use Rattle.nk_plan.specs.Child.{ChildState, child_step, child_after}
use Rattle.nk_half_laws.specs.Work.{child_work, output_weight, taken_weight, parent_work, calls_work, hold_work, queue_work, running_work, question_work, queue_number, IsLower}
use Rattle.nk_half_laws.specs.System.{stairs}
use Rattle.nk_half_laws.specs.Falls.{ChildFalls, FetchFalls, UpFalls, combined_work, CombinedChildLaw, CombinedFetchLaw, CombinedNumberLaw, CombinedQueueLaw, CombinedUpLaw}
use Rattle.nk_half_laws.proofs.Tools.{less_or_same}
use Rattle.nk_half_laws.proofs.QueueFalls.{number_most}
use Rattle.nk_half_laws.proofs.HalfFalls.{child_falls, fetch_there, up_keeps}
use Rattle.nk_half_laws.proofs.SystemRuns.{stairs_less, lower, lower_same}

-- a and b are how much was sent and shown, k the child's work, p the parent's, d what was taken
paid : (p k k' a a' b b' n n' d : ℕ) → k' + 2 * a' + 2 * b' < k + 2 * a + 2 * b + d → n' + d + (2 * a + 2 * b) ≤ n + (2 * a' + 2 * b')
    → p + k' + n' < p + k + n
paid p k k' a a' b b' n n' d l e = omega arith

unmoved : (a a' b b' n n' d : ℕ) → d ≡ 0 → a' ≡ a → b' ≡ b → n' + d + (2 * a + 2 * b) ≤ n + (2 * a' + 2 * b') → n' ≤ n
unmoved a a' b b' n n' d z x y e = omega arith

beside : (p k k' n n' : ℕ) → k' ≡ k → n' < n → p + k' + n' < p + k + n
beside p k k' n n' e l = omega arith

beside_same : (p k k' n n' : ℕ) → k' ≡ k → n' ≡ n → p + k' + n' ≡ p + k + n
beside_same p k k' n n' e l = omega arith

step_combined : (c : ChannelPlan) (x : ChildStep) (s s' : ChildState) (p : ParentState) (n n' : ℕ) → ChildFalls c x s s'
    → n' + taken_weight x + output_weight s ≤ n + output_weight s'
    → IsLower (combined_work c p s' n') (queue_number s'.queue) (combined_work c p s n) (queue_number s.queue)
step_combined c x s s' p n n' (inl l) e =
    inl (paid (parent_work c p) (child_work c s) (child_work c s') (length s.sent) (length s'.sent) (length s.trace)
    (length s'.trace) n n' (taken_weight x) l e)
step_combined c x s s' p n n' (inr (z, a, b, k, q)) e =
    elim (less_or_same n' n (unmoved (length s.sent) (length s'.sent) (length s.trace) (length s'.trace) n n' (taken_weight x) z
    (ap length a) (ap length b) e)) [
      | inl l ↦ inl (beside (parent_work c p) (child_work c s) (child_work c s') n n' k l)
      | inr l ↦ inr (beside_same (parent_work c p) (child_work c s) (child_work c s') n n' k l, q)
    ]

pub child_combined : CombinedChildLaw
child_combined c steps x p n n' a e l =
    step_combined c x (child_after c steps) (child_step c x (child_after c steps)) p n n' (child_falls c steps x a e) l

-- m and h are how much was sent on each lane
fetch_paid : (f f' k m m' h h' n n' : ℕ) → f' + 269 * m' + 136 * h' < f + 269 * m + 136 * h
    → n' + (269 * m + 136 * h) ≤ n + (269 * m' + 136 * h') → f' + k + n' < f + k + n
fetch_paid f f' k m m' h h' n n' l e = omega arith

pub fetch_combined : CombinedFetchLaw
fetch_combined c steps s n n' a e l =
    let p : ParentState = parent_after c steps in
    let p' : ParentState = parent_step c parent.Fetch p in
    let f : FetchFalls c p p' = fetch_there c steps a e in
    fetch_paid (parent_work c p) (parent_work c p') (child_work c s) (length (mains_sent p.journal)) (length (mains_sent p'.journal))
    (length (backs_sent p.journal)) (length (backs_sent p'.journal)) n n' f.0 l

up_paid : (f f' k n n' : ℕ) → f' ≤ f → n' < n → f' + k + n' < f + k + n
up_paid f f' k n n' l e = omega arith

pub up_combined : CombinedUpLaw
up_combined c m p s n n' l =
    let u : UpFalls c p (parent_step c (parent.Up m) p) = up_keeps c m p in
    up_paid (parent_work c p) (parent_work c (parent_step c (parent.Up m) p)) (child_work c s) n n' u.0 l

pub number_combined : CombinedNumberLaw
number_combined v v' q q' a (inl l) = lower v' v q' q (stairs v') (stairs v) a l (stairs_less v' v l)
number_combined v v' q q' a (inr (e, l)) = lower_same (stairs v') (stairs v) q' q (ap stairs e) l

part_of : (n q a g r x : ℕ) → n ≤ 4 * q → n ≤ 4 * (a + g + q + r + x)
part_of n q a g r x l = omega arith

pub queue_combined : CombinedQueueLaw
queue_combined c s =
    let n : queue_number s.queue ≤ 4 * queue_work s.queue = number_most s.queue in
    part_of (queue_number s.queue) (queue_work s.queue) (calls_work c s.opened s.next) (hold_work s.hold) (running_work s.running)
    (question_work s.question) n
