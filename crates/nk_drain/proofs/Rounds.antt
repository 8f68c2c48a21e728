-- One number falls with each enabled step, and with each round that has one.
use Rattle.std.proofs.Common.{ℕ, ◌≡◌, ◌+◌, ◌*◌, ◌<◌, ◌≤◌, ◌∙◌, inl, inr, refl, ap, List, [], ◌∷◌, ◌++◌, arith}
use Rattle.nk_plan.specs.declared.plan.ChannelPlan.{ChannelPlan}
use Rattle.nk_plan.specs.declared.step.Step.{Step}
use Rattle.nk_plan.specs.Accepted.{Accepted}
use Rattle.nk_plan.specs.Channel.{Channel, channel_step, channel_after}
use Rattle.nk_plan.specs.Enabled.{channel_enabled}
use Rattle.nk_half_laws.specs.Work.{parent_work, child_work, queue_number}
use Rattle.nk_half_laws.specs.Falls.{CombinedNumberLaw, CombinedQueueLaw}
use Rattle.nk_drain.specs.Work.{lanes_weight, work, steps_left}
use Rattle.nk_drain.specs.Laws.{FallsLaw, IdleLaw, LeftLaw, RoundLaw, SomeEnabled}
use Rattle.nk_drain.proofs.Tools.{by_bool}

-- what is known of one step
pub record StepLaws : Type 0 where
  pub falls : FallsLaw
  pub idle : IdleLaw
  pub number : CombinedNumberLaw
  pub queue : CombinedQueueLaw

more : (n p s l : ℕ) → n ≤ 4 * s → n ≤ 4 * (p + s + l)
more n p s l h = omega arith

pub left : StepLaws → LeftLaw
left k c steps x a e =
    let w : Channel = channel_after c steps in
    let v : Channel = channel_after c (x ∷ steps) in
    k.number (work c w) (work c v) (queue_number w.child.queue) (queue_number v.child.queue)
    (more (queue_number v.child.queue) (parent_work c v.parent) (child_work c v.child) (lanes_weight v) (k.queue c v.child))
    (k.falls c steps x a e)

-- A round

least : (m n : ℕ) → m < n → m ≤ n
least m n l = omega arith

same : (m n : ℕ) → m ≡ n → m ≤ n
same m n e = omega arith

then_less : (k m n : ℕ) → k < m → m ≤ n → k < n
then_less k m n a b = omega arith

then_most : (k m n : ℕ) → k ≤ m → m ≤ n → k ≤ n
then_most k m n a b = omega arith

less_then : (k m n : ℕ) → k ≤ m → m < n → k < n
less_then k m n a b = omega arith

step_most : StepLaws → (c : ChannelPlan) (steps : List Step) (x : Step) → Accepted c → steps_left c (channel_step c x (channel_after c steps)) ≤ steps_left c (channel_after c steps)
step_most k c steps x a =
    let w = channel_after c steps in
    by_bool (channel_enabled c x w) (λ e. least (steps_left c (channel_step c x w)) (steps_left c w) (left k c steps x a e))
    (λ e. same (steps_left c (channel_step c x w)) (steps_left c w) (ap (λ (y : Channel). steps_left c y) (k.idle c x w e)))

round_most : StepLaws → (c : ChannelPlan) (xs steps : List Step) → Accepted c → steps_left c (channel_after c (xs ++ steps)) ≤ steps_left c (channel_after c steps)
round_most k c [] steps a = same (steps_left c (channel_after c steps)) (steps_left c (channel_after c steps)) refl
round_most k c (x ∷ xs) steps a =
    let v = channel_after c (xs ++ steps) in
    then_most (steps_left c (channel_step c x v)) (steps_left c v) (steps_left c (channel_after c steps)) (step_most k c (xs ++ steps) x a) (round_most k c xs steps a)

round_left : StepLaws → (c : ChannelPlan) (xs steps : List Step) → Accepted c → SomeEnabled c xs steps → steps_left c (channel_after c (xs ++ steps)) < steps_left c (channel_after c steps)
round_left k c [] steps a h = absurd h
round_left k c (x ∷ xs) steps a (inl e) =
    let v = channel_after c (xs ++ steps) in
    then_less (steps_left c (channel_step c x v)) (steps_left c v) (steps_left c (channel_after c steps)) (left k c (xs ++ steps) x a e) (round_most k c xs steps a)
round_left k c (x ∷ xs) steps a (inr h) =
    let v = channel_after c (xs ++ steps) in
    less_then (steps_left c (channel_step c x v)) (steps_left c v) (steps_left c (channel_after c steps)) (step_most k c (xs ++ steps) x a) (round_left k c xs steps a h)

round_idle : StepLaws → (c : ChannelPlan) (xs steps : List Step) → (SomeEnabled c xs steps → ⊥) → channel_after c (xs ++ steps) ≡ channel_after c steps
round_idle k c [] steps n = refl
round_idle k c (x ∷ xs) steps n =
    let v = channel_after c (xs ++ steps) in
    by_bool (channel_enabled c x v) (λ e. absurd (n (inl e))) (λ e. k.idle c x v e ∙ round_idle k c xs steps (λ h. n (inr h)))

pub round : StepLaws → RoundLaw
round k c xs steps a = (round_left k c xs steps a, round_idle k c xs steps)
