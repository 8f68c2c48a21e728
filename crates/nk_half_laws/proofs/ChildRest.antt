-- No step of a child is enabled, but a call of the page and the taking of a message, exactly where it is idle; where an idle
-- child is not suspended, no event waits; and what a child's queue stands at.
use Rattle.std.proofs.Common.{ℕ, zero, suc, ◌≡◌, ◌<◌, ◌∙◌, ◌⊎◌, inl, inr, refl, ap, subst, List, [], Bool, true, false, not, ◌&&◌, ◌||◌, Option, Some, None, is_some, nat_lt, slice_index, arith}
use Rattle.std.proofs.lemmas.Bool.{lt-ltb}
use Rattle.nk_base.specs.declared.status.Target.{Target}
use Rattle.nk_base.specs.Queue.{same_target, is_target, target_number, posted_to}
use Rattle.nk_plan.specs.declared.plan.ChannelPlan.{ChannelPlan}
use Rattle.nk_plan.specs.declared.event.ChildEvent.{ChildEvent}
use Rattle.nk_plan.specs.declared.step.ChildStep.TheVariants as step
use Rattle.nk_plan.specs.Child.{ChildState, runs_on, child_after}
use Rattle.nk_plan.specs.Enabled.{IsTried}
use Rattle.nk_half_laws.specs.Settled.{ChildRestLaw, ChildQueueLaw, IsSettledChild, IsIdle, forced_by, FlushedBy}
use Rattle.nk_half_laws.proofs.LivelyQueue.{Posted, FlushOk, PostedOk, Lively, IsLively}
use Rattle.nk_half_laws.proofs.Plans.{good_plan}
use Rattle.nk_half_laws.proofs.Lively.{child_lively}
use Rattle.nk_half_laws.proofs.Targets.{same_self, same_is, tried_or_past}
use Rattle.nk_half_laws.proofs.Tools.{by_bool, first_false, second_false, none_of}

-- Nothing runs: what runs is on the target of the flush, which a drain tries

no_run : (r : Option (Target × ChildEvent)) (f : Option Target) → FlushedBy r f → FlushOk f
    → ((t : Target) → IsTried t → runs_on r t ≡ false) → r ≡ None
no_run None f b ok n = refl
no_run (Some x) None b ok n = cc
no_run (Some x) (Some g) b ok n =
    let a : same_target x.0 x.0 ≡ true = same_self x.0 in
    let ok1 : target_number g < 17 = ok in
    let e : target_number g ≡ target_number x.0 = ap target_number (same_is g x.0 b) in
    elim (tried_or_past x.0) [
      | inl h ↦ let d : same_target x.0 x.0 ≡ false = n x.0 h in absurd (cc)
      | inr h ↦ absurd (omega arith)
    ]

-- Nothing is to begin

may_not : (a b d : Bool) → a ≡ false → (not a && (b || d)) ≡ false → (b || d) ≡ false
may_not true b d e h = cc
may_not false b d e h = h

abbrev MayNotBegin : Option Target → List ℕ → Type 0
MayNotBegin f posted = (t : Target) → IsTried t → (is_target f t || nat_lt 0 (slice_index posted (target_number t))) ≡ false

no_flush : (f : Option Target) (posted : List ℕ) → FlushOk f → MayNotBegin f posted → is_some f ≡ true → ⊥
no_flush None posted ok b h = cc
no_flush (Some u) posted ok b h =
    let a : same_target u u ≡ true = same_self u in
    let ok1 : target_number u < 17 = ok in
    elim (tried_or_past u) [
      | inl x ↦ let d : same_target u u ≡ false =
          first_false (same_target u u) (nat_lt 0 (slice_index posted (target_number u))) (b u x) in absurd (cc)
      | inr x ↦ omega arith
    ]

none_posted : (f : Option Target) (posted : List ℕ) → PostedOk posted → MayNotBegin f posted → Posted posted → ⊥
none_posted f posted ok b (t, p) = elim (tried_or_past t) [
  | inl x ↦
      let d : nat_lt 0 (slice_index posted (target_number t)) ≡ false =
      second_false (is_target f t) (nat_lt 0 (slice_index posted (target_number t))) (b t x) in
      let h : nat_lt 0 (slice_index posted (target_number t)) ≡ true = lt-ltb 0 (slice_index posted (target_number t)) p in
      absurd (cc)
  | inr x ↦ let l : target_number t < 17 = ok (target_number t) p in omega arith
]

zero_unless : (n : ℕ) → (0 < n → ⊥) → n ≡ 0
zero_unless zero f = refl
zero_unless (suc n) f = absurd (f (omega arith))

flush_not : (f : Option Target) → f ≡ None → is_some f ≡ true → ⊥
flush_not f e h = let x : is_some f ≡ false = ap is_some e in cc

-- an event that waits would have something to take it, or the suspend count is above 0
nothing_waits : (s : ChildState) → IsLively s → IsIdle s → s.suspends ≡ 0 → s.queue.waiting ≡ []
nothing_waits s l i n =
    let zero_forced : s.queue.forced ≡ 0 = i.forced in
    let zero_count : s.queue.count ≡ 0 = l.count_is ∙ n in
    elim l.alive [
      | inl w ↦ w
      | inr a ↦ elim a [
        | inl x ↦ absurd (flush_not s.queue.flushing i.flushing x)
        | inr x ↦ elim x [
          | inl y ↦ absurd (omega arith)
          | inr y ↦ elim y [
            | inl z ↦ absurd (omega arith)
            | inr z ↦ let e : posted_to s.queue z.0 ≡ 0 = i.posted z.0 in let p : 0 < posted_to s.queue z.0 = z.1 in absurd (omega arith)
          ]
        ]
      ]
    ]

-- Nothing is to be answered, and nothing to be let go, unless the child is broken

none_or_broken : {A : Type 0} (b : Bool) (o : Option A) → (not b && is_some o) ≡ false → (o ≡ None) ⊎ (b ≡ true)
none_or_broken true o e = inr refl
none_or_broken false o e = inl (none_of o e)

answered : {A : Type 0} (b : Bool) (o : Option A) → (o ≡ None) ⊎ (b ≡ true) → (not b && is_some o) ≡ false
answered true o h = refl
answered false None h = refl
answered false (Some x) (inl e) = cc
answered false (Some x) (inr e) = cc

-- An idle child has nothing to do

not_begun : (r : Option (Target × ChildEvent)) (f : Option Target) (n : ℕ) (t : Target) → r ≡ None → f ≡ None → n ≡ 0
    → (not (runs_on r t) && (is_target f t || nat_lt 0 n)) ≡ false
not_begun r f n t a b d = rw (a, b, d) refl

does_nothing : (c : ChannelPlan) (s : ChildState) → IsIdle s → IsSettledChild c s
does_nothing c s i step.Act o = absurd o
does_nothing c s i step.Verdict o = answered s.broken s.question i.question
does_nothing c s i (step.Main m) o = absurd o
does_nothing c s i (step.Back m) o = absurd o
does_nothing c s i step.Release o = answered s.broken s.hold.report i.report
does_nothing c s i (step.Begin t) o = not_begun s.running s.queue.flushing (posted_to s.queue t) t i.running i.flushing (i.posted t)
does_nothing c s i (step.Finish t) o = ap (λ (r : Option (Target × ChildEvent)). runs_on r t) i.running

-- The law

at_rest : (s : ChildState) → IsLively s → s.running ≡ None → Lively s.queue 0 None s.suspends
at_rest s l e = subst (λ (x : Option (Target × ChildEvent)). Lively s.queue (forced_by x) x s.suspends) e l

is_idle : (c : ChannelPlan) (s : ChildState) → IsLively s → IsSettledChild c s → IsIdle s
is_idle c s l settled =
    let idle : s.running ≡ None = no_run s.running s.queue.flushing l.flush_is l.flush_ok (λ t h. settled (step.Finish t) h) in
    let l0 : Lively s.queue 0 None s.suspends = at_rest s l idle in
    let none : (t : Target) → runs_on s.running t ≡ false = λ t. ap (λ (r : Option (Target × ChildEvent)). runs_on r t) idle in
    let b : MayNotBegin s.queue.flushing s.queue.posted =
    λ t h. may_not (runs_on s.running t) (is_target s.queue.flushing t) (nat_lt 0 (slice_index s.queue.posted (target_number t))) (none t)
    (settled (step.Begin t) h) in
    record {
      running = idle;
      flushing = none_of s.queue.flushing (by_bool (is_some s.queue.flushing)
          (λ x. absurd (no_flush s.queue.flushing s.queue.posted l0.flush_ok b x)) (λ x. x));
      posted = λ t. zero_unless (posted_to s.queue t) (λ x. none_posted s.queue.flushing s.queue.posted l0.tasks.only b (t, x));
      forced = l0.forced_is;
      question = none_or_broken s.broken s.question (settled step.Verdict tt);
      report = none_or_broken s.broken s.hold.report (settled step.Release tt);
    }

pub rest : ChildRestLaw
rest c steps a =
    let s : ChildState = child_after c steps in
    let l : IsLively s = child_lively c steps (good_plan c a) in
    ((is_idle c s l, does_nothing c s), nothing_waits s l)

pub queue : ChildQueueLaw
queue c steps a = let l : IsLively (child_after c steps) = child_lively c steps (good_plan c a) in (l.count_is, l.forced_is, l.flush_is)
