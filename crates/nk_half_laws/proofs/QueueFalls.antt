-- A flush that goes over to another target, and a posted task that is done, lower the queue's number. That is at most four
-- times the queue's work.
use Rattle.std.proofs.Common.{ℕ, zero, suc, ◌≡◌, ◌+◌, ◌-◌, ◌*◌, ◌<◌, ◌≤◌, ◌∙◌, ◌⊎◌, inl, inr, refl, ap, List, [], ◌∷◌, length, Bool, true, false, if◌then◌else◌, Option, Some, None, ◌==◌, slice_index, set, arith, eqb-true, eq-eqb}
use Rattle.nk_base.specs.declared.status.Target.{Target}
use Rattle.nk_base.specs.Queue.{Queue, same_target, is_target, target_number, raised, lowered}
use Rattle.nk_plan.specs.declared.event.ChildEvent.{ChildEvent}
use Rattle.nk_half_laws.specs.Work.{flush_work, posted_work, queue_work, first_runs_on, by_first, flush_number, posted_number, queue_number}
use Rattle.nk_half_laws.proofs.Tools.{by_bool}
use Rattle.nk_half_laws.proofs.Targets.{same_is, apart}

-- What the numbers of posted tasks are when one is raised or lowered

first_or_other : (f : Option Target) (k : ℕ) → ((a b : ℕ) → by_first f k a b ≡ a) ⊎ ((a b : ℕ) → by_first f k a b ≡ b)
first_or_other None k = inr (λ a b. refl)
first_or_other (Some t) k = by_bool (target_number t == k) (λ e. inl (λ a b. rw e refl)) (λ e. inr (λ a b. rw e refl))

one_more : (f : Option Target) (k n : ℕ) → by_first f k (2 * (n + 1)) (4 * (n + 1)) ≡ by_first f k (2 * n) (4 * n) + by_first f k 2 4
one_more f k n = elim (first_or_other f k) [
  | inl h ↦ omega (arith, h (2 * (n + 1)) (4 * (n + 1)), h (2 * n) (4 * n), h 2 4)
  | inr h ↦ omega (arith, h (2 * (n + 1)) (4 * (n + 1)), h (2 * n) (4 * n), h 2 4)
]

one_less : (f : Option Target) (k n : ℕ) → 0 < n
    → by_first f k (2 * (n - 1)) (4 * (n - 1)) + by_first f k 2 4 ≡ by_first f k (2 * n) (4 * n)
one_less f k n l = elim (first_or_other f k) [
  | inl h ↦ omega (arith, h (2 * (n - 1)) (4 * (n - 1)), h (2 * n) (4 * n), h 2 4)
  | inr h ↦ omega (arith, h (2 * (n - 1)) (4 * (n - 1)), h (2 * n) (4 * n), h 2 4)
]

-- m is where the place i stands, counted from k
raised_number : (f : Option Target) (k i m : ℕ) (p : List ℕ) → m ≡ k + i
    → posted_number f k (set p i (slice_index p i + 1)) ≤ posted_number f k p + by_first f m 2 4
raised_number f k i m [] e = omega arith
raised_number f k zero m (n ∷ ns) e =
    let same : m ≡ k = omega arith in
    let h : by_first f k (2 * (n + 1)) (4 * (n + 1)) ≡ by_first f k (2 * n) (4 * n) + by_first f k 2 4 = one_more f k n in
    omega (arith, ap (λ x. by_first f x 2 4) same)
raised_number f k (suc i) m (n ∷ ns) e =
    let h : posted_number f (suc k) (set ns i (slice_index ns i + 1)) ≤ posted_number f (suc k) ns + by_first f m 2 4 =
    raised_number f (suc k) i m ns (omega arith) in
    omega arith

lowered_number : (f : Option Target) (k i m : ℕ) (p : List ℕ) → m ≡ k + i → 0 < slice_index p i
    → posted_number f k (set p i (slice_index p i - 1)) + by_first f m 2 4 ≡ posted_number f k p
lowered_number f k i m [] e l = absurd (omega arith)
lowered_number f k zero m (n ∷ ns) e l =
    let same : m ≡ k = omega arith in
    let h : by_first f k (2 * (n - 1)) (4 * (n - 1)) + by_first f k 2 4 ≡ by_first f k (2 * n) (4 * n) = one_less f k n l in
    omega (arith, ap (λ x. by_first f x 2 4) same)
lowered_number f k (suc i) m (n ∷ ns) e l =
    let h : posted_number f (suc k) (set ns i (slice_index ns i - 1)) + by_first f m 2 4 ≡ posted_number f (suc k) ns =
    lowered_number f (suc k) i m ns (omega arith) l in
    omega arith

set_past : (p : List ℕ) (i v : ℕ) → length p ≤ i → set p i v ≡ p
set_past [] i v l = refl
set_past (n ∷ ns) zero v l = absurd (omega arith)
set_past (n ∷ ns) (suc i) v l = ap (λ t. n ∷ t) (set_past ns i v (omega arith))

-- How much queue work is done or added

pub raised_work : (p : List ℕ) (i : ℕ) → posted_work (set p i (slice_index p i + 1)) ≤ posted_work p + 1
raised_work [] i = omega arith
raised_work (n ∷ ns) zero = omega arith
raised_work (n ∷ ns) (suc i) = let h : posted_work (set ns i (slice_index ns i + 1)) ≤ posted_work ns + 1 = raised_work ns i in omega arith

pub lowered_work : (p : List ℕ) (i : ℕ) → 0 < slice_index p i → posted_work (set p i (slice_index p i - 1)) + 1 ≡ posted_work p
lowered_work [] i l = absurd (omega arith)
lowered_work (n ∷ ns) zero l = omega arith
lowered_work (n ∷ ns) (suc i) l =
    let h : posted_work (set ns i (slice_index ns i - 1)) + 1 ≡ posted_work ns = lowered_work ns i l in omega arith

pub flush_is : (o : Option Target) (t : Target) → is_target o t ≡ true → flush_work o ≡ 1
flush_is None t e = cc
flush_is (Some u) t e = refl

-- The queue's number is at most four times its work

posted_most : (f : Option Target) (k : ℕ) (p : List ℕ) → posted_number f k p ≤ 4 * posted_work p
posted_most f k [] = omega arith
posted_most f k (n ∷ ns) =
    let h : posted_number f (suc k) ns ≤ 4 * posted_work ns = posted_most f (suc k) ns in
    elim (first_or_other f k) [ inl g ↦ omega (arith, g (2 * n) (4 * n)) | inr g ↦ omega (arith, g (2 * n) (4 * n)) ]

flush_number_most : (f o : Option Target) → flush_number f o ≤ 4 * flush_work o
flush_number_most f None = omega arith
flush_number_most f (Some t) = elim (first_or_other f (target_number t)) [ inl g ↦ omega (arith, g 1 3) | inr g ↦ omega (arith, g 1 3) ]

pub number_most : (q : Queue ChildEvent) → queue_number q ≤ 4 * queue_work q
number_most q =
    let f : Option Target = first_runs_on q.data_target q.waiting in
    let a : flush_number f q.flushing ≤ 4 * flush_work q.flushing = flush_number_most f q.flushing in
    let b : posted_number f 0 q.posted ≤ 4 * posted_work q.posted = posted_most f 0 q.posted in
    omega arith

-- The two turns of a queue that leave its work as it is

-- a flush goes over to the target of the first event, which is not its own
pub over_falls : (u t : Target) (o : Option Target) (p : List ℕ) → length p ≡ 18 → same_target u t ≡ false → is_target o t ≡ true
    → posted_number (Some u) 0 (raised p u) < flush_number (Some u) o + posted_number (Some u) 0 p
over_falls u t None p l d e = cc
over_falls u t (Some v) p l d e = by_bool (target_number u == target_number v)
    (λ same.
    let n : target_number u ≡ target_number t = eqb-true (target_number u) (target_number v) same ∙ ap target_number (same_is v t e) in
    let far : 18 ≤ target_number u = apart u t d n in
    let past : raised p u ≡ p = set_past p (target_number u) (slice_index p (target_number u) + 1) (omega arith) in
    let flush : flush_number (Some u) (Some v) ≡ 1 = rw same refl in
    omega (arith, ap (λ x. posted_number (Some u) 0 x) past))
    (λ other.
    let self : (target_number u == target_number u) ≡ true = eq-eqb (target_number u) (target_number u) refl in
    let own : by_first (Some u) (target_number u) 2 4 ≡ 2 = rw self refl in
    let flush : flush_number (Some u) (Some v) ≡ 3 = rw other refl in
    let h : posted_number (Some u) 0 (raised p u) ≤ posted_number (Some u) 0 p + by_first (Some u) (target_number u) 2 4 =
    raised_number (Some u) 0 (target_number u) (target_number u) p (omega arith) in
    omega arith)

-- a posted task is done, and where no flush was under way, one may begin there
pub completed_falls : (f : Option Target) (t : Target) (b : Bool) (o : Option Target) (p : List ℕ) → 0 < slice_index p (target_number t)
    → (b ≡ true → o ≡ None)
    → flush_number f (if b then Some t else o) + posted_number f 0 (lowered p t) < flush_number f o + posted_number f 0 p
completed_falls f t true o p l n =
    let none : flush_number f o ≡ 0 = ap (λ x. flush_number f x) (n refl) in
    let h : posted_number f 0 (lowered p t) + by_first f (target_number t) 2 4 ≡ posted_number f 0 p =
    lowered_number f 0 (target_number t) (target_number t) p (omega arith) l in
    elim (first_or_other f (target_number t)) [ inl g ↦ omega (arith, g 1 3, g 2 4) | inr g ↦ omega (arith, g 1 3, g 2 4) ]
completed_falls f t false o p l n =
    let h : posted_number f 0 (lowered p t) + by_first f (target_number t) 2 4 ≡ posted_number f 0 p =
    lowered_number f 0 (target_number t) (target_number t) p (omega arith) l in
    elim (first_or_other f (target_number t)) [ inl g ↦ omega (arith, g 2 4) | inr g ↦ omega (arith, g 2 4) ]
