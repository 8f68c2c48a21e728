-- The sum of a list, and of two.
use Rattle.std.proofs.Common.{ℕ, ◌≡◌, ◌+◌, refl, List, [], ◌∷◌, ◌++◌, length, Bool, true, false, if◌then◌else◌, ◌==◌, arith}
use Rattle.nk_base.specs.declared.message.BackMsg.{BackMsg}
use Rattle.nk_plan.specs.declared.plan.StartLane.{StartLane}
use Rattle.nk_plan.specs.declared.plan.StartLane.TheVariants as lane
use Rattle.nk_plan.specs.Child.{new_hold, back_hop, of_hop, not_of_hop}
use Rattle.nk_half_laws.specs.Sums.{sum_of}

pub sum_of-append : {A : Type 0} (f : A → ℕ) (xs ys : List A) → sum_of f (xs ++ ys) ≡ sum_of f xs + sum_of f ys
sum_of-append f [] ys = omega arith
sum_of-append f (x ∷ xs) ys = let h : sum_of f (xs ++ ys) ≡ sum_of f xs + sum_of f ys = sum_of-append f xs ys in omega arith

pub sum_of-more : {A : Type 0} (f : A → ℕ) (xs : List A) (x : A) → sum_of f (xs ++ x ∷ []) ≡ sum_of f xs + f x
sum_of-more f xs x = let h : sum_of f (xs ++ x ∷ []) ≡ sum_of f xs + sum_of f (x ∷ []) = sum_of-append f xs (x ∷ []) in omega arith

-- What is held: nothing at first; the messages of a hop, and the others

pub empty_hold : (l : StartLane) → (new_hold l).kept ≡ []
empty_hold lane.Main = refl
empty_hold lane.Back = refl

split_by : (f : BackMsg → ℕ) (b : Bool) (x : BackMsg) (xs ys zs : List BackMsg) → sum_of f xs + sum_of f ys ≡ sum_of f zs
    → sum_of f (if b then x ∷ xs else xs) + sum_of f (if b then ys else x ∷ ys) ≡ f x + sum_of f zs
split_by f true x xs ys zs e = omega arith
split_by f false x xs ys zs e = omega arith

pub split_sum : (f : BackMsg → ℕ) (i : ℕ) (xs : List BackMsg) → sum_of f (of_hop i xs) + sum_of f (not_of_hop i xs) ≡ sum_of f xs
split_sum f i [] = refl
split_sum f i (x ∷ xs) = split_by f (i == back_hop x) x (of_hop i xs) (not_of_hop i xs) xs (split_sum f i xs)

counted : (xs : List BackMsg) → sum_of (λ (x : BackMsg). 1) xs ≡ length xs
counted [] = refl
counted (x ∷ xs) = let h : sum_of (λ (y : BackMsg). 1) xs ≡ length xs = counted xs in omega arith

pub split_length : (i : ℕ) (xs : List BackMsg) → length (of_hop i xs) + length (not_of_hop i xs) ≡ length xs
split_length i xs =
    let a : sum_of (λ (x : BackMsg). 1) (of_hop i xs) ≡ length (of_hop i xs) = counted (of_hop i xs) in
    let b : sum_of (λ (x : BackMsg). 1) (not_of_hop i xs) ≡ length (not_of_hop i xs) = counted (not_of_hop i xs) in
    let d : sum_of (λ (x : BackMsg). 1) xs ≡ length xs = counted xs in
    let e : sum_of (λ (x : BackMsg). 1) (of_hop i xs) + sum_of (λ (x : BackMsg). 1) (not_of_hop i xs) ≡ sum_of (λ (x : BackMsg). 1) xs =
    split_sum (λ (x : BackMsg). 1) i xs in
    omega arith
