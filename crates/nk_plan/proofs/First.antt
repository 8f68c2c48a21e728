-- The first item of a list without a property, found by going through the list.
use Rattle.std.proofs.Common.{◌≡◌, ℕ, ◌+◌, ◌<◌, ◌≤◌, ◌⊎◌, List, length, get_or, take, All, IsSomeAnd, Some, slice_get, refl, subst, sym, arith, inl, inr, ◌∙◌, length-take}
use Rattle.std.proofs.lemmas.Option.{slice_get_read, slice_get_cases}
use Rattle.std.proofs.lemmas.List.{take_all, get_or-take}
use Rattle.std.proofs.lemmas.List.Elements.{All-more}
use Rattle.nk_plan.specs.Accepted.{IsFirstWithout, IsFirstBeyond}

-- one more item has the property
pub all_one_more : {A : Type 0} (P : A → Type 0) (xs : List A) (i : ℕ) (x : A) → i < length xs → x ≡ get_or xs i x → All P (take i xs) → P x → All P (take (i + 1) xs)
all_one_more P xs i x within is before here = All-more P xs i x within before (subst P is here)

-- all items were seen
pub all_seen : {A : Type 0} (P : A → Type 0) (xs : List A) (i : ℕ) → length xs ≤ i → All P (take i xs) → All P xs
all_seen P xs i past seen = subst (All P) (take_all i xs past) seen

-- the item at i, where there is one with a property
pub found : {A : Type 0} (P : A → Type 0) (xs : List A) (i : ℕ) → IsSomeAnd (slice_get xs i) P → (x : A) × (i < length xs) × (get_or xs i x ≡ x) × P x
found P xs i h =
    elim (slice_get_cases xs i).1 [
      | inl w ↦ (w.0, w.1, w.3, subst (λ o. IsSomeAnd o P) w.2 h)
      | inr w ↦ absurd (subst (λ o. IsSomeAnd o P) w.1 h)
    ]

-- a list whose items all have the property has no first without it
pub none_without : {A : Type 0} (P : A → Type 0) (xs : List A) (i : ℕ) → All P xs → IsFirstWithout P xs i → ⊥
none_without P xs i all first = let w = found (λ x. ¬ P x) xs i first.here in w.3 (subst P w.2 (all i w.0 w.1))

-- nor has one that begins with such items up to a place behind it
pub none_before : {A : Type 0} (P : A → Type 0) (n : ℕ) (xs : List A) (i : ℕ) → All P (take n xs) → i < n → IsFirstWithout P xs i → ⊥
none_before P n xs i all before first =
    let w = found (λ x. ¬ P x) xs i first.here in
    let within : i < length (take n xs) = omega (arith, length-take n xs, w.1) in
    w.3 (subst P (get_or-take n xs i w.0 before ∙ w.2) (all i w.0 within))

pub none_beyond : {A : Type 0} (P : A → Type 0) (most : ℕ) (xs : List A) (i : ℕ) → length xs ≤ most → All P xs → IsFirstBeyond most P xs i → ⊥
none_beyond P most xs i few all first =
    let w = found (λ x. (i ≡ most) ⊎ (¬ P x)) xs i first.here in
    elim w.3 [ inl e ↦ omega (arith, w.1) | inr fails ↦ fails (subst P w.2 (all i w.0 w.1)) ]
