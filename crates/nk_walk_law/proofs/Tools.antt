-- Small lemmas on tests and lists.
use Rattle.std.proofs.Common.{ℕ, zero, suc, ◌≡◌, ◌<◌, ◌≤◌, ◌⊎◌, inl, inr, refl, ap, List, [], ◌∷◌, ◌++◌, length, drop, Bool, true, false, if◌then◌else◌, arith}

pub keeps_if : {A : Type 0} (P : A → Type 0) (b : Bool) (x y : A) → (b ≡ true → P x) → (b ≡ false → P y) → P (if b then x else y)
keeps_if P true x y p q = p refl
keeps_if P false x y p q = q refl

pub append_nil : {A : Type 0} (xs : List A) → xs ++ [] ≡ xs
append_nil [] = refl
append_nil (x ∷ xs) = ap (λ t. x ∷ t) (append_nil xs)

pub first_empty : {A : Type 0} (xs ys : List A) → xs ++ ys ≡ [] → xs ≡ []
first_empty [] ys h = refl
first_empty (x ∷ xs) ys h = cc

pub last_empty : {A : Type 0} (xs ys : List A) → xs ++ ys ≡ [] → ys ≡ []
last_empty [] ys h = h
last_empty (x ∷ xs) ys h = cc

pub added : {A : Type 0} (xs ys zs : List A) → zs ≡ xs ++ ys → drop (length xs) zs ≡ ys
added [] ys zs e = e
added (x ∷ xs) ys [] e = cc
added (x ∷ xs) ys (z ∷ zs) e = let f : zs ≡ xs ++ ys = cc in added xs ys zs f

pub le_or_more : (n m : ℕ) → (n ≤ m) ⊎ (m < n)
le_or_more zero m = inl (omega arith)
le_or_more (suc n) zero = inr (omega arith)
le_or_more (suc n) (suc m) = elim (le_or_more n m) [ inl x ↦ inl (omega arith) | inr x ↦ inr (omega arith) ]
