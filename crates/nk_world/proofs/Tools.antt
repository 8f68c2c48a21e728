-- Small lemmas on tests and lists.
use Rattle.std.proofs.Common.{ℕ, ◌≡◌, ◌<◌, ◌≤◌, ◌⊎◌, List, [], ◌∷◌, ◌++◌, Bool, true, false, inl, inr}
use Rattle.std.proofs.lemmas.Bool.{cases_Bool, cases_lt}
use Rattle.nk_plan.specs.Lanes.{Among}

pub by_bool : {P : Type 0} (b : Bool) → (b ≡ true → P) → (b ≡ false → P) → P
by_bool b p q = elim (cases_Bool b) [ inl e ↦ p e | inr e ↦ q e ]

pub le_or_more : (n m : ℕ) → (n ≤ m) ⊎ (m < n)
le_or_more n m = elim (cases_lt m n) [ inl x ↦ inr x | inr x ↦ inl x ]

pub among_more : {A : Type 0} (x : A) (xs ys : List A) → Among x xs → Among x (xs ++ ys)
among_more x [] ys h = absurd h
among_more x (y ∷ xs) ys (inl e) = inl e
among_more x (y ∷ xs) ys (inr h) = inr (among_more x xs ys h)
