-- Small lemmas on lists.
use Rattle.std.proofs.Common.{ℕ, ◌≡◌, ◌+◌, ◌<◌, ◌≤◌, inl, inr, refl, sym, ◌∙◌, ap, true, false, nat_lt, List, [], ◌∷◌, ◌++◌, length, drop, arith, length-append, append-nil}
use Rattle.std.proofs.Math.Seq.{drop-append_seam}
use Rattle.std.proofs.lemmas.Bool.{cases_lt, lt-ltb, le-ltb}
use Rattle.std.proofs.lemmas.List.{length-drop}
use Rattle.nk_base.specs.Queue.{has_some}

-- a list that begins another is no longer
pub prefix_length : {A : Type 0} (xs ys zs : List A) → xs ++ ys ≡ zs → length xs ≤ length zs
prefix_length xs ys zs e = let h : length (xs ++ ys) ≡ length zs = ap length e in let k : length (xs ++ ys) ≡ length xs + length ys = length-append xs ys in omega arith

-- nothing is behind all of a list
pub none_behind : {A : Type 0} (xs : List A) → drop (length xs) xs ≡ []
none_behind xs = ap (λ ys. drop (length xs) ys) (sym (append-nil xs)) ∙ drop-append_seam xs []

-- a list has some exactly where it is longer than nothing

some_of : {A : Type 0} (xs : List A) → 0 < length xs → has_some xs ≡ true
some_of [] l = absurd (omega arith)
some_of (x ∷ xs) l = refl

none_of : {A : Type 0} (xs : List A) → length xs ≤ 0 → has_some xs ≡ false
none_of [] l = refl
none_of (x ∷ xs) l = absurd (omega arith)

-- something is behind the first n exactly where there are more
pub some_behind : {A : Type 0} (n : ℕ) (xs : List A) → has_some (drop n xs) ≡ nat_lt n (length xs)
some_behind n xs =
    elim (cases_lt n (length xs)) [
      | inl l ↦ some_of (drop n xs) (omega (arith, length-drop n xs)) ∙ sym (lt-ltb n (length xs) l)
      | inr l ↦ none_of (drop n xs) (omega (arith, length-drop n xs)) ∙ sym (le-ltb n (length xs) l)
    ]

-- what stands behind a list that begins another completes it
pub completes : {A : Type 0} (xs ys more : List A) → ys ≡ xs ++ more → xs ++ drop (length xs) ys ≡ ys
completes xs ys more e = ap (λ t. xs ++ t) (ap (λ u. drop (length xs) u) e ∙ drop-append_seam xs more) ∙ sym e
