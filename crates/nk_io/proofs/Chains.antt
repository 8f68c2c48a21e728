-- What several calls in a row say of the bytes that a source gave and a sink got.
use Rattle.std.proofs.Common.{◌≡◌, ℕ, ◌+◌, ◌-◌, ◌<◌, ◌≤◌, Option, None, Some, List, [], ◌∷◌, ◌++◌, length, take, drop, refl, ap, sym, ◌∙◌, append_assoc, suc, arith, length-append, length-drop, get_or, Bool, false, ◌==◌, ◌||◌}
use Rattle.std.proofs.lemmas.List.{take-append-drop, length-take-le}
use Rattle.std.proofs.Math.Seq.{take-length, take-append_seam}
use Rattle.std.specs.Io.KnownBytes.{Consumes}
use Rattle.std.specs.List.{list_any}
use Rattle.std.proofs.lemmas.Bool.Decides.{nat_tests}
use Rattle.nk_io.specs.Got.{Gains, GainsPart}
use Rattle.nk_io.specs.Given.{GivesCount, GivesAtMost}

-- two gains are one
pub Gains-append : (a b c : Option (List ℕ)) (xs ys : List ℕ) → Gains a b xs → Gains b c ys → Gains a c (xs ++ ys)
Gains-append a b None xs ys first then = tt
Gains-append a None (Some z) xs ys first then = absurd then
Gains-append None (Some y) (Some z) xs ys first then = absurd first
Gains-append (Some x) (Some y) (Some z) xs ys first then = then ∙ ap (λ w. w ++ ys) first ∙ append_assoc x xs ys

-- a gain, and then nothing more
pub Gains-stay : (a b c : Option (List ℕ)) (xs : List ℕ) → Gains a b xs → c ≡ b → Gains a c xs
Gains-stay a b c xs gained same = rw same gained

-- two gifts are one
pub Consumes-append : (a b c : Option (List ℕ)) (xs ys : List ℕ) → Consumes a b xs → Consumes b c ys → Consumes a c (xs ++ ys)
Consumes-append None b c xs ys first then = tt
Consumes-append (Some x) None c xs ys first then = absurd first
Consumes-append (Some x) (Some y) None xs ys first then = absurd then
Consumes-append (Some x) (Some y) (Some z) xs ys first then = first ∙ ap (λ w. xs ++ w) then ∙ sym (append_assoc xs ys z)

-- the bytes so far and the next ones
pub GivesCount-next : (a b c : Option (List ℕ)) (xs buffer : List ℕ) (n total : ℕ) → Consumes a b xs
    → Consumes b c (take n buffer) → n ≤ length buffer → length xs + n ≡ total → GivesCount a c total
GivesCount-next a b c xs buffer n total first next within sum = (
  xs ++ take n buffer,
  omega (arith, sum, length-append xs (take n buffer), length-take-le n buffer within),
  Consumes-append a b c xs (take n buffer) first next,
)

-- the same, up to a limit
pub GivesAtMost-next : (a b c : Option (List ℕ)) (xs buffer : List ℕ) (n limit : ℕ) → Consumes a b xs
    → Consumes b c (take n buffer) → n ≤ length buffer → length xs + n ≤ limit → GivesAtMost a c limit
GivesAtMost-next a b c xs buffer n limit first next within sum = (
  xs ++ take n buffer,
  omega (arith, sum, length-append xs (take n buffer), length-take-le n buffer within),
  Consumes-append a b c xs (take n buffer) first next,
)

-- the same of a list that has both
pub Consumes-next : (a b c : Option (List ℕ)) (xs ys both : List ℕ) → Consumes a b xs → Consumes b c ys
    → both ≡ xs ++ ys → Consumes a c both
Consumes-next a b c xs ys both first next e = rw e (Consumes-append a b c xs ys first next)

-- the next bytes of the rest go to what is done
pub split-next : (all done rest : List ℕ) (n : ℕ) → all ≡ done ++ rest → all ≡ (done ++ take n rest) ++ take (length rest - n) (drop n rest)
split-next all done rest n e =
    let tail : take (length rest - n) (drop n rest) ≡ drop n rest =
    ap (λ k. take k (drop n rest)) (sym (length-drop n rest)) ∙ take-length (drop n rest) in
    e ∙ ap (λ w. done ++ w) (sym (take-append-drop n rest) ∙ ap (λ w. take n rest ++ w) (sym tail))
    ∙ sym (append_assoc done (take n rest) (take (length rest - n) (drop n rest)))

-- a length that is not 0
pub some-left : (n : ℕ) → false ≡ (n == 0) → 0 < n
some-left n test = grind (arith, nat_tests, test)

-- bytes of which some are left are some
pub not-empty : (all done rest : List ℕ) → all ≡ done ++ rest → all ≡ [] → 0 < length rest → ⊥
not-empty all done rest e none left = omega (arith, ap length e, ap length none, length-append done rest)

-- what is done is a proper prefix where some rest is left
pub GainsPart-done : (a b : Option (List ℕ)) (all done rest : List ℕ) → all ≡ done ++ rest → 0 < length rest → Gains a b done → GainsPart a b all
GainsPart-done a b all done rest e left gained =
    let here : take (length done) all ≡ done = ap (take (length done)) e ∙ take-append_seam done rest in
    (length done, omega (arith, ap length e, length-append done rest), rw here gained)

-- a number is not one above it
differs : (x n : ℕ) (b : Bool) → x < n → b ≡ false → ((x == n) || b) ≡ false
differs x n b below none = grind (arith, nat_tests, none)

-- no number above all items is among them
pub list_any-above : (xs : List ℕ) (n : ℕ) → ((k : ℕ) → get_or xs k 0 < n) → list_any (λ x. x == n) xs ≡ false
list_any-above [] n below = refl
list_any-above (x ∷ xs) n below =
    differs x n (list_any (λ y. y == n) xs) (below 0) (list_any-above xs n (λ k. below (suc k)))
