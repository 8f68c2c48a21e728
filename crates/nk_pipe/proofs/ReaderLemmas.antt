-- Lemmas on lists of readers.
use Rattle.std.proofs.Common.{◌≡◌, ℕ, zero, suc, ◌+◌, ◌-◌, ◌<◌, ◌≤◌, ◌==◌, false, List, [], ◌∷◌, ◌++◌, length, take, drop, get_or, Some, None, refl, ap, arith}
use Rattle.std.specs.Prelude.{slice_get, slice_set}
use Rattle.std.proofs.lemmas.Bool.Decides.{nat_tests}
use Rattle.nk_segments.specs.Places.{Place}
use Rattle.nk_pipe.specs.declared.reader.Reader.{Reader as Tracked}
use Rattle.nk_pipe.specs.Pipe.{Reader, numbered}
use Rattle.nk_pipe.specs.Kept.{OpenAt}
use Rattle.nk_pipe.specs.Laid.{seen, all_seen, reaching, all_reaching}

-- the next reader reaches the new segment
pub reach_next : (place : Place) (rs : List Tracked) (i : ℕ) (d : Tracked) → i < length rs
    → slice_set (all_reaching place (take i rs) ++ drop i rs) i (let r = get_or (all_reaching place (take i rs) ++ drop i rs) i d in record r { cursor = reaching place r.cursor }) ≡ all_reaching place (take (i + 1) rs) ++ drop (i + 1) rs
reach_next place [] i d below = absurd (omega (arith, below))
reach_next place (r ∷ rs) zero d below = refl
reach_next place (r ∷ rs) (suc i) d below =
    let same : suc i + 1 ≡ suc (i + 1) = omega arith in
    rw same (ap (λ xs. record r { cursor = reaching place r.cursor } ∷ xs) (reach_next place rs i d (omega (arith, below))))

pub seen_reaching : (place : Place) (rs : List Tracked) → all_seen (all_reaching place rs) ≡ all_seen rs
seen_reaching place [] = refl
seen_reaching place (r ∷ rs) = ap (λ xs. seen r ∷ xs) (seen_reaching place rs)

pub seen-set : (rs : List Tracked) (i : ℕ) (r : Tracked) → all_seen (slice_set rs i r) ≡ slice_set (all_seen rs) i (seen r)
seen-set [] i r = refl
seen-set (s ∷ rs) zero r = refl
seen-set (s ∷ rs) (suc i) r = ap (λ xs. seen s ∷ xs) (seen-set rs i r)

pub seen-append : (rs : List Tracked) (r : Tracked) → all_seen (rs ++ r ∷ []) ≡ all_seen rs ++ seen r ∷ []
seen-append [] r = refl
seen-append (s ∷ rs) r = ap (λ xs. seen s ∷ xs) (seen-append rs r)

pub seen_get : (rs : List Tracked) (i : ℕ) (r : Tracked) → slice_get rs i ≡ Some r → slice_get (all_seen rs) i ≡ Some (seen r)
seen_get [] i r is = absurd (cc)
seen_get (s ∷ rs) zero r is = let same : s ≡ r = cc in rw same refl
seen_get (s ∷ rs) (suc i) r is = seen_get rs i r is

pub length_seen : (rs : List Tracked) → length (all_seen rs) ≡ length rs
length_seen [] = refl
length_seen (r ∷ rs) = omega (arith, length_seen rs)

-- what a read of the list gives
pub read_get : (rs : List Tracked) (i : ℕ) (r : Tracked) → i < length rs → r ≡ get_or rs i r → slice_get rs i ≡ Some r
read_get [] i r below is = absurd (omega (arith, below))
read_get (s ∷ rs) zero r below is = let same : r ≡ s = is in rw same refl
read_get (s ∷ rs) (suc i) r below is = read_get rs i r (omega (arith, below)) is

get_past : (rs : List Reader) (i : ℕ) → length rs ≤ i → slice_get rs i ≡ None
get_past [] i past = refl
get_past (r ∷ rs) zero past = absurd (omega (arith, past))
get_past (r ∷ rs) (suc i) past = get_past rs i (omega (arith, past))

-- a number from 1 on that is not above theirs is one of the readers'
pub numbered_past : (rs : List Reader) (id : ℕ) → (0 < id → length rs < id) → numbered rs id ≡ None
numbered_past rs zero past = refl
numbered_past rs (suc i) past =
    let none = get_past rs i (omega (arith, past (omega arith))) in
    let same : suc i - 1 ≡ i = omega arith in grind (arith, nat_tests, none, same)

pub numbered_at : (rs : List Reader) (id i : ℕ) → id ≡ i + 1 → numbered rs id ≡ slice_get rs i
numbered_at rs id i is =
    let some : id == 0 ≡ false = grind (arith, nat_tests, is) in
    let same : id - 1 ≡ i = omega (arith, is) in rw (some, same) refl

-- an open reader stands at its index
pub open_get : (rs : List Tracked) (i : ℕ) (r : Tracked) → slice_get rs i ≡ Some r → r.closed ≡ None → OpenAt (all_seen rs) i
open_get rs i r get opens = rw (seen_get rs i r get) (opens, refl)
