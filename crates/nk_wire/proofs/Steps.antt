-- Steps of which each may fail: what is known where none did.
use Rattle.std.proofs.Common.{◌≡◌, ◌≤◌, ◌&&◌, ℕ, Bool, true, false, leb, Result, Ok, Err, refl}
use Rattle.std.proofs.lemmas.Bool.{leb-true}
use Rattle.nk_wire.specs.Kinds.{within}
use Rattle.nk_wire.specs.declared.error.DecodeError.{DecodeError}
use Rattle.nk_wire.specs.Reading.{◌>>=◌, in_range_at}

-- the first step gave a value, with which the second went on
pub both_ok : {A B : Type 0} (r : Result A DecodeError) (f : A → Result B DecodeError) (y : B) → (r >>= f) ≡ Ok y → (x : A) × (r ≡ Ok x) × (f x ≡ Ok y)
both_ok (Ok x) f y h = (x, refl, h)
both_ok (Err e) f y h = absurd cc

-- a field that was taken was in range
pub was_in_range : {A : Type 0} (b : Bool) (at : ℕ) (x y : A) → in_range_at b at x ≡ Ok y → (b ≡ true) × (x ≡ y)
was_in_range true at x y h = (refl, cc)
was_in_range false at x y h = absurd cc

abbrev answered : {A : Type 0} → A → Result A DecodeError
answered x = Ok x

-- one answer, one value
pub equal_values : {A : Type 0} (x y : A) → answered x ≡ answered y → x ≡ y
equal_values x y h = cc

-- tests of which both hold

pub both : (a b : Bool) → a ≡ true → b ≡ true → (a && b) ≡ true
both true b h k = k
both false b h k = h

pub left_of : (a b : Bool) → (a && b) ≡ true → a ≡ true
left_of true b h = refl
left_of false b h = h

pub right_of : (a b : Bool) → (a && b) ≡ true → b ≡ true
right_of true b h = h
right_of false b h = absurd cc

pub within-bounds : (least most n : ℕ) → within least most n ≡ true → (least ≤ n) × (n ≤ most)
within-bounds least most n h =
    (leb-true least n (left_of (leb least n) (leb n most) h), leb-true n most (right_of (leb least n) (leb n most) h))
