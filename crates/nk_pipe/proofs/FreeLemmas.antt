-- Lemmas on the segments at the front that are given back, and on new ones behind.
use Rattle.std.proofs.Common.{◌≡◌, ℕ, suc, ◌+◌, ◌-◌, ◌<◌, ◌≤◌, ◌==◌, List, [], ◌∷◌, ◌++◌, length, drop, refl, arith, if◌then◌else◌}
use Rattle.std.proofs.lemmas.List.{length-append}
use Rattle.std.proofs.lemmas.Bool.Decides.{nat_tests}
use Rattle.std.proofs.lemmas.Grind.{common_steps}
use Rattle.nk_segments.specs.Places.{Place}
use Rattle.nk_segments.specs.Segments.{Segment, changed_all, changed_at, changed_from, needed, AreSegments}
use Rattle.nk_pipe.specs.Laid.{joined, cursor_over, AreCounted}

drop_front : (xs ys : List ℕ) (n k : ℕ) → n ≡ length xs + k → drop n (xs ++ ys) ≡ drop k ys
drop_front [] ys n k is = let same : n ≡ k = omega (arith, is) in rw same refl
drop_front (x ∷ xs) ys n k is =
    let same : n ≡ suc (length xs + k) = omega (arith, is) in rw same (drop_front xs ys (length xs + k) k refl)

-- each segment has its size, whatever its count
abbrev pub AreSized : ℕ → List (Place × Segment) → Type 0
AreSized size [] = Unit {0}
AreSized size (e ∷ rest) = (length e.1.bytes ≡ size) × AreSized size rest

pub sized : (size : ℕ) (segments : List (Place × Segment)) → AreSegments size segments → AreSized size segments
sized size [] are = tt
sized size (e ∷ rest) are = (are.0, sized size rest are.3)

-- a change that keeps the bytes keeps the sizes
module _ (size : ℕ) (f : Segment → Segment) (same : (s : Segment) → (f s).bytes ≡ s.bytes) where
  pub sized-at : (segments : List (Place × Segment)) (place : Place) → AreSized size segments → AreSized size (changed_at f segments place)
  sized-at [] place are = tt
  sized-at (e ∷ rest) place are = grind (arith, nat_tests, same e.1, are.0, are.1, sized-at rest place are.1)

  sized-all : (segments : List (Place × Segment)) → AreSized size segments → AreSized size (changed_all f segments)
  sized-all [] are = tt
  sized-all (e ∷ rest) are = (rw (same e.1) are.0, sized-all rest are.1)

  pub sized-from : (segments : List (Place × Segment)) (place : Place) → AreSized size segments → AreSized size (changed_from f segments place)
  sized-from [] place are = tt
  sized-from (e ∷ rest) place are =
      grind (arith, nat_tests, are.0, are.1, sized-from rest place are.1, sized-all (e ∷ rest) are)

module _ (size : ℕ) where
  -- where the first segment begins that is not given back
  abbrev pub front : ℕ → List (Place × Segment) → ℕ
  front from [] = from
  front from (e ∷ rest) = if e.1.readers == 0 then front (from + size) rest else from

  pub front_behind : (from : ℕ) (segments : List (Place × Segment)) → from ≤ front from segments
  front_behind from [] = omega arith
  front_behind from (e ∷ rest) = grind (arith, nat_tests, front_behind (from + size) rest)

  pub front_ends : (from : ℕ) (segments : List (Place × Segment)) → AreSized size segments → front from segments + length (joined (needed segments)) ≡ from + length (joined segments)
  front_ends from [] are = refl
  front_ends from (e ∷ rest) are =
      grind (arith, nat_tests, front_ends (from + size) rest are.1, length-append e.1.bytes (joined rest), are.0)

  pub front_counted : (from : ℕ) (segments : List (Place × Segment)) (before : ℕ → ℕ) → AreCounted size from segments before → AreCounted size (front from segments) (needed segments) before
  front_counted from [] before counted = tt
  front_counted from (e ∷ rest) before counted = grind (arith, nat_tests, counted, counted.0, counted.1, front_counted (from + size) rest before counted.1)

  -- a reader that is counted stands in front of no segment that is given back
  pub front_reached : (from : ℕ) (segments : List (Place × Segment)) (before : ℕ → ℕ) (position : ℕ) → ((x : ℕ) → position < x → 0 < before x) → from ≤ position → AreCounted size from segments before → front from segments ≤ position
  front_reached from [] before position some within counted = within
  front_reached from (e ∷ rest) before position some within counted =
      grind (arith, nat_tests, within, counted.0, some (from + size), λ (h : from + size ≤ position). front_reached (from + size) rest before position some h counted.1)

  pub front_cursor : (from : ℕ) (segments : List (Place × Segment)) (position : ℕ) → front from segments ≤ position → cursor_over size (front from segments) (needed segments) position ≡ cursor_over size from segments position
  front_cursor from [] position within = refl
  front_cursor from (e ∷ rest) position within =
      grind (arith, nat_tests, within, front_behind (from + size) rest, front_cursor (from + size) rest position)

  pub front_joined : (from : ℕ) (segments : List (Place × Segment)) → AreSized size segments → joined (needed segments) ≡ drop (front from segments - from) (joined segments)
  front_joined from [] are = grind (arith, common_steps)
  front_joined from (e ∷ rest) are =
      grind (arith, nat_tests, front_joined (from + size) rest are.1, front_behind (from + size) rest, are.0, drop_front e.1.bytes (joined rest) (front (from + size) rest - from) (front (from + size) rest - (from + size)))
