-- Lemmas on where a position stands in the segments.
use Rattle.std.proofs.Common.{◌≡◌, ◌≢◌, ℕ, ◌+◌, ◌-◌, ◌<◌, ◌≤◌, ◌⊎◌, inl, inr, List, [], ◌∷◌, ◌++◌, length, take, drop, Some, None, refl, sym, ap, ◌∙◌, arith}
use Rattle.std.proofs.lemmas.List.{length-append, length-drop, drop-append-le, take-append-le}
use Rattle.std.proofs.lemmas.Bool.Decides.{nat_tests}
use Rattle.std.proofs.lemmas.Grind.{common_steps}
use Rattle.nk_segments.specs.Places.{Place, first_place, item_at, place_after, IsLive}
use Rattle.nk_segments.specs.Segments.{Segment, AreSegments}
use Rattle.nk_pipe.specs.declared.cursor.Cursor.{Cursor}
use Rattle.nk_pipe.specs.Laid.{joined, cursor_over}
use Rattle.nk_pipe.proofs.Places.{live_differs, live_later, item_at-own, item_at-other, place_after-own, place_after-other}

module _ (size : ℕ) where
  -- the byte of a position stands in the segment at a place, at an offset
  abbrev pub IsAt : ℕ → List (Place × Segment) → ℕ → Place → ℕ → Type 0
  IsAt from [] position place offset = ⊥
  IsAt from (e ∷ rest) position place offset =
      ((position < from + size) × (e.0 ≡ place) × (from + offset ≡ position))
      ⊎ ((from + size ≤ position) × IsAt (from + size) rest position place offset)

  -- the position is at the end of all segments or behind it
  abbrev pub IsEnd : ℕ → List (Place × Segment) → ℕ → Type 0
  IsEnd from [] position = Unit {0}
  IsEnd from (e ∷ rest) position = (from + size ≤ position) × IsEnd (from + size) rest position

  pub at_small : (from : ℕ) (segments : List (Place × Segment)) (position : ℕ) (place : Place) (offset : ℕ) → IsAt from segments position place offset → offset < size
  at_small from [] position place offset at = absurd at
  at_small from (e ∷ rest) position place offset (inl here) = omega (arith, here.0, here.2)
  at_small from (e ∷ rest) position place offset (inr later) = at_small (from + size) rest position place offset later.1

  pub at_live : (from : ℕ) (segments : List (Place × Segment)) (position : ℕ) (place : Place) (offset : ℕ) → IsAt from segments position place offset → IsLive segments place
  at_live from [] position place offset at = absurd at
  at_live from (e ∷ rest) position place offset (inl here) = rw (← here.1, item_at-own e rest) refl
  at_live from (e ∷ rest) position place offset (inr later) = live_later e rest place (at_live (from + size) rest position place offset later.1)

  pub cursor_here : (from : ℕ) (e : Place × Segment) (rest : List (Place × Segment)) (position : ℕ) → position < from + size → cursor_over size from (e ∷ rest) position ≡ record { place = Some e.0; offset = position - from }
  cursor_here from e rest position below = grind (arith, nat_tests)

  pub cursor_later : (from : ℕ) (e : Place × Segment) (rest : List (Place × Segment)) (position : ℕ) → from + size ≤ position → cursor_over size from (e ∷ rest) position ≡ cursor_over size (from + size) rest position
  cursor_later from e rest position behind = grind (arith, nat_tests)

  pub at_cursor : (from : ℕ) (segments : List (Place × Segment)) (position : ℕ) (place : Place) (offset : ℕ) → IsAt from segments position place offset → cursor_over size from segments position ≡ record { place = Some place; offset = offset }
  at_cursor from [] position place offset at = absurd at
  at_cursor from (e ∷ rest) position place offset (inl here) =
      let same : position - from ≡ offset = omega (arith, here.2) in
      cursor_here from e rest position here.0 ∙ rw (here.1, same) refl
  at_cursor from (e ∷ rest) position place offset (inr later) =
      cursor_later from e rest position later.0 ∙ at_cursor (from + size) rest position place offset later.1

  by_bound : (from : ℕ) (e : Place × Segment) (rest : List (Place × Segment)) (position : ℕ) (place : Place) (offset : ℕ) → from ≤ position
      → (cursor_over size (from + size) rest position ≡ record { place = Some place; offset = offset } → from + size ≤ position → IsAt (from + size) rest position place offset)
      → cursor_over size from (e ∷ rest) position ≡ record { place = Some place; offset = offset } → (position < from + size) ⊎ (from + size ≤ position) → IsAt from (e ∷ rest) position place offset
  by_bound from e rest position place offset within later is (inl below) =
      let both : record { place = Some e.0; offset = position - from } ≡ record { place = Some place; offset = offset } = sym (cursor_here from e rest position below) ∙ is in
      let p : Some e.0 ≡ Some place = ap (λ (c : Cursor). c.place) both in
      let o : position - from ≡ offset = ap (λ (c : Cursor). c.offset) both in
      let same : e.0 ≡ place = cc p in inl (below, same, omega (arith, o))
  by_bound from e rest position place offset within later is (inr behind) =
      inr (behind, later (sym (cursor_later from e rest position behind) ∙ is) behind)

  pub bound : (a b : ℕ) → (a < b) ⊎ (b ≤ a)
  bound a b = grind arith

  pub cursor_at : (from : ℕ) (segments : List (Place × Segment)) (position : ℕ) (place : Place) (offset : ℕ) → from ≤ position → cursor_over size from segments position ≡ record { place = Some place; offset = offset } → IsAt from segments position place offset
  cursor_at from [] position place offset within is = let p = ap (λ (c : Cursor). c.place) is in absurd (cc)
  cursor_at from (e ∷ rest) position place offset within is =
      by_bound from e rest position place offset within (λ later behind. cursor_at (from + size) rest position place offset behind later) is (bound position (from + size))

  end_by : (from : ℕ) (e : Place × Segment) (rest : List (Place × Segment)) (position offset : ℕ)
      → (cursor_over size (from + size) rest position ≡ record { place = None; offset = offset } → IsEnd (from + size) rest position)
      → cursor_over size from (e ∷ rest) position ≡ record { place = None; offset = offset } → (position < from + size) ⊎ (from + size ≤ position) → IsEnd from (e ∷ rest) position
  end_by from e rest position offset later is (inl below) =
      let p = ap (λ (c : Cursor). c.place) (sym (cursor_here from e rest position below) ∙ is) in absurd (cc)
  end_by from e rest position offset later is (inr behind) = (behind, later (sym (cursor_later from e rest position behind) ∙ is))

  pub cursor_end : (from : ℕ) (segments : List (Place × Segment)) (position offset : ℕ) → cursor_over size from segments position ≡ record { place = None; offset = offset } → IsEnd from segments position
  cursor_end from [] position offset is = tt
  cursor_end from (e ∷ rest) position offset is =
      end_by from e rest position offset (cursor_end (from + size) rest position offset) is (bound position (from + size))

  -- behind the end no byte is left
  pub end_behind : (from : ℕ) (segments : List (Place × Segment)) (position : ℕ) → from ≤ position → AreSegments size segments → IsEnd from segments position → from + length (joined segments) ≤ position
  end_behind from [] position within are end = omega (arith, within)
  end_behind from (e ∷ rest) position within are end =
      omega (arith, end_behind (from + size) rest position end.0 are.3 end.1, length-append e.1.bytes (joined rest), are.0)

  -- a few bytes on, within the segment
  pub at_within : (from : ℕ) (segments : List (Place × Segment)) (position : ℕ) (place : Place) (offset n : ℕ) → offset + n < size → IsAt from segments position place offset → IsAt from segments (position + n) place (offset + n)
  at_within from [] position place offset n fits at = absurd at
  at_within from (e ∷ rest) position place offset n fits (inl here) = inl (omega (arith, here.2, fits), here.1, omega (arith, here.2))
  at_within from (e ∷ rest) position place offset n fits (inr later) = inr (omega (arith, later.0), at_within (from + size) rest position place offset n fits later.1)

  cursor_first : (from : ℕ) (segments : List (Place × Segment)) → 0 < size → cursor_over size from segments from ≡ record { place = first_place segments; offset = 0 }
  cursor_first from [] some = refl
  cursor_first from (e ∷ rest) some =
      let same : from - from ≡ 0 = omega arith in cursor_here from e rest from (omega (arith, some)) ∙ rw same refl

  apart : (e : Place × Segment) (rest : List (Place × Segment)) (place : Place) → item_at rest e.0 ≡ None → IsLive rest place → e.0.0 ≢ place.0
  apart e rest place absent live = λ same. live_differs rest place e.0 live absent (sym same)

  -- at the end of the segment, which is the start of the next
  pub at_next : (from : ℕ) (segments : List (Place × Segment)) (position : ℕ) (place : Place) (offset n : ℕ) → offset + n ≡ size → AreSegments size segments → IsAt from segments position place offset
      → cursor_over size from segments (position + n) ≡ record { place = place_after segments place; offset = 0 }
  at_next from [] position place offset n ends are at = absurd at
  at_next from (e ∷ rest) position place offset n ends are (inl here) =
      let there : position + n ≡ from + size = omega (arith, here.2, ends) in
      let some : 0 < size = omega (arith, here.0, here.2) in
      rw (there, ← here.1, place_after-own e rest) (cursor_later from e rest (from + size) (omega arith) ∙ cursor_first (from + size) rest some)
  at_next from (e ∷ rest) position place offset n ends are (inr later) =
      let differs = apart e rest place are.2 (at_live (from + size) rest position place offset later.1) in
      rw (place_after-other e rest place differs) (cursor_later from e rest (position + n) (omega (arith, later.0)) ∙ at_next (from + size) rest position place offset n ends are.3 later.1)

  drop_in : (xs ys : List ℕ) (o n : ℕ) → o + n ≤ length xs → take n (drop o xs) ≡ take n (drop o (xs ++ ys))
  drop_in xs ys o n fits =
      let a : o ≤ length xs = omega (arith, fits) in
      let b : n ≤ length (drop o xs) = omega (arith, fits, length-drop o xs) in
      rw (drop-append-le o xs ys a) (sym (take-append-le n (drop o xs) ys b))

  pub drop_past : (xs ys : List ℕ) (o k : ℕ) → length xs + k ≡ o → drop o (xs ++ ys) ≡ drop k ys
  drop_past [] ys o k is = let same : o ≡ k = omega (arith, is) in rw same refl
  drop_past (x ∷ xs) ys o k is =
      let same : o ≡ length xs + k + 1 = omega (arith, is) in
      rw same (grind (arith, common_steps, drop_past xs ys (length xs + k) k refl))

  -- the bytes behind the position
  pub at_bytes : (from : ℕ) (segments : List (Place × Segment)) (position : ℕ) (place : Place) (offset n : ℕ) (s : Segment) → offset + n ≤ size → AreSegments size segments → item_at segments place ≡ Some s → IsAt from segments position place offset
      → take n (drop offset s.bytes) ≡ take n (drop (position - from) (joined segments))
  at_bytes from [] position place offset n s fits are item at = absurd at
  at_bytes from (e ∷ rest) position place offset n s fits are item (inl here) =
      let same : position - from ≡ offset = omega (arith, here.2) in
      let own : Some e.1 ≡ Some s = sym (item_at-own e rest) ∙ (rw (← here.1) at item) in
      let is : e.1 ≡ s = cc in
      rw (same, ← is) (drop_in e.1.bytes (joined rest) offset n (omega (arith, fits, are.0)))
  at_bytes from (e ∷ rest) position place offset n s fits are item (inr later) =
      let differs = apart e rest place are.2 (at_live (from + size) rest position place offset later.1) in
      let behind : length e.1.bytes + (position - (from + size)) ≡ position - from = omega (arith, are.0, later.0) in
      rw (drop_past e.1.bytes (joined rest) (position - from) (position - (from + size)) behind)
      (at_bytes (from + size) rest position place offset n s fits are.3 (sym (item_at-other e rest place differs) ∙ item) later.1)
