-- Lemmas on the counts of the segments, as readers move, come and go.
use Rattle.std.proofs.Common.{◌≡◌, ◌≢◌, ℕ, zero, suc, ◌+◌, ◌<◌, ◌≤◌, inl, inr, true, List, [], ◌∷◌, ◌++◌, length, Some, None, sym, ap, ◌∙◌, arith, if◌then◌else◌}
use Rattle.std.specs.Prelude.{nat_lt, slice_get, slice_set}
use Rattle.std.proofs.lemmas.Bool.Decides.{nat_tests}
use Rattle.nk_segments.specs.Places.{Place, item_at}
use Rattle.nk_segments.specs.Segments.{Segment, raised, lowered, changed_all, changed_at, changed_from, since, AreBelowEight, AreHeld, AreSegments}
use Rattle.nk_pipe.specs.Pipe.{Reader, is_open}
use Rattle.nk_pipe.specs.Laid.{AreCounted, standing, stands_before}
use Rattle.nk_pipe.proofs.Places.{live_differs}
use Rattle.nk_pipe.proofs.CursorLemmas.{IsAt, IsEnd, at_live}

-- one reader of this position stands before x, or none
abbrev pub one_before : ℕ → ℕ → ℕ
one_before position x = if nat_lt position x then 1 else 0

pub before_yes : (position x : ℕ) → position < x → one_before position x ≡ 1
before_yes position x below = grind (arith, nat_tests)

pub before_no : (position x : ℕ) → x ≤ position → one_before position x ≡ 0
before_no position x behind = grind (arith, nat_tests)

-- a change of the segments shows in the tests of their places
pub changed_at-own : (f : Segment → Segment) (e : Place × Segment) (rest : List (Place × Segment)) (place : Place) → e.0 ≡ place → changed_at f (e ∷ rest) place ≡ (e.0, f e.1) ∷ rest
changed_at-own f e rest place same = let key : e.0.0 ≡ place.0 = ap (λ (p : Place). p.0) same in grind (arith, nat_tests)

pub changed_at-other : (f : Segment → Segment) (e : Place × Segment) (rest : List (Place × Segment)) (place : Place) → e.0.0 ≢ place.0 → changed_at f (e ∷ rest) place ≡ e ∷ changed_at f rest place
changed_at-other f e rest place differs = grind (arith, nat_tests)

changed_from-own : (f : Segment → Segment) (e : Place × Segment) (rest : List (Place × Segment)) (place : Place) → e.0 ≡ place → changed_from f (e ∷ rest) place ≡ (e.0, f e.1) ∷ changed_all f rest
changed_from-own f e rest place same = let key : e.0.0 ≡ place.0 = ap (λ (p : Place). p.0) same in grind (arith, nat_tests)

changed_from-other : (f : Segment → Segment) (e : Place × Segment) (rest : List (Place × Segment)) (place : Place) → e.0.0 ≢ place.0 → changed_from f (e ∷ rest) place ≡ e ∷ changed_from f rest place
changed_from-other f e rest place differs = grind (arith, nat_tests)

since-own : (e : Place × Segment) (rest : List (Place × Segment)) (place : Place) → e.0 ≡ place → since (e ∷ rest) place ≡ e ∷ rest
since-own e rest place same = let key : e.0.0 ≡ place.0 = ap (λ (p : Place). p.0) same in grind (arith, nat_tests)

since-other : (e : Place × Segment) (rest : List (Place × Segment)) (place : Place) → e.0.0 ≢ place.0 → since (e ∷ rest) place ≡ since rest place
since-other e rest place differs = grind (arith, nat_tests)

module _ (size : ℕ) where
  apart : (from : ℕ) (e : Place × Segment) (rest : List (Place × Segment)) (position : ℕ) (place : Place) (offset : ℕ) → item_at rest e.0 ≡ None → IsAt size from rest position place offset → e.0.0 ≢ place.0
  apart from e rest position place offset absent at =
      λ same. live_differs rest place e.0 (at_live size from rest position place offset at) absent (sym same)

  -- counts that agree at each end of a segment agree
  pub counted_same : (from : ℕ) (segments : List (Place × Segment)) (before after : ℕ → ℕ) → ((x : ℕ) → from + size ≤ x → after x ≡ before x) → AreCounted size from segments before → AreCounted size from segments after
  counted_same from [] before after same counted = tt
  counted_same from (e ∷ rest) before after same counted = (
    counted.0 ∙ sym (same (from + size) (omega arith)),
    counted_same (from + size) rest before after (λ x h. same x (omega (arith, h))) counted.1,
  )

  counted_lowered : (from : ℕ) (segments : List (Place × Segment)) (before after : ℕ → ℕ) → ((x : ℕ) → from + size ≤ x → after x + 1 ≡ before x) → AreCounted size from segments before → AreCounted size from (changed_all lowered segments) after
  counted_lowered from [] before after same counted = tt
  counted_lowered from (e ∷ rest) before after same counted = (
    omega (arith, counted.0, same (from + size) (omega arith)),
    counted_lowered (from + size) rest before after (λ x h. same x (omega (arith, h))) counted.1,
  )

  counted_raised : (from : ℕ) (segments : List (Place × Segment)) (before after : ℕ → ℕ) → ((x : ℕ) → from + size ≤ x → after x ≡ before x + 1) → AreCounted size from segments before → AreCounted size from (changed_all raised segments) after
  counted_raised from [] before after same counted = tt
  counted_raised from (e ∷ rest) before after same counted = (
    omega (arith, counted.0, same (from + size) (omega arith)),
    counted_raised (from + size) rest before after (λ x h. same x (omega (arith, h))) counted.1,
  )

  -- a reader moves within its segment
  pub counted_within : (from : ℕ) (segments : List (Place × Segment)) (position : ℕ) (place : Place) (offset n : ℕ) (before after : ℕ → ℕ) → offset + n < size → IsAt size from segments position place offset
      → ((x : ℕ) → after x + one_before position x ≡ before x + one_before (position + n) x) → AreCounted size from segments before → AreCounted size from segments after
  counted_within from [] position place offset n before after fits at moves counted = tt
  counted_within from (e ∷ rest) position place offset n before after fits (inl here) moves counted =
      counted_same from (e ∷ rest) before after (λ x h. omega (arith, moves x, before_yes position x (omega (arith, h, here.0)), before_yes (position + n) x (omega (arith, h, here.2, fits)))) counted
  counted_within from (e ∷ rest) position place offset n before after fits (inr later) moves counted = (
    omega (arith, counted.0, moves (from + size), before_no position (from + size) later.0, before_no (position + n) (from + size) (omega (arith, later.0))),
    counted_within (from + size) rest position place offset n before after fits later.1 moves counted.1,
  )

  -- a reader goes on to the next segment
  pub counted_left : (from : ℕ) (segments : List (Place × Segment)) (position : ℕ) (place : Place) (offset n : ℕ) (before after : ℕ → ℕ) → offset + n ≡ size → 0 < size → AreSegments size segments → IsAt size from segments position place offset
      → ((x : ℕ) → after x + one_before position x ≡ before x + one_before (position + n) x) → AreCounted size from segments before → AreCounted size from (changed_at lowered segments place) after
  counted_left from [] position place offset n before after ends some are at moves counted = tt
  counted_left from (e ∷ rest) position place offset n before after ends some are (inl here) moves counted =
      rw (changed_at-own lowered e rest place here.1) (
        omega (arith, counted.0, moves (from + size), before_yes position (from + size) here.0, before_no (position + n) (from + size) (omega (arith, here.2, ends))),
        counted_same (from + size) rest before after (λ x h. omega (arith, moves x, before_yes position x (omega (arith, h, here.0)), before_yes (position + n) x (omega (arith, h, here.2, ends, some)))) counted.1,
      )
  counted_left from (e ∷ rest) position place offset n before after ends some are (inr later) moves counted =
      rw (changed_at-other lowered e rest place (apart (from + size) e rest position place offset are.2 later.1)) (
        omega (arith, counted.0, moves (from + size), before_no position (from + size) later.0, before_no (position + n) (from + size) (omega (arith, later.0))),
        counted_left (from + size) rest position place offset n before after ends some are.3 later.1 moves counted.1,
      )

  -- a reader is closed
  pub counted_closed : (from : ℕ) (segments : List (Place × Segment)) (position : ℕ) (place : Place) (offset : ℕ) (before after : ℕ → ℕ) → AreSegments size segments → IsAt size from segments position place offset
      → ((x : ℕ) → after x + one_before position x ≡ before x) → AreCounted size from segments before → AreCounted size from (changed_from lowered segments place) after
  counted_closed from [] position place offset before after are at closes counted = tt
  counted_closed from (e ∷ rest) position place offset before after are (inl here) closes counted =
      rw (changed_from-own lowered e rest place here.1) (counted_lowered from (e ∷ rest) before after (λ x h. omega (arith, closes x, before_yes position x (omega (arith, h, here.0)))) counted)
  counted_closed from (e ∷ rest) position place offset before after are (inr later) closes counted =
      rw (changed_from-other lowered e rest place (apart (from + size) e rest position place offset are.2 later.1)) (
        omega (arith, counted.0, closes (from + size), before_no position (from + size) later.0),
        counted_closed (from + size) rest position place offset before after are.3 later.1 closes counted.1,
      )

  -- a reader is cloned
  pub counted_held : (from : ℕ) (segments : List (Place × Segment)) (position : ℕ) (place : Place) (offset : ℕ) (before after : ℕ → ℕ) → AreSegments size segments → IsAt size from segments position place offset
      → ((x : ℕ) → after x ≡ before x + one_before position x) → AreCounted size from segments before → AreCounted size from (changed_from raised segments place) after
  counted_held from [] position place offset before after are at holds counted = tt
  counted_held from (e ∷ rest) position place offset before after are (inl here) holds counted =
      rw (changed_from-own raised e rest place here.1) (counted_raised from (e ∷ rest) before after (λ x h. omega (arith, holds x, before_yes position x (omega (arith, h, here.0)))) counted)
  counted_held from (e ∷ rest) position place offset before after are (inr later) holds counted =
      rw (changed_from-other raised e rest place (apart (from + size) e rest position place offset are.2 later.1)) (
        omega (arith, counted.0, holds (from + size), before_no position (from + size) later.0),
        counted_held (from + size) rest position place offset before after are.3 later.1 holds counted.1,
      )

  -- a reader behind all segments is counted in none
  pub counted_end : (from : ℕ) (segments : List (Place × Segment)) (position : ℕ) (before after : ℕ → ℕ) → IsEnd size from segments position
      → ((x : ℕ) → x ≤ position → after x ≡ before x) → AreCounted size from segments before → AreCounted size from segments after
  counted_end from [] position before after end same counted = tt
  counted_end from (e ∷ rest) position before after end same counted =
      (counted.0 ∙ sym (same (from + size) end.0), counted_end (from + size) rest position before after end.1 same counted.1)

  held_all : (from : ℕ) (segments : List (Place × Segment)) (before : ℕ → ℕ) → ((x : ℕ) → from + size ≤ x → 0 < before x) → AreCounted size from segments before → AreHeld segments
  held_all from [] before some counted = tt
  held_all from (e ∷ rest) before some counted =
      (omega (arith, counted.0, some (from + size) (omega arith)), held_all (from + size) rest before (λ x h. some x (omega (arith, h))) counted.1)

  -- from the segment of an open reader on each count is above 0
  pub held_since : (from : ℕ) (segments : List (Place × Segment)) (position : ℕ) (place : Place) (offset : ℕ) (before : ℕ → ℕ) → AreSegments size segments → IsAt size from segments position place offset
      → ((x : ℕ) → position < x → 0 < before x) → AreCounted size from segments before → AreHeld (since segments place)
  held_since from [] position place offset before are at some counted = tt
  held_since from (e ∷ rest) position place offset before are (inl here) some counted =
      rw (since-own e rest place here.1) (held_all from (e ∷ rest) before (λ x h. some x (omega (arith, h, here.0))) counted)
  held_since from (e ∷ rest) position place offset before are (inr later) some counted =
      rw (since-other e rest place (apart (from + size) e rest position place offset are.2 later.1)) (held_since (from + size) rest position place offset before are.3 later.1 some counted.1)

  below_all : (from : ℕ) (segments : List (Place × Segment)) (before : ℕ → ℕ) → ((x : ℕ) → before x < 8) → AreCounted size from segments before → AreBelowEight segments
  below_all from [] before few counted = tt
  below_all from (e ∷ rest) before few counted =
      (omega (arith, counted.0, few (from + size)), below_all (from + size) rest before few counted.1)

  below_later : (segments : List (Place × Segment)) (place : Place) → AreBelowEight segments → AreBelowEight (since segments place)
  below_later [] place below = tt
  below_later (e ∷ rest) place below = grind (arith, nat_tests, below, below_later rest place below.1)

  pub below_since : (from : ℕ) (segments : List (Place × Segment)) (place : Place) (before : ℕ → ℕ) → ((x : ℕ) → before x < 8) → AreCounted size from segments before → AreBelowEight (since segments place)
  below_since from segments place before few counted = below_later segments place (below_all from segments before few counted)

-- how the number of readers that stand before x changes with one of them
pub standing-set : (rs : List Reader) (i x : ℕ) (r r' : Reader) → slice_get rs i ≡ Some r → standing (slice_set rs i r') x + stands_before x r ≡ standing rs x + stands_before x r'
standing-set [] i x r r' is = absurd (cc)
standing-set (s ∷ rs) zero x r r' is = let same : s ≡ r = cc in rw same (omega arith)
standing-set (s ∷ rs) (suc i) x r r' is = omega (arith, standing-set rs i x r r' is)

pub standing-append : (rs : List Reader) (x : ℕ) (r : Reader) → standing (rs ++ r ∷ []) x ≡ standing rs x + stands_before x r
standing-append [] x r = omega arith
standing-append (s ∷ rs) x r = omega (arith, standing-append rs x r)

stands_one : (x : ℕ) (r : Reader) → stands_before x r ≤ 1
stands_one x r = grind (arith, nat_tests)

pub standing_few : (rs : List Reader) (x : ℕ) → standing rs x ≤ length rs
standing_few [] x = omega arith
standing_few (r ∷ rs) x = omega (arith, standing_few rs x, stands_one x r)

-- an open reader before x is counted
pub standing_some : (rs : List Reader) (i x : ℕ) (r : Reader) → slice_get rs i ≡ Some r → is_open r.closed ≡ true → r.position < x → 0 < standing rs x
standing_some [] i x r is opens below = absurd (cc)
standing_some (s ∷ rs) zero x r is opens below = let same : s ≡ r = cc in rw same (grind (arith, nat_tests, opens, below))
standing_some (s ∷ rs) (suc i) x r is opens below = omega (arith, standing_some rs i x r is opens below)
