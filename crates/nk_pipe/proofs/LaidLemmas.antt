-- Lemmas on the layout of a pipe, as each step changes it.
use Rattle.std.proofs.Common.{◌≡◌, ℕ, zero, suc, ◌+◌, ◌-◌, ◌<◌, ◌≤◌, ◌⊎◌, inl, inr, true, false, ◌||◌, List, [], ◌∷◌, ◌++◌, drop, Option, Some, None, refl, sym, ap, ◌∙◌, arith}
use Rattle.std.specs.Prelude.{nat_lt, slice_get, slice_set}
use Rattle.std.proofs.lemmas.Bool.Decides.{nat_tests}
use Rattle.nk_base.specs.declared.status.Status.{Status}
use Rattle.nk_segments.specs.Places.{Place, place_after}
use Rattle.nk_segments.specs.Segments.{Segment, lowered, changed_all, changed_at, changed_from, needed, AreSegments}
use Rattle.nk_pipe.specs.declared.cursor.Cursor.{Cursor}
use Rattle.nk_pipe.specs.declared.reader.Reader.{Reader as Tracked}
use Rattle.nk_pipe.specs.Pipe.{is_open, has_open}
use Rattle.nk_pipe.specs.Laid.{seen, all_seen, joined, cursor_over, cursor_in, left_at, stands_before, standing, AreCounted, IsPlaced, ArePlaced, IsLaid}
use Rattle.nk_pipe.proofs.CursorLemmas.{IsAt, bound, at_cursor, cursor_at, at_within, at_next}
use Rattle.nk_pipe.proofs.CountLemmas.{one_before, counted_within, counted_left, standing-set, before_yes}
use Rattle.nk_pipe.proofs.FreeLemmas.{AreSized, sized, sized-at, front, front_behind, front_ends, front_counted, front_reached, front_cursor, front_joined}
use Rattle.nk_pipe.proofs.ReaderLemmas.{seen-set, seen_get}

-- what a change of segments that moves none and keeps their bytes leaves
pub joined-at : (f : Segment → Segment) → ((s : Segment) → (f s).bytes ≡ s.bytes) → (segments : List (Place × Segment)) (place : Place) → joined (changed_at f segments place) ≡ joined segments
joined-at f same [] place = refl
joined-at f same (e ∷ rest) place = grind (arith, nat_tests, same e.1, joined-at f same rest place)

joined-all : (f : Segment → Segment) → ((s : Segment) → (f s).bytes ≡ s.bytes) → (segments : List (Place × Segment)) → joined (changed_all f segments) ≡ joined segments
joined-all f same [] = refl
joined-all f same (e ∷ rest) = rw (same e.1, joined-all f same rest) refl

pub joined-from : (f : Segment → Segment) → ((s : Segment) → (f s).bytes ≡ s.bytes) → (segments : List (Place × Segment)) (place : Place) → joined (changed_from f segments place) ≡ joined segments
joined-from f same [] place = refl
joined-from f same (e ∷ rest) place =
    grind (arith, nat_tests, same e.1, joined-from f same rest place, joined-all f same rest)

pub cursor-at : (size : ℕ) (f : Segment → Segment) (from : ℕ) (segments : List (Place × Segment)) (place : Place) (position : ℕ) → cursor_over size from (changed_at f segments place) position ≡ cursor_over size from segments position
cursor-at size f from [] place position = refl
cursor-at size f from (e ∷ rest) place position =
    grind (arith, nat_tests, cursor-at size f (from + size) rest place position)

cursor-all : (size : ℕ) (f : Segment → Segment) (from : ℕ) (segments : List (Place × Segment)) (position : ℕ) → cursor_over size from (changed_all f segments) position ≡ cursor_over size from segments position
cursor-all size f from [] position = refl
cursor-all size f from (e ∷ rest) position = grind (arith, nat_tests, cursor-all size f (from + size) rest position)

pub cursor-from : (size : ℕ) (f : Segment → Segment) (from : ℕ) (segments : List (Place × Segment)) (place : Place) (position : ℕ) → cursor_over size from (changed_from f segments place) position ≡ cursor_over size from segments position
cursor-from size f from [] place position = refl
cursor-from size f from (e ∷ rest) place position =
    grind (arith, nat_tests, cursor-from size f (from + size) rest place position, cursor-all size f (from + size) rest position)

placed_one : (size from written : ℕ) (segments segments' : List (Place × Segment)) → ((q : ℕ) → cursor_over size from segments' q ≡ cursor_over size from segments q) → (position : ℕ) (cursor : Cursor) (closed : Option Status)
    → IsPlaced size from written segments position cursor closed → IsPlaced size from written segments' position cursor closed
placed_one size from written segments segments' same position cursor (Some s) is = tt
placed_one size from written segments segments' same position cursor None is = (is.0, is.1, is.2 ∙ sym (same position))

-- readers stand where they stood, if cursors do
pub placed_same : (size from written : ℕ) (segments segments' : List (Place × Segment)) → ((q : ℕ) → cursor_over size from segments' q ≡ cursor_over size from segments q) → (readers : List Tracked)
    → ArePlaced size from written segments readers → ArePlaced size from written segments' readers
placed_same size from written segments segments' same [] are = tt
placed_same size from written segments segments' same (r ∷ rs) are =
    (placed_one size from written segments segments' same r.position r.cursor r.closed are.0, placed_same size from written segments segments' same rs are.1)

pub placed_set : (size from written : ℕ) (segments : List (Place × Segment)) (readers : List Tracked) (i : ℕ) (r : Tracked)
    → IsPlaced size from written segments r.position r.cursor r.closed → ArePlaced size from written segments readers → ArePlaced size from written segments (slice_set readers i r)
placed_set size from written segments [] i r is are = tt
placed_set size from written segments (s ∷ rs) zero r is are = (is, are.1)
placed_set size from written segments (s ∷ rs) (suc i) r is are =
    (are.0, placed_set size from written segments rs i r is are.1)

pub placed_append : (size from written : ℕ) (segments : List (Place × Segment)) (readers : List Tracked) (r : Tracked)
    → IsPlaced size from written segments r.position r.cursor r.closed → ArePlaced size from written segments readers → ArePlaced size from written segments (readers ++ r ∷ [])
placed_append size from written segments [] r is are = (is, tt)
placed_append size from written segments (s ∷ rs) r is are =
    (are.0, placed_append size from written segments rs r is are.1)

placed_get : (size from written : ℕ) (segments : List (Place × Segment)) (readers : List Tracked) (i : ℕ) (r : Tracked) → slice_get readers i ≡ Some r → ArePlaced size from written segments readers → IsPlaced size from written segments r.position r.cursor r.closed
placed_get size from written segments [] i r is are = absurd (cc)
placed_get size from written segments (s ∷ rs) zero r is are = let same : s ≡ r = cc in rw same at are.0
placed_get size from written segments (s ∷ rs) (suc i) r is are = placed_get size from written segments rs i r is are.1

-- an open reader is placed
pub placed_open : (size from written : ℕ) (segments : List (Place × Segment)) (readers : List Tracked) (i : ℕ) (r : Tracked) → slice_get readers i ≡ Some r → r.closed ≡ None → ArePlaced size from written segments readers → IsPlaced size from written segments r.position r.cursor None
placed_open size from written segments readers i r is opens are =
    rw opens at (placed_get size from written segments readers i r is are)

pub placed_by : (size from written : ℕ) (segments : List (Place × Segment)) (position : ℕ) (cursor : Cursor) (closed : Option Status) → closed ≡ None → IsPlaced size from written segments position cursor None → IsPlaced size from written segments position cursor closed
placed_by size from written segments position cursor closed opens is = rw opens is

pub stands_open : (x : ℕ) (r : Tracked) → r.closed ≡ None → stands_before x (seen r) ≡ one_before r.position x
stands_open x r opens = rw opens refl

opened : (r : Tracked) → r.closed ≡ None → is_open r.closed ≡ true
opened r opens = rw opens refl

-- what is kept once segments at the front are given back
pub record Loses (size from : ℕ) (segments segments' : List (Place × Segment)) (readers : List Tracked) (writer : Cursor) (written ahead : ℕ) : Type 0 where
  pub lost : ℕ
  pub laid : has_open (all_seen readers) ≡ true → IsLaid size (from + lost) segments' readers writer written ahead
  pub joined : joined segments' ≡ drop lost (joined segments)

before_one : (x : ℕ) (r : Tracked) (rs : List Tracked) → standing (all_seen (r ∷ rs)) x ≡ stands_before x (seen r) + standing (all_seen rs) x
before_one x r rs = refl

freed_one : (size from written : ℕ) (segments : List (Place × Segment)) (before : ℕ → ℕ) (start position : ℕ) (cursor : Cursor) (closed : Option Status) → AreCounted size from segments before
    → ((x : ℕ) → stands_before x (record { start = start; position = position; closed = closed }) ≤ before x)
    → IsPlaced size from written segments position cursor closed → IsPlaced size (front size from segments) written (needed segments) position cursor closed
freed_one size from written segments before start position cursor (Some s) counted some is = tt
freed_one size from written segments before start position cursor None counted some is =
    let reached : front size from segments ≤ position = front_reached size from segments before position (λ x h. omega (arith, some x, before_yes position x h)) is.0 counted in
    (reached, is.1, is.2 ∙ sym (front_cursor size from segments position reached))

freed_placed : (size from written : ℕ) (segments : List (Place × Segment)) (before : ℕ → ℕ) (readers : List Tracked) → AreCounted size from segments before
    → ((x : ℕ) → standing (all_seen readers) x ≤ before x) → ArePlaced size from written segments readers → ArePlaced size (front size from segments) written (needed segments) readers
freed_placed size from written segments before [] counted some are = tt
freed_placed size from written segments before (r ∷ rs) counted some are = (
  freed_one size from written segments before r.start r.position r.cursor r.closed counted (λ x. omega (arith, some x)) are.0,
  freed_placed size from written segments before rs counted (λ x. omega (arith, some x)) are.1,
)

-- with an open reader some reader stands before any place behind the written bytes
open_by : (size from written : ℕ) (segments : List (Place × Segment)) (rs : List Tracked) (x start position : ℕ) (cursor : Cursor) (closed : Option Status) → IsPlaced size from written segments position cursor closed
    → (has_open (all_seen rs) ≡ true → 0 < standing (all_seen rs) x) → written < x → (is_open closed || has_open (all_seen rs)) ≡ true
    → 0 < stands_before x (record { start = start; position = position; closed = closed }) + standing (all_seen rs) x
open_by size from written segments rs x start position cursor (Some s) is later behind opens = omega (arith, later opens)
open_by size from written segments rs x start position cursor None is later behind opens =
    omega (arith, before_yes position x (omega (arith, is.1, behind)))

open_standing : (size from written : ℕ) (segments : List (Place × Segment)) (readers : List Tracked) (x : ℕ) → ArePlaced size from written segments readers → written < x → has_open (all_seen readers) ≡ true → 0 < standing (all_seen readers) x
open_standing size from written segments [] x are behind opens = absurd (cc)
open_standing size from written segments (r ∷ rs) x are behind opens =
    open_by size from written segments rs x r.start r.position r.cursor r.closed are.0 (open_standing size from written segments rs x are.1 behind) behind opens

pub has_open-set : (readers : List Tracked) (i : ℕ) (r r' : Tracked) → slice_get readers i ≡ Some r → is_open r'.closed ≡ true → has_open (all_seen (slice_set readers i r')) ≡ true
has_open-set [] i r r' is opens = absurd (cc)
has_open-set (s ∷ rs) zero r r' is opens = rw opens refl
has_open-set (s ∷ rs) (suc i) r r' is opens = let later = has_open-set rs i r r' is opens in grind (arith, later)

-- a segment at the front that is counted for no open reader may be given back
freed : (size from written ahead : ℕ) (segments : List (Place × Segment)) (readers : List Tracked) (writer : Cursor) → AreSized size segments → IsLaid size from segments readers writer written ahead
    → has_open (all_seen readers) ≡ true → IsLaid size (front size from segments) (needed segments) readers writer written ahead
freed size from written ahead segments readers writer are laid opens =
    let reached : front size from segments ≤ written = front_reached size from segments (standing (all_seen readers)) written (λ x h. open_standing size from written segments readers x laid.placed h opens) laid.starts laid.counted in
    record {
      ends = front_ends size from segments are ∙ laid.ends;
      starts = reached;
      counted = front_counted size from segments (standing (all_seen readers)) laid.counted;
      placed = freed_placed size from written segments (standing (all_seen readers)) readers laid.counted (λ x. omega arith) laid.placed;
      writes = laid.writes ∙ sym (front_cursor size from segments written reached);
    }

pub loses_needed : (size from written ahead : ℕ) (segments segments' : List (Place × Segment)) (readers : List Tracked) (writer : Cursor) → AreSized size segments' → joined segments' ≡ joined segments
    → (has_open (all_seen readers) ≡ true → IsLaid size from segments' readers writer written ahead) → Loses size from segments (needed segments') readers writer written ahead
loses_needed size from written ahead segments segments' readers writer are same laid =
    let there : from + (front size from segments' - from) ≡ front size from segments' = omega (arith, front_behind size from segments') in
    record {
      lost = front size from segments' - from;
      laid = λ opens. rw there (freed size from written ahead segments' readers writer are (laid opens) opens);
      joined = front_joined size from segments' are ∙ ap (drop (front size from segments' - from)) same;
    }

pub loses_none : (size from written ahead : ℕ) (segments : List (Place × Segment)) (readers : List Tracked) (writer : Cursor)
    → (has_open (all_seen readers) ≡ true → IsLaid size from segments readers writer written ahead) → Loses size from segments segments readers writer written ahead
loses_none size from written ahead segments readers writer laid =
    let there : from + 0 ≡ from = omega arith in
    record { lost = 0; laid = λ opens. rw there (laid opens); joined = refl }

-- a reader some bytes on
abbrev pub stepped : ℕ → List (Place × Segment) → Tracked → Place → ℕ → Tracked
stepped size segments r place n = record {
  start = r.start;
  position = r.position + n;
  closed = r.closed;
  cursor = cursor_in size segments place (r.cursor.offset + n);
}

-- the place and offset of an open reader's position
pub reader_at_place : (size from written : ℕ) (segments : List (Place × Segment)) (r : Tracked) (place : Place) → IsPlaced size from written segments r.position r.cursor None → r.cursor.place ≡ Some place → IsAt size from segments r.position place r.cursor.offset
reader_at_place size from written segments r place is stands =
    cursor_at size from segments r.position place r.cursor.offset is.0 (sym is.2 ∙ ap (λ (p : Option Place). let c : Cursor = record { place = p; offset = r.cursor.offset } in c) stands)

moves_by : (readers : List Tracked) (i : ℕ) (r r' : Tracked) (n : ℕ) → slice_get readers i ≡ Some r → r.closed ≡ None → r'.closed ≡ None → r'.position ≡ r.position + n
    → (x : ℕ) → standing (all_seen (slice_set readers i r')) x + one_before r.position x ≡ standing (all_seen readers) x + one_before (r.position + n) x
moves_by readers i r r' n get opens opens' moves x =
    let step = standing-set (all_seen readers) i x (seen r) (seen r') (seen_get readers i r get) in
    let one = stands_open x r opens in
    let two : stands_before x (seen r') ≡ one_before (r.position + n) x = stands_open x r' opens' ∙ ap (λ q. one_before q x) moves in
    rw (seen-set readers i r') (omega (arith, step, one, two))

taken_within : (size from written ahead : ℕ) (segments : List (Place × Segment)) (readers : List Tracked) (writer : Cursor) (i : ℕ) (r : Tracked) (place : Place) (n : ℕ)
    → IsLaid size from segments readers writer written ahead → slice_get readers i ≡ Some r → r.closed ≡ None → IsAt size from segments r.position place r.cursor.offset
    → r.cursor.offset + n < size → from ≤ r.position → r.position + n ≤ written
    → IsLaid size from segments (slice_set readers i (record { start = r.start; position = r.position + n; closed = r.closed; cursor = record { place = Some place; offset = r.cursor.offset + n } })) writer written ahead
taken_within size from written ahead segments readers writer i r place n laid get opens at fits within left =
    let r' : Tracked = record { start = r.start; position = r.position + n; closed = r.closed; cursor = record { place = Some place; offset = r.cursor.offset + n } } in
    record {
      ends = laid.ends;
      starts = laid.starts;
      counted = counted_within size from segments r.position place r.cursor.offset n (standing (all_seen readers)) (standing (all_seen (slice_set readers i r'))) fits at (moves_by readers i r r' n get opens opens refl) laid.counted;
      placed = placed_set size from written segments readers i r'
          (placed_by size from written segments r'.position r'.cursor r'.closed opens (omega (arith, within), left, sym (at_cursor size from segments (r.position + n) place (r.cursor.offset + n) (at_within size from segments r.position place r.cursor.offset n fits at))))
          laid.placed;
      writes = laid.writes;
    }

taken_past : (size from written ahead : ℕ) (segments : List (Place × Segment)) (readers : List Tracked) (writer : Cursor) (i : ℕ) (r : Tracked) (place : Place) (n : ℕ)
    → 0 < size → AreSegments size segments → IsLaid size from segments readers writer written ahead → slice_get readers i ≡ Some r → r.closed ≡ None → IsAt size from segments r.position place r.cursor.offset
    → r.cursor.offset + n ≡ size → from ≤ r.position → r.position + n ≤ written
    → IsLaid size from (changed_at lowered segments place) (slice_set readers i (record { start = r.start; position = r.position + n; closed = r.closed; cursor = record { place = place_after segments place; offset = 0 } })) writer written ahead
taken_past size from written ahead segments readers writer i r place n some are laid get opens at ends within left =
    let r' : Tracked = record { start = r.start; position = r.position + n; closed = r.closed; cursor = record { place = place_after segments place; offset = 0 } } in
    let same = cursor-at size lowered from segments place in
    record {
      ends = rw (joined-at lowered (λ s. refl) segments place) laid.ends;
      starts = laid.starts;
      counted = counted_left size from segments r.position place r.cursor.offset n (standing (all_seen readers)) (standing (all_seen (slice_set readers i r'))) ends some are at (moves_by readers i r r' n get opens opens refl) laid.counted;
      placed = placed_set size from written (changed_at lowered segments place) readers i r'
          (placed_by size from written (changed_at lowered segments place) r'.position r'.cursor r'.closed opens (omega (arith, within), left, sym (same (r.position + n) ∙ at_next size from segments r.position place r.cursor.offset n ends are at)))
          (placed_same size from written segments (changed_at lowered segments place) same readers laid.placed);
      writes = laid.writes ∙ sym (same written);
    }

taken_test : (size from written ahead : ℕ) (segments : List (Place × Segment)) (readers : List Tracked) (writer : Cursor) (i : ℕ) (r : Tracked) (place : Place) (n : ℕ)
    → 0 < size → AreSegments size segments → IsLaid size from segments readers writer written ahead → slice_get readers i ≡ Some r → r.closed ≡ None → IsAt size from segments r.position place r.cursor.offset
    → r.cursor.offset + n ≤ size → from ≤ r.position → r.position + n ≤ written → (r.cursor.offset + n < size) ⊎ (size ≤ r.cursor.offset + n)
    → Loses size from segments (left_at size segments place (r.cursor.offset + n)) (slice_set readers i (stepped size segments r place n)) writer written ahead
taken_test size from written ahead segments readers writer i r place n some are laid get opens at fits within left (inl below) =
    let test : nat_lt (r.cursor.offset + n) size ≡ true = grind (arith, nat_tests) in
    rw test (loses_none size from written ahead segments _ writer (λ _. taken_within size from written ahead segments readers writer i r place n laid get opens at below within left))
taken_test size from written ahead segments readers writer i r place n some are laid get opens at fits within left (inr full) =
    let test : nat_lt (r.cursor.offset + n) size ≡ false = grind (arith, nat_tests) in
    let ends : r.cursor.offset + n ≡ size = omega (arith, fits, full) in
    rw test (loses_needed size from written ahead segments (changed_at lowered segments place) _ writer (sized-at size lowered (λ s. refl) segments place (sized size segments are)) (joined-at lowered (λ s. refl) segments place)
    (λ _. taken_past size from written ahead segments readers writer i r place n some are laid get opens at ends within left))

-- a reader has taken some bytes of its segment
pub taken : (size from written ahead : ℕ) (segments : List (Place × Segment)) (readers : List Tracked) (writer : Cursor) (i : ℕ) (r : Tracked) (place : Place) (n : ℕ)
    → 0 < size → AreSegments size segments → IsLaid size from segments readers writer written ahead → slice_get readers i ≡ Some r → r.closed ≡ None → r.cursor.place ≡ Some place
    → r.cursor.offset + n ≤ size → r.position + n ≤ written
    → Loses size from segments (left_at size segments place (r.cursor.offset + n)) (slice_set readers i (stepped size segments r place n)) writer written ahead
taken size from written ahead segments readers writer i r place n some are laid get opens stands fits left =
    let is = placed_open size from written segments readers i r get opens laid.placed in
    taken_test size from written ahead segments readers writer i r place n some are laid get opens (reader_at_place size from written segments r place is stands) fits is.0 left (bound size (r.cursor.offset + n) size)
