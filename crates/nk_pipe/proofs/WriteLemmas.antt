-- Lemmas on the writer: new segments behind the last one, and bytes put where it stands.
use Rattle.std.proofs.Common.{◌≡◌, ◌≢◌, ℕ, suc, ◌+◌, ◌-◌, ◌*◌, ◌/◌, ◌<◌, ◌≤◌, ◌^◌, ◌⊎◌, inl, inr, Bool, true, false, ◌||◌, List, [], ◌∷◌, ◌++◌, length, take, drop, max, Option, Some, None, refl, sym, ap, ◌∙◌, arith, if◌then◌else◌}
use Rattle.std.specs.Prelude.{nat_lt}
use Rattle.std.proofs.lemmas.List.{length-append, length-take, length-drop, append_assoc, drop-append-le, take-append-le, take_at}
use Rattle.std.proofs.Math.Nat.{div-mul-le_self}
use Rattle.std.proofs.lemmas.Nat.{mul-le}
use Rattle.std.proofs.lemmas.Bool.Decides.{nat_tests}
use Rattle.std.proofs.lemmas.Grind.{common_steps}
use Rattle.nk_base.specs.declared.status.Status.{Status}
use Rattle.nk_segments.specs.Places.{Place}
use Rattle.nk_segments.specs.Segments.{Segment, overwritten, with_bytes, changed_at, AreSegments}
use Rattle.nk_pipe.specs.declared.cursor.Cursor.{Cursor}
use Rattle.nk_pipe.specs.declared.reader.Reader.{Reader as Tracked}
use Rattle.nk_pipe.specs.Pipe.{Reader, is_open, has_open, open_position, greatest}
use Rattle.nk_pipe.specs.Laid.{all_seen, joined, kept_bytes, cursor_over, cursor_in, reaching, all_reaching, stands_before, standing, open_count, AreCounted, IsPlaced, ArePlaced, IsLaid}
use Rattle.nk_pipe.proofs.Places.{live_differs}
use Rattle.nk_pipe.proofs.CursorLemmas.{IsAt, bound, at_live, at_cursor, cursor_at, at_within, at_next, cursor_here, cursor_later, drop_past}
use Rattle.nk_pipe.proofs.CountLemmas.{before_yes, changed_at-own, changed_at-other}
use Rattle.nk_pipe.proofs.ReaderLemmas.{seen_reaching}
use Rattle.nk_pipe.proofs.LaidLemmas.{cursor-at, placed_same}

-- no open reader is behind the written bytes
greatest_by : (size from written : ℕ) (segments : List (Place × Segment)) (start position : ℕ) (cursor : Cursor) (closed : Option Status) → IsPlaced size from written segments position cursor closed → open_position (record { start = start; position = position; closed = closed }) ≤ written
greatest_by size from written segments start position cursor (Some s) is = omega arith
greatest_by size from written segments start position cursor None is = is.1

greatest_placed : (size from written : ℕ) (segments : List (Place × Segment)) (readers : List Tracked) → ArePlaced size from written segments readers → greatest (all_seen readers) ≤ written
greatest_placed size from written segments [] are = omega arith
greatest_placed size from written segments (r ∷ rs) are =
    omega (arith, greatest_by size from written segments r.start r.position r.cursor r.closed are.0, greatest_placed size from written segments rs are.1)

none_by : (rs : List Reader) (start position : ℕ) (closed : Option Status) → (has_open rs ≡ false → greatest rs ≡ 0) → (is_open closed || has_open rs) ≡ false → max (open_position (record { start = start; position = position; closed = closed })) (greatest rs) ≡ 0
none_by rs start position (Some s) later is = omega (arith, later is)
none_by rs start position None later is = absurd (cc)

greatest_none : (rs : List Reader) → has_open rs ≡ false → greatest rs ≡ 0
greatest_none [] is = refl
greatest_none (r ∷ rs) is = none_by rs r.start r.position r.closed (greatest_none rs) is

greatest_cases : (size from written : ℕ) (segments : List (Place × Segment)) (readers : List Tracked) (b : Bool) → has_open (all_seen readers) ≡ b → (has_open (all_seen readers) ≡ true → ArePlaced size from written segments readers) → greatest (all_seen readers) ≤ written
greatest_cases size from written segments readers true is placed = greatest_placed size from written segments readers (placed is)
greatest_cases size from written segments readers false is placed = omega (arith, greatest_none (all_seen readers) is)

pub greatest_within : (size from written : ℕ) (segments : List (Place × Segment)) (readers : List Tracked) → (has_open (all_seen readers) ≡ true → ArePlaced size from written segments readers) → greatest (all_seen readers) ≤ written
greatest_within size from written segments readers placed =
    greatest_cases size from written segments readers (has_open (all_seen readers)) refl placed

-- a new segment behind the last one
pub length-joined_added : (segments : List (Place × Segment)) (place : Place) (s : Segment) → joined (segments ++ (place, s) ∷ []) ≡ joined segments ++ s.bytes
length-joined_added [] place s = grind (arith, common_steps)
length-joined_added (e ∷ rest) place s =
    ap (λ xs. e.1.bytes ++ xs) (length-joined_added rest place s) ∙ sym (append_assoc e.1.bytes (joined rest) s.bytes)

counted_added : (size from : ℕ) (segments : List (Place × Segment)) (place : Place) (s : Segment) (before : ℕ → ℕ) → AreSegments size segments → s.readers ≡ before (from + length (joined segments) + size) → AreCounted size from segments before
    → AreCounted size from (segments ++ (place, s) ∷ []) before
counted_added size from [] place s before are is counted = let same : from + 0 + size ≡ from + size = omega arith in (is ∙ ap before same, tt)
counted_added size from (e ∷ rest) place s before are is counted =
    let same : from + length (e.1.bytes ++ joined rest) + size ≡ from + size + length (joined rest) + size = omega (arith, length-append e.1.bytes (joined rest), are.0) in
    (counted.0, counted_added size (from + size) rest place s before are.3 (is ∙ ap before same) counted.1)

added_by : (size from : ℕ) (e : Place × Segment) (rest : List (Place × Segment)) (place : Place) (s : Segment) (position : ℕ)
    → (from + size ≤ position → cursor_over size (from + size) (rest ++ (place, s) ∷ []) position ≡ reaching place (cursor_over size (from + size) rest position))
    → (position < from + size) ⊎ (from + size ≤ position) → cursor_over size from ((e ∷ rest) ++ (place, s) ∷ []) position ≡ reaching place (cursor_over size from (e ∷ rest) position)
added_by size from e rest place s position later (inl below) =
    cursor_here size from e (rest ++ (place, s) ∷ []) position below ∙ ap (reaching place) (sym (cursor_here size from e rest position below))
added_by size from e rest place s position later (inr behind) =
    cursor_later size from e (rest ++ (place, s) ∷ []) position behind ∙ later behind ∙ ap (reaching place) (sym (cursor_later size from e rest position behind))

cursor_added : (size from : ℕ) (segments : List (Place × Segment)) (place : Place) (s : Segment) (position : ℕ) → 0 < size → AreSegments size segments → from ≤ position → position ≤ from + length (joined segments)
    → cursor_over size from (segments ++ (place, s) ∷ []) position ≡ reaching place (cursor_over size from segments position)
cursor_added size from [] place s position some are within most =
    let same : position - from ≡ 0 = omega (arith, within, most) in
    cursor_here size from (place, s) [] position (omega (arith, some, most)) ∙ rw same refl
cursor_added size from (e ∷ rest) place s position some are within most =
    added_by size from e rest place s position
    (λ behind. cursor_added size (from + size) rest place s position some are.3 behind (omega (arith, most, length-append e.1.bytes (joined rest), are.0)))
    (bound size position (from + size))

placed_added_one : (size from written : ℕ) (segments : List (Place × Segment)) (place : Place) (s : Segment) (position : ℕ) (cursor : Cursor) (closed : Option Status) → 0 < size → AreSegments size segments → written ≤ from + length (joined segments)
    → IsPlaced size from written segments position cursor closed → IsPlaced size from written (segments ++ (place, s) ∷ []) position (reaching place cursor) closed
placed_added_one size from written segments place s position cursor (Some t) some are most is = tt
placed_added_one size from written segments place s position cursor None some are most is =
    (is.0, is.1, ap (reaching place) is.2 ∙ sym (cursor_added size from segments place s position some are is.0 (omega (arith, is.1, most))))

placed_added : (size from written : ℕ) (segments : List (Place × Segment)) (place : Place) (s : Segment) (readers : List Tracked) → 0 < size → AreSegments size segments → written ≤ from + length (joined segments)
    → ArePlaced size from written segments readers → ArePlaced size from written (segments ++ (place, s) ∷ []) (all_reaching place readers)
placed_added size from written segments place s [] some are most placed = tt
placed_added size from written segments place s (r ∷ rs) some are most placed =
    (placed_added_one size from written segments place s r.position r.cursor r.closed some are most placed.0, placed_added size from written segments place s rs some are most placed.1)

all_stand_by : (size from written x : ℕ) (segments : List (Place × Segment)) (start position : ℕ) (cursor : Cursor) (closed : Option Status) → written < x → IsPlaced size from written segments position cursor closed
    → stands_before x (record { start = start; position = position; closed = closed }) ≡ (if is_open closed then 1 else 0)
all_stand_by size from written x segments start position cursor (Some s) behind is = refl
all_stand_by size from written x segments start position cursor None behind is = before_yes position x (omega (arith, is.1, behind))

all_stand : (size from written x : ℕ) (segments : List (Place × Segment)) (readers : List Tracked) → written < x → ArePlaced size from written segments readers → standing (all_seen readers) x ≡ open_count (all_seen readers)
all_stand size from written x segments [] behind placed = refl
all_stand size from written x segments (r ∷ rs) behind placed =
    omega (arith, all_stand_by size from written x segments r.start r.position r.cursor r.closed behind placed.0, all_stand size from written x segments rs behind placed.1)

pub added : (size from written ahead : ℕ) (segments : List (Place × Segment)) (place : Place) (s : Segment) (readers : List Tracked) (writer : Cursor) → 0 < size → AreSegments size segments → length s.bytes ≡ size
    → s.readers ≡ open_count (all_seen readers) → IsLaid size from segments readers writer written ahead
    → IsLaid size from (segments ++ (place, s) ∷ []) (all_reaching place readers) (reaching place writer) written (ahead + size)
added size from written ahead segments place s readers writer some are sized counts laid =
    let most : written ≤ from + length (joined segments) = omega (arith, laid.ends) in
    let whole : standing (all_seen readers) (from + length (joined segments) + size) ≡ open_count (all_seen readers) = all_stand size from written (from + length (joined segments) + size) segments readers (omega (arith, most, some)) laid.placed in
    record {
      ends = omega (arith, laid.ends, ap (λ (xs : List ℕ). length xs) (length-joined_added segments place s), length-append (joined segments) s.bytes, sized);
      starts = laid.starts;
      counted = rw (seen_reaching place readers) (counted_added size from segments place s (standing (all_seen readers)) are (counts ∙ sym whole) laid.counted);
      placed = placed_added size from written segments place s readers some are most laid.placed;
      writes = ap (reaching place) laid.writes ∙ sym (cursor_added size from segments place s written some are laid.starts most);
    }

few_open_by : (closed : Option Status) → (if is_open closed then 1 else 0) ≤ 1
few_open_by None = omega arith
few_open_by (Some s) = omega arith

pub few_open : (rs : List Reader) → open_count rs ≤ length rs
few_open [] = omega arith
few_open (r ∷ rs) = omega (arith, few_open_by r.closed, few_open rs)

pub length_reaching : (place : Place) (rs : List Tracked) → length (all_reaching place rs) ≡ length rs
length_reaching place [] = refl
length_reaching place (r ∷ rs) = omega (arith, length_reaching place rs)

-- what is kept stays, as long as only what is not written grows
pub kept_added : (ahead size : ℕ) (segments segments' : List (Place × Segment)) (bytes : List ℕ) → length bytes ≡ size → ahead ≤ length (joined segments) → joined segments' ≡ joined segments ++ bytes → kept_bytes segments' (ahead + size) ≡ kept_bytes segments ahead
kept_added ahead size segments segments' bytes sized most is =
    let same : length (joined segments ++ bytes) - (ahead + size) ≡ length (joined segments) - ahead = omega (arith, length-append (joined segments) bytes, sized) in
    rw (is, same) (take-append-le (length (joined segments) - ahead) (joined segments) bytes (omega arith))

-- bytes that are put where the writer stands
pub take_front : (xs ys : List ℕ) (n k : ℕ) → n ≡ length xs + k → take n (xs ++ ys) ≡ xs ++ take k ys
take_front [] ys n k is = let same : n ≡ k = omega (arith, is) in rw same refl
take_front (x ∷ xs) ys n k is =
    let same : n ≡ suc (length xs + k) = omega (arith, is) in rw same (ap (λ zs. x ∷ zs) (take_front xs ys (length xs + k) k refl))

-- a write within a list keeps its length
length-overwritten : (old : List ℕ) (at : ℕ) (new : List ℕ) → at + length new ≤ length old → length (overwritten old at new) ≡ length old
length-overwritten old at new fits =
    omega (arith, length-append (take at old) (new ++ drop (at + length new) old), length-append new (drop (at + length new) old), length-take at old, length-drop (at + length new) old)

overwritten_in : (xs ys new : List ℕ) (at : ℕ) → at + length new ≤ length xs → overwritten xs at new ++ ys ≡ overwritten (xs ++ ys) at new
overwritten_in xs ys new at fits =
    let a : at ≤ length xs = omega (arith, fits) in
    append_assoc (take at xs) (new ++ drop (at + length new) xs) ys
    ∙ rw (append_assoc new (drop (at + length new) xs) ys, take-append-le at xs ys a, drop-append-le (at + length new) xs ys fits) refl

overwritten_past : (xs ys new : List ℕ) (at k : ℕ) → at ≡ length xs + k → xs ++ overwritten ys k new ≡ overwritten (xs ++ ys) at new
overwritten_past xs ys new at k is =
    let there : length xs + (k + length new) ≡ at + length new = omega (arith, is) in
    rw (take_front xs ys at k is, drop_past 0 xs ys (at + length new) (k + length new) there) (sym (append_assoc xs (take k ys) (new ++ drop (k + length new) ys)))

pub at_put : (size from : ℕ) (segments : List (Place × Segment)) (position : ℕ) (place : Place) (offset : ℕ) (new : List ℕ) → offset + length new ≤ size → AreSegments size segments → IsAt size from segments position place offset
    → joined (changed_at (with_bytes offset new) segments place) ≡ overwritten (joined segments) (position - from) new
at_put size from [] position place offset new fits are at = absurd at
at_put size from (e ∷ rest) position place offset new fits are (inl here) =
    let same : position - from ≡ offset = omega (arith, here.2) in
    rw (changed_at-own (with_bytes offset new) e rest place here.1, same) (overwritten_in e.1.bytes (joined rest) new offset (omega (arith, fits, are.0)))
at_put size from (e ∷ rest) position place offset new fits are (inr later) =
    let differs : e.0.0 ≢ place.0 = λ same. live_differs rest place e.0 (at_live size (from + size) rest position place offset later.1) are.2 (sym same) in
    let behind : position - from ≡ length e.1.bytes + (position - (from + size)) = omega (arith, are.0, later.0) in
    rw (changed_at-other (with_bytes offset new) e rest place differs)
    (ap (λ xs. e.1.bytes ++ xs) (at_put size (from + size) rest position place offset new fits are.3 later.1) ∙ overwritten_past e.1.bytes (joined rest) new (position - from) (position - (from + size)) behind)

counted_put : (size at from : ℕ) (new : List ℕ) (segments : List (Place × Segment)) (place : Place) (before : ℕ → ℕ) → AreCounted size from segments before → AreCounted size from (changed_at (with_bytes at new) segments place) before
counted_put size at from new [] place before counted = tt
counted_put size at from new (e ∷ rest) place before counted =
    grind (arith, nat_tests, counted, counted.0, counted.1, counted_put size at (from + size) new rest place before counted.1)

placed_more_one : (size from written n : ℕ) (segments : List (Place × Segment)) (position : ℕ) (cursor : Cursor) (closed : Option Status) → IsPlaced size from written segments position cursor closed → IsPlaced size from (written + n) segments position cursor closed
placed_more_one size from written n segments position cursor (Some s) is = tt
placed_more_one size from written n segments position cursor None is = (is.0, omega (arith, is.1), is.2)

placed_more : (size from written n : ℕ) (segments : List (Place × Segment)) (readers : List Tracked) → ArePlaced size from written segments readers → ArePlaced size from (written + n) segments readers
placed_more size from written n segments [] placed = tt
placed_more size from written n segments (r ∷ rs) placed =
    (placed_more_one size from written n segments r.position r.cursor r.closed placed.0, placed_more size from written n segments rs placed.1)

moved_by : (size from : ℕ) (segments : List (Place × Segment)) (position : ℕ) (place : Place) (offset n : ℕ) → AreSegments size segments → offset + n ≤ size → IsAt size from segments position place offset → (offset + n < size) ⊎ (size ≤ offset + n)
    → cursor_in size segments place (offset + n) ≡ cursor_over size from segments (position + n)
moved_by size from segments position place offset n are fits at (inl below) =
    let test : nat_lt (offset + n) size ≡ true = grind (arith, nat_tests) in
    rw test (sym (at_cursor size from segments (position + n) place (offset + n) (at_within size from segments position place offset n below at)))
moved_by size from segments position place offset n are fits at (inr full) =
    let test : nat_lt (offset + n) size ≡ false = grind (arith, nat_tests) in
    rw test (sym (at_next size from segments position place offset n (omega (arith, fits, full)) are at))

pub put : (size from written ahead : ℕ) (segments : List (Place × Segment)) (place : Place) (offset n : ℕ) (new : List ℕ) (readers : List Tracked) (writer : Cursor) → AreSegments size segments → AreSegments size (changed_at (with_bytes offset new) segments place)
    → offset + n ≤ size → length new ≡ n → n ≤ ahead → IsAt size from segments written place offset → IsLaid size from segments readers writer written ahead
    → IsLaid size from (changed_at (with_bytes offset new) segments place) readers (cursor_in size (changed_at (with_bytes offset new) segments place) place (offset + n)) (written + n) (ahead - n)
put size from written ahead segments place offset n new readers writer are after fits long room at laid =
    let same = cursor-at size (with_bytes offset new) from segments place in
    let at' : IsAt size from (changed_at (with_bytes offset new) segments place) written place offset = cursor_at size from (changed_at (with_bytes offset new) segments place) written place offset laid.starts (same written ∙ at_cursor size from segments written place offset at) in
    let whole = at_put size from segments written place offset new (omega (arith, fits, long)) are at in
    let ends : written - from + length new ≤ length (joined segments) = omega (arith, laid.ends, laid.starts, room, long) in
    record {
      ends = omega (arith, laid.ends, room, ap (λ (xs : List ℕ). length xs) whole, length-overwritten (joined segments) (written - from) new ends);
      starts = omega (arith, laid.starts);
      counted = counted_put size offset from new segments place (standing (all_seen readers)) laid.counted;
      placed = placed_more size from written n (changed_at (with_bytes offset new) segments place) readers (placed_same size from written segments (changed_at (with_bytes offset new) segments place) same readers laid.placed);
      writes = moved_by size from (changed_at (with_bytes offset new) segments place) written place offset n after fits at' (bound size (offset + n) size);
    }

pub kept_put : (size from written ahead : ℕ) (segments : List (Place × Segment)) (place : Place) (offset n : ℕ) (new : List ℕ) (readers : List Tracked) (writer : Cursor) → AreSegments size segments → offset + n ≤ size → length new ≡ n → n ≤ ahead
    → IsAt size from segments written place offset → IsLaid size from segments readers writer written ahead
    → kept_bytes (changed_at (with_bytes offset new) segments place) (ahead - n) ≡ kept_bytes segments ahead ++ new
kept_put size from written ahead segments place offset n new readers writer are fits long room at laid =
    let whole = at_put size from segments written place offset new (omega (arith, fits, long)) are at in
    let ends : written - from + length new ≤ length (joined segments) = omega (arith, laid.ends, laid.starts, room, long) in
    let k : length (joined segments) - ahead ≡ written - from = omega (arith, laid.ends, laid.starts) in
    let m : length (overwritten (joined segments) (written - from) new) - (ahead - n) ≡ length (take (written - from) (joined segments) ++ new) = omega (arith, laid.ends, laid.starts, room, long, length-overwritten (joined segments) (written - from) new ends, length-append (take (written - from) (joined segments)) new, length-take (written - from) (joined segments)) in
    rw (whole, m, k, ← append_assoc (take (written - from) (joined segments)) new (drop (written - from + length new) (joined segments)))
    (take_at (take (written - from) (joined segments) ++ new) (drop (written - from + length new) (joined segments)) _ refl)

-- the room fits a machine number
pub room_fits : (furthest size limit written : ℕ) → furthest ≤ written → written < 2 ^ 62 → size ≤ 65536 → limit ≤ 1024 → (furthest / size + limit) * size < 2 ^ 64
room_fits furthest size limit written within few small low =
    omega (arith, div-mul-le_self furthest size, mul-le limit size 1024 65536 low small)

pub room_small : (furthest size limit written : ℕ) → furthest ≤ written → size ≤ 65536 → limit ≤ 1024 → (furthest / size + limit) * size - written ≤ 67108864
room_small furthest size limit written within small low =
    omega (arith, div-mul-le_self furthest size, mul-le limit size 1024 65536 low small)
