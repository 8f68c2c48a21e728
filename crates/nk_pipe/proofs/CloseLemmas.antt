-- Lemmas on readers that come and go.
use Rattle.std.proofs.Common.{◌≡◌, ℕ, ◌+◌, ◌<◌, ◌≤◌, Bool, true, false, List, [], ◌∷◌, ◌++◌, length, Option, Some, None, refl, sym, ap, ◌∙◌, arith, if◌then◌else◌}
use Rattle.std.specs.Prelude.{nat_le, Ok, Err, slice_get, slice_set}
use Rattle.std.proofs.lemmas.Bool.Decides.{nat_tests}
use Rattle.nk_base.specs.declared.status.Status.{Status}
use Rattle.nk_segments.specs.Places.{Place}
use Rattle.nk_segments.specs.Segments.{Segment, raised, lowered, changed_from, AreSegments}
use Rattle.nk_pipe.specs.declared.answer.CloneError.TheVariants as clone
use Rattle.nk_pipe.specs.declared.cursor.Cursor.{Cursor}
use Rattle.nk_pipe.specs.declared.reader.Reader.{Reader as Tracked}
use Rattle.nk_pipe.specs.Pipe.{has_open, first_close, clone_open}
use Rattle.nk_pipe.specs.Laid.{seen, all_seen, joined, standing, HeldAt, released_at, MayHoldAt, held_at}
use Rattle.nk_pipe.proofs.CursorLemmas.{IsEnd, at_live, cursor_end}
use Rattle.nk_pipe.proofs.CountLemmas.{one_before, before_no, counted_closed, counted_held, counted_end, below_since, standing-set, standing-append, standing_few}
use Rattle.nk_pipe.proofs.FreeLemmas.{sized, sized-from}
use Rattle.nk_pipe.proofs.ReaderLemmas.{seen-set, seen-append, seen_get, length_seen}
use Rattle.nk_pipe.proofs.LaidLemmas.{Loses, loses_needed, loses_none, placed_set, placed_append, placed_same, reader_at_place, cursor-from, joined-from, stands_open}
use Rattle.nk_pipe.proofs.PipeLemmas.{Reading, held}

-- a reader that is closed, and one that starts where another stands
abbrev pub closed_reader : Tracked → Status → Tracked
closed_reader r status = record { start = r.start; position = r.position; closed = Some status; cursor = r.cursor }

abbrev pub clone_reader : Tracked → Tracked
clone_reader r = record { start = r.position; position = r.position; closed = None; cursor = r.cursor }

closes_by : (readers : List Tracked) (i : ℕ) (r : Tracked) (status : Status) → slice_get readers i ≡ Some r → r.closed ≡ None
    → (x : ℕ) → standing (all_seen (slice_set readers i (closed_reader r status))) x + one_before r.position x ≡ standing (all_seen readers) x
closes_by readers i r status get opens x =
    let step = standing-set (all_seen readers) i x (seen r) (seen (closed_reader r status)) (seen_get readers i r get) in
    let one = stands_open x r opens in
    rw (seen-set readers i (closed_reader r status)) (omega (arith, step, one))

closed_at : (size from written ahead : ℕ) (segments : List (Place × Segment)) (readers : List Tracked) (writer : Cursor) (i : ℕ) (r : Tracked) (status : Status) (o : Option Place) → AreSegments size segments → Reading size from written ahead segments readers writer i r
    → r.cursor.place ≡ o → Loses size from segments (released_at segments o) (slice_set readers i (closed_reader r status)) writer written ahead
closed_at size from written ahead segments readers writer i r status None are reading place =
    let laid = reading.laid in
    let end : IsEnd size from segments r.position = cursor_end size from segments r.position r.cursor.offset (sym reading.placed.2 ∙ ap (λ (p : Option Place). let c : Cursor = record { place = p; offset = r.cursor.offset } in c) place) in
    let closes = closes_by readers i r status reading.get reading.opens in
    loses_none size from written ahead segments _ writer
    (λ _. record {
      ends = laid.ends;
      starts = laid.starts;
      counted = counted_end size from segments r.position (standing (all_seen readers)) (standing (all_seen (slice_set readers i (closed_reader r status)))) end (λ x h. omega (arith, closes x, before_no r.position x h)) laid.counted;
      placed = placed_set size from written segments readers i (closed_reader r status) tt laid.placed;
      writes = laid.writes;
    })
closed_at size from written ahead segments readers writer i r status (Some p) are reading place =
    let laid = reading.laid in
    let at = reader_at_place size from written segments r p reading.placed place in
    let same = cursor-from size lowered from segments p in
    loses_needed size from written ahead segments (changed_from lowered segments p) _ writer (sized-from size lowered (λ s. refl) segments p (sized size segments are)) (joined-from lowered (λ s. refl) segments p)
    (λ _. record {
      ends = rw (joined-from lowered (λ s. refl) segments p) laid.ends;
      starts = laid.starts;
      counted = counted_closed size from segments r.position p r.cursor.offset (standing (all_seen readers)) (standing (all_seen (slice_set readers i (closed_reader r status)))) are at (closes_by readers i r status reading.get reading.opens) laid.counted;
      placed = placed_set size from written (changed_from lowered segments p) readers i (closed_reader r status) tt (placed_same size from written segments (changed_from lowered segments p) same readers laid.placed);
      writes = laid.writes ∙ sym (same written);
    })

-- a reader is closed
pub closed : (size from written ahead : ℕ) (segments : List (Place × Segment)) (readers : List Tracked) (writer : Cursor) (i : ℕ) (r : Tracked) (status : Status) → AreSegments size segments → Reading size from written ahead segments readers writer i r
    → Loses size from segments (released_at segments r.cursor.place) (slice_set readers i (closed_reader r status)) writer written ahead
closed size from written ahead segments readers writer i r status are reading =
    closed_at size from written ahead segments readers writer i r status r.cursor.place are reading refl

held_by : (size from written ahead : ℕ) (segments : List (Place × Segment)) (readers : List Tracked) (writer : Cursor) (i : ℕ) (r : Tracked) (o : Option Place) → AreSegments size segments → Reading size from written ahead segments readers writer i r → r.cursor.place ≡ o → HeldAt segments o
held_by size from written ahead segments readers writer i r None are reading place = tt
held_by size from written ahead segments readers writer i r (Some p) are reading place =
    (at_live size from segments r.position p r.cursor.offset (reader_at_place size from written segments r p reading.placed place), held size from written ahead segments readers writer i r p reading are place)

pub may_release : (size from written ahead : ℕ) (segments : List (Place × Segment)) (readers : List Tracked) (writer : Cursor) (i : ℕ) (r : Tracked) → AreSegments size segments → Reading size from written ahead segments readers writer i r → HeldAt segments r.cursor.place
may_release size from written ahead segments readers writer i r are reading =
    held_by size from written ahead segments readers writer i r r.cursor.place are reading refl

may_by : (size from written ahead : ℕ) (segments : List (Place × Segment)) (readers : List Tracked) (writer : Cursor) (i : ℕ) (r : Tracked) (o : Option Place) → Reading size from written ahead segments readers writer i r → length readers < 8 → r.cursor.place ≡ o → MayHoldAt segments o
may_by size from written ahead segments readers writer i r None reading few place = tt
may_by size from written ahead segments readers writer i r (Some p) reading few place =
    let laid = reading.laid in (
      at_live size from segments r.position p r.cursor.offset (reader_at_place size from written segments r p reading.placed place),
      below_since size from segments p (standing (all_seen readers)) (λ x. omega (arith, few, length_seen readers, standing_few (all_seen readers) x)) laid.counted,
    )

pub may_hold : (size from written ahead : ℕ) (segments : List (Place × Segment)) (readers : List Tracked) (writer : Cursor) (i : ℕ) (r : Tracked) → Reading size from written ahead segments readers writer i r → length readers < 8 → MayHoldAt segments r.cursor.place
may_hold size from written ahead segments readers writer i r reading few =
    may_by size from written ahead segments readers writer i r r.cursor.place reading few refl

holds_by : (readers : List Tracked) (r : Tracked) (x : ℕ) → standing (all_seen (readers ++ clone_reader r ∷ [])) x ≡ standing (all_seen readers) x + one_before r.position x
holds_by readers r x = rw (seen-append readers (clone_reader r)) (standing-append (all_seen readers) x (seen (clone_reader r)))

cloned_at : (size from written ahead : ℕ) (segments : List (Place × Segment)) (readers : List Tracked) (writer : Cursor) (i : ℕ) (r : Tracked) (o : Option Place) → AreSegments size segments → Reading size from written ahead segments readers writer i r → length readers < 8
    → r.cursor.place ≡ o → MayHoldAt segments o → Loses size from segments (held_at segments o) (readers ++ clone_reader r ∷ []) writer written ahead
cloned_at size from written ahead segments readers writer i r None are reading few place may =
    let laid = reading.laid in
    let end : IsEnd size from segments r.position = cursor_end size from segments r.position r.cursor.offset (sym reading.placed.2 ∙ ap (λ (p : Option Place). let c : Cursor = record { place = p; offset = r.cursor.offset } in c) place) in
    loses_none size from written ahead segments _ writer
    (λ _. record {
      ends = laid.ends;
      starts = laid.starts;
      counted = counted_end size from segments r.position (standing (all_seen readers)) (standing (all_seen (readers ++ clone_reader r ∷ []))) end (λ x h. omega (arith, holds_by readers r x, before_no r.position x h)) laid.counted;
      placed = placed_append size from written segments readers (clone_reader r) reading.placed laid.placed;
      writes = laid.writes;
    })
cloned_at size from written ahead segments readers writer i r (Some p) are reading few place may =
    let laid = reading.laid in
    let at = reader_at_place size from written segments r p reading.placed place in
    let same = cursor-from size raised from segments p in
    let there : from + 0 ≡ from = omega arith in
    record {
      lost = 0;
      laid = λ _. rw there (record {
        ends = rw (joined-from raised (λ s. refl) segments p) laid.ends;
        starts = laid.starts;
        counted = counted_held size from segments r.position p r.cursor.offset (standing (all_seen readers)) (standing (all_seen (readers ++ clone_reader r ∷ []))) are at (holds_by readers r) laid.counted;
        placed = placed_append size from written (changed_from raised segments p) readers (clone_reader r) (reading.placed.0, reading.placed.1, reading.placed.2 ∙ sym (same r.position)) (placed_same size from written segments (changed_from raised segments p) same readers laid.placed);
        writes = laid.writes ∙ sym (same written);
      });
      joined = joined-from raised (λ s. refl) segments p;
    }

-- a reader is cloned
pub cloned_reader : (size from written ahead : ℕ) (segments : List (Place × Segment)) (readers : List Tracked) (writer : Cursor) (i : ℕ) (r : Tracked) → AreSegments size segments → Reading size from written ahead segments readers writer i r → length readers < 8
    → Loses size from segments (held_at segments r.cursor.place) (readers ++ clone_reader r ∷ []) writer written ahead
cloned_reader size from written ahead segments readers writer i r are reading few =
    cloned_at size from written ahead segments readers writer i r r.cursor.place are reading few refl (may_hold size from written ahead segments readers writer i r reading few)

pub joined-held : (segments : List (Place × Segment)) (o : Option Place) → joined (held_at segments o) ≡ joined segments
joined-held segments None = refl
joined-held segments (Some p) = joined-from raised (λ s. refl) segments p

pub has_open-append : (readers : List Tracked) (r : Tracked) → r.closed ≡ None → has_open (all_seen (readers ++ r ∷ [])) ≡ true
has_open-append [] r opens = rw opens refl
has_open-append (s ∷ rs) r opens = let later = has_open-append rs r opens in grind (arith, later)

-- where a pipe is not closed by a close of a reader, another is open
pub told_by : (b : Bool) (kept : Option Status) (status : Status) → (if b then kept else first_close kept status) ≡ None → b ≡ true
told_by true kept status none = refl
told_by false None status none = absurd (cc)
told_by false (Some s) status none = absurd (cc)

-- what a clone answers
pub refused : (o : Option Status) (made : ℕ) (s : Status) → o ≡ Some s → clone_open o made ≡ Err (clone.Closed s)
refused o made s is = rw is refl

pub too_many : (o : Option Status) (made : ℕ) → o ≡ None → 8 ≤ made → clone_open o made ≡ Err clone.TooManyReaders
too_many o made opens many = let test : nat_le 8 made ≡ true = grind (arith, nat_tests) in rw (opens, test) refl

pub may_clone : (o : Option Status) (made : ℕ) → o ≡ None → made < 8 → clone_open o made ≡ Ok (made + 1)
may_clone o made opens few = let test : nat_le 8 made ≡ false = grind (arith, nat_tests) in rw (opens, test) refl
