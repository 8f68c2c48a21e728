-- Lemmas on what a pipe keeps: its value, and the facts of the type.
use Rattle.std.proofs.Common.{◌≡◌, ℕ, zero, suc, ◌+◌, ◌-◌, ◌<◌, ◌≤◌, true, List, [], ◌∷◌, length, take, drop, min, Option, Some, None, refl, sym, ap, ◌∙◌, arith}
use Rattle.std.specs.Prelude.{slice_get, slice_set, IfSome, IsSome}
use Rattle.std.proofs.lemmas.List.{length-take, length-drop, drop_min, take-take}
use Rattle.std.proofs.lemmas.Grind.{common_steps}
use Rattle.std.proofs.lemmas.Bool.Decides.{nat_tests}
use Rattle.nk_base.specs.declared.status.Status.{Status}
use Rattle.nk_segments.specs.Places.{Place, item_at, IsLive}
use Rattle.nk_segments.specs.Segments.{Segment, Segments, AreSegments, AreHeld, since, changed_at}
use Rattle.nk_pipe.specs.declared.cursor.Cursor.{Cursor}
use Rattle.nk_pipe.specs.declared.reader.Reader.{Reader as Tracked}
use Rattle.nk_pipe.specs.Pipe.{has_open}
use Rattle.nk_pipe.specs.Kept.{OpenAt, ReachesBy}
use Rattle.nk_pipe.specs.Laid.{seen, all_seen, joined, filled, kept_bytes, past, standing, IsPlaced, IsLaid, IsPipe}
use Rattle.nk_pipe.proofs.CursorLemmas.{cursor_end, end_behind}
use Rattle.nk_pipe.proofs.CountLemmas.{held_since, standing_some}
use Rattle.nk_pipe.proofs.ReaderLemmas.{seen_get, open_get}
use Rattle.nk_pipe.proofs.LaidLemmas.{Loses, has_open-set, placed_open, reader_at_place}

-- as many bytes were written as were given back and are kept
pub count_is : (written ahead : ℕ) (segments : List (Place × Segment)) → filled segments ahead ≤ written → past segments written ahead + length (kept_bytes segments ahead) ≡ written
count_is written ahead segments fits = omega (arith, fits, length-take (filled segments ahead) (joined segments))

pub past_is : (size from written ahead : ℕ) (segments : List (Place × Segment)) (readers : List Tracked) (writer : Cursor) → IsLaid size from segments readers writer written ahead → past segments written ahead ≡ from
past_is size from written ahead segments readers writer laid = omega (arith, laid.ends, laid.starts)

drop-take : (d m : ℕ) (xs : List ℕ) → drop d (take m xs) ≡ take (m - d) (drop d xs)
drop-take zero m xs = let same : m - 0 ≡ m = omega arith in rw same refl
drop-take (suc d) zero xs = let same : 0 - suc d ≡ 0 = omega arith in rw same refl
drop-take (suc d) (suc m) [] = grind (arith, common_steps)
drop-take (suc d) (suc m) (x ∷ xs) = let same : suc m - suc d ≡ m - d = omega arith in rw same (drop-take d m xs)

-- what is kept once segments at the front were given back
pub kept_drop : (ahead lost : ℕ) (segments segments' : List (Place × Segment)) → joined segments' ≡ drop lost (joined segments) → kept_bytes segments' ahead ≡ drop lost (kept_bytes segments ahead)
kept_drop ahead lost segments segments' is =
    let same : length (joined segments) - lost - ahead ≡ length (joined segments) - ahead - lost = omega arith in
    rw (is, drop-take lost (filled segments ahead) (joined segments), length-drop lost (joined segments), same) refl

pub record Forgotten (written ahead : ℕ) (segments segments' : List (Place × Segment)) : Type 0 where
  pub count : ℕ
  pub within : count ≤ length (kept_bytes segments ahead)
  pub bytes : kept_bytes segments' ahead ≡ drop count (kept_bytes segments ahead)
  pub past : past segments' written ahead ≡ past segments written ahead + count

pub forgotten : (written ahead lost : ℕ) (segments segments' : List (Place × Segment)) → filled segments ahead ≤ written → joined segments' ≡ drop lost (joined segments) → Forgotten written ahead segments segments'
forgotten written ahead lost segments segments' fits is =
    let n : ℕ = min lost (length (kept_bytes segments ahead)) in
    record {
      count = min lost (length (kept_bytes segments ahead));
      within = omega arith;
      bytes = kept_drop ahead lost segments segments' is ∙ sym (drop_min lost (kept_bytes segments ahead));
      past = omega (arith, fits, ap (λ (xs : List ℕ). length xs) is, length-drop lost (joined segments), length-take (filled segments ahead) (joined segments));
    }

-- what the type keeps is kept
pub pipe_after : (size limit written ahead : ℕ) (segments : Segments) (segments' : List (Place × Segment)) (readers readers' : List Tracked) (writer : Cursor) (closed closed' : Option Status)
    → IsPipe size limit segments readers writer written ahead closed → AreSegments segments.size segments' → Loses size (past segments.segments written ahead) segments.segments segments' readers' writer written ahead
    → length readers' ≤ 8 → (closed' ≡ None → has_open (all_seen readers') ≡ true) → IsPipe size limit (record { size = segments.size; segments = segments' }) readers' writer written ahead closed'
pipe_after size limit written ahead segments segments' readers readers' writer closed closed' is are loses few told = record {
  least = is.least;
  most = is.most;
  least_limit = is.least_limit;
  most_limit = is.most_limit;
  sized = is.sized;
  are = rw is.sized at are;
  few = few;
  fits = omega (arith, is.fits, ap (λ (xs : List ℕ). length xs) loses.joined, length-drop loses.lost (joined segments.segments));
  laid = λ opens. let laid = loses.laid opens in rw (past_is size _ written ahead segments' readers' writer laid) laid;
  told = told;
}

some_below : (rs : List Tracked) (i : ℕ) → IsSome (slice_get (all_seen rs) i) → i < length rs
some_below [] i is = absurd (cc)
some_below (r ∷ rs) zero is = omega arith
some_below (r ∷ rs) (suc i) is = omega (arith, some_below rs i is)

pub open_below : (rs : List Tracked) (i : ℕ) → OpenAt (all_seen rs) i → i < length rs
open_below rs i is = some_below rs i is.1

slice_set_same : (rs : List Tracked) (i : ℕ) (r : Tracked) → slice_get rs i ≡ Some r → slice_set rs i r ≡ rs
slice_set_same [] i r is = refl
slice_set_same (s ∷ rs) zero r is = let same : s ≡ r = cc in rw same refl
slice_set_same (s ∷ rs) (suc i) r is = ap (λ xs. s ∷ xs) (slice_set_same rs i r is)

pub length-slice_set : (rs : List Tracked) (i : ℕ) (r : Tracked) → length (slice_set rs i r) ≡ length rs
length-slice_set [] i r = refl
length-slice_set (s ∷ rs) zero r = refl
length-slice_set (s ∷ rs) (suc i) r = omega (arith, length-slice_set rs i r)

-- an open reader of a pipe
pub record Reading (size from written ahead : ℕ) (segments : List (Place × Segment)) (readers : List Tracked) (writer : Cursor) (i : ℕ) (r : Tracked) : Type 0 where
  pub get : slice_get readers i ≡ Some r
  pub opens : r.closed ≡ None
  pub laid : IsLaid size from segments readers writer written ahead
  pub placed : IsPlaced size from written segments r.position r.cursor None

pub reading : (size limit written ahead : ℕ) (segments : Segments) (readers : List Tracked) (writer : Cursor) (closed : Option Status) (i : ℕ) (r : Tracked)
    → IsPipe size limit segments readers writer written ahead closed → OpenAt (all_seen readers) i → slice_get readers i ≡ Some r
    → Reading size (past segments.segments written ahead) written ahead segments.segments readers writer i r
reading size limit written ahead segments readers writer closed i r is at get =
    let opens : r.closed ≡ None = rw (seen_get readers i r get) at at.0 in
    let has : has_open (all_seen readers) ≡ true = rw (slice_set_same readers i r get) at (has_open-set readers i r r get (rw opens refl)) in
    let laid = is.laid has in
    record {
      get = get;
      opens = opens;
      laid = laid;
      placed = placed_open size (past segments.segments written ahead) written segments.segments readers i r get opens laid.placed;
    }

-- an open reader with bytes left stands in a segment
pub stands : (size from written ahead : ℕ) (segments : List (Place × Segment)) (readers : List Tracked) (writer : Cursor) (i : ℕ) (r : Tracked) → Reading size from written ahead segments readers writer i r → AreSegments size segments → r.position < written
    → r.cursor.place ≡ None → ⊥
stands size from written ahead segments readers writer i r reading are left none =
    let e = cursor_end size from segments r.position r.cursor.offset (sym reading.placed.2 ∙ ap (λ (p : Option Place). let c : Cursor = record { place = p; offset = r.cursor.offset } in c) none) in
    let laid = reading.laid in
    absurd (omega (arith, end_behind size from segments r.position reading.placed.0 are e, laid.ends, left))

-- and is counted there
pub held : (size from written ahead : ℕ) (segments : List (Place × Segment)) (readers : List Tracked) (writer : Cursor) (i : ℕ) (r : Tracked) (place : Place) → Reading size from written ahead segments readers writer i r → AreSegments size segments
    → r.cursor.place ≡ Some place → AreHeld (since segments place)
held size from written ahead segments readers writer i r place reading are stands =
    let laid = reading.laid in
    let at = reader_at_place size from written segments r place reading.placed stands in
    held_since size from segments r.position place r.cursor.offset (standing (all_seen readers)) are at
    (λ x h. standing_some (all_seen readers) i x (seen r) (seen_get readers i r reading.get) (rw reading.opens refl) h) laid.counted

-- the segment at a place is the first of those from it on
held_here : (segments : List (Place × Segment)) (place : Place) (s : Segment) → item_at segments place ≡ Some s → AreHeld (since segments place) → 0 < s.readers
held_here [] place s at held = absurd (cc)
held_here (e ∷ rest) place s at held = grind (arith, nat_tests, at, held, held_here rest place s)

if_held : (segments : List (Place × Segment)) (place : Place) (o : Option Segment) → item_at segments place ≡ o → AreHeld (since segments place) → IfSome o (λ s. 0 < s.readers)
if_held segments place None is held = tt
if_held segments place (Some s) is held = held_here segments place s is held

-- the segment of an open reader has a count above 0
pub if_item : (segments : List (Place × Segment)) (place : Place) → AreHeld (since segments place) → IfSome (item_at segments place) (λ s. 0 < s.readers)
if_item segments place held = if_held segments place (item_at segments place) refl held

some_item : (o : Option Segment) → IsSome o → (s : Segment) × (o ≡ Some s)
some_item None is = absurd (cc)
some_item (Some s) is = (s, refl)

pub live_item : (segments : List (Place × Segment)) (place : Place) → IsLive segments place → (s : Segment) × (item_at segments place ≡ Some s)
live_item segments place live = some_item (item_at segments place) live

-- some bytes of those that are kept
pub take_kept : (ahead k n : ℕ) (segments : List (Place × Segment)) → k + n ≤ filled segments ahead → take n (drop k (joined segments)) ≡ take n (drop k (kept_bytes segments ahead))
take_kept ahead k n segments fits =
    let within : n ≤ filled segments ahead - k = omega (arith, fits) in
    rw drop-take (sym (take-take n (filled segments ahead - k) (drop k (joined segments)) within))

-- a change moves no segment
pub live-at : (f : Segment → Segment) (segments : List (Place × Segment)) (place other : Place) → IsLive segments other → IsLive (changed_at f segments place) other
live-at f [] place other live = live
live-at f (e ∷ rest) place other live = grind (arith, nat_tests, live, live-at f rest place other)

-- what is kept reaches back to an open reader
pub reaches_by : (size limit written ahead : ℕ) (segments : Segments) (readers : List Tracked) (writer : Cursor) (closed : Option Status) (i : ℕ) (r : Tracked) (o : Option Status)
    → IsPipe size limit segments readers writer written ahead closed → slice_get readers i ≡ Some r → r.closed ≡ o → ReachesBy o (past segments.segments written ahead) r.position
reaches_by size limit written ahead segments readers writer closed i r (Some s) is get closes = tt
reaches_by size limit written ahead segments readers writer closed i r None is get opens =
    (reading size limit written ahead segments readers writer closed i r is (open_get readers i r get opens) get).placed.0
