-- Lemmas on segments in a chain: what a change of some of them does to their places and sizes.
use Rattle.std.proofs.Common.{◌≡◌, ℕ, ◌+◌, ◌≤◌, List, [], ◌∷◌, ◌++◌, length, take, drop, replicate, Some, None, refl, arith}
use Rattle.std.proofs.lemmas.Bool.Decides.{nat_tests}
use Rattle.std.proofs.lemmas.List.{length-append, length-take, length-drop, length-replicate}
use Rattle.nk_chain.specs.declared.Place.{Place}
use Rattle.nk_chain.specs.Chain.{item_at, with_item, PlacesDiffer}
use Rattle.nk_segments.specs.Segments.{Segment, raised, lowered, overwritten, with_bytes, changed_all, changed_at, changed_from, since, needed, AreBelowEight, AreSegments}

-- a write of a segment at its place is a change at that place
pub with_item-changed : (f : Segment → Segment) (items : List (Place × Segment)) (place : Place) (s : Segment) → item_at items place ≡ Some s → with_item items place (f s) ≡ changed_at f items place
with_item-changed f [] place s at = refl
with_item-changed f (e ∷ rest) place s at = grind (arith, nat_tests, with_item-changed f rest place s)

-- a change moves no segment
pub item_at-changed_absent : (f : Segment → Segment) (items : List (Place × Segment)) (place other : Place) → item_at items other ≡ None → item_at (changed_at f items place) other ≡ None
item_at-changed_absent f [] place other absent = refl
item_at-changed_absent f (e ∷ rest) place other absent = grind (arith, nat_tests, item_at-changed_absent f rest place other)

pub item_at-all_absent : (f : Segment → Segment) (items : List (Place × Segment)) (other : Place) → item_at items other ≡ None → item_at (changed_all f items) other ≡ None
item_at-all_absent f [] other absent = refl
item_at-all_absent f (e ∷ rest) other absent = grind (arith, nat_tests, item_at-all_absent f rest other)

pub item_at-from_absent : (f : Segment → Segment) (items : List (Place × Segment)) (place other : Place) → item_at items other ≡ None → item_at (changed_from f items place) other ≡ None
item_at-from_absent f [] place other absent = refl
item_at-from_absent f (e ∷ rest) place other absent = grind (arith, nat_tests, item_at-from_absent f rest place other, item_at-all_absent f rest other)

-- what is kept are segments still
pub segments-needed : (size : ℕ) (items : List (Place × Segment)) → AreSegments size items → AreSegments size (needed items)
segments-needed size [] are = tt
segments-needed size (e ∷ rest) are = grind (arith, nat_tests, segments-needed size rest)

-- with a new one behind, at a place of its own, they are segments still
pub segments-added : (size : ℕ) (items : List (Place × Segment)) (place : Place) (readers : ℕ) → readers ≤ 8 → PlacesDiffer (items ++ (place, record { bytes = replicate size 0; readers = readers }) ∷ []) → AreSegments size items
    → AreSegments size (items ++ (place, record { bytes = replicate size 0; readers = readers }) ∷ [])
segments-added size [] place readers few distinct are = (length-replicate size 0, few, refl, tt)
segments-added size (e ∷ rest) place readers few distinct are =
    (are.0, are.1, distinct.0, segments-added size rest place readers few distinct.1 are.3)

-- a write within a list keeps its length
pub length-overwritten : (old : List ℕ) (at : ℕ) (new : List ℕ) → at + length new ≤ length old → length (overwritten old at new) ≡ length old
length-overwritten old at new fits =
    omega (arith, length-append (take at old) (new ++ drop (at + length new) old), length-append new (drop (at + length new) old), length-take at old, length-drop (at + length new) old)

-- a change that keeps size and count within their bounds leaves segments
pub segments-put : (size at : ℕ) (new : List ℕ) (items : List (Place × Segment)) (place : Place) → at + length new ≤ size → AreSegments size items → AreSegments size (changed_at (with_bytes at new) items place)
segments-put size at new [] place fits are = tt
segments-put size at new (e ∷ rest) place fits are =
    grind (arith, nat_tests, segments-put size at new rest place fits are.3, are.0, are.1, are.2, are.3, length-overwritten e.1.bytes at new, item_at-changed_absent (with_bytes at new) rest place e.0 are.2)

pub segments-lowered_at : (size : ℕ) (items : List (Place × Segment)) (place : Place) → AreSegments size items → AreSegments size (changed_at lowered items place)
segments-lowered_at size [] place are = tt
segments-lowered_at size (e ∷ rest) place are =
    grind (arith, nat_tests, segments-lowered_at size rest place are.3, are.0, are.1, are.2, are.3, item_at-changed_absent lowered rest place e.0 are.2)

segments-lowered_all : (size : ℕ) (items : List (Place × Segment)) → AreSegments size items → AreSegments size (changed_all lowered items)
segments-lowered_all size [] are = tt
segments-lowered_all size (e ∷ rest) are =
    (are.0, omega (arith, are.1), item_at-all_absent lowered rest e.0 are.2, segments-lowered_all size rest are.3)

segments-raised_all : (size : ℕ) (items : List (Place × Segment)) → AreBelowEight items → AreSegments size items → AreSegments size (changed_all raised items)
segments-raised_all size [] below are = tt
segments-raised_all size (e ∷ rest) below are =
    (are.0, omega (arith, below.0), item_at-all_absent raised rest e.0 are.2, segments-raised_all size rest below.1 are.3)

pub segments-lowered_from : (size : ℕ) (items : List (Place × Segment)) (place : Place) → AreSegments size items → AreSegments size (changed_from lowered items place)
segments-lowered_from size [] place are = tt
segments-lowered_from size (e ∷ rest) place are =
    grind (arith, nat_tests, segments-lowered_from size rest place are.3, are.0, are.1, are.2, are.3, item_at-from_absent lowered rest place e.0 are.2, segments-lowered_all size (e ∷ rest) are)

pub segments-raised_from : (size : ℕ) (items : List (Place × Segment)) (place : Place) → AreBelowEight (since items place) → AreSegments size items → AreSegments size (changed_from raised items place)
segments-raised_from size [] place below are = tt
segments-raised_from size (e ∷ rest) place below are =
    grind (arith, nat_tests, below, segments-raised_from size rest place, are.0, are.1, are.2, are.3, item_at-from_absent raised rest place e.0 are.2, segments-raised_all size (e ∷ rest))

-- a segment has its size
pub segment_size : (size : ℕ) (items : List (Place × Segment)) (place : Place) (s : Segment) → AreSegments size items → item_at items place ≡ Some s → length s.bytes ≡ size
segment_size size [] place s are at = absurd (cc)
segment_size size (e ∷ rest) place s are at = grind (arith, nat_tests, at, are.0, segment_size size rest place s are.3)
