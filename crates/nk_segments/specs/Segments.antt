-- Segments in a chain, each with a count of the readers that stand in it or in front of it. After the segments of
-- Firefox's nsPipe in outline; the counts are this project's own.
use Rattle.std.specs.Prelude.{◌≡◌, ℕ, ◌+◌, ◌-◌, ◌<◌, ◌≤◌, ◌==◌, List, [], ◌∷◌, ◌++◌, length, take, drop, None, if◌then◌else◌}
use Rattle.nk_chain.specs.declared.Place.{Place}
use Rattle.nk_chain.specs.Chain.{item_at}

-- the bytes of a segment, and how many readers stand in it or in front of it
pub record Segment : Type 0 where
  pub bytes : List ℕ
  pub readers : ℕ

-- how many bytes each segment has, and the segments in order, each with its place
pub record Segments : Type 0 where
  pub size : ℕ
  pub segments : List (Place × Segment)

-- one more reader stands in it or in front of it, and one fewer
abbrev pub raised : Segment → Segment
raised s = record { bytes = s.bytes; readers = s.readers + 1 }

abbrev pub lowered : Segment → Segment
lowered s = record { bytes = s.bytes; readers = s.readers - 1 }

-- a list with these bytes in it from a place on
abbrev pub overwritten : List ℕ → ℕ → List ℕ → List ℕ
overwritten old at new = take at old ++ (new ++ drop (at + length new) old)

-- these bytes stand in it from `at` on
abbrev pub with_bytes : ℕ → List ℕ → Segment → Segment
with_bytes at new s = record { bytes = overwritten s.bytes at new; readers = s.readers }

-- every segment is changed
abbrev pub changed_all : (Segment → Segment) → List (Place × Segment) → List (Place × Segment)
changed_all f [] = []
changed_all f (e ∷ rest) = (e.0, f e.1) ∷ changed_all f rest

-- the segment at a place is changed
abbrev pub changed_at : (Segment → Segment) → List (Place × Segment) → Place → List (Place × Segment)
changed_at f [] place = []
changed_at f (e ∷ rest) place = if e.0.0 == place.0 then (e.0, f e.1) ∷ rest else e ∷ changed_at f rest place

-- the segments from a place on are changed
abbrev pub changed_from : (Segment → Segment) → List (Place × Segment) → Place → List (Place × Segment)
changed_from f [] place = []
changed_from f (e ∷ rest) place =
    if e.0.0 == place.0 then changed_all f (e ∷ rest) else e ∷ changed_from f rest place

-- the segments from a place on
abbrev pub since : List (Place × Segment) → Place → List (Place × Segment)
since [] place = []
since (e ∷ rest) place = if e.0.0 == place.0 then e ∷ rest else since rest place

-- what is kept: all but the segments at the front that no reader needs
abbrev pub needed : List (Place × Segment) → List (Place × Segment)
needed [] = []
needed (e ∷ rest) = if e.1.readers == 0 then needed rest else e ∷ rest

-- each count is below 8
abbrev pub AreBelowEight : List (Place × Segment) → Type 0
AreBelowEight [] = Unit {0}
AreBelowEight (e ∷ rest) = (e.1.readers < 8) × AreBelowEight rest

-- each count is above 0
abbrev pub AreHeld : List (Place × Segment) → Type 0
AreHeld [] = Unit {0}
AreHeld (e ∷ rest) = (0 < e.1.readers) × AreHeld rest

-- each segment has its size, and a count of at most 8, and no two have one place
abbrev pub AreSegments : ℕ → List (Place × Segment) → Type 0
AreSegments size [] = Unit {0}
AreSegments size (e ∷ rest) =
    (length e.1.bytes ≡ size) × (e.1.readers ≤ 8) × (item_at rest e.0 ≡ None) × AreSegments size rest
