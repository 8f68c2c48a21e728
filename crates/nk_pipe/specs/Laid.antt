-- How a pipe lays its bytes out in segments, and where its cursors stand. No public clause cites this module.
use Rattle.std.specs.Prelude.{◌≡◌, ℕ, ◌+◌, ◌-◌, ◌≤◌, ◌&&◌, true, List, [], ◌∷◌, ◌++◌, length, take, nat_lt, Option, Some, None, if◌then◌else◌}
use Rattle.nk_base.specs.declared.status.Status.{Status}
use Rattle.nk_segments.specs.Places.{Place, place_after, IsLive}
use Rattle.nk_segments.specs.Segments.{Segment, Segments, raised, lowered, changed_at, changed_from, since, needed, AreSegments, AreHeld, AreBelowEight}
use Rattle.nk_pipe.specs.declared.cursor.Cursor.{Cursor}
use Rattle.nk_pipe.specs.declared.reader.Reader.{Reader as Tracked}
use Rattle.nk_pipe.specs.Pipe.{Reader, is_open, has_open}

-- a reader without its cursor
abbrev pub seen : Tracked → Reader
seen r = record { start = r.start; position = r.position; closed = r.closed }

abbrev pub all_seen : List Tracked → List Reader
all_seen [] = []
all_seen (r ∷ rs) = seen r ∷ all_seen rs

-- the bytes of the segments, one segment after another
abbrev pub joined : List (Place × Segment) → List ℕ
joined [] = []
joined (e ∷ rest) = e.1.bytes ++ joined rest

-- how many of them are written, and which
abbrev pub filled : List (Place × Segment) → ℕ → ℕ
filled segments ahead = length (joined segments) - ahead

abbrev pub kept_bytes : List (Place × Segment) → ℕ → List ℕ
kept_bytes segments ahead = take (filled segments ahead) (joined segments)

abbrev pub past : List (Place × Segment) → ℕ → ℕ → ℕ
past segments written ahead = written - filled segments ahead

-- where the byte of a position stands, if the first segment begins at `from`; behind the last segment there is no place
abbrev pub cursor_over : ℕ → ℕ → List (Place × Segment) → ℕ → Cursor
cursor_over size from [] position = record { place = None; offset = 0 }
cursor_over size from (e ∷ rest) position =
    if nat_lt position (from + size) then record { place = Some e.0; offset = position - from } else cursor_over size (from + size) rest position

-- how many open readers stand before a position
abbrev pub stands_before : ℕ → Reader → ℕ
stands_before x r = if is_open r.closed && nat_lt r.position x then 1 else 0

abbrev pub standing : List Reader → ℕ → ℕ
standing [] x = 0
standing (r ∷ rs) x = stands_before x r + standing rs x

-- each segment's count is the number of open readers whose cursor stands in it or in front of it
abbrev pub AreCounted : ℕ → ℕ → List (Place × Segment) → (ℕ → ℕ) → Type 0
AreCounted size from [] before = Unit {0}
AreCounted size from (e ∷ rest) before =
    (e.1.readers ≡ before (from + size)) × AreCounted size (from + size) rest before

-- an open reader is within the kept bytes, and its cursor stands at its position
abbrev pub IsPlaced : ℕ → ℕ → ℕ → List (Place × Segment) → ℕ → Cursor → Option Status → Type 0
IsPlaced size from written segments position cursor (Some s) = Unit {0}
IsPlaced size from written segments position cursor None =
    (from ≤ position) × (position ≤ written) × (cursor ≡ cursor_over size from segments position)

abbrev pub ArePlaced : ℕ → ℕ → ℕ → List (Place × Segment) → List Tracked → Type 0
ArePlaced size from written segments [] = Unit {0}
ArePlaced size from written segments (r ∷ rs) =
    IsPlaced size from written segments r.position r.cursor r.closed × ArePlaced size from written segments rs

-- the segments hold the bytes from `from` on to the last written one, and room for `ahead` more; each cursor stands
-- where it says, and each count is right
pub record IsLaid (size from : ℕ) (segments : List (Place × Segment)) (readers : List Tracked) (writer : Cursor) (written ahead : ℕ) : Type 0 where
  pub ends : from + length (joined segments) ≡ written + ahead
  pub starts : from ≤ written
  pub counted : AreCounted size from segments (standing (all_seen readers))
  pub placed : ArePlaced size from written segments readers
  pub writes : writer ≡ cursor_over size from segments written

-- what were segments are segments still
abbrev pub KeepsSegments : Segments → Segments → Type 0
KeepsSegments old new = AreSegments old.size old.segments → AreSegments new.size new.segments

-- what the type keeps. Where no reader is open nothing is asked of the segments any more
pub record IsPipe (segment limit : ℕ) (segments : Segments) (readers : List Tracked) (writer : Cursor) (written ahead : ℕ) (closed : Option Status) : Type 0 where
  pub least : 4 ≤ segment
  pub most : segment ≤ 65536
  pub least_limit : 1 ≤ limit
  pub most_limit : limit ≤ 1024
  pub sized : segments.size ≡ segment
  pub are : AreSegments segment segments.segments
  pub few : length readers ≤ 8
  pub fits : filled segments.segments ahead ≤ written
  pub laid : has_open (all_seen readers) ≡ true → IsLaid segment (past segments.segments written ahead) segments.segments readers writer written ahead
  pub told : closed ≡ None → has_open (all_seen readers) ≡ true

-- the cursor at an offset of a segment, or at the start of the next where that is the segment's end
abbrev pub cursor_in : ℕ → List (Place × Segment) → Place → ℕ → Cursor
cursor_in size segments place offset =
    if nat_lt offset size then record { place = Some place; offset = offset } else record { place = place_after segments place; offset = 0 }

-- the segments once a reader has come to that offset: at the end it has left its segment
abbrev pub left_at : ℕ → List (Place × Segment) → Place → ℕ → List (Place × Segment)
left_at size segments place offset =
    if nat_lt offset size then segments else needed (changed_at lowered segments place)

-- a reader that stands at a place is counted from there on; and the segments once it is closed
abbrev pub HeldAt : List (Place × Segment) → Option Place → Type 0
HeldAt segments None = Unit {0}
HeldAt segments (Some place) = IsLive segments place × AreHeld (since segments place)

abbrev pub released_at : List (Place × Segment) → Option Place → List (Place × Segment)
released_at segments None = segments
released_at segments (Some place) = needed (changed_from lowered segments place)

-- one more reader may stand at a place; and the segments once it does
abbrev pub MayHoldAt : List (Place × Segment) → Option Place → Type 0
MayHoldAt segments None = Unit {0}
MayHoldAt segments (Some place) = IsLive segments place × AreBelowEight (since segments place)

abbrev pub held_at : List (Place × Segment) → Option Place → List (Place × Segment)
held_at segments None = segments
held_at segments (Some place) = changed_from raised segments place

-- a cursor behind all segments stands in the one that is added
abbrev pub or_place : Option Place → Place → Option Place
or_place None place = Some place
or_place (Some own) place = Some own

abbrev pub reaching : Place → Cursor → Cursor
reaching place c = record { place = or_place c.place place; offset = c.offset }

abbrev pub all_reaching : Place → List Tracked → List Tracked
all_reaching place [] = []
all_reaching place (r ∷ rs) = record r { cursor = reaching place r.cursor } ∷ all_reaching place rs

-- how many readers are open
abbrev pub open_count : List Reader → ℕ
open_count [] = 0
open_count (r ∷ rs) = (if is_open r.closed then 1 else 0) + open_count rs
