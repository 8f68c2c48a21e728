-- How a listener's pipe stands for the model: how many of the body's bytes are in it, and which entry is the first that
-- is not. No public clause cites this module.
use Rattle.std.specs.Prelude.{ℕ, ◌≡◌, ◌+◌, ◌≤◌, ◌<◌, Bool, true, false, List, [], ◌∷◌, length, take, drop, Option, None}
use Rattle.nk_base.specs.declared.status.Status.{Status}
use Rattle.nk_base.specs.declared.message.Entry.{Entry}
use Rattle.nk_base.specs.declared.message.Entry.TheVariants as entry
use Rattle.nk_pipe.specs.Pipe.{Pipe, room_for, written_to, without_writer}
use Rattle.nk_pipe.specs.Kept.{Kept, Stands, count}
use Rattle.nk_pump.specs.Shown.{Shown}
use Rattle.nk_sink.specs.Listener.{Piped}
use Rattle.nk_plan.specs.Readers.{body_of, stop_of}

-- the model of a pipe into which the first bytes of this body were written
abbrev pub pipe_in : List ℕ → Kept → Pipe
pipe_in body k = record {
  segment = k.segment;
  limit = k.limit;
  written = take (count k) body;
  readers = k.readers;
  closed = k.closed;
}

abbrev pub piped_with : List Entry → Kept → List Shown → Piped
piped_with es k pumps = record {
  pipe = pipe_in (body_of es) k;
  kept = drop (count k) (body_of es);
  stop = stop_of es;
  pumps = pumps;
}

-- so many bytes of the first of these entries are in the pipe, and not all where there are any
abbrev pub IsWithin : List Entry → ℕ → Type 0
IsWithin [] offset = offset ≡ 0
IsWithin (entry.Start code status ∷ es) offset = offset ≡ 0
IsWithin (entry.Bytes o piece ∷ es) offset = offset ≤ length piece
IsWithin (entry.Stop status trailers ∷ es) offset = offset ≡ 0

-- the pipe is open, unless the stop is the first entry that is not in it
abbrev pub IsOpenAt : List Entry → Option Status → Type 0
IsOpenAt [] closed = closed ≡ None
IsOpenAt (entry.Start code status ∷ es) closed = closed ≡ None
IsOpenAt (entry.Bytes o piece ∷ es) closed = closed ≡ None
IsOpenAt (entry.Stop status trailers ∷ es) closed = Unit {0}

-- the entries before this place are in the pipe, and so many bytes of the entry that stands there
pub record IsAt (es : List Entry) (k : Kept) (place offset : ℕ) : Type 0 where
  pub stands : Stands k (pipe_in (body_of es) k)
  pub below : place ≤ length es
  pub before : stop_of (take place es) ≡ None
  pub counted : count k ≡ length (body_of (take place es)) + offset
  pub within : IsWithin (drop place es) offset
  pub opens : IsOpenAt (drop place es) k.closed

-- how many more bytes there is room for
abbrev pub room_in : Kept → ℕ
room_in k = room_for k.segment k.limit k.readers (count k)

-- whether all of these bytes found room; then the next entry is the first that is not in the pipe
abbrev pub HasPassed : Bool → Kept → ℕ → ℕ → List ℕ → Type 0
HasPassed true k offset offset' bytes = (length bytes ≤ room_in k) × (offset' ≡ 0)
HasPassed false k offset offset' bytes = (room_in k < length bytes) × (offset' ≡ offset + room_in k)

-- the rest of one entry goes into the pipe, and whether all of it did; behind a stop nothing does
abbrev pub Passes : Entry → Kept → ℕ → Kept → ℕ → Bool → Type 0
Passes (entry.Start code status) k offset k' offset' all = (k' ≡ k) × (offset' ≡ offset) × (all ≡ true)
Passes (entry.Bytes o piece) k offset k' offset' all =
    ((p : Pipe) → Stands k p → Stands k' (written_to p.closed (drop offset piece) p)) × HasPassed all k offset offset' (drop offset piece)
Passes (entry.Stop status trailers) k offset k' offset' all =
    ((p : Pipe) → Stands k p → Stands k' (without_writer status p)) × (offset' ≡ offset) × (all ≡ false)

-- the entry can go into the pipe from there
abbrev pub MayPass : Entry → Kept → ℕ → Type 0
MayPass (entry.Start code status) k offset = Unit {0}
MayPass (entry.Bytes o piece) k offset = (offset ≤ length piece) × (k.closed ≡ None)
MayPass (entry.Stop status trailers) k offset = Unit {0}
