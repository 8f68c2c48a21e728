-- The pipe model: the list of all bytes written, and for each reader a start, a position and a closing status. There
-- are no segments, cursors or counts in it. After Firefox's nsPipe3; the room, the answer to a read of a closed reader
-- and the refusal to clone one are this project's own.
use Rattle.std.specs.Prelude.{ℕ, ◌+◌, ◌-◌, ◌*◌, ◌/◌, ◌==◌, ◌||◌, ◌&&◌, Bool, true, false, List, [], ◌∷◌, ◌++◌, length, take, drop, max, min, nat_le, nat_lt, slice_get, slice_set, Option, Some, None, Result, Ok, Err, if◌then◌else◌}
use Rattle.nk_base.specs.declared.status.Status.{Status}
use Rattle.nk_base.specs.Status.{stream_closed}
use Rattle.nk_pipe.specs.declared.answer.Write.{Write}
use Rattle.nk_pipe.specs.declared.answer.Write.TheVariants as write
use Rattle.nk_pipe.specs.declared.answer.Read.{Read}
use Rattle.nk_pipe.specs.declared.answer.Read.TheVariants as read
use Rattle.nk_pipe.specs.declared.answer.NoReader.{NoReader}
use Rattle.nk_pipe.specs.declared.answer.CloneError.{CloneError}
use Rattle.nk_pipe.specs.declared.answer.CloneError.TheVariants as clone

-- a reader has read the bytes from its start to its position, and may be closed
pub record Reader : Type 0 where
  pub start : ℕ
  pub position : ℕ
  pub closed : Option Status

-- the size of a segment and the limit, which give the room, all bytes written, the readers, and the closing status
pub record Pipe : Type 0 where
  pub segment : ℕ
  pub limit : ℕ
  pub written : List ℕ
  pub readers : List Reader
  pub closed : Option Status

-- a new reader
abbrev pub reader_at : ℕ → Reader
reader_at position = record { start = position; position = position; closed = None }

-- a pipe with reader 1 and nothing written
abbrev pub new_pipe : ℕ → ℕ → Pipe
new_pipe segment limit =
    record { segment = segment; limit = limit; written = []; readers = reader_at 0 ∷ []; closed = None }

-- not closed
abbrev pub is_open : Option Status → Bool
is_open None = true
is_open (Some s) = false

abbrev pub has_open : List Reader → Bool
has_open [] = false
has_open (r ∷ rs) = is_open r.closed || has_open rs

-- how far an open reader is
abbrev pub open_position : Reader → ℕ
open_position r = if is_open r.closed then r.position else 0

-- the greatest position of an open reader
abbrev pub greatest : List Reader → ℕ
greatest [] = 0
greatest (r ∷ rs) = max (open_position r) (greatest rs)

-- how many bytes more than `count` there is room for
abbrev pub room_for : ℕ → ℕ → List Reader → ℕ → ℕ
room_for segment limit readers count = (greatest readers / segment + limit) * segment - count

abbrev pub room : Pipe → ℕ
room p = room_for p.segment p.limit p.readers (length p.written)

-- the reader of a number; they are counted from 1
abbrev pub numbered : List Reader → ℕ → Option Reader
numbered readers id = if id == 0 then None else slice_get readers (id - 1)

abbrev pub with_numbered : List Reader → ℕ → Reader → List Reader
with_numbered readers id r = slice_set readers (id - 1) r

-- a status of 0 is kept as that of a stream that was closed in good order
abbrev pub kept_status : Status → Status
kept_status s = if s.0 == 0 then stream_closed else s

-- the first close is kept
abbrev pub first_close : Option Status → Status → Option Status
first_close None s = Some (kept_status s)
first_close (Some t) s = Some t

-- a write: nothing where the pipe was closed, else as many of the bytes as there is room for
abbrev pub write_count : Pipe → List ℕ → ℕ
write_count p bytes = min (room p) (length bytes)

abbrev pub write_answer : Option Status → ℕ → ℕ → Write
write_answer (Some s) count length = write.Closed s
write_answer None count length = if (count == 0) && nat_lt 0 length then write.WouldBlock else write.Wrote count

abbrev pub written_to : Option Status → List ℕ → Pipe → Pipe
written_to (Some s) bytes p = p
written_to None bytes p = record p { written = p.written ++ take (room p) bytes }

-- a read of at most `size` bytes: what is handed out, what is answered, and how the reader moves
abbrev pub handed : Option Reader → ℕ → List ℕ → List ℕ
handed None size written = []
handed (Some r) size written = if is_open r.closed then take size (drop r.position written) else []

abbrev pub end_answer : Option Status → Read
end_answer None = read.WouldBlock
end_answer (Some s) = if s.0 == stream_closed.0 then read.End else read.Failed s

abbrev pub open_answer : Option Status → ℕ → ℕ → Option Status → Read
open_answer (Some s) left size closed = read.Failed s
open_answer None left size closed = if left == 0 then end_answer closed else read.Read (min left size)

abbrev pub read_answer : Option Reader → ℕ → ℕ → Pipe → Result Read NoReader
read_answer None id size p = Err (record { 0 = id })
read_answer (Some r) id size p = Ok (open_answer r.closed (length p.written - r.position) size p.closed)

abbrev pub moved : Reader → ℕ → Reader
moved r count = record r { position = r.position + count }

abbrev pub read_from : Option Reader → ℕ → ℕ → Pipe → Pipe
read_from None id size p = p
read_from (Some r) id size p =
    record p { readers = with_numbered p.readers id (moved r (length (handed (Some r) size p.written))) }

-- a clone: its number is the next, and it starts where the original stands
abbrev pub clone_open : Option Status → ℕ → Result ℕ CloneError
clone_open (Some s) made = Err (clone.Closed s)
clone_open None made = if nat_le 8 made then Err clone.TooManyReaders else Ok (made + 1)

abbrev pub clone_answer : Option Reader → ℕ → ℕ → Result ℕ CloneError
clone_answer None id made = Err (clone.NoReader id)
clone_answer (Some r) id made = clone_open r.closed made

abbrev pub cloned : Option Reader → Pipe → Pipe
cloned None p = p
cloned (Some r) p = record p { readers = p.readers ++ reader_at r.position ∷ [] }

-- a close of a reader: the first is kept, a later one changes nothing, and that of the last open reader closes the pipe
abbrev pub closed_with : Reader → Status → Reader
closed_with r status = record r { closed = Some (kept_status status) }

abbrev pub close_answer : Option Reader → ℕ → Result (Unit {0}) NoReader
close_answer None id = Err (record { 0 = id })
close_answer (Some r) id = Ok tt

abbrev pub close_open : Reader → ℕ → Status → Pipe → Pipe
close_open r id status p =
    let readers = with_numbered p.readers id (closed_with r status) in
    record p { readers = readers; closed = if has_open readers then p.closed else first_close p.closed status }

abbrev pub without_reader : Option Reader → ℕ → Status → Pipe → Pipe
without_reader None id status p = p
without_reader (Some r) id status p = if is_open r.closed then close_open r id status p else p

-- a close by the writer
abbrev pub without_writer : Status → Pipe → Pipe
without_writer status p = record p { closed = first_close p.closed status }

-- how far a reader is
abbrev pub position_of : Option Reader → Option ℕ
position_of None = None
position_of (Some r) = Some r.position
