-- The listener model: what a listener was shown, and, where it feeds a pipe, the pipe, the bytes that found no room yet
-- and what the pump of each reader has shown. After Firefox's nsIStreamListener; the pipe behind it is this project's own.
use Rattle.std.specs.Prelude.{ℕ, ◌+◌, ◌-◌, ◌==◌, Bool, true, false, List, [], ◌∷◌, ◌++◌, length, drop, replicate, slice_get, slice_set, Option, Some, None, if◌then◌else◌}
use Rattle.nk_base.specs.declared.status.Status.{Status}
use Rattle.nk_base.specs.declared.status.Moved.TheVariants.{Did}
use Rattle.nk_base.specs.declared.message.Entry.{Entry}
use Rattle.nk_base.specs.declared.message.Entry.TheVariants as entry
use Rattle.nk_base.specs.Status.{stream_closed}
use Rattle.nk_plan.specs.declared.plan.ListenerKind.{ListenerKind}
use Rattle.nk_plan.specs.declared.plan.ListenerKind.TheVariants as kind
use Rattle.nk_plan.specs.declared.ends.ReaderEnd.{ReaderEnd}
use Rattle.nk_pipe.specs.Pipe.{Pipe, Reader, new_pipe, reader_at, numbered, room, written_to, read_from, without_reader, without_writer}
use Rattle.nk_pump.specs.declared.pump.Turn.{Turn}
use Rattle.nk_pump.specs.declared.pump.Turn.TheVariants as turn
use Rattle.nk_pump.specs.Stream.{Stream, StreamEnd, Open, Good, Failed}
use Rattle.nk_pump.specs.Shown.{Shown, nothing_shown, turned, turn_answer}

-- the pipe of a listener: its model, the bytes that did not fit yet, the status of the stop that was shown, and the pump
-- of each reader
pub record Piped : Type 0 where
  pub pipe : Pipe
  pub kept : List ℕ
  pub stop : Option Status
  pub pumps : List Shown

-- a listener: what it was shown, and its pipe if it has one
pub record Listener : Type 0 where
  pub kind : ListenerKind
  pub entries : List Entry
  pub piped : Option Piped

-- A NEW ONE

-- reader 1, and its clones from before anything was written; each pump has a buffer one segment long
abbrev pub new_piped : ℕ → ℕ → ℕ → Piped
new_piped segment limit readers = record {
  pipe = record (new_pipe segment limit) { readers = replicate readers (reader_at 0) };
  kept = [];
  stop = None;
  pumps = replicate readers (nothing_shown segment);
}

abbrev pub piped_of : ListenerKind → Option Piped
piped_of kind.Plain = None
piped_of (kind.Pipe segment limit readers) = Some (new_piped segment limit readers)

abbrev pub new_listener : ListenerKind → Listener
new_listener k = record { kind = k; entries = []; piped = piped_of k }

-- AN ENTRY

-- what is still kept once as much as fits was written; a closed pipe takes nothing
abbrev pub kept_behind : Option Status → List ℕ → Pipe → List ℕ
kept_behind (Some s) bytes p = bytes
kept_behind None bytes p = drop (room p) bytes

-- where nothing is kept, the writer closes with the status of the stop that was shown
abbrev pub closed_behind : List ℕ → Option Status → Pipe → Pipe
closed_behind (b ∷ bs) stop p = p
closed_behind [] None p = p
closed_behind [] (Some s) p = without_writer s p

-- what is kept is written as far as it fits
abbrev pub flowed : Piped → Piped
flowed w =
    let kept = kept_behind w.pipe.closed w.kept w.pipe in
    record w { pipe = closed_behind kept w.stop (written_to w.pipe.closed w.kept w.pipe); kept = kept }

-- behind a stop an entry changes nothing; data is kept and flows, and so does a stop
abbrev pub fed : Option Status → Entry → Piped → Piped
fed (Some s) e w = w
fed None (entry.Start code status) w = w
fed None (entry.Bytes offset piece) w = flowed (record w { kept = w.kept ++ piece })
fed None (entry.Stop status trailers) w = flowed (record w { stop = Some status })

abbrev pub if_piped : (Piped → Piped) → Option Piped → Option Piped
if_piped f None = None
if_piped f (Some w) = Some (f w)

-- an entry is kept among the entries, and goes into the pipe
abbrev pub entered : Entry → Listener → Listener
entered e l = record l { entries = l.entries ++ e ∷ []; piped = if_piped (λ w. fed w.stop e w) l.piped }

abbrev pub entered_all : List Entry → Listener → Listener
entered_all [] l = l
entered_all (e ∷ es) l = entered_all es (entered e l)

-- A READ

-- how a pipe ends for a reader that is open
abbrev pub end_of : Option Status → StreamEnd
end_of None = Open
end_of (Some s) = if s.0 == stream_closed.0 then Good else Failed s

-- one reader of a pipe, as the stream that its pump reads: what an open reader has not read, or its closing status
abbrev pub stream_by : Option Status → ℕ → Pipe → Stream
stream_by (Some s) position p = record { left = []; end = Failed s; closed = true }
stream_by None position p = record { left = drop position p.written; end = end_of p.closed; closed = false }

abbrev pub stream_at : Option Reader → Pipe → Stream
stream_at None p = record { left = []; end = Open; closed = false }
stream_at (Some r) p = stream_by r.closed r.position p

abbrev pub stream_of : ℕ → Pipe → Stream
stream_of reader p = stream_at (numbered p.readers reader) p

-- What a turn of a reader's pump leaves of the pipe: the stop and the start leave it, behind a cancel the reader is
-- closed, and else it has read
abbrev pub pipe_by : Option Status → Bool → Option Status → ℕ → ℕ → Pipe → Pipe
pipe_by (Some s) started cancelled size reader p = p
pipe_by None false cancelled size reader p = p
pipe_by None true (Some q) size reader p = without_reader (numbered p.readers reader) reader q p
pipe_by None true None size reader p = read_from (numbered p.readers reader) reader size p

abbrev pub pipe_behind : Shown → ℕ → Pipe → Pipe
pipe_behind s reader p = pipe_by s.stop s.started s.cancelled s.size reader p

-- the pump of a reader; readers are counted from 1
abbrev pub pump_of : List Shown → ℕ → Option Shown
pump_of pumps reader = if reader == 0 then None else slice_get pumps (reader - 1)

-- a turn of this pump, behind which what is kept flows
abbrev pub read_by : Option Shown → ℕ → Piped → Piped
read_by None reader w = w
read_by (Some s) reader w = flowed (record w {
  pipe = pipe_behind s reader w.pipe;
  pumps = slice_set w.pumps (reader - 1) (turned s (stream_of reader w.pipe));
})

abbrev pub read_turn : ℕ → Listener → Listener
read_turn reader l = record l { piped = if_piped (λ w. read_by (pump_of w.pumps reader) reader w) l.piped }

-- a read is enabled where there is such a reader whose pump neither waits nor is dead
abbrev pub has_done : Turn → Bool
has_done turn.Did = true
has_done turn.Waiting = false
has_done turn.Dead = false

abbrev pub turn_enabled : Option Shown → ℕ → Pipe → Bool
turn_enabled None reader p = false
turn_enabled (Some s) reader p = has_done (turn_answer s (stream_of reader p))

abbrev pub piped_enabled : ℕ → Option Piped → Bool
piped_enabled reader None = false
piped_enabled reader (Some w) = turn_enabled (pump_of w.pumps reader) reader w.pipe

abbrev pub read_enabled : ℕ → Listener → Bool
read_enabled reader l = piped_enabled reader l.piped

-- WHAT THE READERS HAVE

abbrev pub ends_by : List Shown → List ReaderEnd
ends_by [] = []
ends_by (s ∷ ss) = (record { bytes = s.bytes; status = s.stop }) ∷ ends_by ss

abbrev pub ends_at : Option Piped → List ReaderEnd
ends_at None = []
ends_at (Some w) = ends_by w.pumps

-- the bytes and the stop of each reader's pump, in order
abbrev pub ends_of : Listener → List ReaderEnd
ends_of l = ends_at l.piped

-- what the pumps have still to show of a body that is so long: starts, bytes and stops
abbrev pub stop_left : Option Status → ℕ
stop_left None = 1
stop_left (Some s) = 0

abbrev pub pump_left : ℕ → Shown → ℕ
pump_left size s = (if s.started then 0 else 1) + (size - length s.bytes) + stop_left s.stop

abbrev pub pumps_left : ℕ → List Shown → ℕ
pumps_left size [] = 0
pumps_left size (s ∷ ss) = pump_left size s + pumps_left size ss

abbrev pub left_at : Option Piped → ℕ
left_at None = 0
left_at (Some w) = pumps_left (length w.pipe.written + length w.kept) w.pumps

-- each read that is enabled lowers this
abbrev pub reads_left : Listener → ℕ
reads_left l = left_at l.piped
