-- What the readers of a pipe have once it was drained: all that the listener's trace says, each of them. This project's own.
use Rattle.std.specs.Prelude.{ℕ, ◌==◌, ◌||◌, List, [], ◌∷◌, ◌++◌, Option, Some, None, if◌then◌else◌}
use Rattle.nk_base.specs.declared.status.Status.{Status}
use Rattle.nk_base.specs.declared.message.Entry.{Entry}
use Rattle.nk_base.specs.declared.message.Entry.TheVariants as entry
use Rattle.nk_base.specs.Status.{ok, stream_closed}
use Rattle.nk_plan.specs.declared.plan.ListenerKind.{ListenerKind}
use Rattle.nk_plan.specs.declared.plan.ListenerKind.TheVariants as kind
use Rattle.nk_plan.specs.declared.ends.ReaderEnd.{ReaderEnd}

-- the bytes of the data entries before the first stop
abbrev pub body_of : List Entry → List ℕ
body_of [] = []
body_of (entry.Start code status ∷ es) = body_of es
body_of (entry.Bytes offset piece ∷ es) = piece ++ body_of es
body_of (entry.Stop status trailers ∷ es) = []

-- the status of the first stop
abbrev pub stop_of : List Entry → Option Status
stop_of [] = None
stop_of (entry.Start code status ∷ es) = stop_of es
stop_of (entry.Bytes offset piece ∷ es) = stop_of es
stop_of (entry.Stop status trailers ∷ es) = Some status

-- the status of a reader's pump behind a stop with this one: that of a stream that was closed in good order is 0
abbrev pub reader_status : Status → Status
reader_status s = if (s.0 == 0) || (s.0 == stream_closed.0) then ok else s

abbrev pub status_behind : Option Status → Option Status
status_behind None = None
status_behind (Some s) = Some (reader_status s)

-- how many readers a listener of this kind has
abbrev pub readers_of : ListenerKind → ℕ
readers_of kind.Plain = 0
readers_of (kind.Pipe segment limit readers) = readers

-- what a reader has in the end: all bytes, and the status that follows from the stop
abbrev pub whole_end : List Entry → ReaderEnd
whole_end entries = record { bytes = body_of entries; status = status_behind (stop_of entries) }
