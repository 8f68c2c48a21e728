-- The report: the lines of each channel. This project's own.
use Rattle.std.specs.Prelude.{ℕ, ◌+◌, Bool, List, [], ◌∷◌, ◌++◌, ◌==◌, if◌then◌else◌, length, Option, Some, None, codes, decimal}
use Rattle.std.specs.List.{flat_map}
use Rattle.nk_base.specs.declared.status.Status.{Status}
use Rattle.nk_base.specs.declared.field.Field.{Field}
use Rattle.nk_base.specs.declared.message.Entry.{Entry}
use Rattle.nk_base.specs.declared.message.Entry.TheVariants as entry
use Rattle.nk_plan.specs.declared.ends.Ending.{Ending}
use Rattle.nk_plan.specs.declared.ends.Ending.TheVariants as ending
use Rattle.nk_plan.specs.declared.ends.ReaderEnd.{ReaderEnd}
use Rattle.nk_plan.specs.declared.ends.ChannelEnd.{ChannelEnd}
use Rattle.nk_trace.specs.Words.{line, code_text, status_text, hex_text}
use Rattle.nk_trace.specs.Journals.{parent_line, forwarded_line, child_line}

-- the line that a channel begins with; channels are numbered from 1
abbrev pub channel_line : ℕ → List ℕ
channel_line number = line (codes "channel" ∷ decimal number ∷ [])

-- a trailer of a stop
abbrev pub trailer_line : Field → List ℕ
trailer_line trailer = line (codes "trailer" ∷ trailer.name ∷ trailer.value ∷ [])

-- an entry of what the listener saw; the trailers of a stop stand before it
abbrev pub entry_lines : Entry → List ℕ
entry_lines (entry.Start code status) = line (codes "start" ∷ code_text code ∷ status_text status ∷ [])
entry_lines (entry.Bytes offset piece) = line (codes "data" ∷ decimal offset ∷ hex_text piece ∷ [])
entry_lines (entry.Stop status trailers) =
    flat_map trailer_line trailers ++ line (codes "stop" ∷ status_text status ∷ [])

-- what a reader was given, or `-` where that is nothing
abbrev pub bytes_text : List ℕ → List ℕ
bytes_text bytes = if length bytes == 0 then codes "-" else hex_text bytes

-- how a reader's pump stopped, or `open` where it did not
abbrev pub stop_text : Option Status → List ℕ
stop_text None = codes "open"
stop_text (Some status) = status_text status

-- a reader of a pipe; readers are numbered from 1
abbrev pub reader_line : ℕ → ReaderEnd → List ℕ
reader_line number reader =
    line (codes "reader" ∷ decimal number ∷ decimal (length reader.bytes) ∷ bytes_text reader.bytes ∷ stop_text reader.status ∷ [])

-- readers, the first of which has this number
abbrev pub reader_lines : ℕ → List ReaderEnd → List ℕ
reader_lines number [] = []
reader_lines number (reader ∷ readers) = reader_line number reader ++ reader_lines (number + 1) readers

-- how a channel ended; one that is still going has no such line, and is in no report
abbrev pub end_line : Ending → List ℕ
end_line ending.Stopped = line (codes "end stopped" ∷ [])
end_line ending.Suspended = line (codes "end suspended" ∷ [])
end_line ending.Unopened = line (codes "end unopened" ∷ [])
end_line ending.Going = []

-- the journals: the parent's, how many messages were moved on between the lanes, the child's
abbrev pub log_lines : ChannelEnd → List ℕ
log_lines end =
    flat_map parent_line end.parent ++ (forwarded_line end.forwarded ++ flat_map child_line end.child)

-- a channel, with its journals where there is a log
abbrev pub channel_text : Bool → ℕ → ChannelEnd → List ℕ
channel_text log number end =
    channel_line number ++ (flat_map entry_lines end.trace ++ (reader_lines 1 end.readers ++ (end_line end.ending ++ (if log then log_lines end else []))))

-- channels, the first of which has this number
abbrev pub channel_texts : Bool → ℕ → List ChannelEnd → List ℕ
channel_texts log number [] = []
channel_texts log number (end ∷ ends) = channel_text log number end ++ channel_texts log (number + 1) ends

-- the report of a run's ends
abbrev pub text : List ChannelEnd → Bool → List ℕ
text ends log = channel_texts log 1 ends
