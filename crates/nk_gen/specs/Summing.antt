-- What the ends of channels sum up to. This project's own.
use Rattle.std.specs.Prelude.{ℕ, ◌<◌, ◌^◌, List, [], ◌∷◌, ◌++◌, length, sum_by, codes, decimal}
use Rattle.nk_base.specs.declared.message.Entry.{Entry}
use Rattle.nk_base.specs.declared.message.Entry.TheVariants as entry
use Rattle.nk_plan.specs.declared.ends.ChannelEnd.{ChannelEnd}
use Rattle.nk_plan.specs.declared.ends.ReaderEnd.{ReaderEnd}
use Rattle.nk_plan.specs.declared.ends.Ending.{Ending}
use Rattle.nk_plan.specs.declared.ends.Ending.TheVariants as ending
use Rattle.nk_trace.specs.Words.{line}

-- 1 for a channel that has stopped
abbrev pub counts_stopped : Ending → ℕ
counts_stopped ending.Stopped = 1
counts_stopped ending.Suspended = 0
counts_stopped ending.Unopened = 0
counts_stopped ending.Going = 0

abbrev pub stopped_in : ChannelEnd → ℕ
stopped_in end = counts_stopped end.ending

-- 1 for a data entry, and its bytes
abbrev pub counts_piece : Entry → ℕ
counts_piece (entry.Start code status) = 0
counts_piece (entry.Bytes offset piece) = 1
counts_piece (entry.Stop status trailers) = 0

abbrev pub size_of : Entry → ℕ
size_of (entry.Start code status) = 0
size_of (entry.Bytes offset piece) = length piece
size_of (entry.Stop status trailers) = 0

abbrev pub pieces_in : ChannelEnd → ℕ
pieces_in end = sum_by counts_piece end.trace

abbrev pub bytes_in : ChannelEnd → ℕ
bytes_in end = sum_by size_of end.trace

abbrev pub readers_in : ChannelEnd → ℕ
readers_in end = length end.readers

-- what readers have read
abbrev pub read_by : List ReaderEnd → ℕ
read_by readers = sum_by (λ (reader : ReaderEnd). length reader.bytes) readers

abbrev pub read_in : ChannelEnd → ℕ
read_in end = read_by end.readers

-- a label and a sum over all channels
abbrev pub sum_line : List ℕ → (ChannelEnd → ℕ) → List ChannelEnd → List ℕ
sum_line label count ends = line (label ∷ decimal (sum_by count ends) ∷ [])

abbrev pub summary_text : List ChannelEnd → List ℕ
summary_text ends =
    line (codes "channels" ∷ decimal (length ends) ∷ [])
    ++ sum_line (codes "stopped") stopped_in ends
    ++ sum_line (codes "pieces") pieces_in ends
    ++ sum_line (codes "bytes") bytes_in ends
    ++ sum_line (codes "readers") readers_in ends
    ++ sum_line (codes "read") read_in ends

-- each sum can be counted
pub record AreSumsSmall (ends : List ChannelEnd) : Type 0 where
  pub stopped : sum_by stopped_in ends < 2 ^ 64
  pub pieces : sum_by pieces_in ends < 2 ^ 64
  pub bytes : sum_by bytes_in ends < 2 ^ 64
  pub readers : sum_by readers_in ends < 2 ^ 64
  pub read : sum_by read_in ends < 2 ^ 64
