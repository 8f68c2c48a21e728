-- What one read of a pipe gave, as a stream. No public clause cites this module.
use Rattle.std.specs.Prelude.{ℕ, ◌≡◌, ◌≢◌, ◌⊎◌, false, List, [], take, None, Result, Ok, Err}
use Rattle.nk_pipe.specs.declared.answer.Read.{Read}
use Rattle.nk_pipe.specs.declared.answer.Read.TheVariants as read
use Rattle.nk_pipe.specs.declared.answer.NoReader.{NoReader}
use Rattle.nk_pump.specs.Shown.{Shown}
use Rattle.nk_pump.specs.Stream.{Stream, StreamEnd, Open, Good, Failed}

-- what comes behind the bytes that a read gave, as far as its answer tells it
abbrev pub end_behind : Read → StreamEnd
end_behind (read.Read n) = Open
end_behind read.End = Good
end_behind read.WouldBlock = Open
end_behind (read.Failed s) = Failed s

-- how many bytes an answer says to stand in the buffer
abbrev pub bytes_in : Read → ℕ
bytes_in (read.Read n) = n
bytes_in read.End = 0
bytes_in read.WouldBlock = 0
bytes_in (read.Failed s) = 0

-- a reader that is not there has nothing to read
abbrev pub answered : Result Read NoReader → Read
answered (Ok r) = r
answered (Err e) = read.WouldBlock

-- the bytes are the next of the stream, as many as a buffer of this size takes; where there are none the end is known
pub record IsGiven (size : ℕ) (from : Stream) (bytes : List ℕ) (end : StreamEnd) : Type 0 where
  pub bytes_are : bytes ≡ take size from.left
  pub end_is : from.left ≡ [] → end ≡ from.end

-- at its next turn the pump reads nothing: it starts, or it has stopped
abbrev pub ReadsNone : Shown → Type 0
ReadsNone s = (s.stop ≢ None) ⊎ ((s.stop ≡ None) × (s.started ≡ false))
