-- One reader of a lent pipe, as the stream that its pump reads.
use Rattle.std.specs.Prelude.{ℕ, List, replicate, IsSome}
use Rattle.nk_pipe.specs.declared.answer.Read.{Read}
use Rattle.nk_pipe.specs.declared.answer.Read.TheVariants as given
use Rattle.nk_pipe.specs.Pipe.{Pipe, Reader, numbered}
use Rattle.nk_pipe.specs.Kept.{Kept, whole}
use Rattle.nk_pump.specs.declared.stream.Read.{Read as Shown}
use Rattle.nk_pump.specs.declared.stream.Read.TheVariants as shown
use Rattle.nk_pump.specs.Stream.{Stream}
use Rattle.nk_sink.specs.Listener.{stream_of}

-- a model of the pipe: no reader still needs the bytes that were given back
abbrev pub some_whole : Kept → Pipe
some_whole k = whole (replicate k.past 0) k

-- what is left for a reader, and how it ends
abbrev pub stream_in : ℕ → Kept → Stream
stream_in reader k = stream_of reader (some_whole k)

-- that number was given
abbrev pub IsThere : List Reader → ℕ → Type 0
IsThere readers reader = IsSome (numbered readers reader)

-- the answer of a pipe, as that of a stream
abbrev pub read_shown : Read → Shown
read_shown (given.Read n) = shown.Read n
read_shown given.End = shown.End
read_shown given.WouldBlock = shown.WouldBlock
read_shown (given.Failed s) = shown.Failed s
