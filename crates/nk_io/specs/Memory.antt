-- What contracts see of the sources and sinks in memory (this project's own).
use Rattle.std.specs.Prelude.{ℕ, ◌+◌, Bool, List, ◌++◌, length, take, drop, min, ◌==◌, if◌then◌else◌}
use Rattle.std.specs.List.{list_any}
use Rattle.nk_io.specs.Faults.{one_more}
use Rattle.nk_io.specs.declared.source.Take.{Take}
use Rattle.nk_io.specs.declared.source.Take.TheVariants.{Took, End, Failed}

-- whether the call after so many calls fails; the first has number 1
abbrev pub fails_next : List ℕ → ℕ → Bool
fails_next fails calls = list_any (λ number. number == calls + 1) fails

-- the answer of a source that gave so many bytes
abbrev pub take_of : ℕ → Take
take_of count = if count == 0 then End else Took count

-- A source in memory: the bytes left, the most that it gives per call, the calls that fail, the number of
-- calls so far, and how many of them failed.
pub record SourceState : Type 0 where
  pub left : List ℕ
  pub most : ℕ
  pub fails : List ℕ
  pub calls : ℕ
  pub faults : ℕ

-- whether its next call fails
abbrev pub source_fails : SourceState → Bool
source_fails s = fails_next s.fails s.calls

-- how many bytes its next call gives into so much room, if it does not fail
abbrev pub given_count : SourceState → ℕ → ℕ
given_count s room = min (min s.most room) (length s.left)

-- what its next call answers
abbrev pub next_take : SourceState → ℕ → Take
next_take s room = if source_fails s then Failed else take_of (given_count s room)

-- the source after that call
abbrev pub after_take : SourceState → ℕ → SourceState
after_take s room = record s {
  left = if source_fails s then s.left else drop (given_count s room) s.left;
  calls = one_more s.calls;
  faults = if source_fails s then one_more s.faults else s.faults;
}

-- A sink in memory: the bytes got, the most that it takes per call, the calls that fail, the number of
-- calls so far, and how often it failed, for want of memory too.
pub record SinkState : Type 0 where
  pub got : List ℕ
  pub most : ℕ
  pub fails : List ℕ
  pub calls : ℕ
  pub faults : ℕ

-- whether its next call fails
abbrev pub sink_fails : SinkState → Bool
sink_fails s = fails_next s.fails s.calls

-- how many bytes of so many its next call takes, if it does not fail
abbrev pub taken_count : SinkState → ℕ → ℕ
taken_count s offered = min s.most offered

-- the sink after a call that took so many bytes of these
abbrev pub after_put : SinkState → List ℕ → SinkState
after_put s bytes = record s { got = s.got ++ take (taken_count s (length bytes)) bytes; calls = one_more s.calls }

-- the sink after a call that failed
abbrev pub after_failed_put : SinkState → SinkState
after_failed_put s = record s { calls = one_more s.calls; faults = one_more s.faults }
