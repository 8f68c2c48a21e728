-- What a clause reads of the adapters over std (this project's own).
use Rattle.std.specs.Prelude.{ℕ, Option, List}
use Rattle.std.specs.declared.io.Write.{Ghosts}
use Rattle.nk_io.specs.Told.{told_since}
use Rattle.nk_io.specs.declared.standard_source.StdSource.{StdSource}
use Rattle.nk_io.specs.declared.standard_sink.StdSink.{StdSink}

-- the reader of a source
abbrev pub reader : {R : Type 0} → StdSource R → R
reader s = s.inner

-- how often it failed
abbrev pub reader_faults : {R : Type 0} → StdSource R → ℕ
reader_faults s = s.faults

-- the writer of a sink
abbrev pub writer : {W : Type 0} {g : Ghosts W} → StdSink W g → W
writer s = s.inner

-- how often it failed
abbrev pub writer_faults : {W : Type 0} {g : Ghosts W} → StdSink W g → ℕ
writer_faults s = s.faults

-- the bytes that it got since the sink was made, where it told its bytes then
abbrev pub writer_got : {W : Type 0} {g : Ghosts W} → StdSink W g → Option (List ℕ)
writer_got {W} {g} s = told_since (g.contents s.made.value) (g.contents s.inner)
