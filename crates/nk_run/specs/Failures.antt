-- The statuses of the program's failures, and what it prints of each.
use Rattle.std.specs.Prelude.{ℕ, ◌≡◌, ◌⊎◌, List, [], ◌∷◌, ◌++◌, codes, decimal}
use Rattle.nk_script.specs.declared.script.Cause.{Cause}
use Rattle.nk_script.specs.declared.script.Cause.TheVariants as cause
use Rattle.nk_wire.specs.declared.error.DecodeError.TheVariants as error
use Rattle.nk_wire.specs.declared.error.FrameCause.{FrameCause}
use Rattle.nk_wire.specs.declared.error.FrameCause.TheVariants as frame_cause
use Rattle.nk_wire.specs.declared.error.FrameError.{FrameError}
use Rattle.nk_words.specs.Words.{usage_line}
use Rattle.nk_run.specs.Frames.{bad_frame}
use Rattle.nk_run.specs.declared.failure.Failure.{Failure}
use Rattle.nk_run.specs.declared.failure.Failure.TheVariants as failure

-- a line of text, as it is printed
abbrev pub line : List ℕ → List ℕ
line words = words ++ 10 ∷ []

abbrev pub cause_text : Cause → List ℕ
cause_text cause.Unexpected = codes "unexpected"
cause_text cause.Malformed = codes "malformed"
cause_text cause.Limit = codes "limit"
cause_text cause.EndsEarly = codes "ends early"

-- a script's first bad line, and why it is bad
abbrev pub bad_line : ℕ → Cause → List ℕ
bad_line number c = line (codes "error: line " ++ decimal number ++ codes ": " ++ cause_text c)

-- a log's first line that is not accepted
abbrev pub bad_log : ℕ → List ℕ
bad_log number = line (codes "error: log line " ++ decimal number)

abbrev pub status_of : Failure → ℕ
status_of (failure.Line number c) = 1
status_of (failure.Frame e) = 7
status_of (failure.Log number) = 6
status_of failure.TooLarge = 1
status_of failure.Usage = 2
status_of failure.Read = 3
status_of failure.Write = 4
status_of failure.Memory = 5

abbrev pub line_of : Failure → List ℕ
line_of (failure.Line number c) = bad_line number c
line_of (failure.Frame e) = bad_frame e
line_of (failure.Log number) = bad_log number
line_of failure.TooLarge = line (codes "error: input too large")
line_of failure.Usage = usage_line
line_of failure.Read = line (codes "error: read")
line_of failure.Write = line (codes "error: write")
line_of failure.Memory = line (codes "error: memory")

-- its line is always the same
abbrev pub IsFixed : Failure → Type 0
IsFixed (failure.Line number c) = ⊥
IsFixed (failure.Frame e) = ⊥
IsFixed (failure.Log number) = ⊥
IsFixed failure.TooLarge = Unit {0}
IsFixed failure.Usage = Unit {0}
IsFixed failure.Read = Unit {0}
IsFixed failure.Write = Unit {0}
IsFixed failure.Memory = Unit {0}

-- this status was answered and this line told, or memory was wanting for it, and that was told
abbrev pub TellsText : ℕ → List ℕ → ℕ → (List ℕ → Type 0) → Type 0
TellsText expected text status Tells = ((status ≡ expected) × Tells text) ⊎ ((status ≡ 5) × Tells (line_of failure.Memory))

-- the status was answered, and the line told
abbrev pub TellsAny : Failure → ℕ → (List ℕ → Type 0) → Type 0
TellsAny (failure.Line number c) status Tells = TellsText 1 (bad_line number c) status Tells
TellsAny (failure.Frame e) status Tells = TellsText 7 (bad_frame e) status Tells
TellsAny (failure.Log number) status Tells = TellsText 6 (bad_log number) status Tells
TellsAny failure.TooLarge status Tells = (status ≡ 1) × Tells (line_of failure.TooLarge)
TellsAny failure.Usage status Tells = (status ≡ 2) × Tells (line_of failure.Usage)
TellsAny failure.Read status Tells = (status ≡ 3) × Tells (line_of failure.Read)
TellsAny failure.Write status Tells = (status ≡ 4) × Tells (line_of failure.Write)
TellsAny failure.Memory status Tells = (status ≡ 5) × Tells (line_of failure.Memory)

-- what ends a run whose frame is wrong: want of memory is no fault of the bytes
abbrev pub failure_by : FrameError → FrameCause → Failure
failure_by e (frame_cause.Length n) = failure.Frame e
failure_by e (frame_cause.Decode error.Memory) = failure.Memory
failure_by e (frame_cause.Decode (error.Short have need)) = failure.Frame e
failure_by e (frame_cause.Decode (error.Kind kind)) = failure.Frame e
failure_by e (frame_cause.Decode (error.BadField place)) = failure.Frame e
failure_by e (frame_cause.Decode (error.Long extra)) = failure.Frame e
failure_by e (frame_cause.Cut have need) = failure.Frame e

abbrev pub failure_of : FrameError → Failure
failure_of e = failure_by e e.cause
