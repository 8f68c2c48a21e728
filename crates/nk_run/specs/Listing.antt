-- How the frames of an input are listed, and what the command `frames` answers.
use Rattle.std.specs.Prelude.{ℕ, ◌≡◌, ◌≢◌, ◌<◌, ◌≤◌, ◌+◌, ◌⊎◌, List, slice_index, Option, None}
use Rattle.nk_io.specs.Faults.{Quiet}
use Rattle.nk_io.specs.Given.{GivesCount, Exceeds}
use Rattle.nk_wire.specs.declared.error.FrameError.{FrameError}
use Rattle.nk_wire.specs.declared.message.AnyMsg.{AnyMsg}
use Rattle.nk_wire.specs.Streams.{Stream, AreFrames}
use Rattle.nk_run.specs.Frames.{AreAllFrames, AreNoFrames, AreLines, IsBadFrame, bad_frame, frame_lines, sizes}
use Rattle.nk_run.specs.Reading.{IsUnread}
use Rattle.nk_run.specs.Runs.{Outcome, Tells, Writes, WritesPart, IsInput, IsRead, most_input, too_large}
use Rattle.nk_run.specs.Taking.{Takes}
use Rattle.nk_run.specs.declared.failure.Failure.{Failure}
use Rattle.nk_run.specs.declared.failure.Failure.TheVariants as failure

-- On the way.

-- each is a byte
abbrev pub AreBytes : List ℕ → Type 0
AreBytes bytes = (i : ℕ) → slice_index bytes i < 256

-- the bytes that were fed are frames and then the unused bytes, and the lines of these frames were printed
pub record Listed (fed : List ℕ) (s : Stream) (text : List ℕ) : Type 0 where
  pub messages : List AnyMsg
  pub frames : AreFrames messages fed s.unused
  pub offset : s.offset ≡ sizes messages
  pub lines : text ≡ frame_lines 0 messages
  pub no_error : s.error ≡ None

-- what a failure says of bytes that begin with those that were fed
abbrev pub Stops : Failure → List ℕ → Type 0
Stops (failure.Line number c) all = ⊥
Stops (failure.Frame e) all = IsBadFrame all e
Stops (failure.Log number) all = ⊥
Stops failure.TooLarge all = ⊥
Stops failure.Usage all = ⊥
Stops failure.Read all = ⊥
Stops failure.Write all = ⊥
Stops failure.Memory all = Unit {0}

-- this is the first frame of the bytes that is wrong, and they are no sequence of frames
abbrev pub AreBadFrames : FrameError → List ℕ → Type 0
AreBadFrames e all = IsBadFrame all e × AreNoFrames all

-- why bytes are not listed
abbrev pub RefusesFrames : Failure → List ℕ → Type 0
RefusesFrames (failure.Line number c) all = ⊥
RefusesFrames (failure.Frame e) all = AreBadFrames e all
RefusesFrames (failure.Log number) all = ⊥
RefusesFrames failure.TooLarge all = ⊥
RefusesFrames failure.Usage all = ⊥
RefusesFrames failure.Read all = ⊥
RefusesFrames failure.Write all = ⊥
RefusesFrames failure.Memory all = Unit {0}

-- What is answered.

-- all of the input was read, and this is its first frame that is wrong
abbrev pub IsBadInput : FrameError → Option (List ℕ) → Option (List ℕ) → Type 0
IsBadInput e left left' = IsRead left left' (AreBadFrames e)

-- why an input has no lines
abbrev pub FramesFail : Failure → Option (List ℕ) → Option (List ℕ) → ℕ → ℕ → Type 0
FramesFail (failure.Frame e) left left' faults faults' = IsBadInput e left left'
FramesFail e left left' faults faults' = IsUnread e left left' faults faults'

-- a frame that is wrong was told
abbrev pub TellsFrame : Outcome → Type 0
TellsFrame o = (e : FrameError) × IsBadInput e o.left o.left' × Tells o (bad_frame e)

-- What `frames` answers.
pub record FramesRun (o : Outcome) : Type 0 where
  -- 0: all of the input is a sequence of frames, and their lines were written. 4: a prefix of them
  pub written : o.status ≡ 0 → Writes AreLines o
  pub cut : o.status ≡ 4 → WritesPart AreLines o
  -- 7: the first frame that is wrong. 1: one byte too many was given. There is no status above 5 but 7
  pub wrong : o.status ≡ 7 → TellsFrame o
  pub too_large : o.status ≡ 1 → GivesCount o.left o.left' (most_input + 1) × Tells o too_large
  pub others : ((o.status ≤ 5) × (o.status ≢ 2)) ⊎ (o.status ≡ 7)
  -- how much of the input was taken
  pub takes : Takes o
  -- without a fault, want of memory alone keeps frames from their lines, and other bytes from their refusal
  pub whole : IsInput o.left AreAllFrames → Quiet o.read_faults o.read_faults' → Quiet o.write_faults o.write_faults' → (o.status ≡ 0) ⊎ (o.status ≡ 5)
  pub none : IsInput o.left AreNoFrames → Quiet o.read_faults o.read_faults' → (o.status ≡ 7) ⊎ (o.status ≡ 5)
  pub overlong : Exceeds most_input o.left → Quiet o.read_faults o.read_faults' → (o.status ≡ 1) ⊎ (o.status ≡ 5)
