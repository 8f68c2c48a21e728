-- What the command `frames` prints, and where bytes are no sequence of frames.
use Rattle.std.specs.Prelude.{ℕ, ◌≡◌, ◌<◌, ◌+◌, List, [], ◌∷◌, ◌++◌, length, Err, codes, decimal}
use Rattle.nk_trace.specs.Words.{words, hex_byte}
use Rattle.nk_trace.specs.Messages.{main_text, back_text, up_text}
use Rattle.nk_wire.specs.declared.error.DecodeError.{DecodeError}
use Rattle.nk_wire.specs.declared.error.DecodeError.TheVariants as error
use Rattle.nk_wire.specs.declared.error.FrameCause.{FrameCause}
use Rattle.nk_wire.specs.declared.error.FrameCause.TheVariants as cause
use Rattle.nk_wire.specs.declared.error.FrameError.{FrameError}
use Rattle.nk_wire.specs.declared.message.AnyMsg.{AnyMsg}
use Rattle.nk_wire.specs.declared.message.AnyMsg.TheVariants as any
use Rattle.nk_wire.specs.Reading.{any_answer}
use Rattle.nk_wire.specs.Spelling.{any_rest, frame}
use Rattle.nk_wire.specs.Streams.{Part, BadLength, Whole, IsFirst, AreFrames, needed}

-- What is printed.

-- a message of any lane
abbrev pub any_text : AnyMsg → List ℕ
any_text (any.Main m) = main_text m
any_text (any.Back m) = back_text m
any_text (any.Up m) = up_text m

-- the number of bytes of a message's frame
abbrev pub size_of : AnyMsg → ℕ
size_of m = length (frame (any_rest m))

-- the number of bytes of the frames of these messages
abbrev pub sizes : List AnyMsg → ℕ
sizes [] = 0
sizes (m ∷ ms) = size_of m + sizes ms

-- the line of a frame: how many bytes stand before it, and its message
abbrev pub frame_line : ℕ → AnyMsg → List ℕ
frame_line offset m = decimal offset ++ 32 ∷ any_text m ++ 10 ∷ []

-- the lines of frames one behind the other, before the first of which so many bytes stand
abbrev pub frame_lines : ℕ → List AnyMsg → List ℕ
frame_lines offset [] = []
frame_lines offset (m ∷ ms) = frame_line offset m ++ frame_lines (offset + size_of m) ms

-- the bytes are frames one behind the other, and nothing else
abbrev pub AreAllFrames : List ℕ → Type 0
AreAllFrames all = (ms : List AnyMsg) × AreFrames ms all []

-- they are none
abbrev pub AreNoFrames : List ℕ → Type 0
AreNoFrames all = (ms : List AnyMsg) → ¬ AreFrames ms all []

-- the bytes are frames, and these are their lines
abbrev pub AreLines : List ℕ → List ℕ → Type 0
AreLines all text = (ms : List AnyMsg) × AreFrames ms all [] × (text ≡ frame_lines 0 ms)

-- What is wrong.

-- what stands first in these bytes is no frame of a message, for this cause
abbrev pub IsWrong : List ℕ → FrameCause → Type 0
IsWrong bytes (cause.Length n) = IsFirst bytes (BadLength n)
IsWrong bytes (cause.Decode e) = (rest : List ℕ) × (more : List ℕ) × IsFirst bytes (Whole rest more) × (any_answer rest ≡ Err e)
IsWrong bytes (cause.Cut have need) = IsFirst bytes Part × (0 < have) × (have ≡ length bytes) × (need ≡ needed bytes)

-- the first frame that is wrong stands behind frames that have so many bytes
pub record IsBadFrame (all : List ℕ) (e : FrameError) : Type 0 where
  pub before : List AnyMsg
  pub left : List ℕ
  pub frames : AreFrames before all left
  pub offset : e.offset ≡ sizes before
  pub wrong : IsWrong left e.cause

-- why a rest is no message; want of memory is none of the rest's, and ends a run by itself
abbrev pub decode_text : DecodeError → List ℕ
decode_text (error.Short have need) = words (codes "short" ∷ decimal have ∷ decimal need ∷ [])
decode_text (error.Kind kind) = words (codes "kind" ∷ hex_byte kind ∷ [])
decode_text (error.BadField place) = words (codes "field" ∷ decimal place ∷ [])
decode_text (error.Long extra) = words (codes "long" ∷ decimal extra ∷ [])
decode_text error.Memory = codes "memory"

abbrev pub frame_cause_text : FrameCause → List ℕ
frame_cause_text (cause.Length n) = words (codes "length" ∷ decimal n ∷ [])
frame_cause_text (cause.Decode e) = decode_text e
frame_cause_text (cause.Cut have need) = words (codes "cut" ∷ decimal have ∷ decimal need ∷ [])

-- the line that is printed of the first frame that is wrong
abbrev pub bad_frame : FrameError → List ℕ
bad_frame e = codes "error: frame " ++ decimal e.offset ++ codes ": " ++ frame_cause_text e.cause ++ 10 ∷ []
