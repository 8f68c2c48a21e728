-- A stream of frames, which comes in any pieces. This project's own.
use Rattle.std.specs.Prelude.{ℕ, ◌≡◌, ◌<◌, ◌≤◌, ◌+◌, ◌^◌, ◌⊎◌, Bool, if◌then◌else◌, nat_lt, List, [], ◌∷◌, ◌++◌, length, take, drop, Option, Some, None, is_some, Result, Ok, Err}
use Rattle.nk_wire.specs.declared.error.DecodeError.{DecodeError}
use Rattle.nk_wire.specs.declared.error.DecodeError.TheVariants as error
use Rattle.nk_wire.specs.declared.error.FrameCause.{FrameCause}
use Rattle.nk_wire.specs.declared.error.FrameCause.TheVariants as cause
use Rattle.nk_wire.specs.declared.error.FrameError.{FrameError}
use Rattle.nk_wire.specs.declared.message.AnyMsg.{AnyMsg}
use Rattle.nk_wire.specs.Layouts.{U32, from_little, little}
use Rattle.nk_wire.specs.Kinds.{within, longest_rest}
use Rattle.nk_wire.specs.Spelling.{SpellsAny, frame}
use Rattle.nk_wire.specs.Reading.{Fails, any_answer}

-- the bytes that were fed and not used, the number of bytes of the frames given so far, and the error that stands
pub record Stream : Type 0 where
  pub unused : List ℕ
  pub offset : ℕ
  pub error : Option FrameError

abbrev pub new_stream : Stream
new_stream = record { unused = []; offset = 0; error = None }

-- a length that a frame may have
abbrev pub is_length : ℕ → Bool
is_length n = within 1 longest_rest n

-- What stands first.

-- a part frame; a frame whose length is out of range; or a whole frame with this rest, and more behind it
pub data First : Type 0 where
  Part : First
  BadLength : (n : ℕ) → First
  Whole : (rest more : List ℕ) → First

-- the length that begins the bytes
abbrev pub length_of : List ℕ → ℕ
length_of bytes = from_little U32 (take 4 bytes)

abbrev pub whole : ℕ → List ℕ → First
whole n behind = if nat_lt (length behind) n then Part else Whole (take n behind) (drop n behind)

-- what stands first in these bytes
abbrev pub first : List ℕ → First
first bytes =
    if nat_lt (length bytes) 4
    then Part
    else (if is_length (length_of bytes) then whole (length_of bytes) (drop 4 bytes) else BadLength (length_of bytes))

-- The same in the words of the format.

-- any rest whose length is in range
abbrev pub IsRest : List ℕ → Type 0
IsRest rest = (1 ≤ length rest) × (length rest ≤ longest_rest)

-- a proper prefix of a frame whose rest is any in range; or the length is not there
abbrev pub IsPart : List ℕ → Type 0
IsPart bytes =
    (length bytes < 4) ⊎ ((more : List ℕ) × (rest : List ℕ) × (0 < length more) × IsRest rest × (bytes ++ more ≡ frame rest))

abbrev pub IsFirst : List ℕ → First → Type 0
IsFirst bytes Part = IsPart bytes
IsFirst bytes (BadLength n) = (more : List ℕ) × (bytes ≡ little U32 n ++ more) × (n < 2 ^ 32) × ((n ≡ 0) ⊎ (longest_rest < n))
IsFirst bytes (Whole rest more) = (bytes ≡ frame rest ++ more) × IsRest rest

-- Whole streams.

-- the bytes are the frames of these messages, one behind the other, and then what is left
abbrev pub AreFrames : List AnyMsg → List ℕ → List ℕ → Type 0
AreFrames [] bytes left = bytes ≡ left
AreFrames (m ∷ ms) bytes left =
    (rest : List ℕ) × (more : List ℕ) × SpellsAny m rest × (bytes ≡ frame rest ++ more) × AreFrames ms more left

-- each whole frame that stands first is read as the next of these messages, and then what is left stands first
abbrev pub AreRead : List AnyMsg → List ℕ → List ℕ → Type 0
AreRead [] bytes left = bytes ≡ left
AreRead (m ∷ ms) bytes left =
    (rest : List ℕ) × (more : List ℕ) × (first bytes ≡ Whole rest more) × (any_answer rest ≡ Ok m) × AreRead ms more left

-- What the calls do.

-- a piece joins the unused bytes, where no error stands
abbrev pub fed : Stream → List ℕ → Stream
fed s piece = record s { unused = if is_some s.error then s.unused else s.unused ++ piece }

-- an error of the next frame
abbrev pub error_at : Stream → FrameCause → FrameError
error_at s c = record { offset = s.offset; cause = c }

-- from now on it stands
abbrev pub failed : Stream → FrameCause → Stream
failed s c = record s { error = Some (error_at s c) }

-- so it does, but for want of memory
abbrev pub kept_after : Stream → FrameCause → Stream
kept_after s (cause.Length n) = failed s (cause.Length n)
kept_after s (cause.Decode error.Memory) = s
kept_after s (cause.Decode (error.Short have need)) = failed s (cause.Decode (error.Short have need))
kept_after s (cause.Decode (error.Kind kind)) = failed s (cause.Decode (error.Kind kind))
kept_after s (cause.Decode (error.BadField place)) = failed s (cause.Decode (error.BadField place))
kept_after s (cause.Decode (error.Long extra)) = failed s (cause.Decode (error.Long extra))
kept_after s (cause.Cut have need) = failed s (cause.Cut have need)

-- a frame with this rest was used
abbrev pub used : Stream → List ℕ → List ℕ → Stream
used s rest more = record s { unused = more; offset = s.offset + (4 + length rest) }

-- what next answers and leaves by what stands first, where no error stands; a rest is refused by its first fault, or for
-- want of memory
abbrev pub IsNext : Stream → First → Result (Option AnyMsg) FrameError → Stream → Type 0
IsNext s Part answer new = (answer ≡ Ok None) × (new ≡ s)
IsNext s (BadLength n) answer new = (answer ≡ Err (error_at s (cause.Length n))) × (new ≡ failed s (cause.Length n))
IsNext s (Whole rest more) (Ok None) new = ⊥
IsNext s (Whole rest more) (Ok (Some m)) new = (any_answer rest ≡ Ok m) × (new ≡ used s rest more)
IsNext s (Whole rest more) (Err e) new = (c : DecodeError) × (e ≡ error_at s (cause.Decode c)) × Fails c (any_answer rest) × (new ≡ kept_after s (cause.Decode c))

-- how many bytes the first frame needs, as far as is known
abbrev pub needed : List ℕ → ℕ
needed bytes = if nat_lt (length bytes) 4 then 4 else 4 + length_of bytes

-- what the end of the stream answers: the error that stands, or that the unused bytes are cut
abbrev pub end_answer : Stream → Option FrameError → List ℕ → Result (Unit {0}) FrameError
end_answer s (Some e) bytes = Err e
end_answer s None [] = Ok tt
end_answer s None (b ∷ bytes) = Err (error_at s (cause.Cut (length (b ∷ bytes)) (needed (b ∷ bytes))))

-- What a look at the unused bytes tells: nothing yet, a message and the size of its frame, or a cause.
abbrev pub Looks : First → Result (Option (AnyMsg × ℕ)) FrameCause → Type 0
Looks Part answer = answer ≡ Ok None
Looks (BadLength n) answer = answer ≡ Err (cause.Length n)
Looks (Whole rest more) (Ok None) = ⊥
Looks (Whole rest more) (Ok (Some x)) = (any_answer rest ≡ Ok x.0) × (x.1 ≡ 4 + length rest)
Looks (Whole rest more) (Err (cause.Length n)) = ⊥
Looks (Whole rest more) (Err (cause.Decode e)) = Fails e (any_answer rest)
Looks (Whole rest more) (Err (cause.Cut have need)) = ⊥
