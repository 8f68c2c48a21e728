-- One frame on one lane: the message whose frame the bytes are, if they are one's. This project's own.
use Rattle.std.specs.Prelude.{ℕ, ◌<◌, List, [], ◌∷◌, Option, Some, None, Result, Ok, Err, slice_index}
use Rattle.nk_base.specs.declared.message.MainMsg.{MainMsg}
use Rattle.nk_base.specs.declared.message.BackMsg.{BackMsg}
use Rattle.nk_base.specs.declared.message.UpMsg.{UpMsg}
use Rattle.nk_wire.specs.declared.error.DecodeError.{DecodeError}
use Rattle.nk_wire.specs.Reading.{main_answer, back_answer, up_answer}
use Rattle.nk_wire.specs.Streams.{First, Part, BadLength, Whole, first}

-- each number is a byte, as in every frame that there is
abbrev pub AreBytes : List ℕ → Type 0
AreBytes bytes = (i : ℕ) → slice_index bytes i < 256

-- the rest of a whole frame with nothing behind it
abbrev pub only_rest : First → Option (List ℕ)
only_rest Part = None
only_rest (BadLength n) = None
only_rest (Whole rest []) = Some rest
only_rest (Whole rest (b ∷ more)) = None

-- the message that is answered, if there is one
abbrev pub answered_message : {M : Type 0} → Result M DecodeError → Option M
answered_message (Ok m) = Some m
answered_message (Err e) = None

abbrev pub message_of_rest : {M : Type 0} → (List ℕ → Result M DecodeError) → Option (List ℕ) → Option M
message_of_rest answer None = None
message_of_rest answer (Some rest) = answered_message (answer rest)

-- the message whose frame the bytes are, by what a lane's decoder answers to the rest
abbrev pub message_of_frame : {M : Type 0} → (List ℕ → Result M DecodeError) → List ℕ → Option M
message_of_frame answer bytes = message_of_rest answer (only_rest (first bytes))

abbrev pub main_of_frame : List ℕ → Option MainMsg
main_of_frame bytes = message_of_frame main_answer bytes

abbrev pub back_of_frame : List ℕ → Option BackMsg
back_of_frame bytes = message_of_frame back_answer bytes

abbrev pub up_of_frame : List ℕ → Option UpMsg
up_of_frame bytes = message_of_frame up_answer bytes
