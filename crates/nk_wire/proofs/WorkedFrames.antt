-- The definitions at worked frames, by computation.
use Rattle.std.proofs.Common.{◌≡◌, ℕ, List, [], ◌∷◌, ◌++◌, Ok, Err, refl}
use Rattle.nk_base.specs.declared.field.Field.{Field}
use Rattle.nk_base.specs.declared.message.BackMsg.TheVariants as back
use Rattle.nk_base.specs.declared.message.UpMsg.TheVariants as up
use Rattle.nk_wire.specs.declared.error.DecodeError.TheVariants as error
use Rattle.nk_wire.specs.declared.message.AnyMsg.{AnyMsg}
use Rattle.nk_wire.specs.declared.message.AnyMsg.TheVariants as any
use Rattle.nk_wire.specs.Kinds.{status_of}
use Rattle.nk_wire.specs.Spelling.{frame, any_rest}
use Rattle.nk_wire.specs.Reading.{whole_number_at, number_at, text_at, header_at, headers_at, any_answer}
use Rattle.nk_wire.specs.Streams.{Part, BadLength, Whole, first, needed}

-- The frames.

abbrev cancel : AnyMsg
cancel = any.Up (up.Cancel (status_of 0x804b0002))

abbrev stop : AnyMsg
stop = any.Back (back.Stop 0 (status_of 0) [])

abbrev hello : AnyMsg
hello = any.Back (back.Bytes 0 (status_of 0) 0 (0x68 ∷ 0x65 ∷ 0x6c ∷ 0x6c ∷ 0x6f ∷ []))

abbrev verify : AnyMsg
verify = any.Up (up.Verify 0 (status_of 0x804b0002))

abbrev trailer : Field
trailer = record { name = 0x78 ∷ []; value = 0x79 ∷ [] }

abbrev trailers : AnyMsg
trailers = any.Back (back.Stop 0 (status_of 0) (trailer ∷ []))

abbrev trailers_rest : List ℕ
trailers_rest = 0xf2 ∷ 0x13 ∷ 0 ∷ 0 ∷ 0 ∷ 0 ∷ 0 ∷ 0 ∷ 0 ∷ 0 ∷ 1 ∷ 0 ∷ 1 ∷ 0 ∷ 0x78 ∷ 1 ∷ 0 ∷ 0x79 ∷ []

cancel_frame : frame (any_rest cancel) ≡ 5 ∷ 0 ∷ 0 ∷ 0 ∷ 0x24 ∷ 0x02 ∷ 0x00 ∷ 0x4b ∷ 0x80 ∷ []
cancel_frame = refl

stop_frame : frame (any_rest stop) ≡ 9 ∷ 0 ∷ 0 ∷ 0 ∷ 0x13 ∷ 0 ∷ 0 ∷ 0 ∷ 0 ∷ 0 ∷ 0 ∷ 0 ∷ 0 ∷ []
stop_frame = refl

hello_frame : frame (any_rest hello) ≡ 0x1a ∷ 0 ∷ 0 ∷ 0 ∷ 0x12 ∷ 0 ∷ 0 ∷ 0 ∷ 0 ∷ 0 ∷ 0 ∷ 0 ∷ 0 ∷ 0 ∷ 0 ∷ 0 ∷ 0 ∷ 0 ∷ 0 ∷ 0 ∷ 0 ∷ 5 ∷ 0 ∷ 0 ∷ 0 ∷ 0x68 ∷ 0x65 ∷ 0x6c ∷ 0x6c ∷ 0x6f ∷ []
hello_frame = refl

verify_frame : frame (any_rest verify) ≡ 9 ∷ 0 ∷ 0 ∷ 0 ∷ 0x25 ∷ 0 ∷ 0 ∷ 0 ∷ 0 ∷ 2 ∷ 0 ∷ 0x4b ∷ 0x80 ∷ []
verify_frame = refl

trailers_frame : frame (any_rest trailers) ≡ 0x12 ∷ 0 ∷ 0 ∷ 0 ∷ trailers_rest
trailers_frame = refl

-- Read again, and the first fault of each that is none.

trailers_read : any_answer trailers_rest ≡ Ok trailers
unfolding whole_number_at number_at text_at header_at headers_at
trailers_read = refl

hello_read : any_answer (any_rest hello) ≡ Ok hello
unfolding whole_number_at number_at text_at header_at headers_at
hello_read = refl

no_kind : any_answer (0x99 ∷ []) ≡ Err (error.Kind 0x99)
no_kind = refl

other_second_kind : any_answer (0xf2 ∷ 0x12 ∷ []) ≡ Err (error.Kind 0x12)
other_second_kind = refl

no_second_kind : any_answer (0xf2 ∷ []) ≡ Err (error.Short 1 2)
no_second_kind = refl

nothing : any_answer [] ≡ Err (error.Short 0 1)
nothing = refl

one_more : any_answer (any_rest stop ++ 0xff ∷ []) ≡ Err (error.Long 1)
unfolding whole_number_at number_at
one_more = refl

cut_status : any_answer (0x13 ∷ 0 ∷ 0 ∷ 0 ∷ 0 ∷ 0 ∷ []) ≡ Err (error.Short 6 9)
unfolding whole_number_at number_at
cut_status = refl

-- a hop that is out of range stands before a status that is cut
bad_hop : any_answer (0x13 ∷ 32 ∷ 0 ∷ 0 ∷ 0 ∷ 0 ∷ []) ≡ Err (error.BadField 1)
unfolding whole_number_at number_at
bad_hop = refl

-- 0 trailers
no_trailers : any_answer (0xf2 ∷ 0x13 ∷ 0 ∷ 0 ∷ 0 ∷ 0 ∷ 0 ∷ 0 ∷ 0 ∷ 0 ∷ 0 ∷ 0 ∷ []) ≡ Err (error.BadField 10)
unfolding whole_number_at number_at
no_trailers = refl

-- What stands first in a stream.

first_length : first (0 ∷ 0 ∷ 0 ∷ 0 ∷ []) ≡ BadLength 0
first_length = refl

first_of_two : first (frame (any_rest hello) ++ frame (any_rest verify)) ≡ Whole (any_rest hello) (frame (any_rest verify))
first_of_two = refl

part_of_stop : first (9 ∷ 0 ∷ 0 ∷ 0 ∷ 0x13 ∷ 0 ∷ []) ≡ Part
part_of_stop = refl

stop_needs : needed (9 ∷ 0 ∷ 0 ∷ 0 ∷ 0x13 ∷ 0 ∷ []) ≡ 13
stop_needs = refl

trailers_need : needed (0x12 ∷ 0 ∷ 0 ∷ 0 ∷ 0xf2 ∷ 0x13 ∷ []) ≡ 22
trailers_need = refl
