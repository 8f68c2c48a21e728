-- What a decoder answers: the message, or the first fault from the left. The places are this project's own.
use Rattle.std.specs.Prelude.{◌≡◌, ℕ, zero, suc, ◌+◌, Bool, List, [], ◌∷◌, length, take, drop, Result, Ok, Err, nat_lt, ◌==◌, ◌||◌, false, if◌then◌else◌}
use Rattle.nk_base.specs.declared.field.Field.{Field}
use Rattle.nk_base.specs.declared.message.MainMsg.{MainMsg}
use Rattle.nk_base.specs.declared.message.BackMsg.{BackMsg}
use Rattle.nk_base.specs.declared.message.UpMsg.{UpMsg}
use Rattle.nk_base.specs.Fields.{is_good_name, is_good_value}
use Rattle.nk_wire.specs.declared.error.DecodeError.{DecodeError}
use Rattle.nk_wire.specs.declared.error.DecodeError.TheVariants as error
use Rattle.nk_wire.specs.declared.message.AnyMsg.{AnyMsg}
use Rattle.nk_wire.specs.declared.message.AnyMsg.TheVariants as any
use Rattle.nk_wire.specs.Layouts.{Size, U16, bytes_of, from_little, Layout, Number, Bytes, Headers, Done}
use Rattle.nk_wire.specs.Kinds.{Row, is_name_length, is_value_length, main_kinds, back_kinds, second_version, second_kinds, up_kinds}

infixl 10 ◌>>=◌
abbrev pub ◌>>=◌ : {A B : Type 0} → Result A DecodeError → (A → Result B DecodeError) → Result B DecodeError
(Ok x) >>= f = f x
(Err e) >>= f = Err e

-- a call answers what the bytes say, seen by view, but for want of memory
abbrev pub Fails : {A : Type 0} → DecodeError → Result A DecodeError → Type 0
Fails error.Memory answer = Unit {0}
Fails (error.Short have need) answer = answer ≡ Err (error.Short have need)
Fails (error.Kind kind) answer = answer ≡ Err (error.Kind kind)
Fails (error.BadField place) answer = answer ≡ Err (error.BadField place)
Fails (error.Long extra) answer = answer ≡ Err (error.Long extra)

abbrev pub Gives : {A B : Type 0} → (A → B) → Result A DecodeError → Result B DecodeError → Type 0
Gives view (Ok x) answer = answer ≡ Ok (view x)
Gives view (Err e) answer = Fails e answer

-- a place in a rest: how many bytes stand before it, and those behind it
pub record Place : Type 0 where
  pub at : ℕ
  pub left : List ℕ

abbrev pub begin : List ℕ → Place
begin rest = record { at = 0; left = rest }

-- the next bytes, so many, where they are not cut
abbrev pub bytes_at : ℕ → Place → Result (List ℕ × Place) DecodeError
bytes_at count p =
    if nat_lt (length p.left) count
    then Err (error.Short (p.at + length p.left) (p.at + count))
    else Ok (take count p.left, record { at = p.at + count; left = drop count p.left })

-- a whole field that began here, where it is in range
abbrev pub in_range_at : {A : Type 0} → Bool → ℕ → A → Result A DecodeError
in_range_at in_range at x = if in_range then Ok x else Err (error.BadField at)

-- the next number, whatever it is
unfoldable pub whole_number_at : Size → Place → Result (ℕ × Place) DecodeError
whole_number_at size p = do
  bytes ← bytes_at (bytes_of size) p
  Ok (from_little size bytes.0, bytes.1)

-- the next number
unfoldable pub number_at : Size → (ℕ → Bool) → Place → Result (ℕ × Place) DecodeError
number_at size in_range p = do
  n ← whole_number_at size p
  in_range_at (in_range n.0) p.at n

-- the next bytes, so many
unfoldable pub text_at : ℕ → (List ℕ → Bool) → Place → Result (List ℕ × Place) DecodeError
text_at count good p = do
  bytes ← bytes_at count p
  in_range_at (good bytes.0) p.at bytes

-- the next header field: a length and what it counts are two fields
unfoldable pub header_at : Place → Result (Field × Place) DecodeError
header_at p = do
  name_length ← number_at U16 is_name_length p
  name ← text_at name_length.0 is_good_name name_length.1
  value_length ← number_at U16 is_value_length name.1
  value ← text_at value_length.0 is_good_value value_length.1
  Ok (record { name = name.0; value = value.0 }, value.1)

-- the next header fields, so many
unfoldable pub headers_at : ℕ → Place → Result (List Field × Place) DecodeError
headers_at zero p = Ok ([], p)
headers_at (suc n) p = do
  first ← header_at p
  others ← headers_at n first.1
  Ok (first.0 ∷ others.0, others.1)

-- the fields of a message, in order: the first that is cut or out of range decides
abbrev pub read : {M : Type 0} → Layout M → Place → Result (M × Place) DecodeError
read (Number size in_range next) p = number_at size in_range p >>= λ n. read (next n.0) n.1
read (Bytes count good next) p = text_at count good p >>= λ bytes. read (next bytes.0) bytes.1
read (Headers count next) p = headers_at count p >>= λ fields. read (next fields.0) fields.1
read (Done message) p = Ok (message, p)

-- nothing may follow the fields
abbrev pub at_end : {M : Type 0} → M × Place → Result M DecodeError
at_end x = if length x.1.left == 0 then Ok x.0 else Err (error.Long (length x.1.left))

-- the next byte, a kind or a version
abbrev pub first_byte : ℕ → List ℕ → Result (ℕ × Place) DecodeError
first_byte at [] = Err (error.Short at (at + 1))
first_byte at (b ∷ bytes) = Ok (b, record { at = at + 1; left = bytes })

abbrev pub kind_at : Place → Result (ℕ × Place) DecodeError
kind_at p = first_byte p.at p.left

-- the fields behind a kind
abbrev pub read_kind : {M : Type 0} → List (Row M) → ℕ → Place → Result (M × Place) DecodeError
read_kind [] kind p = Err (error.Kind kind)
read_kind (row ∷ rows) kind p = if kind == row.kind then read row.layout p else read_kind rows kind p

-- what a decoder of each lane answers
abbrev pub main_answer : List ℕ → Result MainMsg DecodeError
main_answer rest = do
  kind ← kind_at (begin rest)
  message ← read_kind main_kinds kind.0 kind.1
  at_end message

abbrev pub second_message : Place → Result (BackMsg × Place) DecodeError
second_message p = do
  kind ← kind_at p
  read_kind second_kinds kind.0 kind.1

abbrev pub back_message : ℕ → Place → Result (BackMsg × Place) DecodeError
back_message kind p = if kind == second_version then second_message p else read_kind back_kinds kind p

abbrev pub back_answer : List ℕ → Result BackMsg DecodeError
back_answer rest = do
  kind ← kind_at (begin rest)
  message ← back_message kind.0 kind.1
  at_end message

abbrev pub up_answer : List ℕ → Result UpMsg DecodeError
up_answer rest = do
  kind ← kind_at (begin rest)
  message ← read_kind up_kinds kind.0 kind.1
  at_end message

-- whether a lane has a kind
abbrev pub has_kind : {M : Type 0} → List (Row M) → ℕ → Bool
has_kind [] kind = false
has_kind (row ∷ rows) kind = (kind == row.kind) || has_kind rows kind

-- a message of any lane: what the decoder of the kind's lane answers
abbrev pub any_by_kind : ℕ → List ℕ → Result AnyMsg DecodeError
any_by_kind kind rest =
    if has_kind main_kinds kind
    then (main_answer rest >>= λ m. Ok (any.Main m))
    else (if has_kind up_kinds kind
    then (up_answer rest >>= λ m. Ok (any.Up m))
    else (back_answer rest >>= λ m. Ok (any.Back m)))

abbrev pub any_answer : List ℕ → Result AnyMsg DecodeError
any_answer rest = do
  kind ← kind_at (begin rest)
  any_by_kind kind.0 rest
