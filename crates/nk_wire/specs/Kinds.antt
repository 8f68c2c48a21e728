-- The kinds of the three lanes, and the fields behind each. The numbers and the ranges are this project's own.
use Rattle.std.specs.Prelude.{ℕ, Bool, true, ◌&&◌, ◌==◌, nat_lt, nat_le, List, [], ◌∷◌}
use Rattle.nk_base.specs.declared.status.Status.{Status}
use Rattle.nk_base.specs.declared.message.MainMsg.{MainMsg}
use Rattle.nk_base.specs.declared.message.MainMsg.TheVariants as main
use Rattle.nk_base.specs.declared.message.BackMsg.{BackMsg}
use Rattle.nk_base.specs.declared.message.BackMsg.TheVariants as back
use Rattle.nk_base.specs.declared.message.UpMsg.{UpMsg}
use Rattle.nk_base.specs.declared.message.UpMsg.TheVariants as up
use Rattle.nk_base.specs.Status.{is_failure, is_legal_status}
use Rattle.nk_base.specs.Heads.{HeadParts, is_status_code}
use Rattle.nk_wire.specs.Layouts.{Layout, Number, Bytes, Headers, Done, U16, U32, U64}

-- the most bytes behind a frame's length: those of a start with 64 of the largest fields
abbrev pub longest_rest : ℕ
longest_rest = 528653

-- The ranges of the fields.

abbrev pub status_of : ℕ → Status
status_of n = record { 0 = n }

abbrev pub is_hop : ℕ → Bool
is_hop n = nat_lt n 32

-- a legal status, a failure, and the status of a load that went well
abbrev pub is_status : ℕ → Bool
is_status n = is_legal_status (status_of n)

abbrev pub is_failing : ℕ → Bool
is_failing n = is_failure (status_of n)

abbrev pub is_ok : ℕ → Bool
is_ok n = n == 0

-- from the first number to the second, both included
abbrev pub within : ℕ → ℕ → ℕ → Bool
within least most n = nat_le least n && nat_le n most

abbrev pub is_redirect_code : ℕ → Bool
is_redirect_code n = within 300 399 n

-- how many header fields a start has, and how many trailers a stop of the second version
abbrev pub is_count : ℕ → Bool
is_count n = within 0 64 n

abbrev pub is_trailer_count : ℕ → Bool
is_trailer_count n = within 1 64 n

-- how many bytes a name and a value have
abbrev pub is_name_length : ℕ → Bool
is_name_length n = within 1 64 n

abbrev pub is_value_length : ℕ → Bool
is_value_length n = within 1 8192 n

-- how many bytes a piece has, or were read at once
abbrev pub is_piece_length : ℕ → Bool
is_piece_length n = within 1 131072 n

abbrev pub any_number : ℕ → Bool
any_number n = true

abbrev pub any_bytes : List ℕ → Bool
any_bytes bytes = true

-- The fields of each kind.

abbrev pub start : {M : Type 0} → (ℕ → Status → HeadParts → M) → Layout M
start make =
    Number U32 is_hop (λ hop.
    Number U32 is_status (λ status.
    Number U16 is_status_code (λ code.
    Number U16 is_count (λ count.
    Headers count (λ fields.
    Done (make hop (status_of status) (record { code = code; fields = fields })))))))

abbrev pub main_start : Layout MainMsg
main_start = start main.Start

abbrev pub failed_open : Layout MainMsg
failed_open = Number U32 is_hop (λ hop. Number U32 is_failing (λ status. Done (main.FailedOpen hop (status_of status))))

abbrev pub redirect1 : Layout MainMsg
redirect1 = Number U32 is_hop (λ hop. Number U16 is_redirect_code (λ code. Done (main.Redirect1 hop code)))

abbrev pub redirect3 : Layout MainMsg
redirect3 = Number U32 is_hop (λ hop. Done (main.Redirect3 hop))

abbrev pub back_start : Layout BackMsg
back_start = start back.Start

abbrev pub start_sent : Layout BackMsg
start_sent = Number U32 is_hop (λ hop. Done (back.StartSent hop))

abbrev pub bytes : Layout BackMsg
bytes =
    Number U32 is_hop (λ hop.
    Number U32 is_status (λ status.
    Number U64 any_number (λ offset.
    Number U32 is_piece_length (λ length.
    Bytes length any_bytes (λ piece.
    Done (back.Bytes hop (status_of status) offset piece))))))

abbrev pub stop : Layout BackMsg
stop = Number U32 is_hop (λ hop. Number U32 is_status (λ status. Done (back.Stop hop (status_of status) [])))

abbrev pub stop_with_trailers : Layout BackMsg
stop_with_trailers =
    Number U32 is_hop (λ hop.
    Number U32 is_ok (λ status.
    Number U16 is_trailer_count (λ count.
    Headers count (λ trailers.
    Done (back.Stop hop (status_of status) trailers)))))

abbrev pub cancel : Layout UpMsg
cancel = Number U32 is_failing (λ status. Done (up.Cancel (status_of status)))

abbrev pub verify : Layout UpMsg
verify = Number U32 is_hop (λ hop. Number U32 is_status (λ status. Done (up.Verify hop (status_of status))))

abbrev pub bytes_read : Layout UpMsg
bytes_read = Number U32 is_piece_length (λ count. Done (up.BytesRead count))

-- The kinds of each lane.

-- a kind, and the fields behind it
pub record Row (M : Type 0) : Type 0 where
  pub kind : ℕ
  pub layout : Layout M

abbrev pub row : {M : Type 0} → ℕ → Layout M → Row M
row kind layout = record { kind = kind; layout = layout }

abbrev pub main_kinds : List (Row MainMsg)
main_kinds = row 0x01 main_start ∷ row 0x02 failed_open ∷ row 0x03 redirect1 ∷ row 0x04 redirect3 ∷ []

abbrev pub back_kinds : List (Row BackMsg)
back_kinds = row 0x11 start_sent ∷ row 0x12 bytes ∷ row 0x13 stop ∷ row 0x14 back_start ∷ []

-- the byte that begins a rest of the second version, and the kinds behind it
abbrev pub second_version : ℕ
second_version = 0xf2

abbrev pub second_kinds : List (Row BackMsg)
second_kinds = row 0x13 stop_with_trailers ∷ []

abbrev pub up_kinds : List (Row UpMsg)
up_kinds =
    row 0x21 (Done up.Open)
    ∷ row 0x22 (Done up.Suspend)
    ∷ row 0x23 (Done up.Resume)
    ∷ row 0x24 cancel
    ∷ row 0x25 verify
    ∷ row 0x26 bytes_read
    ∷ row 0x27 (Done up.Deleting)
    ∷ []
