-- The ranges of the messages' fields. This project's own.
use Rattle.std.specs.Prelude.{ℕ, ◌≡◌, ◌≤◌, ◌<◌, true, List, length}
use Rattle.nk_base.specs.declared.status.Status.{Status}
use Rattle.nk_base.specs.declared.field.Field.{Field}
use Rattle.nk_base.specs.declared.message.MainMsg.{MainMsg}
use Rattle.nk_base.specs.declared.message.MainMsg.TheVariants as main
use Rattle.nk_base.specs.declared.message.BackMsg.{BackMsg}
use Rattle.nk_base.specs.declared.message.BackMsg.TheVariants as back
use Rattle.nk_base.specs.declared.message.UpMsg.{UpMsg}
use Rattle.nk_base.specs.declared.message.UpMsg.TheVariants as up
use Rattle.nk_base.specs.Status.{is_failure, is_legal_status, ok}
use Rattle.nk_base.specs.Fields.{are_good_fields}
use Rattle.nk_base.specs.Heads.{IsGoodHead}
use Rattle.nk_base.specs.Pieces.{IsPiece}

-- hops are numbered from 0, and there are at most 32
abbrev pub IsHop : ℕ → Type 0
IsHop hop = hop < 32

-- the code of a redirect
abbrev pub IsRedirectCode : ℕ → Type 0
IsRedirectCode code = (300 ≤ code) × (code ≤ 399)

-- at most 64 trailers, all good, and none with a status other than 0
pub record AreTrailers (status : Status) (trailers : List Field) : Type 0 where
  pub count : length trailers ≤ 64
  pub good : are_good_fields trailers ≡ true
  pub after_success : 0 < length trailers → status ≡ ok

abbrev pub IsMainInRange : MainMsg → Type 0
IsMainInRange (main.Start hop status head) = IsHop hop × (is_legal_status status ≡ true) × IsGoodHead head
IsMainInRange (main.FailedOpen hop status) = IsHop hop × (is_failure status ≡ true)
IsMainInRange (main.Redirect1 hop code) = IsHop hop × IsRedirectCode code
IsMainInRange (main.Redirect3 hop) = IsHop hop

abbrev pub IsBackInRange : BackMsg → Type 0
IsBackInRange (back.Start hop status head) = IsHop hop × (is_legal_status status ≡ true) × IsGoodHead head
IsBackInRange (back.StartSent hop) = IsHop hop
IsBackInRange (back.Bytes hop status offset piece) = IsHop hop × (is_legal_status status ≡ true) × IsPiece piece
IsBackInRange (back.Stop hop status trailers) = IsHop hop × (is_legal_status status ≡ true) × AreTrailers status trailers

-- a number of bytes that the page may read at once
abbrev pub IsReadCount : ℕ → Type 0
IsReadCount count = (1 ≤ count) × (count ≤ 131072)

abbrev pub IsUpInRange : UpMsg → Type 0
IsUpInRange up.Open = Unit {0}
IsUpInRange up.Suspend = Unit {0}
IsUpInRange up.Resume = Unit {0}
IsUpInRange (up.Cancel status) = is_failure status ≡ true
IsUpInRange (up.Verify hop status) = IsHop hop × (is_legal_status status ≡ true)
IsUpInRange (up.BytesRead count) = IsReadCount count
IsUpInRange up.Deleting = Unit {0}
