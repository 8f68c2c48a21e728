-- The wire: which bytes a message travels as, a clause for each kind. This project's own.
use Rattle.std.specs.Prelude.{ℕ, ◌≡◌, ◌<◌, ◌^◌, List, [], ◌∷◌, ◌++◌, length}
use Rattle.std.specs.List.{flat_map}
use Rattle.nk_base.specs.declared.status.Status.{Status}
use Rattle.nk_base.specs.declared.field.Field.{Field}
use Rattle.nk_base.specs.declared.message.MainMsg.{MainMsg}
use Rattle.nk_base.specs.declared.message.MainMsg.TheVariants as main
use Rattle.nk_base.specs.declared.message.BackMsg.{BackMsg}
use Rattle.nk_base.specs.declared.message.BackMsg.TheVariants as back
use Rattle.nk_base.specs.declared.message.UpMsg.{UpMsg}
use Rattle.nk_base.specs.declared.message.UpMsg.TheVariants as up
use Rattle.nk_base.specs.Heads.{HeadParts}
use Rattle.nk_base.specs.Ranges.{IsMainInRange, IsBackInRange, IsUpInRange}
use Rattle.nk_wire.specs.declared.message.AnyMsg.{AnyMsg}
use Rattle.nk_wire.specs.declared.message.AnyMsg.TheVariants as any
use Rattle.nk_wire.specs.Layouts.{little, U16, U32, U64}

-- a header field: the length of its name, the name, the length of its value, the value
abbrev pub field : Field → List ℕ
field f = little U16 (length f.name) ++ f.name ++ little U16 (length f.value) ++ f.value

-- how many header fields there are, and each of them
abbrev pub fields : List Field → List ℕ
fields fs = little U16 (length fs) ++ flat_map field fs

-- a start, on either lane
abbrev pub start : ℕ → Status → HeadParts → List ℕ
start hop status head = little U32 hop ++ little U32 status.0 ++ little U16 head.code ++ fields head.fields

-- the rest of a message's frame: a kind and the fields
abbrev pub main_rest : MainMsg → List ℕ
main_rest (main.Start hop status head) = 0x01 ∷ start hop status head
main_rest (main.FailedOpen hop status) = 0x02 ∷ (little U32 hop ++ little U32 status.0)
main_rest (main.Redirect1 hop code) = 0x03 ∷ (little U32 hop ++ little U16 code)
main_rest (main.Redirect3 hop) = 0x04 ∷ little U32 hop

-- a stop: without trailers a kind as the others, with them of the second version
abbrev pub stop : ℕ → Status → List Field → List ℕ
stop hop status [] = 0x13 ∷ (little U32 hop ++ little U32 status.0)
stop hop status (t ∷ ts) = 0xf2 ∷ 0x13 ∷ (little U32 hop ++ little U32 status.0 ++ fields (t ∷ ts))

abbrev pub back_rest : BackMsg → List ℕ
back_rest (back.StartSent hop) = 0x11 ∷ little U32 hop
back_rest (back.Bytes hop status offset piece) =
    0x12 ∷ (little U32 hop ++ little U32 status.0 ++ little U64 offset ++ little U32 (length piece) ++ piece)
back_rest (back.Stop hop status trailers) = stop hop status trailers
back_rest (back.Start hop status head) = 0x14 ∷ start hop status head

abbrev pub up_rest : UpMsg → List ℕ
up_rest up.Open = 0x21 ∷ []
up_rest up.Suspend = 0x22 ∷ []
up_rest up.Resume = 0x23 ∷ []
up_rest (up.Cancel status) = 0x24 ∷ little U32 status.0
up_rest (up.Verify hop status) = 0x25 ∷ (little U32 hop ++ little U32 status.0)
up_rest (up.BytesRead count) = 0x26 ∷ little U32 count
up_rest up.Deleting = 0x27 ∷ []

abbrev pub any_rest : AnyMsg → List ℕ
any_rest (any.Main m) = main_rest m
any_rest (any.Back m) = back_rest m
any_rest (any.Up m) = up_rest m

-- Statuses have 4 bytes and offsets 8; all other numbers are this small by their ranges.

abbrev pub HasFourBytes : Status → Type 0
HasFourBytes status = status.0 < 2 ^ 32

abbrev pub MainFits : MainMsg → Type 0
MainFits (main.Start hop status head) = HasFourBytes status
MainFits (main.FailedOpen hop status) = HasFourBytes status
MainFits (main.Redirect1 hop code) = Unit {0}
MainFits (main.Redirect3 hop) = Unit {0}

abbrev pub BackFits : BackMsg → Type 0
BackFits (back.StartSent hop) = Unit {0}
BackFits (back.Bytes hop status offset piece) = HasFourBytes status × (offset < 2 ^ 64)
BackFits (back.Stop hop status trailers) = HasFourBytes status
BackFits (back.Start hop status head) = HasFourBytes status

abbrev pub UpFits : UpMsg → Type 0
UpFits up.Open = Unit {0}
UpFits up.Suspend = Unit {0}
UpFits up.Resume = Unit {0}
UpFits (up.Cancel status) = HasFourBytes status
UpFits (up.Verify hop status) = HasFourBytes status
UpFits (up.BytesRead count) = Unit {0}
UpFits up.Deleting = Unit {0}

-- a message in range, and the rest of its frame
pub record SpellsMain (m : MainMsg) (rest : List ℕ) : Type 0 where
  pub in_range : IsMainInRange m
  pub fits : MainFits m
  pub spelled : rest ≡ main_rest m

pub record SpellsBack (m : BackMsg) (rest : List ℕ) : Type 0 where
  pub in_range : IsBackInRange m
  pub fits : BackFits m
  pub spelled : rest ≡ back_rest m

pub record SpellsUp (m : UpMsg) (rest : List ℕ) : Type 0 where
  pub in_range : IsUpInRange m
  pub fits : UpFits m
  pub spelled : rest ≡ up_rest m

abbrev pub SpellsAny : AnyMsg → List ℕ → Type 0
SpellsAny (any.Main m) rest = SpellsMain m rest
SpellsAny (any.Back m) rest = SpellsBack m rest
SpellsAny (any.Up m) rest = SpellsUp m rest

abbrev pub IsAnyInRange : AnyMsg → Type 0
IsAnyInRange (any.Main m) = IsMainInRange m
IsAnyInRange (any.Back m) = IsBackInRange m
IsAnyInRange (any.Up m) = IsUpInRange m

abbrev pub AnyFits : AnyMsg → Type 0
AnyFits (any.Main m) = MainFits m
AnyFits (any.Back m) = BackFits m
AnyFits (any.Up m) = UpFits m

-- a frame: the length of the rest, and the rest
abbrev pub frame : List ℕ → List ℕ
frame rest = little U32 (length rest) ++ rest

-- the frame of a message, of whose lane this is the wire
abbrev pub IsFrameOf : {M : Type 0} → (M → List ℕ → Type 0) → M → List ℕ → Type 0
IsFrameOf spells m bytes = (rest : List ℕ) × spells m rest × (bytes ≡ frame rest)
