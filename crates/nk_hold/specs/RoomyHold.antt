-- A hold and its room. This project's own.
use Rattle.std.specs.Prelude.{ℕ, ◌≡◌, ◌+◌, ◌≤◌, List, [], length, Option, Some, None}
use Rattle.nk_base.specs.declared.message.BackMsg.{BackMsg}
use Rattle.nk_base.specs.Hold.{Hold}

-- a hold, and for how many messages there is room
pub record RoomyHold : Type 0 where
  pub state : Hold
  pub spare : ℕ

-- a report is on a hop up to 32
abbrev pub IsReport : Option ℕ → Type 0
IsReport None = Unit {0}
IsReport (Some h) = h ≤ 32

-- what the type keeps: the messages that are kept, and as many more, find room in both lists, of which the second is empty
pub record HasRoom (report : Option ℕ) (kept leaving : List BackMsg) (spare kept_room leaving_room : ℕ) : Type 0 where
  pub reported : IsReport report
  pub keeps : length kept + spare ≤ kept_room
  pub leaves : spare ≤ leaving_room
  pub empty : leaving ≡ []
