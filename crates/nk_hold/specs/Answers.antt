-- What a hold answers. This project's own.
use Rattle.std.specs.Prelude.{ℕ, ◌≡◌, ◌-◌, true, false, List, Option, Some, None}
use Rattle.nk_base.specs.declared.message.BackMsg.{BackMsg}
use Rattle.nk_base.specs.Hold.{back_hop, is_start_sent, is_among, keeping, of_hop, released_hold}
use Rattle.nk_hold.specs.RoomyHold.{RoomyHold}
use Rattle.nk_hold.specs.declared.hold.Held.{Held}
use Rattle.nk_hold.specs.declared.hold.Held.TheVariants as held
use Rattle.nk_hold.specs.declared.hold.Released.{Released}
use Rattle.nk_hold.specs.declared.hold.Released.TheVariants as released

-- a message passes where its hop was released, and is kept where it was not; one that says that a start was sent changes
-- nothing
abbrev pub HeldCases : RoomyHold → BackMsg → Held → RoomyHold → Type 0
HeldCases old m (held.Pass x) new =
    (x ≡ m) × (is_start_sent m ≡ false) × (is_among old.state.released (back_hop m) ≡ true) × (new ≡ old)
HeldCases old m held.Kept new =
    (is_start_sent m ≡ false)
    × (is_among old.state.released (back_hop m) ≡ false)
    × (new ≡ record { state = keeping m old.state; spare = old.spare - 1 })
HeldCases old m held.Noted new = (is_start_sent m ≡ true) × (new ≡ old)

-- the kept messages of the reported hop are given, in the order they came, and the hop is released; with no report
-- nothing changes. The room is then not known
abbrev pub ReleasedCases : RoomyHold → Released → RoomyHold → Type 0
ReleasedCases old released.Idle new = (old.state.report ≡ None) × (new ≡ old)
ReleasedCases old (released.Messages ms) new =
    (h : ℕ) × (old.state.report ≡ Some h) × (ms ≡ of_hop h old.state.kept) × (new.state ≡ released_hold h old.state)
