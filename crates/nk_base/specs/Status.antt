-- Statuses, after the top bit of Firefox's nsresult, the failure that a load keeps, and what a step answers. The numbers are
-- this project's own.
use Rattle.std.specs.Prelude.{Bool, true, false, ◌||◌, ◌==◌, nat_le, if◌then◌else◌, Option, Some, None}
use Rattle.nk_base.specs.declared.status.Status.{Status}
use Rattle.nk_base.specs.declared.status.Moved.{Moved}
use Rattle.nk_base.specs.declared.status.Moved.TheVariants.{Did, Idle}

-- a status is a failure where its top bit is set
abbrev pub is_failure : Status → Bool
is_failure s = nat_le 0x80000000 s.0

-- a status is legal where it is 0 or a failure
abbrev pub is_legal_status : Status → Bool
is_legal_status s = (s.0 == 0) || is_failure s

abbrev pub ok : Status
ok = record { 0 = 0 }

abbrev pub redirect_loop : Status
redirect_loop = record { 0 = 0x804b001f }

abbrev pub stream_closed : Status
stream_closed = record { 0 = 0x80470002 }

-- THE FIRST FAILURE

-- the failure that a status is, if it is one
abbrev pub failure : Status → Option Status
failure s = if is_failure s then Some s else None

-- the first of two, if there is one
abbrev pub or_else : {A : Type 0} → Option A → Option A → Option A
or_else None b = b
or_else (Some a) b = Some a

-- the failure that is kept, once this status has come: the first one stays
-- (after HttpBaseChannel, whose mStatus the first cancel alone sets)
abbrev pub merged : Option Status → Status → Option Status
merged kept s = or_else kept (failure s)

-- the failure that is kept, or 0
abbrev pub kept_status : Option Status → Status
kept_status None = ok
kept_status (Some s) = s

-- WHAT A STEP ANSWERS

-- a step that is enabled is made, and any other is idle
abbrev pub moved_if : Bool → Moved
moved_if true = Did
moved_if false = Idle
