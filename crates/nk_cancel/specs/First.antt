-- The first failure of a channel, which all later ones leave in place.
-- (after HttpBaseChannel, whose mStatus the first cancel alone sets)
use Rattle.std.specs.Prelude.{◌≡◌, true, Option, Some, None}
use Rattle.nk_base.specs.declared.status.Status.{Status}
use Rattle.nk_base.specs.Status.{is_failure}

abbrev pub IsFailure : Status → Type 0
IsFailure s = is_failure s ≡ true

-- what is kept is a failure
abbrev pub IsFailureIfAny : Option Status → Type 0
IsFailureIfAny None = Unit {0}
IsFailureIfAny (Some s) = IsFailure s
