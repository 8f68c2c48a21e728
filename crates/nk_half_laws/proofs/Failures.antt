-- The failure that is kept is one.
use Rattle.std.proofs.Common.{◌≡◌, ◌||◌, refl, Bool, true, false, if◌then◌else◌, Option, Some, None}
use Rattle.nk_base.specs.declared.status.Status.{Status}
use Rattle.nk_base.specs.Status.{is_failure, is_legal_status, merged, kept_status}

abbrev pub IsKept : Option Status → Type 0
IsKept None = Unit {0}
IsKept (Some q) = is_failure q ≡ true

failure_kept : (b : Bool) (st : Status) → is_failure st ≡ b → IsKept (if b then Some st else None)
failure_kept true st e = e
failure_kept false st e = tt

pub merged_kept : (o : Option Status) (st : Status) → IsKept o → IsKept (merged o st)
merged_kept None st k = failure_kept (is_failure st) st refl
merged_kept (Some q) st k = k

pub merged_none : (o : Option Status) (st : Status) → merged o st ≡ None → o ≡ None
merged_none None st e = refl
merged_none (Some q) st e = cc

or_true : (a : Bool) → (a || true) ≡ true
or_true true = refl
or_true false = refl

pub failure_legal : (st : Status) → is_failure st ≡ true → is_legal_status st ≡ true
failure_legal st e = rw e (or_true _)

pub kept_legal : (o : Option Status) → IsKept o → is_legal_status (kept_status o) ≡ true
kept_legal None k = refl
kept_legal (Some q) k = failure_legal q k
