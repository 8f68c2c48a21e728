-- Numbers in range: as tests, and as nk_base's definitions say it.
use Rattle.std.proofs.Common.{◌≡◌, ◌≤◌, ◌<◌, ℕ, true, leb, List, length, refl, ap}
use Rattle.std.proofs.lemmas.Bool.{ltb-true, lt-ltb, le-leb, eqb-true}
use Rattle.nk_base.specs.declared.status.Status.{Status}
use Rattle.nk_base.specs.declared.field.Field.{Field}
use Rattle.nk_base.specs.Status.{ok}
use Rattle.nk_base.specs.Fields.{are_good_fields}
use Rattle.nk_base.specs.Heads.{HeadParts, IsGoodHead, is_status_code}
use Rattle.nk_wire.specs.Kinds.{status_of, is_hop, within, is_ok}
use Rattle.nk_wire.proofs.Steps.{both, within-bounds}

pub within-from : (least most n : ℕ) → least ≤ n → n ≤ most → within least most n ≡ true
within-from least most n low high = both (leb least n) (leb n most) (le-leb least n low) (le-leb n most high)

pub hop-below : (hop : ℕ) → is_hop hop ≡ true → hop < 32
hop-below hop h = ltb-true hop 32 h

pub hop-fits : (hop : ℕ) → hop < 32 → is_hop hop ≡ true
hop-fits hop h = lt-ltb hop 32 h

pub head-good : (code : ℕ) (fs : List Field) → is_status_code code ≡ true → length fs ≤ 64 → are_good_fields fs ≡ true → IsGoodHead (record { code = code; fields = fs })
head-good code fs fine few good =
    let bounds = within-bounds 100 999 code fine in
    record { least = bounds.0; most = bounds.1; count = few; good = good }

pub code-fits : (head : HeadParts) → IsGoodHead head → is_status_code head.code ≡ true
code-fits head h = within-from 100 999 head.code h.least h.most

pub status-equal : (s : Status) → status_of s.0 ≡ s
status-equal s = refl

pub ok-from : (n : ℕ) → is_ok n ≡ true → status_of n ≡ ok
ok-from n h = ap status_of (eqb-true n 0 h)
