-- A code and fields that are in range are a head.
use Rattle.std.proofs.Common.{◌≡◌, ◌≤◌, ℕ, ◌+◌, true, List, [], ◌∷◌, length, refl}
use Rattle.std.specs.Prelude.{None, Ok}
use Rattle.nk_base.specs.declared.field.Field.{Field}
use Rattle.nk_base.specs.Fields.{is_good_name, is_good_value, is_good_field, are_good_fields}
use Rattle.nk_base.specs.Heads.{is_status_code}
use Rattle.nk_base.specs.HeadAnswers.{bad_field, head_answer}
use Rattle.std.proofs.lemmas.Bool.{le-leb}
use Rattle.nk_wire.proofs.Steps.{left_of, right_of}

-- among good fields none is bad
pub bad_field-none : (i : ℕ) (fs : List Field) → are_good_fields fs ≡ true → bad_field i fs ≡ None
bad_field-none i [] good = refl
bad_field-none i (f ∷ fs) good =
    let here = left_of (is_good_field f) (are_good_fields fs) good in
    rw (left_of (is_good_name f.name) (is_good_value f.value) here, right_of (is_good_name f.name) (is_good_value f.value) here)
    (bad_field-none (i + 1) fs (right_of (is_good_field f) (are_good_fields fs) good))

pub head_answer_good : (code : ℕ) (fs : List Field) → is_status_code code ≡ true → length fs ≤ 64 → are_good_fields fs ≡ true → head_answer code fs ≡ Ok (record { code = code; fields = fs })
head_answer_good code fs fine few good = rw (fine, le-leb _ _ few, bad_field-none 0 fs good) refl
