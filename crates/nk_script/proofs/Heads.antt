-- A good head is made.
use Rattle.std.proofs.Common.{◌≡◌, ℕ, ◌+◌, ◌≤◌, true, nat_le, List, [], ◌∷◌, length, None, Ok, refl, arith}
use Rattle.std.proofs.lemmas.Bool.Decides.{nat_tests}
use Rattle.nk_base.specs.declared.field.Field.{Field}
use Rattle.nk_base.specs.Fields.{is_good_name, is_good_value, is_good_field, are_good_fields}
use Rattle.nk_base.specs.Heads.{IsGoodHead}
use Rattle.nk_base.specs.HeadAnswers.{bad_field, head_answer}
use Rattle.nk_script.proofs.Ascii.{both}

none_bad : (i : ℕ) (fs : List Field) → are_good_fields fs ≡ true → bad_field i fs ≡ None
none_bad i [] h = refl
none_bad i (f ∷ fs) h =
    let hs = both (is_good_field f) (are_good_fields fs) h in
    let parts = both (is_good_name f.name) (is_good_value f.value) hs.0 in
    rw (parts.0, parts.1) (none_bad (i + 1) fs hs.1)

least : (code : ℕ) → 100 ≤ code → nat_le 100 code ≡ true
least code h = grind (arith, nat_tests)

most : (code n : ℕ) → code ≤ n → nat_le code n ≡ true
most code n h = grind (arith, nat_tests)

pub head_made : (code : ℕ) (fields : List Field) → IsGoodHead (record { code = code; fields = fields }) → head_answer code fields ≡ Ok (record { code = code; fields = fields })
head_made code fields good =
    let a = least code good.least in
    let b = most code 999 good.most in
    let d = most (length fields) 64 good.count in
    let e = none_bad 0 fields good.good in
    rw (a, b, d, e) refl
