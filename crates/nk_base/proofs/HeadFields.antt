-- Where no field is found that is not good, all are good.
use Rattle.std.proofs.Common.{◌≡◌, ◌+◌, ℕ, Bool, true, false, ◌&&◌, if◌then◌else◌, List, [], ◌∷◌, refl, arith}
use Rattle.std.specs.Prelude.{Option, Some, None}
use Rattle.nk_base.specs.declared.field.Field.{Field}
use Rattle.nk_base.specs.declared.field.HeadError.{HeadError}
use Rattle.nk_base.specs.declared.field.HeadError.TheVariants as error
use Rattle.nk_base.specs.Fields.{is_good_name, is_good_value, are_good_fields}
use Rattle.nk_base.specs.HeadAnswers.{bad_field}

good_field : (name value rest : Bool) (i : ℕ) (bad : Option HeadError) → (bad ≡ None → rest ≡ true) → (if name then (if value then bad else Some (error.BadValue i)) else Some (error.BadName i)) ≡ None → (name && value && rest) ≡ true
good_field true true rest i bad r h = r h
good_field true false rest i bad r h = grind arith
good_field false value rest i bad r h = grind arith

pub are_good_fields-from_none : (i : ℕ) (fs : List Field) → bad_field i fs ≡ None → are_good_fields fs ≡ true
are_good_fields-from_none i [] h = refl
are_good_fields-from_none i (f ∷ fs) h =
    good_field (is_good_name f.name) (is_good_value f.value) (are_good_fields fs) i (bad_field (i + 1) fs) (are_good_fields-from_none (i + 1) fs) h
