-- What the constructor of a head answers.
use Rattle.std.specs.Prelude.{ℕ, ◌+◌, if◌then◌else◌, nat_le, List, [], ◌∷◌, length, Option, Some, None, Result, Ok, Err}
use Rattle.nk_base.specs.declared.field.Field.{Field}
use Rattle.nk_base.specs.declared.field.HeadError.{HeadError}
use Rattle.nk_base.specs.declared.field.HeadError.TheVariants as error
use Rattle.nk_base.specs.Fields.{is_good_name, is_good_value}
use Rattle.nk_base.specs.Heads.{HeadParts, is_status_code}

-- the first field that is not good, and its name before its value; the fields are counted from i
abbrev pub bad_field : ℕ → List Field → Option HeadError
bad_field i [] = None
bad_field i (f ∷ fs) =
    if is_good_name f.name
    then (if is_good_value f.value then bad_field (i + 1) fs else Some (error.BadValue i))
    else Some (error.BadName i)

-- why a code and fields are no head
abbrev pub head_error : ℕ → List Field → Option HeadError
head_error code fields =
    if is_status_code code
    then (if nat_le (length fields) 64 then bad_field 0 fields else Some (error.TooMany (length fields)))
    else Some (error.BadCode code)

abbrev pub answer_by : HeadParts → Option HeadError → Result HeadParts HeadError
answer_by head None = Ok head
answer_by head (Some e) = Err e

-- the head of a code and fields, or why they are none
abbrev pub head_answer : ℕ → List Field → Result HeadParts HeadError
head_answer code fields = answer_by (record { code = code; fields = fields }) (head_error code fields)
