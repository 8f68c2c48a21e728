-- Header fields. The marks are those of HTTP's tokens; the lengths, and names in lower case only, are this project's own.
use Rattle.std.specs.Prelude.{ℕ, Bool, false, not, ◌&&◌, ◌||◌, ◌==◌, nat_le, ◌-◌, List, length, slice_get, Option, Some, None, codes}
use Rattle.std.specs.List.{list_all, list_any}
use Rattle.nk_base.specs.declared.field.Field.{Field}

-- the marks that a name may have
abbrev pub name_marks : List ℕ
name_marks = codes "!#$%&'*+-.^_`|~"

-- a byte of a name: a to z, 0 to 9, or a mark
abbrev pub is_name_byte : ℕ → Bool
is_name_byte b = (nat_le 97 b && nat_le b 122) || (nat_le 48 b && nat_le b 57) || list_any (λ mark. mark == b) name_marks

-- a good name has 1 to 64 bytes that a name may have
abbrev pub is_good_name : List ℕ → Bool
is_good_name name = nat_le 1 (length name) && nat_le (length name) 64 && list_all is_name_byte name

-- a byte of a value: 0x20 to 0x7e
abbrev pub is_value_byte : ℕ → Bool
is_value_byte b = nat_le 0x20 b && nat_le b 0x7e

-- whether there is a byte, and it is a space
abbrev pub is_space : Option ℕ → Bool
is_space None = false
is_space (Some b) = b == 0x20

-- a good value has 1 to 8,192 bytes that a value may have, the first and the last not a space
abbrev pub is_good_value : List ℕ → Bool
is_good_value value =
    nat_le 1 (length value)
    && nat_le (length value) 8192
    && list_all is_value_byte value
    && not (is_space (slice_get value 0))
    && not (is_space (slice_get value (length value - 1)))

-- a good field has a good name and a good value
abbrev pub is_good_field : Field → Bool
is_good_field f = is_good_name f.name && is_good_value f.value

abbrev pub are_good_fields : List Field → Bool
are_good_fields fs = list_all is_good_field fs
