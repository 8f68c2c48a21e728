-- The head of a response. The bounds are this project's own.
use Rattle.std.specs.Prelude.{ℕ, ◌≡◌, ◌≤◌, Bool, true, ◌&&◌, nat_le, List, length}
use Rattle.nk_base.specs.declared.field.Field.{Field}
use Rattle.nk_base.specs.Fields.{are_good_fields}

-- the code and the fields of a response
pub record HeadParts : Type 0 where
  pub code : ℕ
  pub fields : List Field

-- whether a response may have this code: whether it has three digits
abbrev pub is_status_code : ℕ → Bool
is_status_code code = nat_le 100 code && nat_le code 999

-- a code of three digits, and at most 64 fields, all good
pub record IsGoodHead (head : HeadParts) : Type 0 where
  pub least : 100 ≤ head.code
  pub most : head.code ≤ 999
  pub count : length head.fields ≤ 64
  pub good : are_good_fields head.fields ≡ true
