-- How the numbers of a script are spelled (this project's own).
use Rattle.std.specs.Prelude.{◌≡◌, ◌≢◌, true, Bool, ◌&&◌, ◌||◌, nat_le, ℕ, ◌<◌, ◌≤◌, List, [], ◌∷◌, length, slice_index}
use Rattle.std.specs.List.{list_all}
use Rattle.std.specs.Fmt.{decimal}
use Rattle.std.specs.Str.Parse.{digits_value}
use Rattle.nk_base.specs.declared.status.Status.{Status}
use Rattle.nk_base.specs.Status.{is_failure}

-- the word is the decimal spelling of n, without a sign or a leading zero, and n is in this range
pub record IsDecimal (least most : ℕ) (word : List ℕ) (n : ℕ) : Type 0 where
  pub spelled : word ≡ decimal n
  pub at_least : least ≤ n
  pub at_most : n ≤ most

abbrev pub is_digit : ℕ → Bool
is_digit b = nat_le 48 b && nat_le b 57

-- a decimal number from 1 on, of any size
pub record IsCount (word : List ℕ) : Type 0 where
  pub nonempty : 0 < length word
  pub digits : list_all is_digit word ≡ true
  pub no_leading_zero : slice_index word 0 ≢ 48

-- a lower-case hexadecimal digit
abbrev pub is_hex_digit : ℕ → Bool
is_hex_digit b = is_digit b || (nat_le 97 b && nat_le b 102)

-- eight such digits, of a failure
pub record IsStatus (word : List ℕ) (s : Status) : Type 0 where
  pub eight : length word ≡ 8
  pub digits : list_all is_hex_digit word ≡ true
  pub value : s.0 ≡ digits_value 16 word
  pub failure : is_failure s ≡ true

-- two such digits
pub record IsByte (word : List ℕ) (byte : ℕ) : Type 0 where
  pub two : length word ≡ 2
  pub digits : list_all is_hex_digit word ≡ true
  pub value : byte ≡ digits_value 16 word

-- two such digits for each byte
abbrev pub IsBytes : List ℕ → List ℕ → Type 0
IsBytes [] [] = Unit {0}
IsBytes [] (byte ∷ bytes) = ⊥
IsBytes (d ∷ []) bytes = ⊥
IsBytes (d ∷ (e ∷ ds)) [] = ⊥
IsBytes (d ∷ (e ∷ ds)) (byte ∷ bytes) = IsByte (d ∷ e ∷ []) byte × IsBytes ds bytes
