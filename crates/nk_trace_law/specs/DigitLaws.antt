-- The digits of statuses, codes and bytes. This project's own.
use Rattle.std.specs.Prelude.{ℕ, ◌≡◌, ◌*◌, Bool, true, ◌&&◌, ◌||◌, nat_le, List, length}
use Rattle.std.specs.List.{list_all}
use Rattle.std.specs.Str.Parse.{digits_value}
use Rattle.nk_base.specs.declared.status.Status.{Status}
use Rattle.nk_trace.specs.Words.{code_text, hex_text, status_text}
use Rattle.nk_trace_law.specs.Fits.{NumberFits, StatusFits, BytesFit}

abbrev pub is_digit : ℕ → Bool
is_digit b = nat_le 48 b && nat_le b 57

-- a digit, or a letter from a to f
abbrev pub is_hex_digit : ℕ → Bool
is_hex_digit b = is_digit b || (nat_le 97 b && nat_le b 102)

-- a status is printed as eight hexadecimal digits
abbrev pub StatusDigitsLaw : Type 0
StatusDigitsLaw = (status : Status) → (length (status_text status) ≡ 8) × (list_all is_hex_digit (status_text status) ≡ true)

-- and is their value, where it fits
abbrev pub StatusValueLaw : Type 0
StatusValueLaw = (status : Status) → StatusFits status → digits_value 16 (status_text status) ≡ status.0

-- each eight such digits are those of their value
abbrev pub StatusSpelledLaw : Type 0
StatusSpelledLaw = (word : List ℕ) → length word ≡ 8 → list_all is_hex_digit word ≡ true
    → word ≡ status_text (record { 0 = digits_value 16 word })

-- a code is the value of its digits
abbrev pub CodeValueLaw : Type 0
CodeValueLaw = (code : ℕ) → NumberFits code → digits_value 10 (code_text code) ≡ code

-- each three digits are those of a code
abbrev pub CodeSpelledLaw : Type 0
CodeSpelledLaw = (word : List ℕ) → length word ≡ 3 → list_all is_digit word ≡ true → word ≡ code_text (digits_value 10 word)

-- bytes are printed as two hexadecimal digits each
abbrev pub BytesDigitsLaw : Type 0
BytesDigitsLaw = (bytes : List ℕ) → (length (hex_text bytes) ≡ 2 * length bytes) × (BytesFit bytes → list_all is_hex_digit (hex_text bytes) ≡ true)

-- which tell the bytes
abbrev pub BytesToldLaw : Type 0
BytesToldLaw = (xs ys : List ℕ) → BytesFit xs → BytesFit ys → hex_text xs ≡ hex_text ys → xs ≡ ys

-- and each such digits, of an even number, are those of some bytes
abbrev pub BytesSpelledLaw : Type 0
BytesSpelledLaw = (word : List ℕ) (count : ℕ) → length word ≡ 2 * count → list_all is_hex_digit word ≡ true
    → (bytes : List ℕ) × BytesFit bytes × (word ≡ hex_text bytes)
