-- How lines, numbers and bytes are printed. This project's own.
use Rattle.std.specs.Prelude.{ℕ, ◌-◌, ◌/◌, ◌%◌, List, [], ◌∷◌, ◌++◌, length, slice_index, replicate, codes, decimal}
use Rattle.std.specs.List.{flat_map, join_with_byte}
use Rattle.std.specs.Int.{to_be_bytes, w32}
use Rattle.nk_base.specs.declared.status.Status.{Status}

-- words, parted by one space each
abbrev pub words : List (List ℕ) → List ℕ
words ws = join_with_byte 32 ws

-- a line of words, which ends with a line feed
abbrev pub line : List (List ℕ) → List ℕ
line ws = words ws ++ 10 ∷ []

-- a code: decimal, and where that has fewer than three digits, leading zeros up to three
unfoldable pub code_text : ℕ → List ℕ
code_text code = replicate (3 - length (decimal code)) 48 ++ decimal code

-- a hexadecimal digit, in lower case
unfoldable pub hex_digit : ℕ → ℕ
hex_digit n = slice_index (codes "0123456789abcdef") n

-- the two hexadecimal digits of a byte
abbrev pub hex_byte : ℕ → List ℕ
hex_byte byte = hex_digit (byte / 16) ∷ hex_digit (byte % 16) ∷ []

-- bytes, two hexadecimal digits each
abbrev pub hex_text : List ℕ → List ℕ
hex_text bytes = flat_map hex_byte bytes

-- a status: the eight hexadecimal digits of its four bytes, the highest byte first
unfoldable pub status_text : Status → List ℕ
status_text status = hex_text (to_be_bytes w32 status.0)
