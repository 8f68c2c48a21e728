-- What stands behind a kind: fields in order, each with its size and its range. This project's own.
use Rattle.std.specs.Prelude.{ℕ, ◌^◌, Bool, List}
use Rattle.std.specs.Int.{Width, w16, w32, w64, to_le_bytes, from_le_bytes}
use Rattle.nk_base.specs.declared.field.Field.{Field}

-- the sizes of numbers: 2, 4 or 8 bytes
pub data Size : Type 0 where
  U16 : Size
  U32 : Size
  U64 : Size

abbrev pub width : Size → Width
width U16 = w16
width U32 = w32
width U64 = w64

-- how many bytes a number of this size has
abbrev pub bytes_of : Size → ℕ
bytes_of U16 = 2
bytes_of U32 = 4
bytes_of U64 = 8

-- the least number that has no such size
abbrev pub limit : Size → ℕ
limit U16 = 2 ^ 16
limit U32 = 2 ^ 32
limit U64 = 2 ^ 64

-- a number in its bytes, the lowest first
abbrev pub little : Size → ℕ → List ℕ
little size n = to_le_bytes (width size) n

abbrev pub from_little : Size → List ℕ → ℕ
from_little size bytes = from_le_bytes (width size) bytes

-- the fields of a message, in order: a number in range; so many bytes, good ones; so many header fields, good ones; and
-- then the message. What stands before tells what comes next
pub data Layout (M : Type 0) : Type 0 where
  Number : (size : Size) → (in_range : ℕ → Bool) → (next : ℕ → Layout M) → Layout M
  Bytes : (count : ℕ) → (good : List ℕ → Bool) → (next : List ℕ → Layout M) → Layout M
  Headers : (count : ℕ) → (next : List Field → Layout M) → Layout M
  Done : (message : M) → Layout M
