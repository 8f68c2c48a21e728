-- Pieces of a body. The bounds are this project's own.
use Rattle.std.specs.Prelude.{ℕ, ◌≡◌, ◌≤◌, ◌<◌, ◌+◌, List, [], length, take, drop, Result, Ok, Err, ⊤}
use Rattle.nk_base.specs.declared.piece.PieceError.{PieceError}
use Rattle.nk_base.specs.declared.piece.PieceError.TheVariants as error

-- a piece has 1 to 131,072 bytes
abbrev pub IsPiece : List ℕ → Type 0
IsPiece bytes = (1 ≤ length bytes) × (length bytes ≤ 131072)

-- what the constructor answers for these bytes: the piece of them, or why they are none
abbrev pub IsPieceAnswer : List ℕ → Result (List ℕ) PieceError → Type 0
IsPieceAnswer source (Ok piece) = (piece ≡ source) × IsPiece source
IsPieceAnswer source (Err error.Empty) = source ≡ []
IsPieceAnswer source (Err error.TooLong) = 131072 < length source
IsPieceAnswer source (Err error.Memory) = ⊤

-- so many bytes of a block, behind so many others
abbrev pub part_of : List ℕ → ℕ → ℕ → List ℕ
part_of block from size = take size (drop from block)

-- these bytes lie in the block, a number of 32 bits counts them and those before them, and there are as many as a piece has
pub record IsPart (block : List ℕ) (from size : ℕ) : Type 0 where
  pub inside : from + size ≤ length block
  pub counted : from + size < 4294967296
  pub least : 1 ≤ size
  pub most : size ≤ 131072
