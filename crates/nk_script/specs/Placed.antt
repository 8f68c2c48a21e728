-- Where a text stands in the block of which its pieces are parts (this project's own).
use Rattle.std.specs.Prelude.{◌≡◌, ℕ, ◌+◌, ◌^◌, ◌<◌, ◌≤◌, List, length}
use Rattle.nk_base.specs.Pieces.{part_of}

-- the text stands in the block behind so many bytes, and a number of 31 bits counts those of the block
pub record IsPlaced (block : List ℕ) (from : ℕ) (text : List ℕ) : Type 0 where
  pub inside : from + length text ≤ length block
  pub counted : length block < 2 ^ 31
  pub is : text ≡ part_of block from (length text)
