-- Lists whose room is told. This project's own.
use Rattle.std.specs.Prelude.{ℕ, List}

-- a list, and the number of items for which there is room behind it
pub record Growing (T : Type 0) : Type 0 where
  pub items : List T
  pub room : ℕ
