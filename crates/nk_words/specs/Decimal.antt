-- Decimal numbers as the program's words spell them (this project's own).
use Rattle.std.specs.Prelude.{◌≡◌, ℕ, ◌<◌, ◌≤◌, List, length, slice_index}
use Rattle.std.specs.Fmt.{decimal}

-- the text is the spelling of n, and n is in this range
pub record IsSpelledWithin (least most : ℕ) (text : List ℕ) (n : ℕ) : Type 0 where
  pub spelled : text ≡ decimal n
  pub at_least : least ≤ n
  pub at_most : n ≤ most

-- a digit stands first, and 0 does only where nothing follows it
pub record HasPlainStart (text : List ℕ) : Type 0 where
  pub nonempty : 0 < length text
  pub at_least_0 : 48 ≤ slice_index text 0
  pub at_most_9 : slice_index text 0 ≤ 57
  pub zero_alone : slice_index text 0 ≡ 48 → length text ≡ 1
