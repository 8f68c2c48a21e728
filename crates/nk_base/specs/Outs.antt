-- Where a part sends. This project's own.
use Rattle.std.specs.Prelude.{ℕ, ◌≤◌, List, length, All}

-- what was sent and not taken, and what is ready to be sent
pub record OutParts (M : Type 0) : Type 0 where
  pub held : List M
  pub staged : List M

-- what a list in memory keeps: so many of its items were sent, and all of them are in range
pub record IsOutList {M : Type 0} (in_range : M → Type 0) (sent : ℕ) (items : List M) : Type 0 where
  pub sent_first : sent ≤ length items
  pub ranged : All in_range items
