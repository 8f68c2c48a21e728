-- How many bytes of its input a run took, by its status, where the input tells what it has left.
use Rattle.std.specs.Prelude.{ℕ, ◌≡◌, ◌≤◌, ◌+◌, ◌⊎◌, List, [], length, Option, Some, IfSome}
use Rattle.nk_io.specs.Given.{GivesCount, GivesAtMost}
use Rattle.nk_run.specs.Runs.{Outcome, most_input}

-- all of them, and they are not too many
abbrev pub TakesAll : Option (List ℕ) → Option (List ℕ) → Type 0
TakesAll left left' = IfSome left (λ all. (left' ≡ Some []) × (length all ≤ most_input))

-- what a command that reads its input took of it
pub record Takes (o : Outcome) : Type 0 where
  -- 0, 4: all, since the output is that of the whole input. 6, 7: all, and they are refused
  pub written : (o.status ≡ 0) ⊎ (o.status ≡ 4) → TakesAll o.left o.left'
  pub wrong : (o.status ≡ 6) ⊎ (o.status ≡ 7) → TakesAll o.left o.left'
  -- 1: all, and they are refused; or one more than an input may have
  pub refused : o.status ≡ 1 → TakesAll o.left o.left' ⊎ GivesCount o.left o.left' (most_input + 1)
  -- 3, 5: no more than an input may have
  pub stopped : (o.status ≡ 3) ⊎ (o.status ≡ 5) → GivesAtMost o.left o.left' most_input
