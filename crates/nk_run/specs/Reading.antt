-- Why not all of an input was read.
use Rattle.std.specs.Prelude.{ℕ, ◌+◌, List, Option}
use Rattle.nk_io.specs.Faults.{Rose}
use Rattle.nk_io.specs.Given.{GivesCount, GivesAtMost}
use Rattle.nk_run.specs.Runs.{most_input}
use Rattle.nk_run.specs.declared.failure.Failure.{Failure}
use Rattle.nk_run.specs.declared.failure.Failure.TheVariants as failure

-- it is too large, it failed, or memory was wanting; and how many bytes were taken
abbrev pub IsUnread : Failure → Option (List ℕ) → Option (List ℕ) → ℕ → ℕ → Type 0
IsUnread (failure.Line number c) left left' faults faults' = ⊥
IsUnread (failure.Frame e) left left' faults faults' = ⊥
IsUnread (failure.Log number) left left' faults faults' = ⊥
IsUnread failure.TooLarge left left' faults faults' = GivesCount left left' (most_input + 1)
IsUnread failure.Usage left left' faults faults' = ⊥
IsUnread failure.Read left left' faults faults' = Rose faults faults' × GivesAtMost left left' most_input
IsUnread failure.Write left left' faults faults' = ⊥
IsUnread failure.Memory left left' faults faults' = GivesAtMost left left' most_input
