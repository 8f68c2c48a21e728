-- What the background half of a parent does with what it is handed. This project's own.
use Rattle.std.specs.Prelude.{ℕ, ◌+◌, min, List, [], ◌∷◌}
use Rattle.nk_base.specs.declared.status.Moved.{Moved}
use Rattle.nk_base.specs.declared.status.Moved.TheVariants.{Did, Idle}

-- a message is moved where there is one
abbrev pub forward_answer : {M : Type 0} → List M → Moved
forward_answer [] = Idle
forward_answer (m ∷ ms) = Did

-- a message that was moved is counted, up to the most that can be counted
abbrev pub counted : {M : Type 0} → ℕ → List M → ℕ → ℕ
counted most [] count = count
counted most (m ∷ ms) count = min (count + 1) most
