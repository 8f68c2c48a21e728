-- What the answer of a `take` says of the bytes that a source has left, where it tells them (this project's own).
use Rattle.std.specs.Prelude.{ℕ, ⊤}
use Rattle.nk_io.specs.declared.source.Take.{Take}
use Rattle.nk_io.specs.declared.source.Take.TheVariants.{Took, End, Failed}

-- P of the number of bytes taken, if any were
abbrev pub OnTook : Take → (ℕ → Type 0) → Type 0
OnTook (Took n) P = P n
OnTook End P = ⊤
OnTook Failed P = ⊤

-- P, if the source is at its end
abbrev pub OnEnd : Take → Type 0 → Type 0
OnEnd (Took n) P = ⊤
OnEnd End P = P
OnEnd Failed P = ⊤

-- P, if the source failed
abbrev pub OnFailed : Take → Type 0 → Type 0
OnFailed (Took n) P = ⊤
OnFailed End P = ⊤
OnFailed Failed P = P
