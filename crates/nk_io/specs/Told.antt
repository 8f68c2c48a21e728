-- What a writer tells of the bytes that it got since a sink was made over it (this project's own).
use Rattle.std.specs.Prelude.{ℕ, Option, None, Some, List, [], length, drop, IfSome, IsSomeAnd}
use Rattle.std.specs.Io.{StartsWith}

-- a writer that told its bytes then tells them now, and they only grew
abbrev pub StillTells : Option (List ℕ) → Option (List ℕ) → Type 0
StillTells then now = IfSome then (λ before. IsSomeAnd now (λ after. StartsWith after before))

-- the bytes that it got since then, where it told its bytes then
abbrev pub told_since : Option (List ℕ) → Option (List ℕ) → Option (List ℕ)
told_since None now = None
told_since (Some before) None = None
told_since (Some before) (Some after) = Some (drop (length before) after)

-- no byte yet, where it tells its bytes
abbrev pub none_yet : Option (List ℕ) → Option (List ℕ)
none_yet None = None
none_yet (Some before) = Some []
