-- What the answer of a `put` says of the bytes that a sink got, where it tells them (this project's own).
use Rattle.std.specs.Prelude.{◌≡◌, ℕ, ◌<◌, Option, List, ◌++◌, length, take, ⊤, IfSome, IsSomeAnd}
use Rattle.nk_io.specs.declared.sink.Put.{Put as Answer}
use Rattle.nk_io.specs.declared.sink.Put.TheVariants.{Put, Failed}

-- bytes that are told after were told before, and grew by these
abbrev pub Gains : Option (List ℕ) → Option (List ℕ) → List ℕ → Type 0
Gains old new bytes = IfSome new (λ after. IsSomeAnd old (λ before. after ≡ before ++ bytes))

-- they grew by a proper prefix of these
abbrev pub GainsPart : Option (List ℕ) → Option (List ℕ) → List ℕ → Type 0
GainsPart old new bytes = (count : ℕ) × (count < length bytes) × Gains old new (take count bytes)

-- P of the number of bytes put, if any were
abbrev pub OnPut : Answer → (ℕ → Type 0) → Type 0
OnPut (Put n) P = P n
OnPut Failed P = ⊤

-- P, if the sink failed
abbrev pub OnFailed : Answer → Type 0 → Type 0
OnFailed (Put n) P = ⊤
OnFailed Failed P = P
