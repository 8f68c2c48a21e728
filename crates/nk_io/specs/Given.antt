-- How many bytes a source gave to `read_all`, where it tells what it has left (this project's own).
use Rattle.std.specs.Prelude.{◌≡◌, ℕ, ◌+◌, ◌<◌, ◌≤◌, Option, List, [], length, Some, IfSome, IsSomeAnd}
use Rattle.std.specs.Io.KnownBytes.{Consumes}
use Rattle.nk_io.specs.declared.whole.ReadError.{ReadError}
use Rattle.nk_io.specs.declared.whole.ReadError.TheVariants.{TooLarge, Fault, Memory}

-- these are all that was left, and nothing is left
abbrev pub GivesAll : Option (List ℕ) → Option (List ℕ) → List ℕ → Type 0
GivesAll old new bytes = IfSome old (λ all. (bytes ≡ all) × (new ≡ Some []))

-- some bytes were given, so many
abbrev pub GivesCount : Option (List ℕ) → Option (List ℕ) → ℕ → Type 0
GivesCount old new count = (given : List ℕ) × (length given ≡ count) × Consumes old new given

-- some bytes were given, at most so many
abbrev pub GivesAtMost : Option (List ℕ) → Option (List ℕ) → ℕ → Type 0
GivesAtMost old new limit = (given : List ℕ) × (length given ≤ limit) × Consumes old new given

-- how many were given before each refusal: one over the limit at `TooLarge` alone
abbrev pub GivesBefore : ReadError → Option (List ℕ) → Option (List ℕ) → ℕ → Type 0
GivesBefore TooLarge old new limit = GivesCount old new (limit + 1)
GivesBefore Fault old new limit = GivesAtMost old new limit
GivesBefore Memory old new limit = GivesAtMost old new limit

-- what is left is told, and is at most so many bytes
abbrev pub FitsIn : ℕ → Option (List ℕ) → Type 0
FitsIn limit left = IsSomeAnd left (λ all. length all ≤ limit)

-- what is left is told, and is more than so many bytes
abbrev pub Exceeds : ℕ → Option (List ℕ) → Type 0
Exceeds limit left = IsSomeAnd left (λ all. limit < length all)
