-- The messages that frames spell, each by a lane's own reading. This project's own.
use Rattle.std.specs.Prelude.{ℕ, List, [], ◌∷◌, ◌++◌, Option, Some, None}

abbrev pub listed : {M : Type 0} → Option M → List M
listed None = []
listed (Some m) = m ∷ []

abbrev pub messages : {M : Type 0} → (List ℕ → Option M) → List (List ℕ) → List M
messages read [] = []
messages read (f ∷ fs) = listed (read f) ++ messages read fs
