-- The words that call each of the program's commands (this project's own).
use Rattle.std.specs.Prelude.{◌≡◌, ℕ, ◌^◌, ◌<◌, ◌≤◌, Bool, true, false, List, [], ◌∷◌, ◌++◌, codes}
use Rattle.std.specs.Fmt.{decimal}
use Rattle.nk_words.specs.declared.command.Command.{Command}
use Rattle.nk_words.specs.declared.command.Command.TheVariants.{Play, Divert, Threads, Frames, Gen, Check}

-- a word that may be left out
abbrev pub word_if : Bool → List ℕ → List (List ℕ)
word_if true word = word ∷ []
word_if false word = []

-- the words that call `threads`
abbrev pub threads_words : List ℕ → Bool → Bool → List (List ℕ)
threads_words workers shared log = codes "threads" ∷ workers ∷ (word_if shared (codes "shared") ++ word_if log (codes "log"))

-- the words that call a command, in their order
abbrev pub spelling : Command → List (List ℕ)
spelling (Play log) = codes "play" ∷ word_if log (codes "log")
spelling (Divert pieces) = codes "divert" ∷ decimal pieces ∷ []
spelling (Threads workers shared log) = threads_words (decimal workers) shared log
spelling Frames = codes "frames" ∷ []
spelling (Gen seed) = codes "gen" ∷ decimal seed ∷ []
spelling Check = codes "check" ∷ []

-- the line that answers words that call none
abbrev pub usage_line : List ℕ
usage_line = codes "usage: necklane play [log] | divert K | threads N [shared] [log] | frames | gen N | check" ++ 10 ∷ []

-- the numbers of a command are in range
abbrev pub IsInRange : Command → Type 0
IsInRange (Play log) = Unit {0}
IsInRange (Divert pieces) = pieces ≤ 65536
IsInRange (Threads workers shared log) = (1 ≤ workers) × (workers ≤ 16)
IsInRange Frames = Unit {0}
IsInRange (Gen seed) = seed < 2 ^ 32
IsInRange Check = Unit {0}

-- these words call this command
pub record IsCallOf (command : Command) (words : List (List ℕ)) : Type 0 where
  pub spelled : words ≡ spelling command
  pub in_range : IsInRange command
