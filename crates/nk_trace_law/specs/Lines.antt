-- Lines and words. This project's own.
use Rattle.std.specs.Prelude.{ℕ, ◌≡◌, Bool, true, ◌&&◌, ◌==◌, not, List, [], ◌∷◌, ◌++◌, nat_eq, codes}
use Rattle.std.specs.List.{list_all, flat_map, starts_with}

-- no line feed stands in it
abbrev pub is_line : List ℕ → Bool
is_line bytes = list_all (λ b. not (b == 10)) bytes

-- neither a space nor a line feed stands in it
abbrev pub is_word : List ℕ → Bool
is_word bytes = list_all (λ b. not (b == 32) && not (b == 10)) bytes

-- a line and the line feed that ends it
abbrev pub ended : List ℕ → List ℕ
ended line = line ++ 10 ∷ []

-- the text is these lines, each ended by one line feed
pub record AreLines (text : List ℕ) (lines : List (List ℕ)) : Type 0 where
  pub joined : text ≡ flat_map ended lines
  pub apart : list_all is_line lines ≡ true

-- the text is lines
abbrev pub IsLines : List ℕ → Type 0
IsLines text = (lines : List (List ℕ)) × AreLines text lines

-- the text is one line
abbrev pub IsOneLine : List ℕ → Type 0
IsOneLine text = (line : List ℕ) × AreLines text (line ∷ [])

-- the line that a channel begins with
abbrev pub is_channel_line : List ℕ → Bool
is_channel_line line = starts_with nat_eq line (codes "channel")
