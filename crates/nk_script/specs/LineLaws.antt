-- What holds of every line of a text, and of every reading: who shows that a text has one meaning needs no more of the
-- grammar than its definitions and this.
use Rattle.std.specs.Prelude.{ℕ, ◌≡◌, ◌≤◌, ◌++◌, ◌∷◌, true, List, Some, length}
use Rattle.nk_base.specs.declared.field.Field.{Field}
use Rattle.nk_script.specs.declared.line.Keyword.{Keyword}
use Rattle.nk_script.specs.declared.line.Line.{Line}
use Rattle.nk_script.specs.declared.reader.Reader.{Reader}
use Rattle.nk_script.specs.Texts.{before, behind}
use Rattle.nk_script.specs.Order.{IsKeyword}
use Rattle.nk_script.specs.Lines.{IsField}
use Rattle.nk_script.specs.Draft.{after, is_within, plans_of}

pub record LineLaws : Type 0 where
  -- a word is one keyword at most
  pub keyword : (word : List ℕ) (j k : Keyword) → IsKeyword word j → IsKeyword word k → j ≡ k
  -- the name of a field ends at the first space, and the rest is its value
  pub field : (rest : List ℕ) (f : Field) → IsField rest f → (before 32 rest ≡ f.name) × (behind 32 rest ≡ Some f.value)
  -- a text that has a space is what stands before it, the space, and what stands behind it
  pub cut : (rest value : List ℕ) → behind 32 rest ≡ Some value → rest ≡ before 32 rest ++ 32 ∷ value
  -- a line within the limits leaves no more channels than a script may have
  pub channels : (r : Reader) (l : Line) → is_within r l ≡ true → length (plans_of r) ≤ 1024 → length (plans_of (after r l)) ≤ 1024
