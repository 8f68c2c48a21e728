-- The texts that are scripts, and the first line of any other text that cannot stand (this project's own).
use Rattle.std.specs.Prelude.{◌≡◌, true, false, ℕ, ◌+◌, List, [], ◌∷◌, length, ◌⊎◌}
use Rattle.nk_script.specs.declared.line.Line.{Line}
use Rattle.nk_script.specs.declared.script.Script.{Script}
use Rattle.nk_script.specs.declared.script.Cause.{Cause}
use Rattle.nk_script.specs.declared.script.Cause.TheVariants as cause
use Rattle.nk_script.specs.declared.reader.Reader.{Reader}
use Rattle.nk_script.specs.Texts.{lines}
use Rattle.nk_script.specs.declared.line.Keyword.{Keyword}
use Rattle.nk_script.specs.Texts.{first_word}
use Rattle.nk_script.specs.Lines.{IsLineOf}
use Rattle.nk_script.specs.Order.{IsKeyword, IsExpected, may_end}
use Rattle.nk_script.specs.Draft.{start, after, is_within, plans_of}

-- the text has this form, with values in range
pub record IsForm (r : Reader) (text : List ℕ) (line : Line) : Type 0 where
  pub keyword : Keyword
  pub begins : IsKeyword (first_word text) keyword
  pub form : IsLineOf keyword (length r.plans) text line

-- the line can stand behind what was read
pub record Stands (r : Reader) (text : List ℕ) (line : Line) : Type 0 where
  pub expected : IsExpected r.place text
  pub form : IsForm r text line
  pub within : is_within r line ≡ true

-- the script that was read
abbrev pub script_of : Reader → Script
script_of r = record { plans = plans_of r; schedule = r.schedule }

-- the lines, behind what was read, end this script
abbrev pub Ends : Reader → List (List ℕ) → Script → Type 0
Ends r [] s = (may_end r.place ≡ true) × (s ≡ script_of r)
Ends r (text ∷ texts) s = (line : Line) × Stands r text line × Ends (after r line) texts s

-- the text is a text of this script
abbrev pub IsTextOf : Script → List ℕ → Type 0
IsTextOf s text = Ends start (lines text) s

-- why the line cannot stand behind what was read
abbrev pub IsRefused : Reader → List ℕ → Cause → Type 0
IsRefused r text cause.Unexpected = ¬ IsExpected r.place text
IsRefused r text cause.Malformed = IsExpected r.place text × ((line : Line) → ¬ IsForm r text line)
IsRefused r text cause.Limit = IsExpected r.place text × ((line : Line) × IsForm r text line × (is_within r line ≡ false))
IsRefused r text cause.EndsEarly = ⊥

-- of the lines behind what was read, counted from this number, the first that cannot stand, and why
abbrev pub Breaks : Reader → ℕ → List (List ℕ) → ℕ → Cause → Type 0
Breaks r next [] number c = (may_end r.place ≡ false) × (number ≡ next) × (c ≡ cause.EndsEarly)
Breaks r next (text ∷ texts) number c =
    ((line : Line) × Stands r text line × Breaks (after r line) (next + 1) texts number c)
    ⊎ ((number ≡ next) × IsRefused r text c)

-- this is the first line of the text, counted from 1, that cannot stand after the lines before it, and why
abbrev pub IsFirstBadLine : List ℕ → ℕ → Cause → Type 0
IsFirstBadLine text number c = Breaks start 1 (lines text) number c
