-- What a text is, for every text of any length. This project's own.
use Rattle.std.specs.Prelude.{ℕ, ◌≡◌, ◌⊎◌, List}
use Rattle.nk_script.specs.declared.script.Script.{Script}
use Rattle.nk_script.specs.declared.script.Cause.{Cause}
use Rattle.nk_script.specs.Grammar.{IsTextOf, IsFirstBadLine}

-- a text is the text of at most one script
abbrev pub ScriptLaw : Type 0
ScriptLaw = (text : List ℕ) (s t : Script) → IsTextOf s text → IsTextOf t text → s ≡ t

-- a text has at most one first bad line, with one cause
abbrev pub RefusalLaw : Type 0
RefusalLaw = (text : List ℕ) (m n : ℕ) (c d : Cause) → IsFirstBadLine text m c → IsFirstBadLine text n d → (m ≡ n) × (c ≡ d)

-- a text of a script has no bad line
abbrev pub AnswerLaw : Type 0
AnswerLaw = (text : List ℕ) (s : Script) (n : ℕ) (c : Cause) → IsTextOf s text → ¬ IsFirstBadLine text n c

-- a text is the text of a script, or it has a first bad line
abbrev pub DecisionLaw : Type 0
DecisionLaw = (text : List ℕ) → ((s : Script) × IsTextOf s text) ⊎ ((n : ℕ) × (c : Cause) × IsFirstBadLine text n c)
