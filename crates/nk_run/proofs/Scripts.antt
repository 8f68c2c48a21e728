use Rattle.std.proofs.Common.{◌≡◌, ℕ, List, Result, Ok, Err, subst}
use Rattle.nk_script.specs.declared.script.Script.{Script}
use Rattle.nk_script.specs.declared.script.Cause.{Cause}
use Rattle.nk_script.specs.declared.script.ScriptError.{ScriptError}
use Rattle.nk_script.specs.declared.script.ScriptError.TheVariants as error
use Rattle.nk_script.specs.Answers.{Blames, IsScriptOrMemory}
use Rattle.nk_script.specs.Grammar.{IsFirstBadLine}

-- no line of a script's text is refused
pub never_refused : (r : Result Script ScriptError) (s : Script) (e : ScriptError) (number : ℕ) (why : Cause) → IsScriptOrMemory r s → r ≡ Err e → e ≡ error.Line number why → ⊥
never_refused (Ok made) s e number why is was line = cc
never_refused (Err (error.Line named cause)) s e number why is was line = is
never_refused (Err error.Memory) s e number why is was line = cc

-- the line that is blamed is the first bad one
pub blamed : (text : List ℕ) (e : ScriptError) (number : ℕ) (why : Cause) → Blames text e → e ≡ error.Line number why → IsFirstBadLine text number why
blamed text e number why blames line = subst (Blames text) line blames
