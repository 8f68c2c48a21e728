-- What the reading of one line, and of a whole text, answers (this project's own).
use Rattle.std.specs.Prelude.{◌≡◌, ◌≤◌, ◌<◌, ℕ, List, length, All, Result, Ok, Err, ⊤}
use Rattle.nk_plan.specs.Accepted.{Accepted}
use Rattle.nk_script.specs.declared.script.ScheduleItem.{ScheduleItem}
use Rattle.nk_script.specs.declared.line.Line.{Line}
use Rattle.nk_script.specs.declared.read.Refusal.{Refusal}
use Rattle.nk_script.specs.declared.read.Refusal.TheVariants as refusal
use Rattle.nk_script.specs.declared.reader.Reader.{Reader}
use Rattle.nk_script.specs.declared.script.Cause.{Cause}
use Rattle.nk_script.specs.declared.script.Script.{Script}
use Rattle.nk_script.specs.declared.script.ScriptError.{ScriptError}
use Rattle.nk_script.specs.declared.script.ScriptError.TheVariants as error
use Rattle.nk_script.specs.Draft.{after}
use Rattle.nk_script.specs.Grammar.{Stands, IsForm, IsRefused, IsFirstBadLine}

-- the line stands, and no other meaning does
pub record IsTaken (old : Reader) (text : List ℕ) (new : Reader) : Type 0 where
  pub line : Line
  pub stands : Stands old text line
  pub taken : new ≡ after old line
  pub only : (other : Line) → IsForm old text other → other ≡ line

-- the line is taken, or refused for this cause, or memory is wanting
abbrev pub IsLineAnswer : Reader → List ℕ → Result (Unit {0}) Refusal → Reader → Type 0
IsLineAnswer old text (Ok u) new = IsTaken old text new
IsLineAnswer old text (Err (refusal.Line c)) new = IsRefused old text c × ((line : Line) → ¬ Stands old text line)
IsLineAnswer old text (Err refusal.Memory) new = ⊤

-- the error of the line of this number
abbrev pub error_at : ℕ → Refusal → ScriptError
error_at number (refusal.Line c) = error.Line number c
error_at number refusal.Memory = error.Memory

-- the error names the first bad line, or memory is wanting
abbrev pub Blames : List ℕ → ScriptError → Type 0
Blames text (error.Line number c) = IsFirstBadLine text number c
Blames text error.Memory = ⊤

-- the answer is this script, or memory is wanting
abbrev pub IsScriptOrMemory : Result Script ScriptError → Script → Type 0
IsScriptOrMemory (Ok made) s = made ≡ s
IsScriptOrMemory (Err (error.Line number c)) s = ⊥
IsScriptOrMemory (Err error.Memory) s = ⊤

-- the answer is the error of the line of this number, for this cause, or memory is wanting
abbrev pub IsErrorOrMemory : Result Script ScriptError → ℕ → Cause → Type 0
IsErrorOrMemory (Ok made) number c = ⊥
IsErrorOrMemory (Err (error.Line named why)) number c = (named ≡ number) × (why ≡ c)
IsErrorOrMemory (Err error.Memory) number c = ⊤

-- a step of one of so many channels, which are numbered from 1
abbrev pub IsOfChannel : ℕ → ScheduleItem → Type 0
IsOfChannel channels item = (1 ≤ item.channel) × (item.channel ≤ channels)

-- each plan is one that a channel can be made of, and each step is one of a channel
pub record IsPlayable (s : Script) : Type 0 where
  pub plans : All Accepted s.plans
  pub some : 0 < length s.plans
  pub few : length s.plans ≤ 1024
  pub schedule : All (IsOfChannel (length s.plans)) s.schedule
