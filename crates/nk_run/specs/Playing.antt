-- What a command answers that reads a script, plays it in some way, and prints what it came to.
use Rattle.std.specs.Prelude.{ℕ, ◌≡◌, ◌≢◌, ◌≤◌, ◌+◌, ◌⊎◌, List, Option}
use Rattle.nk_io.specs.Faults.{Quiet}
use Rattle.nk_io.specs.Given.{GivesCount, Exceeds}
use Rattle.nk_script.specs.declared.script.Cause.{Cause}
use Rattle.nk_script.specs.Grammar.{IsFirstBadLine}
use Rattle.nk_run.specs.Failures.{bad_line}
use Rattle.nk_run.specs.Reading.{IsUnread}
use Rattle.nk_run.specs.Runs.{Outcome, Tells, Writes, WritesPart, IsInput, IsRead, IsScript, IsNoScript, most_input, too_large}
use Rattle.nk_run.specs.Taking.{Takes}
use Rattle.nk_run.specs.declared.failure.Failure.{Failure}
use Rattle.nk_run.specs.declared.failure.Failure.TheVariants as failure

-- this is the first bad line of the text, which is no script
abbrev pub IsBadText : ℕ → Cause → List ℕ → Type 0
IsBadText number c all = IsFirstBadLine all number c × IsNoScript all

-- all of the input was read, and this is its first bad line
abbrev pub IsBadAt : ℕ → Cause → Option (List ℕ) → Option (List ℕ) → Type 0
IsBadAt number c left left' = IsRead left left' (IsBadText number c)

-- why a text is no script
abbrev pub Refuses : Failure → List ℕ → Type 0
Refuses (failure.Line number c) all = IsBadText number c all
Refuses (failure.Frame e) all = ⊥
Refuses (failure.Log number) all = ⊥
Refuses failure.TooLarge all = ⊥
Refuses failure.Usage all = ⊥
Refuses failure.Read all = ⊥
Refuses failure.Write all = ⊥
Refuses failure.Memory all = Unit {0}

-- why an input has no output
abbrev pub Fails : Failure → Option (List ℕ) → Option (List ℕ) → ℕ → ℕ → Type 0
Fails (failure.Line number c) left left' faults faults' = IsBadAt number c left left'
Fails e left left' faults faults' = IsUnread e left left' faults faults'

-- a line that cannot stand was told, or that one byte too many was given
abbrev pub TellsRefusal : Outcome → Type 0
TellsRefusal o =
    ((number : ℕ) × ((c : Cause) × IsBadAt number c o.left o.left' × Tells o (bad_line number c)))
    ⊎ (GivesCount o.left o.left' (most_input + 1) × Tells o too_large)

-- What such a command answers. Which outputs a text has is said by IsOutput: for `play` it is the report of the script's ends.
pub record ScriptRun (IsOutput : List ℕ → List ℕ → Type 0) (o : Outcome) : Type 0 where
  -- 0: all of the input is a script, and its output was written. 4: a prefix of that output was written
  pub written : o.status ≡ 0 → Writes IsOutput o
  pub cut : o.status ≡ 4 → WritesPart IsOutput o
  -- 1: all of the input is no script, and this is its first bad line; or one byte too many was given
  pub refused : o.status ≡ 1 → TellsRefusal o
  pub others : (o.status ≤ 5) × (o.status ≢ 2)
  -- how much of the input was taken
  pub takes : Takes o
  -- without a fault, want of memory alone keeps a script from its output, and any other input from its refusal
  pub whole : IsInput o.left IsScript → Quiet o.read_faults o.read_faults' → Quiet o.write_faults o.write_faults' → (o.status ≡ 0) ⊎ (o.status ≡ 5)
  pub none : IsInput o.left IsNoScript → Quiet o.read_faults o.read_faults' → (o.status ≡ 1) ⊎ (o.status ≡ 5)
  pub overlong : Exceeds most_input o.left → Quiet o.read_faults o.read_faults' → (o.status ≡ 1) ⊎ (o.status ≡ 5)
