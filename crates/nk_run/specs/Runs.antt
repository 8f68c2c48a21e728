-- A run of the program, from the bytes of its input to those of its output and to what it tells.
-- A source tells what it has left, and a sink what it got, or neither says anything of the bytes.
use Rattle.std.specs.Prelude.{ℕ, ◌≡◌, ◌≢◌, ◌≤◌, ◌+◌, ◌⊎◌, if◌then◌else◌, ◌==◌, List, [], length, Option, Some, IfSome, IsSomeAnd, codes}
use Rattle.nk_io.specs.Faults.{Rose}
use Rattle.nk_io.specs.Given.{GivesAtMost}
use Rattle.nk_io.specs.Got.{Gains, GainsPart}
use Rattle.nk_script.specs.declared.script.Script.{Script}
use Rattle.nk_script.specs.Grammar.{IsTextOf}
use Rattle.nk_words.specs.Words.{usage_line}
use Rattle.nk_run.specs.Failures.{line}

-- What a run came to: its status; and before and behind it what the input has left, what the output got and what was told,
-- each with how often it has failed.
pub record Outcome : Type 0 where
  pub status : ℕ
  pub left : Option (List ℕ)
  pub left' : Option (List ℕ)
  pub read_faults : ℕ
  pub read_faults' : ℕ
  pub got : Option (List ℕ)
  pub got' : Option (List ℕ)
  pub write_faults : ℕ
  pub write_faults' : ℕ
  pub told : Option (List ℕ)
  pub told' : Option (List ℕ)
  pub tell_faults : ℕ
  pub tell_faults' : ℕ

abbrev pub outcome : ℕ → Option (List ℕ) → Option (List ℕ) → ℕ → ℕ → Option (List ℕ) → Option (List ℕ) → ℕ → ℕ → Option (List ℕ) → Option (List ℕ) → ℕ → ℕ → Outcome
outcome status left left' read_faults read_faults' got got' write_faults write_faults' told told' tell_faults tell_faults' = record {
  status = status;
  left = left;
  left' = left';
  read_faults = read_faults;
  read_faults' = read_faults';
  got = got;
  got' = got';
  write_faults = write_faults;
  write_faults' = write_faults';
  told = told;
  told' = told';
  tell_faults = tell_faults;
  tell_faults' = tell_faults';
}

-- The input.

-- the most bytes of an input
abbrev pub most_input : ℕ
most_input = 16777216

-- the input tells that it is not too large, and P of its bytes
abbrev pub IsInput : Option (List ℕ) → (List ℕ → Type 0) → Type 0
IsInput left P = IsSomeAnd left (λ all. (length all ≤ most_input) × P all)

-- all of the input was read, it is not too large, and P of its bytes
abbrev pub IsRead : Option (List ℕ) → Option (List ℕ) → (List ℕ → Type 0) → Type 0
IsRead left left' P = IfSome left (λ all. (left' ≡ Some []) × (length all ≤ most_input) × P all)

-- the text is one of the grammar
abbrev pub IsScript : List ℕ → Type 0
IsScript all = (script : Script) × IsTextOf script all

-- the text is none of the grammar
abbrev pub IsNoScript : List ℕ → Type 0
IsNoScript all = (script : Script) → ¬ IsTextOf script all

-- The output.

-- all of the input was read, and an output of it was written; which outputs a text has is said by IsOutput
abbrev pub Writes : (List ℕ → List ℕ → Type 0) → Outcome → Type 0
Writes IsOutput o = IsRead o.left o.left' (λ all. (output : List ℕ) × IsOutput all output × Gains o.got o.got' output)

-- the same, but a prefix of the output was written
abbrev pub WritesPart : (List ℕ → List ℕ → Type 0) → Outcome → Type 0
WritesPart IsOutput o = IsRead o.left o.left' (λ all. (output : List ℕ) × IsOutput all output × GainsPart o.got o.got' output)

-- What is told.

-- the text was written; or there was a fault, and a prefix of it was written
abbrev pub Told : Option (List ℕ) → Option (List ℕ) → ℕ → ℕ → List ℕ → Type 0
Told got got' faults faults' words = Gains got got' words ⊎ (Rose faults faults' × GainsPart got got' words)

abbrev pub Tells : Outcome → List ℕ → Type 0
Tells o words = Told o.told o.told' o.tell_faults o.tell_faults' words

-- the text of status 1 beside those of bad lines
abbrev pub too_large : List ℕ
too_large = line (codes "error: input too large")

-- what is printed of the statuses that have one text
abbrev pub told_of : ℕ → List ℕ
told_of status =
    if status == 2 then usage_line
    else (if status == 3 then line (codes "error: read")
    else (if status == 4 then line (codes "error: write")
    else (if status == 5 then line (codes "error: memory") else [])))

-- What holds of every run, whatever the command.
pub record IsRun (o : Outcome) : Type 0 where
  pub statuses : o.status ≤ 7
  -- 3, 4: faults
  pub read : o.status ≡ 3 → Rose o.read_faults o.read_faults'
  pub write : o.status ≡ 4 → Rose o.write_faults o.write_faults'
  -- what is told, but for the statuses whose text says where the input is wrong
  pub told : o.status ≢ 1 → o.status ≢ 6 → o.status ≢ 7 → Tells o (told_of o.status)
  -- no more is taken than shows that an input is too large
  pub taken : GivesAtMost o.left o.left' (most_input + 1)
