-- What the command `gen` answers and prints: the summary of the ends that a made script comes to.
use Rattle.std.specs.Prelude.{ℕ, ◌≡◌, ◌⊎◌, List}
use Rattle.nk_io.specs.Faults.{Quiet}
use Rattle.nk_io.specs.Got.{Gains, GainsPart}
use Rattle.nk_gen.specs.Made.{made_script}
use Rattle.nk_gen.specs.Summing.{summary_text}
use Rattle.nk_run.specs.Ends.{AreEndsOf, IsOutput}
use Rattle.nk_run.specs.Runs.{Outcome}

-- this is the summary of the ends of the script that n makes
abbrev pub IsSummary : ℕ → List ℕ → Type 0
IsSummary n summary = IsOutput AreEndsOf summary_text (made_script n) summary

-- What `gen` answers of n.
pub record GenRun (n : ℕ) (o : Outcome) : Type 0 where
  -- 0: the summary was written. 4: a prefix of it. There is no other status but 5
  pub written : o.status ≡ 0 → (summary : List ℕ) × IsSummary n summary × Gains o.got o.got' summary
  pub cut : o.status ≡ 4 → (summary : List ℕ) × IsSummary n summary × GainsPart o.got o.got' summary
  pub others : (o.status ≡ 0) ⊎ ((o.status ≡ 4) ⊎ (o.status ≡ 5))
  -- nothing is read
  pub takes : o.left' ≡ o.left
  -- without a fault, want of memory alone keeps it from the summary
  pub whole : Quiet o.write_faults o.write_faults' → (o.status ≡ 0) ⊎ (o.status ≡ 5)
