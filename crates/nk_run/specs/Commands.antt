-- What each command answers: a line for each.
use Rattle.std.specs.Prelude.{ℕ, ◌≡◌, ◌≢◌, List}
use Rattle.nk_words.specs.declared.command.Command.{Command}
use Rattle.nk_words.specs.declared.command.Command.TheVariants.{Play, Divert, Threads, Frames, Gen, Check}
use Rattle.nk_words.specs.Words.{IsCallOf}
use Rattle.nk_run.specs.Ends.{IsReport}
use Rattle.nk_run.specs.Listing.{FramesRun}
use Rattle.nk_run.specs.Making.{GenRun}
use Rattle.nk_run.specs.Playing.{ScriptRun}
use Rattle.nk_run.specs.Runs.{Outcome}

-- the words are refused: the command needs threads, or is not built
abbrev pub IsRefused : Outcome → Type 0
IsRefused o = o.status ≡ 2

abbrev pub answer_of : Command → Outcome → Type 0
answer_of (Play log) o = ScriptRun (IsReport log) o
answer_of (Divert pieces) o = IsRefused o
answer_of (Threads workers shared log) o = IsRefused o
answer_of Frames o = FramesRun o
answer_of (Gen n) o = GenRun n o
answer_of Check o = IsRefused o

-- the words call a command, and one whose answer is never that they are refused
abbrev pub HasMeaning : List (List ℕ) → Type 0
HasMeaning words = (command : Command) × IsCallOf command words × ((o : Outcome) → answer_of command o → o.status ≢ 2)
