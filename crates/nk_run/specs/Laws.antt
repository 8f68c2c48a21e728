-- The law of a play, for every text of any length. This project's own.
use Rattle.std.specs.Prelude.{ℕ, ◌≡◌, List}
use Rattle.nk_plan.specs.declared.ends.ChannelEnd.{ChannelEnd}
use Rattle.nk_script.specs.declared.script.Script.{Script}
use Rattle.nk_script.specs.Answers.{IsPlayable}
use Rattle.nk_script.specs.Grammar.{IsTextOf}
use Rattle.nk_run.specs.Ends.{AreEndsOf}

-- A text of a script has one play: there are ends that its steps and the drain lead to, and no script of this text has others.
-- That a script can be played at all is said of each that is read.
abbrev pub PlayLaw : Type 0
PlayLaw = (text : List ℕ) (script : Script) → IsTextOf script text → IsPlayable script →
    (ends : List ChannelEnd) × AreEndsOf script ends
    × ((same : Script) (others : List ChannelEnd) → IsTextOf same text → AreEndsOf same others → others ≡ ends)
