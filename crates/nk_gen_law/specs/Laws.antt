-- The laws over the generator and over the sums, the contracts of public functions.
use Rattle.std.specs.Prelude.{ℕ, ◌≤◌, List, length, All}
use Rattle.std.specs.List.{AllZip}
use Rattle.nk_plan.specs.declared.plan.ChannelPlan.{ChannelPlan}
use Rattle.nk_plan.specs.declared.ends.ChannelEnd.{ChannelEnd}
use Rattle.nk_plan.specs.declared.ends.ReaderEnd.{ReaderEnd}
use Rattle.nk_plan.specs.Accepted.{Accepted}
use Rattle.nk_plan.specs.Journal.{first, final, cut}
use Rattle.nk_plan.specs.Trace.{SeqTrace}
use Rattle.nk_script.specs.declared.script.Script.{Script}
use Rattle.nk_script.specs.Grammar.{IsTextOf}
use Rattle.nk_gen.specs.Made.{made_script}
use Rattle.nk_gen.specs.Summing.{bytes_in, AreSumsSmall}

-- MADE SCRIPTS: there is no premise, every number makes a script

-- the text that a number makes is a text of the script's grammar: it stands for a script, and no line is refused
abbrev pub MadeScriptLaw : Type 0
MadeScriptLaw = (n : ℕ) → (s : Script) × IsTextOf s (made_script n)

-- it is no longer than an input may be
abbrev pub MadeSizeLaw : Type 0
MadeSizeLaw = (n : ℕ) → length (made_script n) ≤ 16777216

-- SUMS

-- the end fits the plan: its listener saw the trace of one sequential channel, of which the child's journal tells the final
-- hop, the failure and the cut; and it has at most 8 readers, none with more bytes than the data entries of that trace
pub record Fits (c : ChannelPlan) (e : ChannelEnd) : Type 0 where
  pub sequential : SeqTrace c (final e.child) (first e.child) (cut e.child) e.trace
  pub few_readers : length e.readers ≤ 8
  pub readers : All (λ (reader : ReaderEnd). length reader.bytes ≤ bytes_in e) e.readers

-- one end for each plan, in order
abbrev pub EachFits : List ChannelPlan → List ChannelEnd → Type 0
EachFits cs es = AllZip Fits cs es

-- the sums over the ends of at most 1,024 channels, each of an accepted plan, can be counted
abbrev pub SumsLaw : Type 0
SumsLaw = (cs : List ChannelPlan) (es : List ChannelEnd) → length cs ≤ 1024 → All Accepted cs → EachFits cs es → AreSumsSmall es
