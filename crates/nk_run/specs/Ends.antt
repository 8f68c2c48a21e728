-- What the channels of a script come to, and what is printed of it. This project's own.
use Rattle.std.specs.Prelude.{ℕ, ◌≡◌, ◌≤◌, ◌*◌, Bool, List, [], ◌∷◌, length, map, All}
use Rattle.std.specs.List.{AllZip}
use Rattle.nk_plan.specs.declared.plan.ChannelPlan.{ChannelPlan}
use Rattle.nk_plan.specs.declared.ends.ChannelEnd.{ChannelEnd}
use Rattle.nk_plan.specs.Accepted.{body_of, body_size}
use Rattle.nk_plan.specs.Readers.{readers_of}
use Rattle.nk_half_laws.specs.Offsets.{data_end}
use Rattle.nk_script.specs.declared.script.Script.{Script}
use Rattle.nk_script.specs.declared.script.ScheduleItem.{ScheduleItem}
use Rattle.nk_script.specs.Grammar.{IsTextOf}
use Rattle.nk_trace.specs.Report.{text}
use Rattle.nk_world.specs.Play.{Play, new_play}
use Rattle.nk_world.specs.World.{world_step, AreDrained}
use Rattle.nk_world.specs.End.{end_of, IsEnd}

-- THE ENDS OF A PLAY

-- channels behind these steps, of which the first is tried first
abbrev pub scheduled : List ScheduleItem → List Play → List Play
scheduled [] plays = plays
scheduled (item ∷ items) plays = scheduled items (world_step item.channel item.step plays)

-- the channels of a script behind its schedule
abbrev pub plays_of : Script → List Play
plays_of script = scheduled script.schedule (map new_play script.plans)

-- the ends of the channels of a script: the steps of its schedule are tried in order, and then all channels are drained.
-- There are no other ends of it, since a channel in which no step is enabled stays as it is in each further round.
pub record AreEndsOf (script : Script) (ends : List ChannelEnd) : Type 0 where
  pub drained : List Play
  pub drain : AreDrained (plays_of script) drained
  pub left : ends ≡ map end_of drained

-- WHAT IS PROMISED OF ENDS, whichever way they came about

-- there is one end for each plan, in order, and each is as promised of a channel with that plan
abbrev pub AreEnds : List ChannelPlan → List ChannelEnd → Type 0
AreEnds plans ends = AllZip IsEnd plans ends

-- how much a channel has at most: the bytes and the pieces of its body, what all readers of its pipe read of it, which is 2^27
-- bytes, and the offset behind each piece that its listener was shown
pub record IsBounded (c : ChannelPlan) (e : ChannelEnd) : Type 0 where
  pub body : body_size c ≤ 67108864
  pub pieces : length (body_of c) ≤ 65536
  pub read : readers_of c.listener * body_size c ≤ 134217728
  pub shown : All (λ entry. data_end entry ≤ 67108864) e.trace

-- WHAT IS PRINTED. A command that runs a script by a way of its own says by AreItsEnds which ends a script comes to.

-- the text is one of this script, these are the ends of its channels, and they are as promised
pub record IsPlayed (AreItsEnds : Script → List ChannelEnd → Type 0) (script_text : List ℕ) (script : Script) (ends : List ChannelEnd) : Type 0 where
  pub read : IsTextOf script script_text
  pub played : AreItsEnds script ends
  pub promised : AreEnds script.plans ends
  pub bounded : AllZip IsBounded script.plans ends

-- the text is one of a script, and this is printed of its ends
abbrev pub IsOutput : (Script → List ChannelEnd → Type 0) → (List ChannelEnd → List ℕ) → List ℕ → List ℕ → Type 0
IsOutput AreItsEnds print script_text output =
    (script : Script) × (ends : List ChannelEnd) × IsPlayed AreItsEnds script_text script ends × (output ≡ print ends)

-- the text is one of a script, and this is the report of its ends, with the journals where there is a log
abbrev pub IsReportOf : (Script → List ChannelEnd → Type 0) → Bool → List ℕ → List ℕ → Type 0
IsReportOf AreItsEnds log script_text report = IsOutput AreItsEnds (λ ends. text ends log) script_text report

-- the report of a play
abbrev pub IsReport : Bool → List ℕ → List ℕ → Type 0
IsReport log script_text report = IsReportOf AreEndsOf log script_text report
