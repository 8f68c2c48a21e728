-- What a child's journal tells of the messages that the child sent, entry by entry, with no plan at hand; and the walk
-- entry by entry, which a program can make over two journals. This project's own.
use Rattle.std.specs.Prelude.{ℕ, ◌+◌, ◌-◌, Bool, true, false, ◌||◌, if◌then◌else◌, ◌==◌, List, [], ◌∷◌, ◌++◌, length}
use Rattle.nk_base.specs.declared.message.UpMsg.{UpMsg}
use Rattle.nk_base.specs.declared.message.UpMsg.TheVariants as up
use Rattle.nk_base.specs.Status.{is_failure}
use Rattle.nk_base.specs.Queue.{has_some}
use Rattle.nk_plan.specs.declared.journal.ParentEntry.{ParentEntry}
use Rattle.nk_plan.specs.declared.journal.ParentEntry.TheVariants as parent
use Rattle.nk_plan.specs.declared.journal.ChildEntry.{ChildEntry}
use Rattle.nk_plan.specs.declared.journal.ChildEntry.TheVariants as child
use Rattle.nk_plan.specs.Journal.{main_in, back_in}
use Rattle.nk_plan.specs.Walk.{ParentBlock, ChildBlock}

-- what the entries so far tell: how many suspends are not resumed, whether a failure is kept, and what the callback that
-- runs sends when it returns
pub record Telling : Type 0 where
  pub suspends : ℕ
  pub failed : Bool
  pub owed : List UpMsg

abbrev pub new_telling : Telling
new_telling = record { suspends = 0; failed = false; owed = [] }

-- the up messages that were sent with an entry
abbrev pub sends_at : Telling → ChildEntry → List UpMsg
sends_at t child.Open = up.Open ∷ []
sends_at t child.Suspend = if t.suspends == 0 then up.Suspend ∷ [] else []
sends_at t child.Resume = if t.suspends == 1 then up.Resume ∷ [] else []
sends_at t (child.Cancel s) = up.Cancel s ∷ []
sends_at t (child.Verdict h s) = up.Verify h s ∷ []
sends_at t (child.RunCancel target s) = if t.failed then [] else up.Cancel s ∷ []
sends_at t (child.Finish target) = t.owed
sends_at t _ = []

-- what the entries tell with one more
abbrev pub telling_after : Telling → ChildEntry → Telling
telling_after t child.Suspend = record t { suspends = t.suspends + 1 }
telling_after t child.Resume = record t { suspends = t.suspends - 1 }
telling_after t (child.Cancel s) = record t { failed = t.failed || is_failure s }
telling_after t (child.Break s) = record t { failed = t.failed || is_failure s }
telling_after t (child.RunStart target code s) = record t { failed = t.failed || is_failure s; owed = [] }
telling_after t (child.RunBytes target o n) = record t { owed = up.BytesRead n ∷ [] }
telling_after t (child.RunDrop target o s) = record t { failed = t.failed || is_failure s }
telling_after t (child.RunStop target s) = record t { failed = t.failed || is_failure s; owed = up.Deleting ∷ [] }
telling_after t (child.RunCancel target s) = record t { failed = t.failed || is_failure s }
telling_after t (child.Finish target) = record t { owed = [] }
telling_after t _ = t

-- the up messages that were sent with these entries
abbrev pub sends_from : Telling → List ChildEntry → List UpMsg
sends_from t [] = []
sends_from t (e ∷ j) = sends_at t e ++ sends_from (telling_after t e) j

-- an entry as a block of its own

abbrev pub parent_entry_block : ParentEntry → ParentBlock
parent_entry_block (parent.Took m) = record { takes_up = true; mains = 0; backs = 0 }
parent_entry_block (parent.SentMain m) = record { takes_up = false; mains = 1; backs = 0 }
parent_entry_block (parent.SentBack m) = record { takes_up = false; mains = 0; backs = 1 }

abbrev pub parent_entries : List ParentEntry → List ParentBlock
parent_entries [] = []
parent_entries (e ∷ p) = parent_entry_block e ∷ parent_entries p

abbrev pub child_entry_block : Telling → ChildEntry → ChildBlock
child_entry_block t e = record { takes_main = has_some (main_in e); takes_back = has_some (back_in e); ups = length (sends_at t e) }

abbrev pub child_entries : Telling → List ChildEntry → List ChildBlock
child_entries t [] = []
child_entries t (e ∷ j) = child_entry_block t e ∷ child_entries (telling_after t e) j
