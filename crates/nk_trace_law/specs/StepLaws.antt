-- The first line of a block tells its step. This project's own.
use Rattle.std.specs.Prelude.{ℕ, ◌≡◌, ◌≢◌, List, [], ◌∷◌, ◌++◌, codes}
use Rattle.nk_plan.specs.declared.journal.ParentEntry.{ParentEntry}
use Rattle.nk_plan.specs.declared.journal.ChildEntry.{ChildEntry}
use Rattle.nk_plan.specs.declared.step.ParentStep.{ParentStep}
use Rattle.nk_plan.specs.declared.step.ParentStep.TheVariants as up
use Rattle.nk_plan.specs.declared.step.ChildStep.{ChildStep}
use Rattle.nk_plan.specs.declared.step.ChildStep.TheVariants as step
use Rattle.nk_plan.specs.Run.{step_of, parent_step_of}
use Rattle.nk_trace.specs.Words.{words}
use Rattle.nk_trace.specs.Journals.{parent_line, child_line, target_text}

-- a step of a parent, as a schedule names it
abbrev pub parent_step_text : ParentStep → List ℕ
parent_step_text (up.Up message) = codes "up"
parent_step_text up.Fetch = codes "fetch"

-- a step of a child
abbrev pub child_step_text : ChildStep → List ℕ
child_step_text step.Act = codes "act"
child_step_text step.Verdict = codes "verdict"
child_step_text (step.Main message) = codes "main"
child_step_text (step.Back message) = codes "back"
child_step_text step.Release = codes "release"
child_step_text (step.Begin target) = words (codes "begin" ∷ target_text target ∷ [])
child_step_text (step.Finish target) = words (codes "finish" ∷ target_text target ∷ [])

-- whatever follows, the first line of a parent's block tells which step entered it
abbrev pub ParentStepLaw : Type 0
ParentStepLaw = (d e : ParentEntry) (more other : List ℕ) → parent_line d ++ more ≡ parent_line e ++ other
    → parent_step_text (parent_step_of d) ≡ parent_step_text (parent_step_of e)

-- and so does that of a child's
abbrev pub ChildStepLaw : Type 0
ChildStepLaw = (d e : ChildEntry) (more other : List ℕ) → child_line d ++ more ≡ child_line e ++ other
    → child_step_text (step_of d) ≡ child_step_text (step_of e)

-- and which of the two halves it is of
abbrev pub HalfLaw : Type 0
HalfLaw = (d : ParentEntry) (e : ChildEntry) (more other : List ℕ) → parent_line d ++ more ≢ child_line e ++ other
