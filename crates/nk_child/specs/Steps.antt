-- What a step of a child may bring. This project's own.
use Rattle.nk_base.specs.Ranges.{IsMainInRange, IsBackInRange}
use Rattle.nk_plan.specs.declared.step.ChildStep.{ChildStep}
use Rattle.nk_plan.specs.declared.step.ChildStep.TheVariants as step

-- a message that a step takes is in range
abbrev pub IsStepInRange : ChildStep → Type 0
IsStepInRange step.Act = Unit {0}
IsStepInRange step.Verdict = Unit {0}
IsStepInRange (step.Main m) = IsMainInRange m
IsStepInRange (step.Back m) = IsBackInRange m
IsStepInRange step.Release = Unit {0}
IsStepInRange (step.Begin t) = Unit {0}
IsStepInRange (step.Finish t) = Unit {0}
