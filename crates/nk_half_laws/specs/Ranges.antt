-- What each half sends is in range. This project's own.
use Rattle.std.specs.Prelude.{List, All}
use Rattle.nk_base.specs.Heads.{IsGoodHead}
use Rattle.nk_base.specs.Pieces.{IsPiece}
use Rattle.nk_base.specs.Ranges.{IsMainInRange, IsBackInRange, IsUpInRange}
use Rattle.nk_plan.specs.declared.plan.ChannelPlan.{ChannelPlan}
use Rattle.nk_plan.specs.declared.plan.Hop.{Hop}
use Rattle.nk_plan.specs.declared.plan.Hop.TheVariants as hop
use Rattle.nk_plan.specs.declared.step.ChildStep.{ChildStep}
use Rattle.nk_plan.specs.declared.step.ChildStep.TheVariants as step
use Rattle.nk_plan.specs.declared.step.ParentStep.{ParentStep}
use Rattle.nk_plan.specs.declared.step.Step.{Step}
use Rattle.nk_plan.specs.Accepted.{Accepted}
use Rattle.nk_plan.specs.Channel.{channel_after}
use Rattle.nk_plan.specs.Child.{child_after}
use Rattle.nk_plan.specs.Journal.{mains_taken, backs_taken, mains_sent, backs_sent}
use Rattle.nk_plan.specs.Parent.{parent_after}

-- the head of a response and the pieces of its body are good ones, as the types of a head and of a piece keep it
abbrev pub HasGoodParts : Hop → Type 0
HasGoodParts (hop.Fail s) = Unit {0}
HasGoodParts (hop.Redirect code own) = Unit {0}
HasGoodParts (hop.Response head pieces end trailers) = IsGoodHead head × All IsPiece pieces

abbrev pub AreGoodParts : ChannelPlan → Type 0
AreGoodParts c = All HasGoodParts c.hops

-- the message that a step takes is in range
abbrev pub IsStepInRange : ChildStep → Type 0
IsStepInRange step.Act = Unit {0}
IsStepInRange step.Verdict = Unit {0}
IsStepInRange (step.Main m) = IsMainInRange m
IsStepInRange (step.Back m) = IsBackInRange m
IsStepInRange step.Release = Unit {0}
IsStepInRange (step.Begin t) = Unit {0}
IsStepInRange (step.Finish t) = Unit {0}

-- THE LAWS

-- each message that a parent sends is in range, whatever it hears
abbrev pub ParentRangeLaw : Type 0
ParentRangeLaw = (c : ChannelPlan) (steps : List ParentStep) → Accepted c → AreGoodParts c →
    let j = (parent_after c steps).journal in
    All IsMainInRange (mains_sent j) × All IsBackInRange (backs_sent j)

-- each message that a child sends is in range, where those that it is given are
abbrev pub ChildRangeLaw : Type 0
ChildRangeLaw = (c : ChannelPlan) (steps : List ChildStep) → Accepted c → All IsStepInRange steps
    → All IsUpInRange (child_after c steps).sent

-- and so it is where those are that its journal says it took
abbrev pub JournalRangeLaw : Type 0
JournalRangeLaw = (c : ChannelPlan) (steps : List ChildStep) → Accepted c →
    let s = child_after c steps in
    All IsMainInRange (mains_taken s.journal) → All IsBackInRange (backs_taken s.journal) → All IsUpInRange s.sent

-- each message that either half of a whole channel sends is in range
abbrev pub ChannelRangeLaw : Type 0
ChannelRangeLaw = (c : ChannelPlan) (steps : List Step) → Accepted c → AreGoodParts c →
    let w = channel_after c steps in
    All IsMainInRange (mains_sent w.parent.journal)
    × All IsBackInRange (backs_sent w.parent.journal)
    × All IsUpInRange w.child.sent
