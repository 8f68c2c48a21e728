-- A whole channel: each half is given what the other has sent, so that what either sends is in range.
use Rattle.std.proofs.Common.{suc, List, [], ◌∷◌, length, take, All, nat_lt}
use Rattle.std.proofs.lemmas.List.Elements.{All-head, All-take, All-drop}
use Rattle.nk_base.specs.declared.message.MainMsg.{MainMsg}
use Rattle.nk_base.specs.declared.message.BackMsg.{BackMsg}
use Rattle.nk_base.specs.declared.message.UpMsg.{UpMsg}
use Rattle.nk_base.specs.Ranges.{IsMainInRange, IsBackInRange}
use Rattle.nk_plan.specs.declared.plan.ChannelPlan.{ChannelPlan}
use Rattle.nk_plan.specs.declared.step.Step.{Step}
use Rattle.nk_plan.specs.declared.step.Step.TheVariants.{Act, Verdict, Fetch, Up, Forward, Main, Back, Release, Begin, Finish, Read}
use Rattle.nk_plan.specs.declared.step.ParentStep.TheVariants as parent
use Rattle.nk_plan.specs.declared.step.ChildStep.{ChildStep}
use Rattle.nk_plan.specs.declared.step.ChildStep.TheVariants as child
use Rattle.nk_plan.specs.Accepted.{Accepted}
use Rattle.nk_plan.specs.Channel.{Channel, main_lane, back_lane, up_lane, up_step, main_step, back_step, channel_step, channel_after}
use Rattle.nk_plan.specs.Child.{child_step}
use Rattle.nk_plan.specs.Journal.{mains_taken, backs_taken, mains_sent, backs_sent}
use Rattle.nk_half_laws.proofs.ParentSends as load
use Rattle.nk_half_laws.proofs.RangeRows as rows
use Rattle.nk_half_laws.proofs.RangeEvents as events
use Rattle.nk_half_laws.specs.Ranges.{ChannelRangeLaw, AreGoodParts, IsStepInRange}
use Rattle.nk_half_laws.proofs.Tools.{keeps_if}
use Rattle.nk_half_laws.proofs.Plans.{good_plan}

record Both (c : ChannelPlan) (w : Channel) : Type 0 where
  parent : load.Holds c w.parent
  child : events.Holds w.child

child_moved : (c : ChannelPlan) → Accepted c → (w : Channel) (x : ChildStep) → IsStepInRange x → Both c w
    → Both c (record w { child = child_step c x w.child })
child_moved c a w x r b = record { parent = b.parent; child = rows.step_kept c x w.child (good_plan c a) (λ e. r) b.child }

main_moved : (c : ChannelPlan) → Accepted c → (w : Channel) (ms : List MainMsg) → All IsMainInRange ms → Both c w
    → Both c (main_step c ms w)
main_moved c a w [] r b = b
main_moved c a w (m ∷ ms) r b = child_moved c a w (child.Main m) (All-head IsMainInRange m ms r) b

back_moved : (c : ChannelPlan) → Accepted c → (w : Channel) (ms : List BackMsg) → All IsBackInRange ms → Both c w
    → Both c (back_step c ms w)
back_moved c a w [] r b = b
back_moved c a w (m ∷ ms) r b = child_moved c a w (child.Back m) (All-head IsBackInRange m ms r) b

up_moved : (c : ChannelPlan) → Accepted c → (w : Channel) (ms : List UpMsg) → Both c w → Both c (up_step c ms w)
up_moved c a w [] b = b
up_moved c a w (m ∷ ms) b = record { parent = load.step_kept c a (parent.Up m) w.parent b.parent; child = b.child }

moved : (c : ChannelPlan) → Accepted c → AreGoodParts c → (x : Step) (w : Channel) → Both c w → Both c (channel_step c x w)
moved c a g Act w b = child_moved c a w child.Act tt b
moved c a g Verdict w b = child_moved c a w child.Verdict tt b
moved c a g Fetch w b = record { parent = load.step_kept c a parent.Fetch w.parent b.parent; child = b.child }
moved c a g Up w b = up_moved c a w (up_lane w) b
moved c a g Forward w b =
    keeps_if (Both c) (nat_lt w.forwarded (length (backs_sent w.parent.journal))) (record w { forwarded = suc w.forwarded }) w
    (λ r. record { parent = b.parent; child = b.child }) (λ r. b)
moved c a g Main w b =
    main_moved c a w (main_lane w)
    (All-drop IsMainInRange (length (mains_taken w.child.journal)) (mains_sent w.parent.journal)
    (load.all_ranged c g w.parent b.parent).0) b
moved c a g Back w b =
    back_moved c a w (back_lane w)
    (All-drop IsBackInRange (length (backs_taken w.child.journal)) (take w.forwarded (backs_sent w.parent.journal))
    (All-take IsBackInRange w.forwarded (backs_sent w.parent.journal) (load.all_ranged c g w.parent b.parent).1)) b
moved c a g Release w b = child_moved c a w child.Release tt b
moved c a g (Begin t) w b = child_moved c a w (child.Begin t) tt b
moved c a g (Finish t) w b = child_moved c a w (child.Finish t) tt b
moved c a g (Read reader) w b = b

all_moved : (c : ChannelPlan) (steps : List Step) → Accepted c → AreGoodParts c → Both c (channel_after c steps)
all_moved c [] a g = record { parent = load.all_kept c a []; child = rows.first_kept c }
all_moved c (x ∷ xs) a g = moved c a g x (channel_after c xs) (all_moved c xs a g)

pub channel : ChannelRangeLaw
channel c steps a g =
    let b : Both c (channel_after c steps) = all_moved c steps a g in
    let r = load.all_ranged c g (channel_after c steps).parent b.parent in
    (r.0, r.1, b.child.sent)
