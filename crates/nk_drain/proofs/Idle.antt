-- A step that is not enabled changes nothing.
use Rattle.std.proofs.Common.{◌≡◌, refl, ap, List, [], ◌∷◌, length, Bool, true, false, not, ◌&&◌, if◌then◌else◌, nat_lt}
use Rattle.nk_base.specs.declared.message.MainMsg.{MainMsg}
use Rattle.nk_base.specs.declared.message.BackMsg.{BackMsg}
use Rattle.nk_base.specs.declared.message.UpMsg.{UpMsg}
use Rattle.nk_base.specs.Queue.{has_some}
use Rattle.nk_plan.specs.declared.plan.ChannelPlan.{ChannelPlan}
use Rattle.nk_plan.specs.declared.step.Step.TheVariants.{Act, Verdict, Fetch, Up, Forward, Main, Back, Release, Begin, Finish as FinishStep, Read}
use Rattle.nk_plan.specs.declared.step.ChildStep.{ChildStep}
use Rattle.nk_plan.specs.declared.step.ChildStep.TheVariants as child
use Rattle.nk_plan.specs.Journal.{backs_sent}
use Rattle.nk_plan.specs.Parent.{ParentState}
use Rattle.nk_plan.specs.Child.{ChildState, child_step}
use Rattle.nk_plan.specs.Channel.{Channel, main_lane, back_lane, up_lane, up_step, main_step, back_step}
use Rattle.nk_plan.specs.Enabled.{child_enabled}
use Rattle.nk_half_laws.specs.Falls.{ChildIdleLaw, FetchIdleLaw}
use Rattle.nk_drain.specs.Laws.{IdleLaw}

not_if : {A : Type 0} (b : Bool) (x s : A) → b ≡ false → (if b then x else s) ≡ s
not_if true x s e = cc
not_if false x s e = refl

child_same : ChildIdleLaw → (c : ChannelPlan) (x : ChildStep) (w : Channel) → child_enabled c x w.child ≡ false → record w { child = child_step c x w.child } ≡ w
child_same law c x w e = ap (λ (s : ChildState). record w { child = s }) (law c x w.child e)

no_up : (c : ChannelPlan) (l : List UpMsg) (w : Channel) → has_some l ≡ false → up_step c l w ≡ w
no_up c [] w e = refl
no_up c (m ∷ ms) w e = cc

not_taken : (broken some : Bool) → (not broken && some) ≡ false → some ≡ true → not broken ≡ false
not_taken true some e h = refl
not_taken false some e h = cc

no_main : ChildIdleLaw → (c : ChannelPlan) (l : List MainMsg) (w : Channel) → (not w.child.broken && has_some l) ≡ false → main_step c l w ≡ w
no_main law c [] w e = refl
no_main law c (m ∷ ms) w e = child_same law c (child.Main m) w (not_taken w.child.broken true e refl)

no_back : ChildIdleLaw → (c : ChannelPlan) (l : List BackMsg) (w : Channel) → (not w.child.broken && has_some l) ≡ false → back_step c l w ≡ w
no_back law c [] w e = refl
no_back law c (m ∷ ms) w e = child_same law c (child.Back m) w (not_taken w.child.broken true e refl)

pub idle : ChildIdleLaw → FetchIdleLaw → IdleLaw
idle law fetch c Act w e = child_same law c child.Act w e
idle law fetch c Verdict w e = child_same law c child.Verdict w e
idle law fetch c Fetch w e = ap (λ (p : ParentState). record w { parent = p }) (fetch c w.parent e)
idle law fetch c Up w e = no_up c (up_lane w) w e
idle law fetch c Forward w e = not_if (nat_lt w.forwarded (length (backs_sent w.parent.journal))) _ w e
idle law fetch c Main w e = no_main law c (main_lane w) w e
idle law fetch c Back w e = no_back law c (back_lane w) w e
idle law fetch c Release w e = child_same law c child.Release w e
idle law fetch c (Begin t) w e = child_same law c (child.Begin t) w e
idle law fetch c (FinishStep t) w e = child_same law c (child.Finish t) w e
idle law fetch c (Read reader) w e = refl
