-- A step is enabled as that of the channel is; where it is not, it changes nothing; and what it shows is the end of the trace.
use Rattle.std.proofs.Common.{◌≡◌, refl, sym, ◌∙◌, ap, Bool, true, false, not, ◌&&◌, List, [], ◌∷◌, ◌++◌, append-nil}
use Rattle.nk_base.specs.declared.message.MainMsg.{MainMsg}
use Rattle.nk_base.specs.declared.message.BackMsg.{BackMsg}
use Rattle.nk_base.specs.declared.message.UpMsg.{UpMsg}
use Rattle.nk_base.specs.declared.message.Entry.{Entry}
use Rattle.nk_base.specs.Queue.{has_some}
use Rattle.nk_plan.specs.declared.plan.ChannelPlan.{ChannelPlan}
use Rattle.nk_plan.specs.declared.journal.ParentEntry.{ParentEntry}
use Rattle.nk_plan.specs.declared.step.Step.{Step}
use Rattle.nk_plan.specs.declared.step.Step.TheVariants.{Act, Verdict, Fetch, Up, Forward, Main, Back, Release, Begin, Finish, Read}
use Rattle.nk_plan.specs.declared.step.ParentStep.TheVariants as parent
use Rattle.nk_plan.specs.declared.step.ChildStep.{ChildStep}
use Rattle.nk_plan.specs.declared.step.ChildStep.TheVariants as child
use Rattle.nk_plan.specs.Journal.{mains_sent, backs_sent}
use Rattle.nk_plan.specs.Parent.{ParentState, parent_step}
use Rattle.nk_plan.specs.Child.{ChildState, child_step}
use Rattle.nk_plan.specs.Channel.{Channel}
use Rattle.nk_plan.specs.Enabled.{child_enabled, parent_enabled, channel_enabled}
use Rattle.nk_half_laws.specs.Growth.{Adds, GrowthLaw}
use Rattle.nk_half_laws.specs.Falls.{ChildIdleLaw, FetchIdleLaw}
use Rattle.nk_channel.specs.Parts.{Parts, parts_of, child_turned, turned, fetched, up_taken, moved_on, main_taken, back_taken, parts_step, parts_enabled, shown_by}
use Rattle.nk_channel.proofs.Lists.{none_behind, some_behind, completes}

-- WHAT IS ENABLED

pub enabled_is : (c : ChannelPlan) (x : Step) (w : Channel) → parts_enabled x (parts_of c w) ≡ channel_enabled c x w
enabled_is c Act w = refl
enabled_is c Verdict w = refl
enabled_is c Fetch w = refl
enabled_is c Up w = refl
enabled_is c Forward w = some_behind w.forwarded (backs_sent w.parent.journal)
enabled_is c Main w = refl
enabled_is c Back w = refl
enabled_is c Release w = refl
enabled_is c (Begin t) w = refl
enabled_is c (Finish t) w = refl
enabled_is c (Read reader) w = refl

-- WHERE NOTHING IS ENABLED

-- a child that stays has sent nothing
pub same_child : (p : Parts) → child_turned p.child p ≡ p
same_child p = ap (λ us. record p { up = p.up ++ us }) (none_behind p.child.sent) ∙ ap (λ us. record p { up = us }) (append-nil p.up)

idle_child : ChildIdleLaw → (x : ChildStep) (p : Parts) → child_enabled p.plan x p.child ≡ false → turned x p ≡ p
idle_child law x p e = ap (λ (s : ChildState). child_turned s p) (law p.plan x p.child e) ∙ same_child p

-- a parent that stays has sent nothing
pub same_parent : (p : Parts) → fetched p.parent p ≡ p
same_parent p =
    ap (λ (j : List ParentEntry). record p { main = p.main ++ mains_sent j; inner = p.inner ++ backs_sent j }) (none_behind p.parent.journal)
    ∙ (ap (λ ms. record p { main = ms; inner = p.inner ++ [] }) (append-nil p.main) ∙ ap (λ bs. record p { inner = bs }) (append-nil p.inner))

idle_fetch : FetchIdleLaw → (p : Parts) → parent_enabled p.plan parent.Fetch p.parent ≡ false → fetched (parent_step p.plan parent.Fetch p.parent) p ≡ p
idle_fetch law p e = ap (λ (s : ParentState). fetched s p) (law p.plan p.parent e) ∙ same_parent p

idle_up : (l : List UpMsg) (p : Parts) → has_some l ≡ false → up_taken l p ≡ p
idle_up [] p e = refl
idle_up (m ∷ ms) p e = cc

idle_forward : (l : List BackMsg) (p : Parts) → has_some l ≡ false → moved_on l p ≡ p
idle_forward [] p e = refl
idle_forward (m ∷ ms) p e = cc

idle_main : (b : Bool) (l : List MainMsg) (p : Parts) → (not b && has_some l) ≡ false → main_taken b l p ≡ p
idle_main true l p e = refl
idle_main false [] p e = refl
idle_main false (m ∷ ms) p e = cc

idle_back : (b : Bool) (l : List BackMsg) (p : Parts) → (not b && has_some l) ≡ false → back_taken b l p ≡ p
idle_back true l p e = refl
idle_back false [] p e = refl
idle_back false (m ∷ ms) p e = cc

pub idle_step : ChildIdleLaw → FetchIdleLaw → (x : Step) (p : Parts) → parts_enabled x p ≡ false → parts_step x p ≡ p
idle_step law fetch Act p e = idle_child law child.Act p e
idle_step law fetch Verdict p e = idle_child law child.Verdict p e
idle_step law fetch Fetch p e = idle_fetch fetch p e
idle_step law fetch Up p e = idle_up p.up p e
idle_step law fetch Forward p e = idle_forward p.inner p e
idle_step law fetch Main p e = idle_main p.child.broken p.main p e
idle_step law fetch Back p e = idle_back p.child.broken p.back p e
idle_step law fetch Release p e = idle_child law child.Release p e
idle_step law fetch (Begin t) p e = idle_child law (child.Begin t) p e
idle_step law fetch (Finish t) p e = idle_child law (child.Finish t) p e
idle_step law fetch (Read reader) p e = refl

-- WHAT IS SHOWN

-- the list begins with t
abbrev Longer : List Entry → List Entry → Type 0
Longer t u = (more : List Entry) × (u ≡ t ++ more)

same_trace : (t : List Entry) → Longer t t
same_trace t = ([], sym (append-nil t))

longer : GrowthLaw → (c : ChannelPlan) (x : ChildStep) (s : ChildState) → Longer s.trace (child_step c x s).trace
longer law c x s = let a : Adds c x s (child_step c x s) = law c x s in (a.showing, a.trace)

longer_up : (l : List UpMsg) (p : Parts) → Longer p.child.trace (up_taken l p).child.trace
longer_up [] p = same_trace p.child.trace
longer_up (m ∷ ms) p = same_trace p.child.trace

longer_forward : (l : List BackMsg) (p : Parts) → Longer p.child.trace (moved_on l p).child.trace
longer_forward [] p = same_trace p.child.trace
longer_forward (m ∷ ms) p = same_trace p.child.trace

longer_main : GrowthLaw → (b : Bool) (l : List MainMsg) (p : Parts) → Longer p.child.trace (main_taken b l p).child.trace
longer_main law true l p = same_trace p.child.trace
longer_main law false [] p = same_trace p.child.trace
longer_main law false (m ∷ ms) p = longer law p.plan (child.Main m) p.child

longer_back : GrowthLaw → (b : Bool) (l : List BackMsg) (p : Parts) → Longer p.child.trace (back_taken b l p).child.trace
longer_back law true l p = same_trace p.child.trace
longer_back law false [] p = same_trace p.child.trace
longer_back law false (m ∷ ms) p = longer law p.plan (child.Back m) p.child

longer_step : GrowthLaw → (x : Step) (p : Parts) → Longer p.child.trace (parts_step x p).child.trace
longer_step law Act p = longer law p.plan child.Act p.child
longer_step law Verdict p = longer law p.plan child.Verdict p.child
longer_step law Fetch p = same_trace p.child.trace
longer_step law Up p = longer_up p.up p
longer_step law Forward p = longer_forward p.inner p
longer_step law Main p = longer_main law p.child.broken p.main p
longer_step law Back p = longer_back law p.child.broken p.back p
longer_step law Release p = longer law p.plan child.Release p.child
longer_step law (Begin t) p = longer law p.plan (child.Begin t) p.child
longer_step law (Finish t) p = longer law p.plan (child.Finish t) p.child
longer_step law (Read reader) p = same_trace p.child.trace

pub shown_completes : GrowthLaw → (x : Step) (p : Parts) → p.child.trace ++ shown_by x p ≡ (parts_step x p).child.trace
shown_completes law x p =
    let l : Longer p.child.trace (parts_step x p).child.trace = longer_step law x p in
    completes p.child.trace (parts_step x p).child.trace l.0 l.1
