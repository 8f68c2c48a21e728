-- A channel whose plan is closed does nothing: no step of it is enabled.
use Rattle.std.proofs.Common.{ℕ, ◌≡◌, refl, sym, ◌∙◌, ap, Bool, true, false, if◌then◌else◌, nat_lt, List, [], ◌∷◌, slice_index, replicate}
use Rattle.nk_base.specs.Queue.{target_number}
use Rattle.nk_plan.specs.declared.plan.ChannelPlan.{ChannelPlan}
use Rattle.nk_plan.specs.declared.plan.StartLane.{StartLane}
use Rattle.nk_plan.specs.declared.plan.StartLane.TheVariants as lane
use Rattle.nk_plan.specs.declared.journal.ParentEntry.{ParentEntry}
use Rattle.nk_plan.specs.declared.journal.ChildEntry.{ChildEntry}
use Rattle.nk_plan.specs.declared.step.Step.{Step}
use Rattle.nk_plan.specs.declared.step.Step.TheVariants.{Act, Verdict, Fetch, Up, Forward, Main, Back, Release, Begin, Finish, Read}
use Rattle.nk_plan.specs.Child.{ChildState, new_hold, new_child, step_release}
use Rattle.nk_plan.specs.Channel.{Channel, channel_step, new_channel, channel_after}
use Rattle.nk_plan.specs.Run.{trace_of, Run}
use Rattle.nk_laws.proofs.Tools.{none_posted}
use Rattle.nk_laws.proofs.Orders.{run_is_order}

not_opened : (b : Bool) (s t : ChildState) → b ≡ true → (if b then s else t) ≡ s
not_opened true s t e = refl
not_opened false s t e = cc

not_released : (c : ChannelPlan) (l : StartLane) (s : ChildState) → step_release c (new_hold l).report s ≡ s
not_released c lane.Main s = refl
not_released c lane.Back s = refl

not_begun : (n : ℕ) (s t : ChildState) → n ≡ 0 → (if nat_lt 0 n then t else s) ≡ s
not_begun n s t e = rw e refl

stays : (c : ChannelPlan) (x : Step) → c.closed ≡ true → channel_step c x (new_channel c) ≡ new_channel c
stays c Act e = ap (λ (y : ChildState). record (new_channel c) { child = y }) (not_opened c.closed (new_child c) _ e)
stays c Verdict e = refl
stays c Fetch e = refl
stays c Up e = refl
stays c Forward e = refl
stays c Main e = refl
stays c Back e = refl
stays c Release e = ap (λ (y : ChildState). record (new_channel c) { child = y }) (not_released c c.start (new_child c))
stays c (Begin t) e = ap (λ (y : ChildState). record (new_channel c) { child = y }) (not_begun (slice_index (replicate 18 0) (target_number t)) (new_child c) _ (none_posted 18 (target_number t)))
stays c (Finish t) e = refl
stays c (Read reader) e = refl

nothing_done : (c : ChannelPlan) (steps : List Step) → c.closed ≡ true → channel_after c steps ≡ new_channel c
nothing_done c [] e = refl
nothing_done c (x ∷ xs) e = ap (λ (w : Channel). channel_step c x w) (nothing_done c xs e) ∙ stays c x e

pub closed_run : (c : ChannelPlan) (p : List ParentEntry) (j : List ChildEntry) (n : ℕ) → c.closed ≡ true → Run c p j n
    → (p ≡ []) × (j ≡ []) × (n ≡ 0) × (trace_of c j ≡ [])
closed_run c p j n e r =
    let o = run_is_order c p j n r in
    let w : channel_after c o.0 ≡ new_channel c = nothing_done c o.0 e in
    let ej : j ≡ [] = sym o.2 ∙ ap (λ (y : Channel). y.child.journal) w in (
      sym o.1 ∙ ap (λ (y : Channel). y.parent.journal) w,
      ej,
      sym o.3 ∙ ap (λ (y : Channel). y.forwarded) w,
      ap (λ t. trace_of c t) ej,
    )
