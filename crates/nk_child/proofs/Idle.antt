-- A step that is not enabled changes nothing.
use Rattle.std.proofs.Common.{ℕ, ◌≡◌, ◌∙◌, refl, sym, ap, Bool, true, false, not, ◌&&◌, ◌||◌, if◌then◌else◌, nat_lt, nat_le, slice_get, slice_index, Option, Some, None, is_some, Result, Ok, Err, IfOk, OnOk}
use Rattle.nk_base.specs.declared.status.Memory.{Memory}
use Rattle.nk_base.specs.declared.status.Moved.{Moved}
use Rattle.nk_base.specs.declared.status.Moved.TheVariants.{Idle}
use Rattle.nk_base.specs.declared.status.Target.{Target}
use Rattle.nk_base.specs.Queue.{is_target, target_number, same_target}
use Rattle.nk_plan.specs.declared.plan.ChannelPlan.{ChannelPlan}
use Rattle.nk_plan.specs.declared.plan.Control.{Control}
use Rattle.nk_plan.specs.declared.event.ChildEvent.{ChildEvent}
use Rattle.nk_plan.specs.declared.step.ChildStep.{ChildStep}
use Rattle.nk_plan.specs.declared.step.ChildStep.TheVariants as step
use Rattle.nk_plan.specs.Child.{ChildState, perform_control, is_due, runs_on, step_verdict, step_release, step_finish, child_step}
use Rattle.nk_plan.specs.Enabled.{child_enabled}
use Rattle.nk_base.specs.Status.{moved_if}
use Rattle.nk_child.specs.Views.{ChildView}

not_if : {A : Type 0} (b : Bool) (x s : A) → b ≡ false → (if b then x else s) ≡ s
not_if true x s e = cc
not_if false x s e = refl

not_due : (c : ChannelPlan) (o : Option Control) (s : ChildState) → is_due s o ≡ false → perform_control c o s ≡ s
not_due c None s e = refl
not_due c (Some control) s e = not_if (nat_le control.after s.finished) _ s e

not_act : (closed opened due : Bool) (s x y : ChildState) → (not closed && (not opened || due)) ≡ false → (due ≡ false → x ≡ s) → (if closed then s else (if opened then x else y)) ≡ s
not_act true opened due s x y e h = refl
not_act false false due s x y e h = cc
not_act false true true s x y e h = cc
not_act false true false s x y e h = h refl

broken_or_none : {A : Type 0} (broken : Bool) (o : Option A) (s : ChildState) (row : Option A → ChildState) → (not broken && is_some o) ≡ false → row None ≡ s → (if broken then s else row o) ≡ s
broken_or_none true o s row e h = refl
broken_or_none false None s row e h = h
broken_or_none false (Some a) s row e h = cc

broken_then : (broken : Bool) (s x : ChildState) → not broken ≡ false → (if broken then s else x) ≡ s
broken_then true s x e = refl
broken_then false s x e = cc

not_begin : (runs flushes posted : Bool) (s x y : ChildState) → (not runs && (flushes || posted)) ≡ false → (if runs then s else (if flushes then x else (if posted then y else s))) ≡ s
not_begin true flushes posted s x y e = refl
not_begin false true posted s x y e = cc
not_begin false false true s x y e = cc
not_begin false false false s x y e = refl

not_finish : (c : ChannelPlan) (t : Target) (o : Option (Target × ChildEvent)) (s : ChildState) → runs_on o t ≡ false → step_finish c t o s ≡ s
not_finish c t None s e = refl
not_finish c t (Some r) s e = not_if (same_target r.0 t) _ s e

idle : (c : ChannelPlan) (x : ChildStep) (s : ChildState) → child_enabled c x s ≡ false → child_step c x s ≡ s
idle c step.Act s e = not_act c.closed s.opened (is_due s (slice_get c.controls s.next)) s (perform_control c (slice_get c.controls s.next) s) _ e (not_due c (slice_get c.controls s.next) s)
idle c step.Verdict s e = broken_or_none s.broken s.question s (λ (o : Option ℕ). step_verdict c o s) e refl
idle c (step.Main m) s e = broken_then s.broken s _ e
idle c (step.Back m) s e = broken_then s.broken s _ e
idle c step.Release s e = broken_or_none s.broken s.hold.report s (λ (o : Option ℕ). step_release c o s) e refl
idle c (step.Begin t) s e = not_begin (runs_on s.running t) (is_target s.queue.flushing t) (nat_lt 0 (slice_index s.queue.posted (target_number t))) s _ _ e
idle c (step.Finish t) s e = not_finish c t s.running s e

not_moved : (b : Bool) → Idle ≡ moved_if b → b ≡ false
not_moved true e = cc
not_moved false e = refl

idle_same : (x : ChildStep) (old new : ChildView) (r : Moved) → r ≡ moved_if (child_enabled old.plan x old.state) → new ≡ record old { state = child_step old.plan x old.state } → r ≡ Idle → new ≡ old
idle_same x old new r a n i =
    n ∙ ap (λ (s : ChildState). record old { state = s }) (idle old.plan x old.state (not_moved (child_enabled old.plan x old.state) (sym i ∙ a)))

-- what answers that it is idle is as before
pub idle_ok : (r : Result Moved Memory) (x : ChildStep) (old new : ChildView) → IfOk r (λ m. m ≡ moved_if (child_enabled old.plan x old.state)) → OnOk r (new ≡ record old { state = child_step old.plan x old.state }) → IfOk r (λ m. m ≡ Idle → new ≡ old)
idle_ok (Ok m) x old new a n = idle_same x old new m a n
idle_ok (Err e) x old new a n = a
