-- A step that is not enabled changes nothing.
use Rattle.std.proofs.Common.{ℕ, ◌≡◌, refl, List, Bool, true, false, not, ◌&&◌, ◌||◌, if◌then◌else◌, nat_lt, nat_le, slice_get, slice_index, Option, Some, None, is_some, int_lt, pos}
use Rattle.nk_base.specs.declared.status.Status.{Status}
use Rattle.nk_base.specs.declared.status.Target.{Target}
use Rattle.nk_base.specs.Queue.{is_target, target_number, same_target}
use Rattle.nk_plan.specs.declared.plan.ChannelPlan.{ChannelPlan}
use Rattle.nk_plan.specs.declared.plan.Control.{Control}
use Rattle.nk_plan.specs.declared.plan.Hop.{Hop}
use Rattle.nk_plan.specs.declared.plan.Hop.TheVariants as hop
use Rattle.nk_plan.specs.declared.plan.Finish.{Finish}
use Rattle.nk_plan.specs.declared.event.ChildEvent.{ChildEvent}
use Rattle.nk_plan.specs.declared.step.Phase.{Phase}
use Rattle.nk_plan.specs.declared.step.Phase.TheVariants.{Closed, Ready, Asking, Follow, Body, Done}
use Rattle.nk_plan.specs.declared.step.ChildStep.TheVariants as child
use Rattle.nk_plan.specs.Plan.{hop_at, hop_pieces}
use Rattle.nk_plan.specs.Parent.{ParentState, fetch_piece, fetch_body, fetch_in}
use Rattle.nk_plan.specs.Child.{ChildState, perform_control, is_due, runs_on, step_verdict, step_release, step_finish}
use Rattle.nk_plan.specs.Enabled.{body_enabled, phase_enabled}
use Rattle.nk_half_laws.specs.Falls.{ChildIdleLaw, FetchIdleLaw}

not_if : {A : Type 0} (b : Bool) (x s : A) → b ≡ false → (if b then x else s) ≡ s
not_if true x s e = cc
not_if false x s e = refl

-- The child's rows

not_due : (c : ChannelPlan) (o : Option Control) (s : ChildState) → is_due s o ≡ false → perform_control c o s ≡ s
not_due c None s e = refl
not_due c (Some control) s e = not_if (nat_le control.after s.finished) _ s e

not_act : (closed opened due : Bool) (s x y : ChildState) → (not closed && (not opened || due)) ≡ false → (due ≡ false → x ≡ s)
    → (if closed then s else (if opened then x else y)) ≡ s
not_act true opened due s x y e h = refl
not_act false false due s x y e h = cc
not_act false true true s x y e h = cc
not_act false true false s x y e h = h refl

broken_or_none : {A : Type 0} (broken : Bool) (o : Option A) (s : ChildState) (row : Option A → ChildState)
    → (not broken && is_some o) ≡ false → row None ≡ s → (if broken then s else row o) ≡ s
broken_or_none true o s row e h = refl
broken_or_none false None s row e h = h
broken_or_none false (Some a) s row e h = cc

broken_then : (broken : Bool) (s x : ChildState) → not broken ≡ false → (if broken then s else x) ≡ s
broken_then true s x e = refl
broken_then false s x e = cc

not_begin : (runs flushes posted : Bool) (s x y : ChildState) → (not runs && (flushes || posted)) ≡ false
    → (if runs then s else (if flushes then x else (if posted then y else s))) ≡ s
not_begin true flushes posted s x y e = refl
not_begin false true posted s x y e = cc
not_begin false false true s x y e = cc
not_begin false false false s x y e = refl

not_finish : (c : ChannelPlan) (t : Target) (o : Option (Target × ChildEvent)) (s : ChildState) → runs_on o t ≡ false
    → step_finish c t o s ≡ s
not_finish c t None s e = refl
not_finish c t (Some r) s e = not_if (same_target r.0 t) _ s e

pub child_idle : ChildIdleLaw
child_idle c child.Act s e =
    not_act c.closed s.opened (is_due s (slice_get c.controls s.next)) s (perform_control c (slice_get c.controls s.next) s) _ e
    (not_due c (slice_get c.controls s.next) s)
child_idle c child.Verdict s e = broken_or_none s.broken s.question s (λ (o : Option ℕ). step_verdict c o s) e refl
child_idle c (child.Main m) s e = broken_then s.broken s _ e
child_idle c (child.Back m) s e = broken_then s.broken s _ e
child_idle c child.Release s e = broken_or_none s.broken s.hold.report s (λ (o : Option ℕ). step_release c o s) e refl
child_idle c (child.Begin t) s e =
    not_begin (runs_on s.running t) (is_target s.queue.flushing t) (nat_lt 0 (slice_index s.queue.posted (target_number t))) s _ _ e
child_idle c (child.Finish t) s e = not_finish c t s.running s e

-- The parent's row

no_piece : (c : ChannelPlan) (s : ParentState) (pieces : List (List ℕ)) (end : Finish) (o : Option (List ℕ))
    → (not (is_some o) || int_lt (pos 0) s.credit) ≡ false → fetch_piece c s pieces end o ≡ s
no_piece c s pieces end None e = cc
no_piece c s pieces end (Some p) e = not_if (int_lt (pos 0) s.credit) _ s e

no_body : (c : ChannelPlan) (s : ParentState) (q : Option Status) (o : Option Hop) → body_enabled s q (hop_pieces o) ≡ false
    → fetch_body c s q o ≡ s
no_body c s (Some q) o e = cc
no_body c s None None e = refl
no_body c s None (Some (hop.Fail st)) e = refl
no_body c s None (Some (hop.Redirect code verdict)) e = refl
no_body c s None (Some (hop.Response head pieces end trailers)) e = no_piece c s pieces end (slice_get pieces s.piece) e

no_fetch : (c : ChannelPlan) (s : ParentState) (ph : Phase) → phase_enabled c s ph ≡ false → fetch_in c s ph ≡ s
no_fetch c s Closed e = refl
no_fetch c s Ready e = cc
no_fetch c s Asking e = refl
no_fetch c s Follow e = cc
no_fetch c s Body e = no_body c s s.kept (hop_at c s.hop) e
no_fetch c s Done e = refl

suspended_or : (b e : Bool) (s x : ParentState) → (not b && e) ≡ false → (e ≡ false → x ≡ s) → (if b then s else x) ≡ s
suspended_or true e s x h f = refl
suspended_or false e s x h f = f h

pub parent_idle : FetchIdleLaw
parent_idle c s e = suspended_or s.suspended (phase_enabled c s s.phase) s (fetch_in c s s.phase) e (no_fetch c s s.phase)
