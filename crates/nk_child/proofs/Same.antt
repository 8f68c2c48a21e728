-- The rules of the parts are those of the child's table.
use Rattle.std.proofs.Common.{ℕ, ◌≡◌, refl, ap, Bool, true, false, not, ◌==◌, if◌then◌else◌, Option, Some, None, is_some}
use Rattle.std.proofs.Math.Bool.{or-true}
use Rattle.nk_base.specs.declared.status.Status.{Status}
use Rattle.nk_base.specs.declared.status.RetargetError.TheVariants as refused_for
use Rattle.nk_base.specs.Status.{is_failure, is_legal_status, kept_status, merged, or_else, failure}
use Rattle.nk_plan.specs.declared.plan.ChannelPlan.{ChannelPlan}
use Rattle.nk_plan.specs.declared.event.ChildEvent.TheVariants.{Start, Stop}
use Rattle.nk_base.specs.declared.message.Entry.TheVariants as shown
use Rattle.nk_plan.specs.Plan.{stop_trailers}
use Rattle.nk_child.specs.Shown.{event_shown}
use Rattle.nk_plan.specs.Child.{later_refusal, hop_verdict, verdict_status}
use Rattle.nk_plan.specs.declared.plan.Verdict.{Verdict}
use Rattle.nk_plan.specs.Plan.{hop_at}
use Rattle.nk_redirect.specs.Verdict.{veto_of, verdict_status as answer_status}
use Rattle.nk_retarget.specs.Delivery.{refusal}

-- the refusals of a retarget
pub refused : (opened stopped retargetable : Bool) (kept : Option Status) (worker : Option ℕ) → is_failure (kept_status kept) ≡ is_some kept
    → refusal (record { opened = opened; stopped = stopped; status = kept_status kept }) (record { retargetable = retargetable; worker = worker })
    ≡ (if not opened then Some refused_for.NotOpened else (if stopped then Some refused_for.Stopped else later_refusal retargetable kept worker))
refused false stopped retargetable kept worker h = refl
refused true true retargetable kept worker h = refl
refused true false retargetable (Some q) worker h = rw h refl
refused true false false None worker h = refl
refused true false true None None h = refl
refused true false true None (Some w) h = refl

-- to merge a status twice is to merge it once
if_twice : (b : Bool) (s : Status) → is_failure s ≡ b → or_else (if b then Some s else None) (failure s) ≡ (if b then Some s else None)
if_twice true s h = refl
if_twice false s h = rw h refl

pub merged_twice : (kept : Option Status) (s : Status) → merged (merged kept s) s ≡ merged kept s
merged_twice None s = if_twice (is_failure s) s refl
merged_twice (Some q) s = refl

pub start_twice : (c : ChannelPlan) (hop : ℕ) (kept : Option Status) (code : ℕ) (s : Status)
    → event_shown c hop (merged kept s) (Start code s) ≡ event_shown c hop kept (Start code s)
start_twice c hop kept code s = ap (λ (k : Option Status). Some (shown.Start code (kept_status k))) (merged_twice kept s)

pub stop_twice : (c : ChannelPlan) (hop : ℕ) (kept : Option Status) (s : Status)
    → event_shown c hop (merged kept s) (Stop s) ≡ event_shown c hop kept (Stop s)
stop_twice c hop kept s = ap (λ (k : Option Status). Some (shown.Stop (kept_status k) (stop_trailers c hop (kept_status k)))) (merged_twice kept s)

-- the answer on a redirect
pub answered : (c : ChannelPlan) (kept : Option Status) (h : ℕ) (v : Verdict) → is_failure (kept_status kept) ≡ is_some kept → veto_of v ≡ hop_verdict (hop_at c h)
    → answer_status (kept_status kept) v ≡ verdict_status c kept h
answered c None h v f e = e
answered c (Some q) h v f e = rw f refl

-- and it is legal
legal_if : (b : Bool) (s v : Status) → is_failure s ≡ b → is_legal_status v ≡ true → is_legal_status (if b then s else v) ≡ true
legal_if true s v f h = rw f (or-true (s.0 == 0))
legal_if false s v f h = h

pub legal_answer : (kept : Status) (v : Verdict) → is_legal_status (veto_of v) ≡ true → is_legal_status (answer_status kept v) ≡ true
legal_answer kept v h = legal_if (is_failure kept) kept (veto_of v) refl h
