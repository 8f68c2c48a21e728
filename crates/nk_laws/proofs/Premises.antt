-- What the laws need of an accepted plan.
use Rattle.std.proofs.Common.{All, refl, subst, Bool, suc, ℕ, ◌≡◌, ◌≤◌, true, false, List, [], ◌∷◌, slice_get, Option, Some, None}
use Rattle.std.proofs.lemmas.Option.{slice_get_within, get_or_from_slice_get}
use Rattle.std.proofs.lemmas.List.Elements.{All-get_or}
use Rattle.nk_base.specs.declared.status.Status.{Status}
use Rattle.nk_base.specs.Status.{is_failure}
use Rattle.nk_plan.specs.declared.plan.ChannelPlan.{ChannelPlan}
use Rattle.nk_plan.specs.declared.plan.Hop.{Hop}
use Rattle.nk_plan.specs.declared.plan.Verdict.{Verdict}
use Rattle.nk_plan.specs.declared.plan.Control.{Control}
use Rattle.nk_plan.specs.declared.plan.Finish.{Finish}
use Rattle.nk_plan.specs.declared.plan.Reaction.{Reaction}
use Rattle.nk_plan.specs.declared.step.Phase.TheVariants.{Body}
use Rattle.nk_base.specs.declared.field.Field.{Field}
use Rattle.nk_plan.specs.Accepted.{Accepted, IsGoodHop, IsGoodVerdict, IsGoodFinish, IsGoodAct, IsGoodControl, IsGoodReaction}
use Rattle.nk_plan.specs.Plan.{hop_at, pieces_at}
use Rattle.nk_plan.specs.Parent.{ParentState}
use Rattle.nk_plan.specs.Enabled.{body_enabled}
use Rattle.nk_half_laws.specs.Growth.{GrowthLaw, ToldLaw}
use Rattle.nk_half_laws.specs.Pieces.{ShownLaw}
use Rattle.nk_half_laws.specs.Settled.{ChildRestLaw, ChildQueueLaw, ParentEndLaw, SuspendsAgreeLaw}
use Rattle.nk_plan.specs.declared.plan.Hop.TheVariants as hop
use Rattle.nk_plan.specs.declared.plan.Verdict.TheVariants as verdict
use Rattle.nk_plan.specs.declared.plan.Act.TheVariants as act
use Rattle.nk_plan.specs.declared.plan.Finish.TheVariants as finish
use Rattle.nk_plan.specs.declared.plan.Reaction.TheVariants as reaction

abbrev pub FinishOk : Finish → Type 0
FinishOk finish.Good = Unit {0}
FinishOk (finish.Fail s) = is_failure s ≡ true

abbrev pub VerdictOk : Verdict → Type 0
VerdictOk verdict.Allow = Unit {0}
VerdictOk (verdict.Veto s) = is_failure s ≡ true

abbrev pub HopOk : Option Hop → Type 0
HopOk None = Unit {0}
HopOk (Some (hop.Fail s)) = is_failure s ≡ true
HopOk (Some (hop.Redirect code own)) = VerdictOk own
HopOk (Some (hop.Response head pieces end trailers)) = FinishOk end

abbrev pub ActOk : Option Control → Type 0
ActOk None = Unit {0}
ActOk (Some control) = (s : Status) → control.act ≡ act.Break s → is_failure s ≡ true

-- the statuses of hops and breaks are failures
abbrev pub PlanOk : ChannelPlan → Type 0
PlanOk c = ((f : ℕ) → HopOk (hop_at c f)) × ((i : ℕ) → ActOk (slice_get c.controls i))

-- the plan is accepted; and what is known of each half by itself
pub record Known (c : ChannelPlan) : Type 0 where
  pub accepted : Accepted c
  pub rest : ChildRestLaw
  pub queue : ChildQueueLaw
  pub growth : GrowthLaw
  pub told : ToldLaw
  pub shown : ShownLaw
  pub ended : ParentEndLaw
  pub suspends : SuspendsAgreeLaw

-- reactions end a load by failures alone, and name data callbacks from 1 on
abbrev pub EndsByFailure : List Reaction → Type 0
EndsByFailure [] = Unit {0}
EndsByFailure (reaction.StartSuspend ∷ rs) = EndsByFailure rs
EndsByFailure (reaction.StartRetarget w ∷ rs) = EndsByFailure rs
EndsByFailure (reaction.StartCancel s ∷ rs) = (is_failure s ≡ true) × EndsByFailure rs
EndsByFailure (reaction.StartFail s ∷ rs) = (is_failure s ≡ true) × EndsByFailure rs
EndsByFailure (reaction.BytesFail n s ∷ rs) = (is_failure s ≡ true) × (1 ≤ n) × EndsByFailure rs

-- a parent that waits for credit
abbrev pub WantsCredit : ChannelPlan → ParentState → Type 0
WantsCredit c p = (p.phase ≡ Body) × (body_enabled p p.kept (pieces_at c p.hop) ≡ false)

-- An accepted plan is such a plan

-- each item of a list has a property
abbrev Each : {A : Type 0} → (A → Type 0) → List A → Type 0
Each P xs = (i : ℕ) (x : _) → slice_get xs i ≡ Some x → P x

each_of : {A : Type 0} (P : A → Type 0) (xs : List A) → All P xs → Each P xs
each_of P xs all i x e = subst P (get_or_from_slice_get xs i x x e) (All-get_or P xs i x (slice_get_within xs i x e) all)

verdict_ok : (own : Verdict) → IsGoodVerdict own → VerdictOk own
verdict_ok verdict.Allow g = tt
verdict_ok (verdict.Veto s) g = g

finish_ok : (end : Finish) (trailers : List Field) → IsGoodFinish end trailers → FinishOk end
finish_ok finish.Good trailers g = tt
finish_ok (finish.Fail s) trailers g = g.0

hop_ok : (o : Option Hop) → ((h : Hop) → o ≡ Some h → IsGoodHop h) → HopOk o
hop_ok None f = tt
hop_ok (Some (hop.Fail s)) f = f (hop.Fail s) refl
hop_ok (Some (hop.Redirect code own)) f = verdict_ok own (f (hop.Redirect code own) refl).1
hop_ok (Some (hop.Response head pieces end trailers)) f = finish_ok end trailers (f (hop.Response head pieces end trailers) refl).2

act_ok : (closed : Bool) (o : Option Control) → ((k : Control) → o ≡ Some k → IsGoodControl closed k) → ActOk o
act_ok closed None f = tt
act_ok closed (Some k) f = λ s e. subst IsGoodAct e (f k refl).act

failures_end : (rs : List Reaction) → Each IsGoodReaction rs → EndsByFailure rs
failures_end [] f = tt
failures_end (reaction.StartRetarget n ∷ rs) f = failures_end rs (λ i x e. f (suc i) x e)
failures_end (reaction.StartSuspend ∷ rs) f = failures_end rs (λ i x e. f (suc i) x e)
failures_end (reaction.StartCancel st ∷ rs) f = (f 0 (reaction.StartCancel st) refl, failures_end rs (λ i x e. f (suc i) x e))
failures_end (reaction.StartFail st ∷ rs) f = (f 0 (reaction.StartFail st) refl, failures_end rs (λ i x e. f (suc i) x e))
failures_end (reaction.BytesFail n st ∷ rs) f = let g = f 0 (reaction.BytesFail n st) refl in (g.2, g.0, failures_end rs (λ i x e. f (suc i) x e))

pub plan_ok : (c : ChannelPlan) → Accepted c → PlanOk c
plan_ok c a = (
  (λ f. hop_ok (hop_at c f) (λ h e. each_of IsGoodHop c.hops a.hops f h e)),
  (λ i. act_ok c.closed (slice_get c.controls i) (λ k e. each_of (IsGoodControl c.closed) c.controls a.controls i k e)),
)

pub ends_by_failure : (c : ChannelPlan) → Accepted c → EndsByFailure c.reactions
ends_by_failure c a = failures_end c.reactions (each_of IsGoodReaction c.reactions a.reactions)
