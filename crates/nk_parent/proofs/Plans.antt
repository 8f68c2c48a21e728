-- What an accepted plan says of the hop at which a load stands.
use Rattle.std.proofs.Common.{ℕ, ◌≡◌, ◌+◌, ◌-◌, ◌<◌, refl, sym, subst, true, List, length, All, slice_get, Option, Some, None, inl, inr, arith}
use Rattle.std.specs.Option.{IsSomeAnd}
use Rattle.std.proofs.lemmas.Bool.{cases_lt}
use Rattle.std.proofs.lemmas.Option.{slice_get_within, get_or_from_slice_get}
use Rattle.std.proofs.lemmas.List.Elements.{All-get_or}
use Rattle.nk_base.specs.declared.status.Status.{Status}
use Rattle.nk_base.specs.declared.field.Field.{Field}
use Rattle.nk_base.specs.declared.field.Head.{Head}
use Rattle.nk_base.specs.Status.{is_failure, ok}
use Rattle.nk_base.specs.Ranges.{IsRedirectCode, AreTrailers}
use Rattle.nk_plan.specs.declared.plan.ChannelPlan.{ChannelPlan}
use Rattle.nk_plan.specs.declared.plan.Hop.{Hop}
use Rattle.nk_plan.specs.declared.plan.Hop.TheVariants as hop
use Rattle.nk_plan.specs.declared.plan.Verdict.{Verdict}
use Rattle.nk_plan.specs.declared.plan.Finish.{Finish}
use Rattle.nk_plan.specs.Accepted.{Accepted, IsGoodHop, last_of}
use Rattle.nk_plan.specs.Accepted.{IsRedirect as IsRedirectHop}
use Rattle.nk_plan.specs.Lanes.{IsRedirect}
use Rattle.nk_plan.specs.Plan.{hop_at}

-- each item of a list has a property that all have
each : {A : Type 0} (P : A → Type 0) (xs : List A) (i : ℕ) (x : A) → All P xs → slice_get xs i ≡ Some x → P x
each P xs i x all e = subst P (get_or_from_slice_get xs i x x e) (All-get_or P xs i x (slice_get_within xs i x e) all)

pub good_hop : (c : ChannelPlan) (h : ℕ) (x : Hop) → Accepted c → hop_at c h ≡ Some x → IsGoodHop x
good_hop c h x a e = each IsGoodHop c.hops h x a.hops e

pub failed_hop : (c : ChannelPlan) (h : ℕ) (s : Status) → Accepted c → hop_at c h ≡ Some (hop.Fail s) → is_failure s ≡ true
failed_hop c h s a e = good_hop c h (hop.Fail s) a e

pub redirect_hop : (c : ChannelPlan) (h code : ℕ) (v : Verdict) → Accepted c → hop_at c h ≡ Some (hop.Redirect code v) → IsRedirectCode code
redirect_hop c h code v a e = (good_hop c h (hop.Redirect code v) a e).0

-- the last hop is no redirect
ends : (o : Option Hop) → IsSomeAnd o (λ h. ¬ IsRedirectHop h) → IsRedirect o → ⊥
ends None n r = n
ends (Some (hop.Fail s)) n r = r
ends (Some (hop.Redirect code verdict)) n r = n tt
ends (Some (hop.Response head pieces end trailers)) n r = r

before_last : (c : ChannelPlan) (h : ℕ) → Accepted c → IsRedirect (hop_at c h) → (length c.hops - 1 ≡ h) → ⊥
before_last c h a r e = ends (last_of c.hops) a.ends (subst (λ i. IsRedirect (slice_get c.hops i)) (sym e) r)

cases : (h n : ℕ) → (n - 1 ≡ h → ⊥) → h < n → h + 1 < n
cases h n f w = elim (cases_lt (h + 1) n) [ inl l ↦ l | inr g ↦ absurd (f (omega (arith, g, w))) ]

-- a redirect has a hop behind it
pub redirect_leads : (c : ChannelPlan) (h : ℕ) → Accepted c → IsRedirect (hop_at c h) → h < length c.hops → h + 1 < length c.hops
redirect_leads c h a r w = cases h (length c.hops) (before_last c h a r) w

-- the trailers of a response may stand behind a good end
pub response_trailers : (c : ChannelPlan) (h : ℕ) (head : Head) (pieces : List (List ℕ)) (end : Finish) (trailers : List Field) → Accepted c
    → hop_at c h ≡ Some (hop.Response head pieces end trailers) → AreTrailers ok trailers
response_trailers c h head pieces end trailers a e =
    let g : IsGoodHop (hop.Response head pieces end trailers) = good_hop c h (hop.Response head pieces end trailers) a e in
    record { count = g.1; good = g.0; after_success = λ _. refl }
