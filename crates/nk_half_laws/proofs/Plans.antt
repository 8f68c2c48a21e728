-- What an accepted plan says of its hops and calls: a redirect has a next hop, no hop has more pieces than the body, and
-- each reaction and each call of the page is a good one.
use Rattle.std.proofs.Common.{ℕ, suc, ◌≡◌, ◌∙◌, ◌-◌, ◌<◌, ◌≤◌, inl, inr, refl, ap, subst, List, [], ◌∷◌, length, true, IsSomeAnd, Option, Some, None, slice_get, ◌==◌, arith}
use Rattle.nk_base.specs.declared.status.Status.{Status}
use Rattle.nk_base.specs.declared.field.Field.{Field}
use Rattle.nk_base.specs.Status.{ok, is_failure}
use Rattle.nk_base.specs.Ranges.{AreTrailers}
use Rattle.nk_plan.specs.declared.plan.ChannelPlan.{ChannelPlan}
use Rattle.nk_plan.specs.declared.plan.Hop.{Hop}
use Rattle.nk_plan.specs.declared.plan.Hop.TheVariants as hop
use Rattle.nk_plan.specs.declared.plan.Reaction.{Reaction}
use Rattle.nk_plan.specs.declared.plan.Reaction.TheVariants as reaction
use Rattle.nk_plan.specs.declared.plan.Control.{Control}
use Rattle.nk_plan.specs.Accepted.{Accepted, IsRedirect, IsGoodHop, IsGoodAct, IsGoodReaction, IsGoodControl, last_of, pieces_of, body_of}
use Rattle.nk_plan.specs.Plan.{hop_at, hop_pieces, pieces_at, hop_trailers, trailers_at, stop_trailers}
use Rattle.nk_plan.specs.Child.{bytes_failure}
use Rattle.nk_half_laws.proofs.Failures.{IsKept}
use Rattle.nk_half_laws.proofs.Tools.{keeps_if, under_or_over, past_end, before_end, item_of, item_before}

-- Hops

pub good_hop : (c : ChannelPlan) → Accepted c → (i : ℕ) (x : Hop) → hop_at c i ≡ Some x → IsGoodHop x
good_hop c a i x e = item_of IsGoodHop c.hops a.hops i x e

-- there is a hop; it is a redirect; it is a response

abbrev pub IsThere : Option Hop → Type 0
IsThere None = ⊥
IsThere (Some h) = Unit {0}

abbrev pub AsRedirect : Option Hop → Type 0
AsRedirect None = ⊥
AsRedirect (Some h) = IsRedirect h

abbrev pub AsResponse : Option Hop → Type 0
AsResponse None = ⊥
AsResponse (Some (hop.Fail s)) = ⊥
AsResponse (Some (hop.Redirect code verdict)) = ⊥
AsResponse (Some (hop.Response head pieces end trailers)) = Unit {0}

-- each hop before the last is a redirect
pub leads : (c : ChannelPlan) (h : ℕ) (x : Hop) → Accepted c → suc h < length c.hops → hop_at c h ≡ Some x → IsRedirect x
leads c h x a l e =
    item_before IsRedirect (length c.hops - 1) c.hops a.leads (omega arith) h x (omega arith) e

-- the hop behind which there is none is the last
pub is_last : (c : ChannelPlan) (h : ℕ) (x : Hop) → length c.hops ≤ suc h → hop_at c h ≡ Some x → last_of c.hops ≡ Some x
is_last c h x l e =
    let b : suc h ≤ length c.hops = before_end c.hops h x e in
    let n : length c.hops - 1 ≡ h = omega arith in
    ap (λ k. slice_get c.hops k) n ∙ e

few_of : (c : ChannelPlan) (h : ℕ) (o : Option Hop) → Accepted c → hop_at c h ≡ o → length (hop_pieces o) ≤ length (body_of c)
few_of c h None a e = omega arith
few_of c h (Some (hop.Fail s)) a e = omega arith
few_of c h (Some (hop.Redirect code verdict)) a e = omega arith
few_of c h (Some (hop.Response head pieces end trailers)) a e = elim (under_or_over (suc h) (length c.hops)) [
  | inl l ↦ absurd (leads c h (hop.Response head pieces end trailers) a l e)
  | inr l ↦
      let is : body_of c ≡ pieces = ap pieces_of (is_last c h (hop.Response head pieces end trailers) l e) in
      omega (arith, ap length is)
]

pub few_pieces : (c : ChannelPlan) (h : ℕ) → Accepted c → length (pieces_at c h) ≤ length (body_of c)
few_pieces c h a = few_of c h (hop_at c h) a refl

-- the last hop is no redirect
pub redirect_leads : (c : ChannelPlan) → Accepted c → (i : ℕ) (x : Hop) → hop_at c i ≡ Some x → IsRedirect x → suc i < length c.hops
redirect_leads c a i x e r = elim (under_or_over (suc i) (length c.hops)) [
  | inl m ↦ m
  | inr m ↦
      let n : IsSomeAnd (Some x) (λ h. ¬ IsRedirect h) =
      subst (λ (o : Option Hop). IsSomeAnd o (λ h. ¬ IsRedirect h)) (is_last c i x m e) a.ends in
      absurd (n r)
]

at_place : {A : Type 0} (xs : List A) (k : ℕ) → k < length xs → (slice_get xs k ≡ None → ⊥)
at_place xs k l e = let m : length xs ≤ k = past_end xs k e in omega arith

there : (o : Option Hop) → (o ≡ None → ⊥) → IsThere o
there None n = n refl
there (Some x) n = tt

next_of : (c : ChannelPlan) (h : ℕ) (o : Option Hop) → Accepted c → hop_at c h ≡ o → AsRedirect o → IsThere (hop_at c (suc h))
next_of c h None a e r = absurd r
next_of c h (Some x) a e r = there (hop_at c (suc h)) (at_place c.hops (suc h) (redirect_leads c a h x e r))

-- behind a redirect there is a hop
pub next_there : (c : ChannelPlan) (h : ℕ) → Accepted c → AsRedirect (hop_at c h) → IsThere (hop_at c (suc h))
next_there c h a r = next_of c h (hop_at c h) a refl r

-- Trailers

none_after : (st : Status) → AreTrailers st []
none_after st = record { count = omega arith; good = refl; after_success = λ l. absurd (omega arith) }

abbrev GoodTrailers : List Field → Type 0
GoodTrailers ts = AreTrailers ok ts

hop_good_trailers : (o : Option Hop) → ((x : Hop) → o ≡ Some x → IsGoodHop x) → GoodTrailers (hop_trailers o)
hop_good_trailers None f = none_after ok
hop_good_trailers (Some (hop.Fail s)) f = none_after ok
hop_good_trailers (Some (hop.Redirect code own)) f = none_after ok
hop_good_trailers (Some (hop.Response head pieces end trailers)) f =
    let g : IsGoodHop (hop.Response head pieces end trailers) = f (hop.Response head pieces end trailers) refl in
    record { count = g.1; good = g.0; after_success = λ l. refl }

-- a stop with status 0 has the hop's trailers, and with a failure none
pub good_stop : (c : ChannelPlan) → Accepted c → (i : ℕ) → AreTrailers ok (stop_trailers c i ok)
good_stop c a i = hop_good_trailers (hop_at c i) (λ x e. good_hop c a i x e)

pub failed_stop : (c : ChannelPlan) (i : ℕ) (st : Status) → is_failure st ≡ true → AreTrailers st (stop_trailers c i st)
failed_stop c i st f =
    keeps_if (λ (ts : List Field). AreTrailers st ts) (is_failure st) [] (trailers_at c i) (λ r. none_after st) (λ r. cc)

-- Reactions, and the calls of the page

abbrev pub GoodReactions : List Reaction → Type 0
GoodReactions [] = Unit {0}
GoodReactions (r ∷ rs) = IsGoodReaction r × GoodReactions rs

good_reactions : (rs : List Reaction) → ((i : ℕ) (r : Reaction) → slice_get rs i ≡ Some r → IsGoodReaction r) → GoodReactions rs
good_reactions [] f = tt
good_reactions (r ∷ rs) f = (f 0 r refl, good_reactions rs (λ i x e. f (suc i) x e))

-- the failure of a data callback is one
pub bytes_may_fail : (rs : List Reaction) (k : ℕ) → GoodReactions rs → IsKept (bytes_failure rs k)
bytes_may_fail [] k g = tt
bytes_may_fail (reaction.BytesFail i st ∷ rs) k g =
    keeps_if IsKept (i == k) (Some st) (bytes_failure rs k) (λ r. g.0.2) (λ r. bytes_may_fail rs k g.1)
bytes_may_fail (reaction.StartRetarget w ∷ rs) k g = bytes_may_fail rs k g.1
bytes_may_fail (reaction.StartSuspend ∷ rs) k g = bytes_may_fail rs k g.1
bytes_may_fail (reaction.StartCancel st ∷ rs) k g = bytes_may_fail rs k g.1
bytes_may_fail (reaction.StartFail st ∷ rs) k g = bytes_may_fail rs k g.1

pub record GoodPlan (c : ChannelPlan) : Type 0 where
  pub reactions : GoodReactions c.reactions
  pub controls : (i : ℕ) (x : Control) → slice_get c.controls i ≡ Some x → IsGoodAct x.act
  pub hops : (i : ℕ) (x : Hop) → hop_at c i ≡ Some x → IsGoodHop x

pub good_plan : (c : ChannelPlan) → Accepted c → GoodPlan c
good_plan c a = record {
  reactions = good_reactions c.reactions (λ i r e. item_of IsGoodReaction c.reactions a.reactions i r e);
  controls = λ i x e. (item_of (IsGoodControl c.closed) c.controls a.controls i x e).act;
  hops = λ i x e. good_hop c a i x e;
}
