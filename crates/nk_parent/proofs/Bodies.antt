-- The hop at which a load sends its body is the plan's last.
use Rattle.std.proofs.Common.{ℕ, ◌≡◌, ◌+◌, ◌-◌, ◌<◌, refl, sym, ◌∙◌, subst, ap, List, length, take, slice_get, get_or, Option, Some, None, inl, inr, arith}
use Rattle.std.proofs.lemmas.Bool.{cases_lt}
use Rattle.std.proofs.lemmas.Option.{get_or_from_slice_get}
use Rattle.std.proofs.lemmas.List.{get_or-take, length-take}
use Rattle.std.proofs.lemmas.List.Elements.{All-get_or}
use Rattle.std.specs.declared.alloc.Global.{Global}
use Rattle.nk_plan.specs.declared.plan.ChannelPlan.{ChannelPlan}
use Rattle.nk_plan.specs.declared.plan.Hop.{Hop}
use Rattle.nk_plan.specs.declared.plan.Hop.TheVariants as hop
use Rattle.nk_plan.specs.declared.plan.Finish.{Finish}
use Rattle.nk_plan.specs.Accepted.{Accepted, IsRedirect, last_of, pieces_of}
use Rattle.nk_plan.specs.Plan.{hop_at, hop_pieces, pieces_at}
use Rattle.nk_plan.specs.Parent.{ParentState, fetch_body, fetch_piece}
use Rattle.nk_base.specs.declared.status.Status.{Status}
use Rattle.nk_plan.specs.declared.plan.Finish.TheVariants as finish
use Rattle.nk_plan.specs.declared.step.Phase.{Phase}
use Rattle.nk_plan.specs.declared.step.Phase.TheVariants.{Body}
use Rattle.nk_plan.specs.Parent.{offset_of}
use Rattle.nk_flow.specs.Credit.{Credit}
use Rattle.nk_redirect.specs.Asking.{Asking}
use Rattle.nk_source.specs.Source.{Source, given, end_of}
use Rattle.nk_source.specs.declared.source.Next.TheVariants as next
use Rattle.nk_parent.specs.Views.{LoadView}
use Rattle.nk_parent.specs.Load.{IsResponse, IsBody, IsPlace, IsLoad, finish_of}

-- all hops but the last are redirects
leads : (c : ChannelPlan) (h : ℕ) (x : Hop) → Accepted c → hop_at c h ≡ Some x → h + 1 < length c.hops → IsRedirect x
leads c h x a e w =
    let n : ℕ = length c.hops - 1 in
    let within : h < length (take n c.hops) = omega (arith, length-take n c.hops) in
    let before : h < n = omega arith in
    let same : get_or (take n c.hops) h x ≡ x = get_or-take n c.hops h x before ∙ get_or_from_slice_get c.hops h x x e in
    subst IsRedirect same (All-get_or IsRedirect (take n c.hops) h x within a.leads)

not_both : (x : Hop) → IsRedirect x → IsResponse (Some x) → ⊥
not_both (hop.Fail s) r b = b
not_both (hop.Redirect code verdict) r b = b
not_both (hop.Response head pieces end trailers) r b = r

last : (c : ChannelPlan) (h : ℕ) (o : Option Hop) → Accepted c → h < length c.hops → hop_at c h ≡ o → IsResponse o → hop_at c h ≡ last_of c.hops
last c h None a w e r = absurd r
last c h (Some x) a w e r =
    elim (cases_lt (h + 1) (length c.hops)) [
      | inl l ↦ absurd (not_both x (leads c h x a e l) r)
      | inr g ↦ ap (λ i. slice_get c.hops i) (omega (arith, g, w))
    ]

-- a response is the last hop
response_last : (c : ChannelPlan) (h : ℕ) → Accepted c → h < length c.hops → IsResponse (hop_at c h) → hop_at c h ≡ last_of c.hops
response_last c h a w r = last c h (hop_at c h) a w refl r

goes_on : (c : ChannelPlan) (s : ParentState) (o : Option Hop) (ps : List (List ℕ)) (f : Finish) → ps ≡ pieces_of o → f ≡ finish_of o → IsResponse o
    → fetch_body c s None o ≡ fetch_piece c s ps f (slice_get ps s.piece)
goes_on c s None ps f p e r = absurd r
goes_on c s (Some (hop.Fail st)) ps f p e r = absurd r
goes_on c s (Some (hop.Redirect code verdict)) ps f p e r = absurd r
goes_on c s (Some (hop.Response head pieces end trailers)) ps f p e r = rw (p, e) refl

same_pieces : (o : Option Hop) → IsResponse o → hop_pieces o ≡ pieces_of o
same_pieces None r = absurd r
same_pieces (Some (hop.Fail st)) r = absurd r
same_pieces (Some (hop.Redirect code verdict)) r = absurd r
same_pieces (Some (hop.Response head pieces end trailers)) r = refl

-- behind a start that has not failed the source of the load's body goes on
pub body_here : (c : ChannelPlan) (s : ParentState) (body : Source) → Accepted c → IsBody c body → s.hop < length c.hops → IsResponse (hop_at c s.hop)
    → fetch_body c s None (hop_at c s.hop) ≡ fetch_piece c s body.pieces body.finish (slice_get body.pieces s.piece)
body_here c s body a b w r =
    let e : hop_at c s.hop ≡ last_of c.hops = response_last c s.hop a w r in
    goes_on c s (hop_at c s.hop) body.pieces body.finish (b.pieces ∙ ap pieces_of (sym e)) (b.finish ∙ ap finish_of (sym e)) r

pub pieces_here : (c : ChannelPlan) (h : ℕ) (body : Source) → Accepted c → IsBody c body → h < length c.hops → IsResponse (hop_at c h)
    → pieces_at c h ≡ body.pieces
pieces_here c h body a b w r = same_pieces (hop_at c h) r ∙ (ap pieces_of (response_last c h a w r) ∙ sym b.pieces)

-- a load that sends its body
pub record Here (c : ChannelPlan) (s : ParentState) (body : Source) : Type 0 where
  pub accepted : Accepted c
  pub source : IsBody c body
  pub within : s.hop < length c.hops
  pub response : IsResponse (hop_at c s.hop)
  pub place : body.next ≡ s.piece

place_body : (p : Phase) (h : Option Hop) (n : ℕ) (a : Asking) (k : Option Status) → IsPlace p h n a k → p ≡ Body → k ≡ None → IsResponse h
place_body p h n a k place e f = (subst (λ x. IsPlace x h n a k) e place) f

pub here_of : (v : LoadView) (c : ChannelPlan) (s : ParentState) (alloc : Global) (room : ℕ) (a : Asking) (w : Credit) (body : Source)
    → record { plan = c; state = s; alloc = alloc; room = room } ≡ v
    → IsLoad c s.phase s.hop a s.kept w body → body.next ≡ s.piece → v.state.phase ≡ Body → v.state.kept ≡ None → Here v.plan v.state body
here_of v c s alloc room a w body is l e p k =
    subst (λ (x : LoadView). Here x.plan x.state body) is (record {
      accepted = l.accepted;
      source = l.same_body;
      within = l.within;
      response = place_body s.phase (hop_at c s.hop) s.hop a s.kept l.place (ap (λ (x : LoadView). x.state.phase) is ∙ p) (ap (λ (x : LoadView). x.state.kept) is ∙ k);
      place = e;
    })

-- what a source gives, and where it stands

pub gives_piece : (b : Source) (o : Option (List ℕ)) (offset : ℕ) (p : List ℕ) → given b o ≡ next.Piece offset p → (o ≡ Some p) × (offset ≡ offset_of b.pieces b.next)
gives_piece b (Some x) offset p e = (cc, cc)
gives_piece b None offset p e = elim b.finish as (λ f. end_of f ≡ next.Piece offset p → (None ≡ Some p) × (offset ≡ offset_of b.pieces b.next)) [ finish.Good ↦ λ x. absurd (cc) | finish.Fail s ↦ λ x. absurd (cc) ] e

pub ends_well : (b : Source) (f : Finish) (o : Option (List ℕ)) → b.finish ≡ f → given b o ≡ next.EndOk → (o ≡ None) × (b.finish ≡ finish.Good)
ends_well b f (Some x) h e = absurd (cc)
ends_well b finish.Good None h e = (refl, h)
ends_well b (finish.Fail s) None h e = let x : end_of (finish.Fail s) ≡ next.EndOk = subst (λ y. end_of y ≡ next.EndOk) h e in absurd (cc)

pub ends_badly : (b : Source) (f : Finish) (o : Option (List ℕ)) (s : Status) → b.finish ≡ f → given b o ≡ next.EndFail s → (o ≡ None) × (b.finish ≡ finish.Fail s)
ends_badly b f (Some x) s h e = absurd (cc)
ends_badly b finish.Good None s h e = let x : end_of finish.Good ≡ next.EndFail s = subst (λ y. end_of y ≡ next.EndFail s) h e in absurd (cc)
ends_badly b (finish.Fail t) None s h e =
    let x : end_of (finish.Fail t) ≡ next.EndFail s = subst (λ y. end_of y ≡ next.EndFail s) h e in
    let y : t ≡ s = cc in (refl, h ∙ ap (λ z. finish.Fail z) y)
