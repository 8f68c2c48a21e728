-- Each piece of a sequential trace ends where the pieces before it and itself end, and no hop has more bytes than the body.
use Rattle.std.proofs.Common.{ℕ, suc, ◌≡◌, ◌+◌, ◌≤◌, inl, inr, refl, sym, ap, subst, Bool, List, [], ◌∷◌, length, Option, Some, None, arith}
use Rattle.std.specs.List.{All}
use Rattle.std.specs.Prelude.{sum_by}
use Rattle.std.proofs.lemmas.List.Elements.{All-nil, All-cons}
use Rattle.std.proofs.lemmas.List.Sums.{sum_by-cons}
use Rattle.nk_base.specs.declared.status.Status.{Status}
use Rattle.nk_base.specs.declared.message.Entry.{Entry}
use Rattle.nk_base.specs.declared.message.Entry.TheVariants as shown
use Rattle.nk_plan.specs.declared.plan.ChannelPlan.{ChannelPlan}
use Rattle.nk_plan.specs.declared.plan.Hop.{Hop}
use Rattle.nk_plan.specs.declared.plan.Hop.TheVariants as hop
use Rattle.nk_plan.specs.Accepted.{Accepted, body_of, body_size, pieces_of}
use Rattle.nk_plan.specs.Plan.{hop_at, hop_pieces, pieces_at}
use Rattle.nk_plan.specs.Trace.{Follows, SeqTrace}
use Rattle.nk_half_laws.specs.Offsets.{data_end, OffsetsLaw, BodyLaw}
use Rattle.nk_half_laws.proofs.Tools.{under_or_over}
use Rattle.nk_half_laws.proofs.Plans.{leads, is_last}

-- no hop has more bytes than the body

small_of : (c : ChannelPlan) (h : ℕ) (o : Option Hop) → Accepted c → hop_at c h ≡ o → sum_by length (hop_pieces o) ≤ body_size c
small_of c h None a e = omega arith
small_of c h (Some (hop.Fail s)) a e = omega arith
small_of c h (Some (hop.Redirect code verdict)) a e = omega arith
small_of c h (Some (hop.Response head pieces end trailers)) a e = elim (under_or_over (suc h) (length c.hops)) [
  | inl l ↦ absurd (leads c h (hop.Response head pieces end trailers) a l e)
  | inr l ↦
      let is : body_of c ≡ pieces = ap pieces_of (is_last c h (hop.Response head pieces end trailers) l e) in
      omega (arith, ap (λ ps. sum_by length ps) is)
]

small_pieces : (c : ChannelPlan) (h : ℕ) → Accepted c → sum_by length (pieces_at c h) ≤ body_size c
small_pieces c h a = small_of c h (hop_at c h) a refl

-- what follows from an offset on ends within n, where the pieces from there on do

abbrev Within : ℕ → Entry → Type 0
Within n e = data_end e ≤ n

behind : (c : ChannelPlan) (f : ℕ) (q : Option Status) (o : ℕ) (ps : List (List ℕ)) (t : List Entry) (n : ℕ)
    → o + sum_by length ps ≤ n → Follows c f q o ps t → All (Within n) t
behind c f q o ps [] n l h = All-nil (Within n)
behind c f q o ps (shown.Start code s ∷ t) n l h = absurd h
behind c f q o [] (shown.Bytes b p ∷ t) n l h = absurd h
behind c f q o (next ∷ ps) (shown.Bytes b p ∷ t) n l h =
    let more : sum_by length (next ∷ ps) ≡ length next + sum_by length ps = sum_by-cons length next ps in
    All-cons (Within n) (shown.Bytes b p) t
    (omega (arith, h.0, ap length h.1, more, l))
    (behind c f q (o + length next) ps t n (omega (arith, more, l)) h.2)
behind c f q o [] (shown.Stop s trailers ∷ t) n l h =
    All-cons (Within n) (shown.Stop s trailers) t (omega arith) (subst (λ (u : List Entry). All (Within n) u) (sym h.0) (All-nil (Within n)))
behind c f q o (next ∷ ps) (shown.Stop s trailers ∷ t) n l h =
    All-cons (Within n) (shown.Stop s trailers) t (omega arith) (subst (λ (u : List Entry). All (Within n) u) (sym h.0) (All-nil (Within n)))

ends_by : (c : ChannelPlan) (f : ℕ) (q : Option Status) (x : Bool) (t : List Entry) (n : ℕ)
    → sum_by length (pieces_at c f) ≤ n → SeqTrace c f q x t → All (Within n) t
ends_by c f q x [] n l h = All-nil (Within n)
ends_by c f q x (shown.Start code s ∷ t) n l h =
    All-cons (Within n) (shown.Start code s) t (omega arith) (behind c f q 0 (pieces_at c f) t n (omega (arith, l)) h.2)
ends_by c f q x (shown.Bytes o p ∷ t) n l h = absurd h
ends_by c f q x (shown.Stop s trailers ∷ t) n l h = absurd h

pub within : OffsetsLaw
within c f q x t a h = ends_by c f q x t (body_size c) (small_pieces c f a) h

pub bounded : BodyLaw
bounded c f q x t a h = ends_by c f q x t 67108864 (omega (arith, small_pieces c f a, a.few_bytes)) h
