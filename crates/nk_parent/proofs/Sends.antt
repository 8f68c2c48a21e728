-- The rows of the parent's table behind the start.
use Rattle.std.proofs.Common.{ℕ, suc, ◌≡◌, ◌++◌, ◌∷◌, [], refl, sym, ◌∙◌, subst, ap, List, slice_get, Option, Some, None, Bool, true, false, not, ◌||◌, if◌then◌else◌, is_some, int_lt, pos, ◌-ℤ◌, ◌-◌, length}
use Rattle.nk_base.specs.declared.status.Status.{Status}
use Rattle.nk_base.specs.declared.field.Field.{Field}
use Rattle.nk_base.specs.declared.message.BackMsg.TheVariants as sent
use Rattle.nk_base.specs.Status.{ok, is_failure}
use Rattle.nk_plan.specs.declared.journal.ParentEntry.TheVariants as entry
use Rattle.nk_plan.specs.declared.plan.ChannelPlan.{ChannelPlan}
use Rattle.nk_plan.specs.declared.plan.Hop.{Hop}
use Rattle.nk_plan.specs.declared.plan.Hop.TheVariants as hop
use Rattle.nk_plan.specs.declared.plan.Finish.TheVariants as finish
use Rattle.nk_plan.specs.declared.step.Phase.TheVariants as phase
use Rattle.nk_plan.specs.Accepted.{IsGoodHop, last_of, body_of}
use Rattle.nk_plan.specs.Plan.{hop_at, trailers_at, stop_trailers}
use Rattle.nk_plan.specs.Enabled.{body_enabled}
use Rattle.nk_plan.specs.Parent.{ParentState, fetch_body, fetch_piece, fetch_finish, offset_of}
use Rattle.nk_source.specs.Source.{Source, next_of}
use Rattle.nk_source.specs.declared.source.Next.TheVariants as next
use Rattle.nk_parent.specs.Load.{finish_of}
use Rattle.nk_parent.proofs.Plans.{good_hop}
use Rattle.nk_parent.proofs.Bodies.{Here, body_here, gives_piece, ends_well, ends_badly}

-- the row of the body, by what the source stands at
row : (c : ChannelPlan) (s : ParentState) (b : Source) (o : Option (List ℕ)) → Here c s b → slice_get b.pieces b.next ≡ o
    → fetch_body c s None (hop_at c s.hop) ≡ fetch_piece c s b.pieces b.finish o
row c s b o h e =
    body_here c s b h.accepted h.source h.within h.response
    ∙ ap (λ x. fetch_piece c s b.pieces b.finish x) (ap (λ i. slice_get b.pieces i) (sym h.place) ∙ e)

pub piece_row : (c : ChannelPlan) (s : ParentState) (b : Source) (offset : ℕ) (p : List ℕ) → Here c s b → s.phase ≡ phase.Body → int_lt (pos 0) s.credit ≡ true
    → next_of b ≡ next.Piece offset p
    → record s {
      credit = s.credit -ℤ pos (length p);
      piece = suc s.piece;
      journal = s.journal ++ entry.SentBack (sent.Bytes s.hop ok offset p) ∷ [];
    } ≡ fetch_body c s None (hop_at c s.hop)
piece_row c s b offset p h ph credit e =
    let g = gives_piece b (slice_get b.pieces b.next) offset p e in
    let at : offset ≡ offset_of b.pieces s.piece = g.1 ∙ ap (λ i. offset_of b.pieces i) h.place in
    let sends : ParentState = record s { phase = phase.Body; credit = s.credit -ℤ pos (length p); piece = suc s.piece; journal = s.journal ++ entry.SentBack (sent.Bytes s.hop ok (offset_of b.pieces s.piece) p) ∷ [] } in
    ap (λ x. record s { phase = x; credit = s.credit -ℤ pos (length p); piece = suc s.piece; journal = s.journal ++ entry.SentBack (sent.Bytes s.hop ok offset p) ∷ [] }) ph
    ∙ (ap (λ x. record s { phase = phase.Body; credit = s.credit -ℤ pos (length p); piece = suc s.piece; journal = s.journal ++ entry.SentBack (sent.Bytes s.hop ok x p) ∷ [] }) at
    ∙ (sym (ap (λ (x : _). if x then sends else s) credit) ∙ sym (row c s b (Some p) h g.0)))

pub end_row : (c : ChannelPlan) (s : ParentState) (b : Source) (trailers : List Field) → Here c s b → next_of b ≡ next.EndOk → trailers ≡ trailers_at c s.hop
    → record s { phase = phase.Done; journal = s.journal ++ entry.SentBack (sent.Stop s.hop ok trailers) ∷ [] } ≡ fetch_body c s None (hop_at c s.hop)
end_row c s b trailers h e t =
    let g = ends_well b b.finish (slice_get b.pieces b.next) refl e in
    ap (λ x. record s { phase = phase.Done; journal = s.journal ++ entry.SentBack (sent.Stop s.hop ok x) ∷ [] }) t
    ∙ (sym (ap (λ x. fetch_finish c s x) g.1) ∙ sym (row c s b None h g.0))

failing : (o : Option Hop) (st : Status) → ((x : Hop) → o ≡ Some x → IsGoodHop x) → finish_of o ≡ finish.Fail st → is_failure st ≡ true
failing None st f e = absurd (cc)
failing (Some (hop.Fail s)) st f e = absurd (cc)
failing (Some (hop.Redirect code verdict)) st f e = absurd (cc)
failing (Some (hop.Response head pieces finish.Good trailers)) st f e = absurd (cc)
failing (Some (hop.Response head pieces (finish.Fail s) trailers)) st f e =
    let same : s ≡ st = cc in subst (λ x. is_failure x ≡ true) same (f (hop.Response head pieces (finish.Fail s) trailers) refl).2.0

-- the status with which a body fails is a failure
pub failing_end : (c : ChannelPlan) (s : ParentState) (b : Source) (st : Status) → Here c s b → next_of b ≡ next.EndFail st → is_failure st ≡ true
failing_end c s b st h e =
    let g = ends_badly b b.finish (slice_get b.pieces b.next) st refl e in
    failing (last_of c.hops) st (λ x k. good_hop c (length c.hops - 1) x h.accepted k) (sym h.source.finish ∙ g.1)

pub fail_row : (c : ChannelPlan) (s : ParentState) (b : Source) (st : Status) (trailers : List Field) → Here c s b → next_of b ≡ next.EndFail st → trailers ≡ []
    → record s { phase = phase.Done; kept = Some st; journal = s.journal ++ entry.SentBack (sent.Stop s.hop st trailers) ∷ [] } ≡ fetch_body c s None (hop_at c s.hop)
fail_row c s b st trailers h e t =
    let g = ends_badly b b.finish (slice_get b.pieces b.next) st refl e in
    let none : stop_trailers c s.hop st ≡ [] = ap (λ x. if x then [] else trailers_at c s.hop) (failing_end c s b st h e) in
    ap (λ x. record s { phase = phase.Done; kept = Some st; journal = s.journal ++ entry.SentBack (sent.Stop s.hop st x) ∷ [] }) (t ∙ sym none)
    ∙ (sym (ap (λ x. fetch_finish c s x) g.1) ∙ sym (row c s b None h g.0))

-- What is known where a piece does not wait

not_not : (x : Bool) → not (not x) ≡ x
not_not true = refl
not_not false = refl

spent : (o : Option (List ℕ)) (p : List ℕ) (x : Bool) → o ≡ Some p → not (not (is_some o) || x) ≡ false → x ≡ true
spent None p x e f = absurd (cc)
spent (Some q) p x e f = sym (not_not x) ∙ ap not f

-- a piece that does not wait has credit
pub credit_left : (c : ChannelPlan) (s : ParentState) (b : Source) (offset : ℕ) (p : List ℕ) (waits : Bool) → Here c s b → next_of b ≡ next.Piece offset p
    → waits ≡ not (body_enabled s None (body_of c)) → waits ≡ false → int_lt (pos 0) s.credit ≡ true
credit_left c s b offset p waits h g e f =
    let here : not (body_enabled s None b.pieces) ≡ false = ap (λ ps. not (body_enabled s None ps)) h.source.pieces ∙ (sym e ∙ f) in
    let at : slice_get b.pieces s.piece ≡ Some p = ap (λ i. slice_get b.pieces i) (sym h.place) ∙ (gives_piece b (slice_get b.pieces b.next) offset p g).0 in
    spent (slice_get b.pieces s.piece) p (int_lt (pos 0) s.credit) at here
