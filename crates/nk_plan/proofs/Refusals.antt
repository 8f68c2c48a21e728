-- The first refusal, found by going through the rows.
use Rattle.std.proofs.Common.{◌≡◌, ℕ, zero, suc, length, IsSomeAnd, Option, Some, None, ap, subst, arith, inl, inr, sym, Result, Ok, Err, IsErrAnd, IfErr}
use Rattle.std.proofs.lemmas.Bool.{cases_lt}
use Rattle.nk_plan.specs.PlanParts.{PlanParts}
use Rattle.nk_plan.specs.declared.plan.PlanError.{PlanError}
use Rattle.nk_plan.specs.declared.plan.PlanError.TheVariants as error
use Rattle.nk_plan.specs.Accepted.{IsRedirect, IsGoodHop, IsGoodReaction, IsGoodControl, last_of, Refuses, row_of, IsFirstRefusal, Accepted}
use Rattle.nk_plan.specs.Rows.{Passes, PassesRows, IsRefusedFrom}
use Rattle.nk_plan.proofs.First.{none_without, none_before, none_beyond}

not_both : {A : Type 0} (P : A → Type 0) (o : Option A) → IsSomeAnd o (λ x. ¬ P x) → IsSomeAnd o P → ⊥
not_both P None fails holds = holds
not_both P (Some x) fails holds = fails holds

-- a plan that passes a row is refused by none of that row
pub refused_nowhere : (e : PlanError) (c : PlanParts) → Passes c (row_of e) → ¬ Refuses e c
refused_nowhere error.NoHop c pass h = omega (arith, ap length h)
refused_nowhere (error.TooManyHops n) c pass h = omega arith
refused_nowhere error.LastIsRedirect c pass h = not_both IsRedirect (last_of c.hops) pass h
refused_nowhere (error.EarlyEnd i) c pass h = none_before IsRedirect _ c.hops i pass (omega arith) h.0
refused_nowhere (error.BadHop i) c pass h = none_without IsGoodHop c.hops i pass h
refused_nowhere (error.TooManyPieces n) c pass h = omega arith
refused_nowhere (error.TooManyBytes n) c pass h = omega arith
refused_nowhere error.BadListener c pass h = h pass
refused_nowhere (error.BadReaction i) c pass h = none_beyond IsGoodReaction 64 c.reactions i pass.0 pass.1 h
refused_nowhere (error.BadControl i) c pass h = none_beyond (IsGoodControl c.closed) 64 c.controls i pass.0 pass.1 h
refused_nowhere error.BadWindow c pass h = h pass

pub passes_none : (c : PlanParts) → PassesRows c 0 0
passes_none c r from to = absurd (omega (arith, to))

pub passes_one : (c : PlanParts) (r : ℕ) → Passes c r → PassesRows c r (suc r)
passes_one c r pass k from to = let is : r ≡ k = omega arith in subst (Passes c) is pass

-- rows, and those behind them
pub passes_joined : (c : PlanParts) (a b d : ℕ) → PassesRows c a b → PassesRows c b d → PassesRows c a d
passes_joined c a b d first rest r from to =
    elim (cases_lt r b) [ inl before ↦ first r from before | inr behind ↦ rest r behind to ]

-- where all rows before a are passed, the first refusal from row a on is the first of all
pub first_refusal : (c : PlanParts) (a : ℕ) (e : PlanError) → PassesRows c 0 a → IsRefusedFrom c a e → IsFirstRefusal e c
first_refusal c a e first refused = record {
  here = refused.here;
  before = λ earlier to. refused_nowhere earlier c (passes_joined c 0 a (row_of e) first refused.before (row_of earlier) (omega arith) to);
}

pub accepted_passes : (c : PlanParts) → Accepted c → (r : ℕ) → Passes c r
accepted_passes c a zero = a.some_hop
accepted_passes c a (suc zero) = a.few_hops
accepted_passes c a (suc (suc zero)) = a.ends
accepted_passes c a (suc (suc (suc zero))) = a.leads
accepted_passes c a (suc (suc (suc (suc zero)))) = a.hops
accepted_passes c a (suc (suc (suc (suc (suc zero))))) = a.few_pieces
accepted_passes c a (suc (suc (suc (suc (suc (suc zero)))))) = a.few_bytes
accepted_passes c a (suc (suc (suc (suc (suc (suc (suc zero))))))) = a.listener
accepted_passes c a (suc (suc (suc (suc (suc (suc (suc (suc zero)))))))) = (a.few_reactions, a.reactions)
accepted_passes c a (suc (suc (suc (suc (suc (suc (suc (suc (suc zero))))))))) = (a.few_controls, a.controls)
accepted_passes c a (suc (suc (suc (suc (suc (suc (suc (suc (suc (suc r)))))))))) = a.window

-- a plan is accepted only where nothing refuses it
pub accepted_nowhere_refused : (c : PlanParts) → Accepted c → (e : PlanError) → ¬ Refuses e c
accepted_nowhere_refused c a e = refused_nowhere e c (accepted_passes c a (row_of e))

-- the same, of what a `?` hands on
pub refused_answer : (c : PlanParts) (a : ℕ) (e : PlanError) (r : Result (Unit {0}) PlanError) → IsErrAnd r (λ x. x ≡ e) → PassesRows c 0 a → IsRefusedFrom c a e → IfErr r (λ x. IsFirstRefusal x c)
refused_answer c a e (Ok v) is first refused = absurd is
refused_answer c a e (Err x) is first refused = subst (λ y. IsFirstRefusal y c) (sym is) (first_refusal c a e first refused)

-- the same, of a last answer
pub last_refused : (c : PlanParts) (a : ℕ) (r : Result (Unit {0}) PlanError) → PassesRows c 0 a → IfErr r (IsRefusedFrom c a) → IfErr r (λ x. IsFirstRefusal x c)
last_refused c a (Ok v) first refused = tt
last_refused c a (Err x) first refused = first_refusal c a x first refused
