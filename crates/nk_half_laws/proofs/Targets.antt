-- Targets: two that are the same are equal, others have numbers of their own, and which of them have a posted number.
use Rattle.std.proofs.Common.{ℕ, ◌≡◌, ◌≤◌, ◌⊎◌, inl, inr, refl, ap, Bool, true, false, ◌&&◌, nat_le, ◌==◌, arith}
use Rattle.std.proofs.lemmas.Bool.{eqb-true, eq-eqb}
use Rattle.std.proofs.lemmas.Bool.Decides.{nat_tests}
use Rattle.nk_base.specs.declared.status.Target.{Target}
use Rattle.nk_base.specs.declared.status.Target.TheVariants as target
use Rattle.nk_base.specs.Queue.{same_target, target_number}
use Rattle.nk_plan.specs.Enabled.{IsTried}

pub same_self : (t : Target) → same_target t t ≡ true
same_self target.Main = refl
same_self (target.Worker w) = eq-eqb w w refl
same_self target.Back = refl

pub same_is : (t u : Target) → same_target t u ≡ true → t ≡ u
same_is target.Main target.Main e = refl
same_is target.Main (target.Worker w) e = cc
same_is target.Main target.Back e = cc
same_is (target.Worker v) target.Main e = cc
same_is (target.Worker v) (target.Worker w) e = ap target.Worker (eqb-true v w e)
same_is (target.Worker v) target.Back e = cc
same_is target.Back target.Main e = cc
same_is target.Back (target.Worker w) e = cc
same_is target.Back target.Back e = refl

pub worker_number : (w : ℕ) → 1 ≤ w → w ≤ 16 → target_number (target.Worker w) ≡ w
worker_number w a b = let e : (nat_le 1 w && nat_le w 16) ≡ true = grind (arith, nat_tests) in rw e refl

by_test : (w : ℕ) (b : Bool) → (nat_le 1 w && nat_le w 16) ≡ b → ((1 ≤ w) × (w ≤ 16)) ⊎ ((nat_le 1 w && nat_le w 16) ≡ false)
by_test w true e = inl (grind (arith, nat_tests), grind (arith, nat_tests))
by_test w false e = inr e

in_or_out : (w : ℕ) → ((1 ≤ w) × (w ≤ 16)) ⊎ ((nat_le 1 w && nat_le w 16) ≡ false)
in_or_out w = by_test w (nat_le 1 w && nat_le w 16) refl

past_worker : (w : ℕ) → ((1 ≤ w) × (w ≤ 16)) ⊎ ((nat_le 1 w && nat_le w 16) ≡ false)
    → IsTried (target.Worker w) ⊎ (17 ≤ target_number (target.Worker w))
past_worker w (inl r) = inl r
past_worker w (inr e) = inr (rw e (omega arith))

-- a target that a drain does not try has a number behind those of the workers
pub tried_or_past : (t : Target) → IsTried t ⊎ (17 ≤ target_number t)
tried_or_past target.Main = inl tt
tried_or_past (target.Worker w) = past_worker w (in_or_out w)
tried_or_past target.Back = inr (omega arith)

-- Targets that are not the same have numbers of their own, but where they are workers outside 1 to 16

abbrev Numbered : ℕ → Type 0
Numbered w = ((target_number (target.Worker w) ≡ w) × (1 ≤ w) × (w ≤ 16)) ⊎ (target_number (target.Worker w) ≡ 18)

numbered_by : (w : ℕ) (b : Bool) → (nat_le 1 w && nat_le w 16) ≡ b → Numbered w
numbered_by w true e = inl (rw e refl, grind (arith, nat_tests), grind (arith, nat_tests))
numbered_by w false e = inr (rw e refl)

numbered : (w : ℕ) → Numbered w
numbered w = numbered_by w (nat_le 1 w && nat_le w 16) refl

pub apart : (t u : Target) → same_target t u ≡ false → target_number t ≡ target_number u → 18 ≤ target_number t
apart target.Main target.Main e n = cc
apart target.Main (target.Worker w) e n = elim (numbered w) [ inl p ↦ absurd (omega arith) | inr p ↦ absurd (omega arith) ]
apart target.Main target.Back e n = absurd (omega arith)
apart (target.Worker v) target.Main e n = elim (numbered v) [ inl p ↦ absurd (omega arith) | inr p ↦ absurd (omega arith) ]
apart (target.Worker v) (target.Worker w) e n = elim (numbered v) [
  | inl p ↦ elim (numbered w) [
    | inl q ↦ let x : v ≡ w = omega arith in let y : (v == w) ≡ true = eq-eqb v w x in absurd (cc)
    | inr q ↦ absurd (omega arith)
  ]
  | inr p ↦ omega arith
]
apart (target.Worker v) target.Back e n = elim (numbered v) [ inl p ↦ absurd (omega arith) | inr p ↦ absurd (omega arith) ]
apart target.Back target.Main e n = absurd (omega arith)
apart target.Back (target.Worker w) e n = elim (numbered w) [ inl p ↦ absurd (omega arith) | inr p ↦ absurd (omega arith) ]
apart target.Back target.Back e n = cc
