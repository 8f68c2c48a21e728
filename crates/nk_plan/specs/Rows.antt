-- How the parts of a plan are looked at: row by row, in the order of the refusals. This project's own.
use Rattle.std.specs.Prelude.{ℕ, zero, suc, ◌-◌, ◌<◌, ◌≤◌, length, take, All, IsSomeAnd}
use Rattle.nk_plan.specs.declared.accept.Parts.{Parts}
use Rattle.nk_plan.specs.declared.plan.PlanError.{PlanError}
use Rattle.nk_plan.specs.Accepted.{plan_of, IsRedirect, IsGoodHop, last_of, body_of, body_size, IsGoodListener, IsGoodReaction, IsGoodControl, IsGoodWindow, Refuses, row_of}
use Rattle.nk_plan.specs.PlanParts.{PlanParts}

-- the plan that there would be with these parts
abbrev pub parts_of : Parts → PlanParts
parts_of p = plan_of p.hops p.listener p.retargetable p.reactions p.controls p.window p.closed p.start

-- what row r of the refusals asks of a plan that it lets pass
abbrev pub Passes : PlanParts → ℕ → Type 0
Passes c zero = 0 < length c.hops
Passes c (suc zero) = length c.hops ≤ 32
Passes c (suc (suc zero)) = IsSomeAnd (last_of c.hops) (λ h. ¬ IsRedirect h)
Passes c (suc (suc (suc zero))) = All IsRedirect (take (length c.hops - 1) c.hops)
Passes c (suc (suc (suc (suc zero)))) = All IsGoodHop c.hops
Passes c (suc (suc (suc (suc (suc zero))))) = length (body_of c) ≤ 65536
Passes c (suc (suc (suc (suc (suc (suc zero)))))) = body_size c ≤ 67108864
Passes c (suc (suc (suc (suc (suc (suc (suc zero))))))) = IsGoodListener c.listener (body_size c)
Passes c (suc (suc (suc (suc (suc (suc (suc (suc zero)))))))) = (length c.reactions ≤ 64) × All IsGoodReaction c.reactions
Passes c (suc (suc (suc (suc (suc (suc (suc (suc (suc zero))))))))) =
    (length c.controls ≤ 64) × All (IsGoodControl c.closed) c.controls
Passes c (suc (suc (suc (suc (suc (suc (suc (suc (suc (suc r)))))))))) = IsGoodWindow c.window

-- the plan passes the rows from a on, up to b
abbrev pub PassesRows : PlanParts → ℕ → ℕ → Type 0
PassesRows c a b = (r : ℕ) → a ≤ r → r < b → Passes c r

-- the first refusal from row a on
pub record IsRefusedFrom (c : PlanParts) (a : ℕ) (e : PlanError) : Type 0 where
  pub from : a ≤ row_of e
  pub here : Refuses e c
  pub before : PassesRows c a (row_of e)
