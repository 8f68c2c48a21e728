use Rattle.std.proofs.Common.{◌≤◌, length, All, refl, subst}
use Rattle.nk_plan.specs.Accepted.{IsGoodControl}
use Rattle.nk_plan.specs.Rows.{parts_of}
use Rattle.nk_plan.proofs.Refusals.{passes_one}
use Rattle.nk_plan.proofs.accept.Parts.check_controls.Goals as goal

pub returns-in-None-clause-ok : goal.returns-in-None-clause-ok
returns-in-None-clause-ok c =
    passes_one (parts_of c.args.self.now) 9 (subst (λ controls. (length controls ≤ 64) × All (IsGoodControl c.args.self.now.closed) controls) c.as_slice.ensures (c.in-None.ensures.few refl, c.in-None.ensures.all refl))
