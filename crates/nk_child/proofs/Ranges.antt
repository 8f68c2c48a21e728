-- What is in range, of a plan that is accepted.
use Rattle.std.proofs.Common.{ℕ, ◌≡◌, subst, List, true, slice_get, Some, All}
use Rattle.std.proofs.lemmas.Bool.{eqb-true}
use Rattle.std.proofs.lemmas.Option.{slice_get_within, get_or_from_slice_get}
use Rattle.std.proofs.lemmas.List.Elements.{All-get_or}
use Rattle.nk_base.specs.declared.status.Target.{Target}
use Rattle.nk_base.specs.declared.status.Target.TheVariants as target
use Rattle.nk_base.specs.Queue.{IsTarget, same_target}

pub all_at : {A : Type 0} (P : A → Type 0) (xs : List A) (i : ℕ) (x : A) → slice_get xs i ≡ Some x → All P xs → P x
all_at P xs i x e h = subst P (get_or_from_slice_get xs i x x e) (All-get_or P xs i x (slice_get_within xs i x e) h)

-- what is the same as a target that is one is one
pub same_is_target : (t u : Target) → IsTarget t → same_target t u ≡ true → IsTarget u
same_is_target target.Main target.Main h e = h
same_is_target target.Main (target.Worker w) h e = cc
same_is_target target.Main target.Back h e = cc
same_is_target (target.Worker v) target.Main h e = cc
same_is_target (target.Worker v) (target.Worker w) h e = subst (λ n. IsTarget (target.Worker n)) (eqb-true v w e) h
same_is_target (target.Worker v) target.Back h e = cc
same_is_target target.Back target.Main h e = cc
same_is_target target.Back (target.Worker w) h e = cc
same_is_target target.Back target.Back h e = h
