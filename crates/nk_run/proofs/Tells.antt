use Rattle.std.proofs.Common.{◌≡◌, ℕ, List, Result, Ok, Err, IfOk, IfErr, Vec, Global, subst, inl, inr}
use Rattle.nk_run.specs.declared.failure.Failure.TheVariants as failure
use Rattle.nk_run.specs.Failures.{TellsText, line_of}

-- A line was told, or that memory was wanting for it
pub told_text : {E : Type 0} (r : Result (Vec ℕ Global) E) (expected status : ℕ) (text : List ℕ) (Tells : List ℕ → Type 0) → IfOk r (λ t. t.items ≡ text)
    → IfOk r (λ t. (status ≡ expected) × Tells t.items) → IfErr r (λ e. (status ≡ 5) × Tells (line_of failure.Memory)) → TellsText expected text status Tells
told_text (Ok t) expected status text Tells is told wanting = inl (told.0, subst Tells is told.1)
told_text (Err e) expected status text Tells is told wanting = inr wanting
