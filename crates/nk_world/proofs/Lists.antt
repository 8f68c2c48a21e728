-- Small lemmas on lists.
use Rattle.std.proofs.Common.{◌≡◌, refl, sym, ◌∙◌, ap, List, [], ◌∷◌, length, drop, slice_get, None, append-nil}
use Rattle.std.proofs.Math.Seq.{drop-append_seam}

pub none_there : {A : Type 0} (xs : List A) → None ≡ slice_get xs 0 → xs ≡ []
none_there [] e = refl
none_there (y ∷ ys) e = cc

-- nothing is behind all of a list
pub none_behind : {A : Type 0} (xs : List A) → drop (length xs) xs ≡ []
none_behind xs = ap (λ ys. drop (length xs) ys) (sym (append-nil xs)) ∙ drop-append_seam xs []
