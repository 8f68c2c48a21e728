-- What stands behind a prefix.
use Rattle.std.proofs.Common.{◌≡◌, ◌≢◌, ℕ, List, [], ◌∷◌, ◌++◌, Option, Some, None, MatchOption, IfSome, Bor, sym, ap, ◌∙◌}
use Rattle.std.specs.Option.{option_copied}

cancel : (xs ys zs : List ℕ) → xs ++ ys ≡ xs ++ zs → ys ≡ zs
cancel [] ys zs e = e
cancel (x ∷ xs) ys zs e = cancel xs ys zs (let tail : xs ++ ys ≡ xs ++ zs = cc in tail)

pub found : (text prefix : List ℕ) (r : Option (Bor (List ℕ))) → MatchOption r ((rest : List ℕ) → text ≢ prefix ++ rest) (λ x. text ≡ prefix ++ x.now) → IfSome r (λ x. text ≡ prefix ++ x.now)
found text prefix None m = tt
found text prefix (Some x) m = m

pub each : (text prefix : List ℕ) (r : Option (Bor (List ℕ))) → MatchOption r ((rest : List ℕ) → text ≢ prefix ++ rest) (λ x. text ≡ prefix ++ x.now) → (rest : List ℕ) → text ≡ prefix ++ rest → option_copied r ≡ Some rest
each text prefix None m rest e = absurd (m rest e)
each text prefix (Some x) m rest e = ap Some (cancel prefix x.now rest (sym m ∙ e))
