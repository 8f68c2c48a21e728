-- *Projection*: the frames of one id. This project's own.
use Rattle.std.specs.Prelude.{ℕ, List, [], ◌∷◌, nat_eq, cond}
use Rattle.nk_shared.specs.declared.tagged.Tagged.{Tagged}

-- the frames of this id, in order
abbrev pub of : ℕ → List Tagged → List (List ℕ)
of id [] = []
of id (t ∷ ts) = cond (nat_eq t.id id) (t.frame ∷ of id ts) (of id ts)
