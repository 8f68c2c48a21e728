-- The hops that a hold has released. This project's own.
use Rattle.std.specs.Prelude.{ℕ, ◌≡◌, ◌≤◌, true, false, nat_le, List, [], ◌∷◌}
use Rattle.std.specs.List.{list_all}
use Rattle.nk_base.specs.Hold.{is_among}

-- each hop is there once
abbrev pub AreApart : List ℕ → Type 0
AreApart [] = Unit {0}
AreApart (x ∷ xs) = (is_among xs x ≡ false) × AreApart xs

-- what the type keeps: at most 33 hops, each there once, and none above 32
pub record AreHops (count : ℕ) (hops : List ℕ) : Type 0 where
  pub fits : count ≤ 33
  pub apart : AreApart hops
  pub small : list_all (λ h. nat_le h 32) hops ≡ true
