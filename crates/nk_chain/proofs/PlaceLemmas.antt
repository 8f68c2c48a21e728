-- Lemmas on lists of items with places: what stays at its place.
use Rattle.std.proofs.Common.{◌≡◌, ◌≢◌, ℕ, List, [], ◌∷◌, ◌++◌, length, Some, None, refl, sym, ap, ◌∙◌, arith}
use Rattle.std.proofs.lemmas.Bool.Decides.{nat_tests}
use Rattle.nk_chain.specs.declared.Place.{Place}
use Rattle.nk_chain.specs.Chain.{first_place, item_at, place_after, with_item, IsLive}

-- a place is its key
pub place_of_key : (p q : Place) → p.0 ≡ q.0 → p ≡ q
place_of_key p q same = ap (λ (key : ℕ). let place : Place = record { 0 = key } in place) same

module _ {T : Type 0} where
  pub item_at-own : (e : Place × T) (rest : List (Place × T)) → item_at (e ∷ rest) e.0 ≡ Some e.1
  item_at-own e rest = grind (arith, nat_tests)

  pub item_at-other : (e : Place × T) (rest : List (Place × T)) (place : Place) → e.0.0 ≢ place.0 → item_at (e ∷ rest) place ≡ item_at rest place
  item_at-other e rest place differs = grind (arith, nat_tests)

  pub place_after-own : (e : Place × T) (rest : List (Place × T)) → place_after (e ∷ rest) e.0 ≡ first_place rest
  place_after-own e rest = grind (arith, nat_tests)

  pub place_after-other : (e : Place × T) (rest : List (Place × T)) (place : Place) → e.0.0 ≢ place.0 → place_after (e ∷ rest) place ≡ place_after rest place
  place_after-other e rest place differs = grind (arith, nat_tests)

  -- a place with no item is not the first one's
  pub absent_differs : (e : Place × T) (rest : List (Place × T)) (place : Place) → item_at (e ∷ rest) place ≡ None → e.0.0 ≢ place.0
  absent_differs e rest place absent = grind (arith, nat_tests)

  pub absent_later : (e : Place × T) (rest : List (Place × T)) (place : Place) → item_at (e ∷ rest) place ≡ None → item_at rest place ≡ None
  absent_later e rest place absent = grind (arith, nat_tests)

  pub live_later : (e : Place × T) (rest : List (Place × T)) (place : Place) → IsLive rest place → IsLive (e ∷ rest) place
  live_later e rest place live = grind (arith, nat_tests)

  -- a live place and one with no item differ
  pub live_differs : (items : List (Place × T)) (live absent : Place) → IsLive items live → item_at items absent ≡ None → live.0 ≢ absent.0
  live_differs items live absent is_live none same =
      let there = rw (place_of_key live absent same, none) at is_live in absurd (cc)

  -- no other place gets an item
  pub absent_behind : (items : List (Place × T)) (new : Place × T) (place : Place) → item_at items place ≡ None → place.0 ≢ new.0.0 → item_at (items ++ new ∷ []) place ≡ None
  absent_behind [] new place absent differs = item_at-other new [] place (λ same. differs (sym same))
  absent_behind (e ∷ rest) new place absent differs =
      item_at-other e (rest ++ new ∷ []) place (absent_differs e rest place absent)
      ∙ absent_behind rest new place (absent_later e rest place absent) differs

  -- a write at a place changes no other item, no place and no order
  pub item_at-with_item_elsewhere : (items : List (Place × T)) (place other : Place) (item : T) → place.0 ≢ other.0 → item_at (with_item items place item) other ≡ item_at items other
  item_at-with_item_elsewhere [] place other item differs = refl
  item_at-with_item_elsewhere (e ∷ rest) place other item differs = grind (arith, nat_tests, item_at-with_item_elsewhere rest place other item)

  pub first_place-with_item : (items : List (Place × T)) (place : Place) (item : T) → first_place (with_item items place item) ≡ first_place items
  first_place-with_item [] place item = refl
  first_place-with_item (e ∷ rest) place item = grind (arith, nat_tests)

  pub length-with_item : (items : List (Place × T)) (place : Place) (item : T) → length (with_item items place item) ≡ length items
  length-with_item [] place item = refl
  length-with_item (e ∷ rest) place item = grind (arith, nat_tests, length-with_item rest place item)
