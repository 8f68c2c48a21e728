-- What a contract sees of a `Chain`: its items in order, each with the place that it keeps while it
-- is live. This project's own.
use Rattle.std.specs.Prelude.{◌≡◌, ℕ, ◌+◌, ◌==◌, List, [], ◌∷◌, Option, Some, None, IsSome, if◌then◌else◌, map}
use Rattle.nk_chain.specs.declared.Place.{Place}

-- the items in order with their places, and how many pushes need no memory
pub record Chain (T : Type 0) : Type 0 where
  pub items : List (Place × T)
  pub spare : ℕ

module _ {T : Type 0} where
  -- the place of the first item
  abbrev pub first_place : List (Place × T) → Option Place
  first_place [] = None
  first_place (e ∷ rest) = Some e.0

  -- the item that is live at a place
  abbrev pub item_at : List (Place × T) → Place → Option T
  item_at [] place = None
  item_at (e ∷ rest) place = if e.0.0 == place.0 then Some e.1 else item_at rest place

  -- an item is live at the place
  abbrev pub IsLive : List (Place × T) → Place → Type 0
  IsLive items place = IsSome (item_at items place)

  -- the place of the item behind the one at a place
  abbrev pub place_after : List (Place × T) → Place → Option Place
  place_after [] place = None
  place_after (e ∷ rest) place = if e.0.0 == place.0 then first_place rest else place_after rest place

  -- the same items at the same places, but this one at this place
  abbrev pub with_item : List (Place × T) → Place → T → List (Place × T)
  with_item [] place item = []
  with_item (e ∷ rest) place item =
      if e.0.0 == place.0 then (e.0, item) ∷ rest else e ∷ with_item rest place item

  -- no two items have one place
  abbrev pub PlacesDiffer : List (Place × T) → Type 0
  PlacesDiffer [] = Unit {0}
  PlacesDiffer (e ∷ rest) = (item_at rest e.0 ≡ None) × PlacesDiffer rest

  -- the items in order, without their places
  abbrev pub items_of : List (Place × T) → List T
  items_of items = map (λ e. e.1) items

  -- by the answer: the first item is taken out, and every other keeps its place; or there is none
  abbrev pub PopsFront : Chain T → Option T → Chain T → Type 0
  PopsFront old (Some item) new =
      (place : Place) × (old.items ≡ (place, item) ∷ new.items) × (new.spare ≡ old.spare + 1)
  PopsFront old None new = (old.items ≡ []) × (new ≡ old)
