-- How a `Chain` links its nodes in the slab. No public clause cites this module.
use Rattle.std.specs.Prelude.{◌≡◌, ℕ, zero, suc, ◌+◌, ◌<◌, ◌^◌, List, [], ◌∷◌, length, Option, Some, None}
use Rattle.slab.specs.Slab.{Slab, get, slab_len, HasRoomFor}
use Rattle.nk_chain.specs.declared.Place.{Place}
use Rattle.nk_chain.specs.declared.Node.{Node}
use Rattle.nk_chain.specs.Chain.{first_place, item_at}

module _ {T : Type 0} where
  -- the node's item with its place, and before the items that its link leads to
  abbrev pub node_then : Place → Option (Node T) → (Option Place → List (Place × T)) → List (Place × T)
  node_then place None later = []
  node_then place (Some node) later = (place, node.item) ∷ later node.after

  -- the items that the links lead to from a place on, at most so many
  abbrev pub walk : Slab (Node T) → ℕ → Option Place → List (Place × T)
  walk nodes zero place = []
  walk nodes (suc count) None = []
  walk nodes (suc count) (Some place) = node_then place (get nodes place.0) (walk nodes count)

  -- the items that a chain's links lead to
  abbrev pub listed : Slab (Node T) → Option Place → List (Place × T)
  listed nodes first = walk nodes (slab_len nodes) first

  -- each item has a node at its own place, which names the places before and behind it; `before` is
  -- the place before the first item, and `last` that of the last
  abbrev pub IsLinked : Slab (Node T) → Option Place → List (Place × T) → Option Place → Type 0
  IsLinked nodes before [] last = last ≡ before
  IsLinked nodes before (e ∷ rest) last =
      (item_at rest e.0 ≡ None)
      × (get nodes e.0.0 ≡ Some (record { before = before; after = first_place rest; item = e.1 }))
      × IsLinked nodes (Some e.0) rest last

  -- the nodes are those of these items and no more, and there is room for the spare ones
  pub record IsChain (nodes : Slab (Node T)) (first last : Option Place) (spare : ℕ) (items : List (Place × T)) : Type 0 where
    pub starts : first ≡ first_place items
    pub linked : IsLinked nodes None items last
    pub counted : slab_len nodes ≡ length items
    pub room : HasRoomFor nodes spare
    pub fits : length items + spare < 2 ^ 64
