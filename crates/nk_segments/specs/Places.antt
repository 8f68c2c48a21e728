-- The words on places, passed on from the chain to those that stand on the segments. Declares nothing.
pub use Rattle.nk_chain.specs.declared.Place.{Place}
pub use Rattle.nk_chain.specs.Chain.{first_place, item_at, place_after, IsLive, PlacesDiffer}
