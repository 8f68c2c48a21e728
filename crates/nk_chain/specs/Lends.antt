-- What a `Chain` ends as, where a `&mut` to one of its items is returned.
use Rattle.std.specs.Borrow.{Lends, Fml, RattleType, MutBor}
use Rattle.nk_chain.specs.declared.Place.{Place}
use Rattle.nk_chain.specs.Chain.{Chain, with_item}
use Rattle.nk_chain.specs.contracts.Chain.{the_row}

module _ (T : RattleType) (chain : MutBor (Chain T.Denot)) (place : Place) where
  -- once the borrow r ends, the place has the last item written through r
  abbrev pub lends_item : MutBor T.Denot → Fml
  lends_item r = Lends (the_row T) T chain r (λ item. record chain.now { items = with_item chain.now.items place item })
