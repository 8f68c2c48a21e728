-- What a desk ends as, where a `&mut` to one of its items is returned. This project's own.
use Rattle.std.specs.Prelude.{ℕ, Result}
use Rattle.std.specs.Borrow.{LendsSoOk, Fml, RattleType, MutBor}
use Rattle.nk_shared.specs.declared.desk.Desk.{Desk}
use Rattle.nk_shared.specs.Live.{Writes, SameDesk}
use Rattle.nk_shared.specs.contracts.desk.Desk.{the_row}

-- the desk ends with the last value behind r under its id, and stays where the id is not live
module _ (T : RattleType) {E : Type 0} where
  abbrev pub LendsItem : MutBor (Desk T.Denot) → ℕ → Result (MutBor T.Denot) E → Fml
  LendsItem desk id r = LendsSoOk (the_row T) T desk r (λ n w. Writes desk.now n id w) (λ n. SameDesk desk.now n)
