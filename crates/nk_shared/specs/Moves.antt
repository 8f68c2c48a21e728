-- What one move does. This project's own.
use Rattle.std.specs.Prelude.{◌≡◌, ℕ, List, [], ◌∷◌, ◌++◌}
use Rattle.nk_lane.specs.declared.ends.SendEnd.{SendEnd}
use Rattle.nk_lane.specs.declared.ends.TakeEnd.{TakeEnd}
use Rattle.nk_lane.specs.Ends.{sent_on, taken_from, IsBare}
use Rattle.nk_shared.specs.declared.tagged.Tagged.{Tagged}
use Rattle.nk_shared.specs.declared.tagged.Tags.{Tags}
use Rattle.nk_base.specs.declared.status.Moved.{Moved}
use Rattle.nk_base.specs.declared.status.Moved.TheVariants.{Did, Idle}

module _ {P : Type 0} {b : _} where
  -- one frame went from the taking end to the sending end, under this id
  pub record MovedFrame (id : ℕ) (from from' : TakeEnd (List ℕ) P b) (out out' : SendEnd Tagged (Tags P)) (frame : List ℕ) : Type 0 where
    pub taken : taken_from from' ≡ taken_from from ++ frame ∷ []
    pub sent : sent_on out' ≡ sent_on out ++ (record { id = id; frame = frame }) ∷ []

  -- nothing was taken and nothing sent: the taking end, having looked, knew of none, or has given all that it may
  pub record StoodStill (from from' : TakeEnd (List ℕ) P b) (out out' : SendEnd Tagged (Tags P)) : Type 0 where
    pub taken : taken_from from' ≡ taken_from from
    pub sent : sent_on out' ≡ sent_on out
    pub bare : IsBare from'

  abbrev pub MovedBy : Moved → ℕ → TakeEnd (List ℕ) P b → TakeEnd (List ℕ) P b → SendEnd Tagged (Tags P) → SendEnd Tagged (Tags P) → Type 0
  MovedBy Did id from from' out out' = (frame : List ℕ) × MovedFrame id from from' out out' frame
  MovedBy Idle id from from' out out' = StoodStill from from' out out'
