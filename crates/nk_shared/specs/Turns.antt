-- What one turn of a mux does. This project's own.
use Rattle.std.specs.Prelude.{◌≡◌, ◌≢◌, ◌<◌, ℕ, List, length, Some, slice_get}
use Rattle.nk_lane.specs.declared.ends.SendEnd.{SendEnd}
use Rattle.nk_lane.specs.declared.ends.TakeEnd.{TakeEnd}
use Rattle.nk_lane.specs.Ends.{taken_from, take_capacity, left_known, SameTakeEnd}
use Rattle.nk_shared.specs.declared.tagged.Tagged.{Tagged}
use Rattle.nk_shared.specs.declared.tagged.Tags.{Tags}
use Rattle.nk_base.specs.declared.status.Moved.{Moved}
use Rattle.nk_base.specs.declared.status.Moved.TheVariants.{Did}
use Rattle.nk_shared.specs.Moves.{MovedBy}

module _ {P : Type 0} {b : _} where
  -- the i-th end and its id made this move, and every other end stays
  pub record TurnedBy (moved : Moved) (i : ℕ) (ids : List ℕ) (ends ends' : List (TakeEnd (List ℕ) P b)) (out out' : SendEnd Tagged (Tags P)) : Type 0 where
    pub id : ℕ
    pub before : TakeEnd (List ℕ) P b
    pub after : TakeEnd (List ℕ) P b
    pub id_at : slice_get ids i ≡ Some id
    pub was : slice_get ends i ≡ Some before
    pub is_now : slice_get ends' i ≡ Some after
    pub moved_by : MovedBy moved id before after out out'
    -- a frame that the end knew of, and may give, is moved
    pub known : 0 < length (left_known before) → length (taken_from before) < take_capacity before → moved ≡ Did
    pub same_end : SameTakeEnd before after
    pub others : (j : ℕ) → j ≢ i → slice_get ends' j ≡ slice_get ends j
