-- What one turn of a router does. This project's own.
use Rattle.std.specs.Prelude.{◌≡◌, ◌≢◌, ℕ, List, [], ◌∷◌, ◌++◌, ◌<◌, length, Some, None}
use Rattle.nk_lane.specs.declared.ends.SendEnd.{SendEnd}
use Rattle.nk_lane.specs.declared.ends.TakeEnd.{TakeEnd}
use Rattle.nk_lane.specs.Ends.{sent_on, send_capacity, SameSendEnd, taken_from, IsBare}
use Rattle.nk_shared.specs.declared.tagged.Tagged.{Tagged}
use Rattle.nk_shared.specs.declared.desk.Desk.{Desk}
use Rattle.nk_shared.specs.declared.routed.Routed.{Routed}
use Rattle.nk_shared.specs.declared.routed.Routed.TheVariants.{Did, Idle, Stray, Full}
use Rattle.nk_shared.specs.Live.{item_at, given_ids, SameDesk}

module _ {P Q : Type 0} {b : _} (from from' : TakeEnd Tagged Q b) (desk desk' : Desk (SendEnd (List ℕ) P)) where
  -- nothing was taken: the taking end, having looked, knew of none, or has given all that it may
  pub record ToldNone : Type 0 where
    pub taken : taken_from from' ≡ taken_from from
    pub bare : IsBare from'
    pub desk_same : SameDesk desk desk'

  -- the frame was taken with this id, and was sent on the end of this live id, which had room
  pub record WasSent (id : ℕ) (frame : List ℕ) : Type 0 where
    pub before : SendEnd (List ℕ) P
    pub after : SendEnd (List ℕ) P
    pub taken : taken_from from' ≡ taken_from from ++ (record { id = id; frame = frame }) ∷ []
    pub was : item_at desk id ≡ Some before
    pub is_now : item_at desk' id ≡ Some after
    pub room : length (sent_on before) < send_capacity before
    pub sent : sent_on after ≡ sent_on before ++ frame ∷ []
    pub same_ring : SameSendEnd before after
    pub given : given_ids desk' ≡ given_ids desk
    pub others : (other : ℕ) → other ≢ id → item_at desk' other ≡ item_at desk other

  -- the frame was taken with this id, which is not live
  pub record WasStray (id : ℕ) (frame : List ℕ) : Type 0 where
    pub taken : taken_from from' ≡ taken_from from ++ (record { id = id; frame = frame }) ∷ []
    pub stray : item_at desk id ≡ None
    pub desk_same : SameDesk desk desk'

  -- the frame was taken with this live id, on whose end as many were sent as it can carry
  pub record WasFull (id : ℕ) (frame : List ℕ) : Type 0 where
    pub at : SendEnd (List ℕ) P
    pub taken : taken_from from' ≡ taken_from from ++ (record { id = id; frame = frame }) ∷ []
    pub was : item_at desk id ≡ Some at
    pub full : length (sent_on at) ≡ send_capacity at
    pub desk_same : SameDesk desk desk'

  abbrev pub RoutedBy : Routed → Type 0
  RoutedBy Idle = ToldNone
  RoutedBy (Did id) = (frame : List ℕ) × WasSent id frame
  RoutedBy (Stray id) = (frame : List ℕ) × WasStray id frame
  RoutedBy (Full id) = (frame : List ℕ) × WasFull id frame
