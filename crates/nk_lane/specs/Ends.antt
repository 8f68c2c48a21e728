-- What a contract sees of a lane's two ends. This project's own.
use Rattle.std.specs.Prelude.{ℕ, ◌≡◌, ◌<◌, ◌⊎◌, List, [], ◌∷◌, ◌++◌, length}
use mathlib.Core.List.{IsPrefix}
use Rattle.rtrb.specs.Ring.{sent, received, known_items, producer_capacity, consumer_capacity, SameProducer, SameConsumer, IsPair}
use Rattle.nk_lane.specs.Held.{given, slot_items}
use Rattle.nk_lane.specs.declared.ends.SendEnd.{SendEnd}
use Rattle.nk_lane.specs.declared.ends.TakeEnd.{TakeEnd}

module _ {T P : Type 0} where
  -- every item that was sent, oldest first
  abbrev pub sent_on : SendEnd T P → List T
  sent_on s = sent s.ring

  -- how many items can be sent in all
  abbrev pub send_capacity : SendEnd T P → ℕ
  send_capacity s = producer_capacity s.ring

  -- the end of one lane, and its capacity, do not change
  abbrev pub SameSendEnd : SendEnd T P → SendEnd T P → Type 0
  SameSendEnd a b = SameProducer a.ring b.ring

module _ {T P : Type 0} {b : _} where
  -- every item that was taken, oldest first
  abbrev pub taken_from : TakeEnd T P b → List T
  taken_from t = given t.next (received t.ring)

  -- the items that the end knows of and has not given: the next takes give them
  abbrev pub left_known : TakeEnd T P b → List T
  left_known t = slot_items (λ s. s.item) t.next ++ known_items t.ring

  -- how many items can be taken in all
  abbrev pub take_capacity : TakeEnd T P b → ℕ
  take_capacity t = consumer_capacity t.ring

  -- both ends were made by one call of `lane`
  abbrev pub IsLane : SendEnd T P → TakeEnd T P b → Type 0
  IsLane s t = IsPair s.ring t.ring

  abbrev pub SameTakeEnd : TakeEnd T P b → TakeEnd T P b → Type 0
  SameTakeEnd a b = SameConsumer a.ring b.ring

  -- there is nothing to give: no item is known, or all were given that can be sent
  abbrev pub IsBare : TakeEnd T P b → Type 0
  IsBare t = (left_known t ≡ []) ⊎ (length (taken_from t) ≡ take_capacity t)

  -- this is the next item, and it can be given
  abbrev pub IsNext : TakeEnd T P b → T → Type 0
  IsNext t x = IsPrefix (x ∷ []) (left_known t) × (length (taken_from t) < take_capacity t)
