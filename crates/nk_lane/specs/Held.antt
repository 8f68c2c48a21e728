-- What a taking end has popped of its ring: what it gave, and the next item, which it may keep. This project's own.
use Rattle.std.specs.Prelude.{◌-◌, List, [], ◌∷◌, length, take, Option, Some, None}

-- what is in a slot
abbrev pub slot_items : {S T : Type 0} → (S → T) → Option S → List T
slot_items item None = []
slot_items item (Some s) = item s ∷ []

-- what was given of what was popped: all but what is in the slot
abbrev pub given : {S T : Type 0} → Option S → List T → List T
given None popped = popped
given (Some s) popped = take (length popped - 1) popped
