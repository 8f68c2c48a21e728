-- Lists that are shared. This project's own.
use Rattle.std.specs.Prelude.{◌≡◌, List, [], ◌∷◌, ◌++◌, Option, Some, None, Result, Ok, Err}
use Rattle.nk_base.specs.declared.status.Memory.{Memory}

-- the items of a list, and none where there is no list
abbrev pub items_of : {T : Type 0} → Option (List T) → List T
items_of None = []
items_of (Some items) = items

-- What an addition leaves of a list: the item stands behind the others, or it is given back where others hold the list too,
-- or there is no memory for it.
abbrev pub IsAdded : {T : Type 0} → List T → T → Result (Option T) Memory → List T → Type 0
IsAdded old item (Ok None) new = new ≡ old ++ item ∷ []
IsAdded old item (Ok (Some back)) new = (back ≡ item) × (new ≡ old)
IsAdded old item (Err want) new = new ≡ old
