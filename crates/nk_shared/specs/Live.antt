-- What a contract sees of a desk. This project's own.
use Rattle.std.specs.Prelude.{◌≡◌, ◌≢◌, ℕ, Option, Some, None}
use Rattle.std.specs.Ordering.{nat_cmp}
use Rattle.std.specs.BTreeMap as tree
use Rattle.slab.specs.Slab as slab
use Rattle.nk_shared.specs.declared.desk.Desk.{Desk}

module _ {T : Type 0} where
  -- what lies at this key
  abbrev pub item_under : slab.Slab T → Option ℕ → Option T
  item_under items None = None
  item_under items (Some key) = slab.get items key

  -- the item of a live id; none where the id is not live
  abbrev pub item_at : Desk T → ℕ → Option T
  item_at desk id = item_under desk.items (tree.get nat_cmp desk.keys id)

  -- how many ids were given: the next one
  abbrev pub given_ids : Desk T → ℕ
  given_ids desk = desk.given

  -- this at the id, and every other id as before
  pub record Updates (old new : Desk T) (id : ℕ) (item : Option T) : Type 0 where
    pub changed : item_at new id ≡ item
    pub others : (other : ℕ) → other ≢ id → item_at new other ≡ item_at old other

  -- the same number of ids, and the same at every id
  pub record SameDesk (old new : Desk T) : Type 0 where
    pub given : given_ids new ≡ given_ids old
    pub items : (id : ℕ) → item_at new id ≡ item_at old id

  -- the same number of ids, this at the id, and every other id as before
  pub record Writes (old new : Desk T) (id : ℕ) (item : T) : Type 0 where
    pub given : given_ids new ≡ given_ids old
    pub changed : item_at new id ≡ Some item
    pub others : (other : ℕ) → other ≢ id → item_at new other ≡ item_at old other
