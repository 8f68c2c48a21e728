-- Where a walk can come to.
use Rattle.std.proofs.Common.{ℕ, ◌≡◌, true, List, ◌∷◌}
use Rattle.nk_plan.specs.Walk.{ParentBlock, ChildBlock, Walk, Turn, can, placed}
use Rattle.nk_walk.specs.Left.{Leads}

-- a walk by what is left of it and its counts
abbrev pub walk_at : List ParentBlock → ℕ → List ChildBlock → ℕ → ℕ → ℕ → ℕ → ℕ → ℕ → ℕ → Walk
walk_at parents forwards children ups_taken ups_sent mains_taken mains_sent backs_taken backs_moved backs_sent = record {
  parents = parents;
  forwards = forwards;
  children = children;
  ups_taken = ups_taken;
  ups_sent = ups_sent;
  mains_taken = mains_taken;
  mains_sent = mains_sent;
  backs_taken = backs_taken;
  backs_moved = backs_moved;
  backs_sent = backs_sent;
}

-- some order leads from one walk to another
abbrev pub Reaches : Walk → Walk → Type 0
Reaches w v = (order : List Turn) × Leads w order v

pub before : (w : Walk) (x : Turn) (v : Walk) → can x w ≡ true → Reaches (placed x w) v → Reaches w v
before w x v p h = (x ∷ h.0, (p, h.1))
