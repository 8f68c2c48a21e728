-- How much the placed items took, moved and sent, as a program counts it; the walk where such counts were come to.
use Rattle.std.specs.Prelude.{ℕ, ◌+◌, ◌≤◌, ◌<◌, ◌^◌, List, [], ◌∷◌}
use Rattle.nk_plan.specs.Walk.{ParentBlock, ChildBlock, Walk, counted}
use Rattle.nk_walk.specs.declared.counts.Counts.{Counts}

abbrev pub no_counts : Counts
no_counts = record { ups_taken = 0; ups_sent = 0; mains_taken = 0; mains_sent = 0; backs_taken = 0; backs_moved = 0; backs_sent = 0 }

-- with one more item placed

abbrev pub with_parent : ParentBlock → Counts → Counts
with_parent b c = record c { ups_taken = c.ups_taken + counted b.takes_up; mains_sent = c.mains_sent + b.mains; backs_sent = c.backs_sent + b.backs }

abbrev pub with_forward : Counts → Counts
with_forward c = record c { backs_moved = c.backs_moved + 1 }

abbrev pub with_child : ChildBlock → Counts → Counts
with_child b c = record c { mains_taken = c.mains_taken + counted b.takes_main; backs_taken = c.backs_taken + counted b.takes_back; ups_sent = c.ups_sent + b.ups }

-- with the first of a list placed, if there is one

abbrev pub with_first_parent : List ParentBlock → Counts → Counts
with_first_parent [] c = c
with_first_parent (b ∷ bs) c = with_parent b c

abbrev pub with_first_child : List ChildBlock → Counts → Counts
with_first_child [] c = c
with_first_child (b ∷ bs) c = with_child b c

-- where the walk stands: what is left of the three lists, and the counts
abbrev pub standing : List ParentBlock → ℕ → List ChildBlock → Counts → Walk
standing parents forwards children c = record {
  parents = parents;
  forwards = forwards;
  children = children;
  ups_taken = c.ups_taken;
  ups_sent = c.ups_sent;
  mains_taken = c.mains_taken;
  mains_sent = c.mains_sent;
  backs_taken = c.backs_taken;
  backs_moved = c.backs_moved;
  backs_sent = c.backs_sent;
}

-- no count is so large that one more item could make it wrap
abbrev pub AreSmall : Counts → Type 0
AreSmall c =
    (c.ups_taken < 2 ^ 127)
    × (c.ups_sent < 2 ^ 127)
    × (c.mains_taken < 2 ^ 127)
    × (c.mains_sent < 2 ^ 127)
    × (c.backs_taken < 2 ^ 127)
    × (c.backs_moved < 2 ^ 127)
    × (c.backs_sent < 2 ^ 127)

-- one item adds at most 255 to each count
abbrev pub AreCloseTo : Counts → Counts → Type 0
AreCloseTo c d =
    (d.ups_taken ≤ c.ups_taken + 255)
    × (d.ups_sent ≤ c.ups_sent + 255)
    × (d.mains_taken ≤ c.mains_taken + 255)
    × (d.mains_sent ≤ c.mains_sent + 255)
    × (d.backs_taken ≤ c.backs_taken + 255)
    × (d.backs_moved ≤ c.backs_moved + 255)
    × (d.backs_sent ≤ c.backs_sent + 255)
