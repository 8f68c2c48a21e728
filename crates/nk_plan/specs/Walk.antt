-- The walk: three lists of blocks, each placed in its own order, a block that takes a message only once it was sent.
-- A block is seen by what it takes and how many messages it sends. This project's own.
use Rattle.std.specs.Prelude.{ℕ, suc, zero, ◌≡◌, ◌+◌, ◌-◌, Bool, true, false, not, ◌&&◌, ◌||◌, if◌then◌else◌, nat_lt, List, [], ◌∷◌, length}

-- a block of a parent: whether it takes an up message, and how many messages it sends on each lane
pub record ParentBlock : Type 0 where
  pub takes_up : Bool
  pub mains : ℕ
  pub backs : ℕ

-- a block of a child: whether it takes a message of each lane, and how many up messages it sends
pub record ChildBlock : Type 0 where
  pub takes_main : Bool
  pub takes_back : Bool
  pub ups : ℕ

-- what is still to be placed, and how many messages the placed items took, moved and sent, lane by lane
pub record Walk : Type 0 where
  pub parents : List ParentBlock
  pub forwards : ℕ
  pub children : List ChildBlock
  pub ups_taken : ℕ
  pub ups_sent : ℕ
  pub mains_taken : ℕ
  pub mains_sent : ℕ
  pub backs_taken : ℕ
  pub backs_moved : ℕ
  pub backs_sent : ℕ

abbrev pub walk_start : List ParentBlock → ℕ → List ChildBlock → Walk
walk_start parents forwards children = record {
  parents = parents;
  forwards = forwards;
  children = children;
  ups_taken = 0;
  ups_sent = 0;
  mains_taken = 0;
  mains_sent = 0;
  backs_taken = 0;
  backs_moved = 0;
  backs_sent = 0;
}

-- the list whose next item is placed
pub data Turn : Type 0 where
  Parent : Turn
  Forward : Turn
  Child : Turn

-- Whether the next item of a list may be placed: one that takes a message may be once that message was sent.
-- The message taken next on a lane is the one with the number of those taken.

abbrev pub may : Bool → ℕ → ℕ → Bool
may takes taken sent = not takes || nat_lt taken sent

abbrev pub may_parent : List ParentBlock → ℕ → ℕ → Bool
may_parent [] taken sent = false
may_parent (p ∷ ps) taken sent = may p.takes_up taken sent

-- the next forward moves the next background message, once it was sent
abbrev pub may_forward : ℕ → ℕ → ℕ → Bool
may_forward zero moved sent = false
may_forward (suc n) moved sent = nat_lt moved sent

abbrev pub may_child : List ChildBlock → ℕ → ℕ → ℕ → ℕ → Bool
may_child [] mains_taken mains_sent backs_taken backs_moved = false
may_child (b ∷ bs) mains_taken mains_sent backs_taken backs_moved =
    may b.takes_main mains_taken mains_sent && may b.takes_back backs_taken backs_moved

abbrev pub can : Turn → Walk → Bool
can Parent w = may_parent w.parents w.ups_taken w.ups_sent
can Forward w = may_forward w.forwards w.backs_moved w.backs_sent
can Child w = may_child w.children w.mains_taken w.mains_sent w.backs_taken w.backs_moved

-- What is left once the next item of a list is placed. Each turn changes fields of its own.

abbrev pub counted : Bool → ℕ
counted b = if b then 1 else 0

abbrev pub rest : {A : Type 0} → List A → List A
rest [] = []
rest (x ∷ xs) = xs

abbrev pub next_up : List ParentBlock → ℕ
next_up [] = 0
next_up (p ∷ ps) = counted p.takes_up

abbrev pub next_mains : List ParentBlock → ℕ
next_mains [] = 0
next_mains (p ∷ ps) = p.mains

abbrev pub next_backs : List ParentBlock → ℕ
next_backs [] = 0
next_backs (p ∷ ps) = p.backs

abbrev pub next_main : List ChildBlock → ℕ
next_main [] = 0
next_main (b ∷ bs) = counted b.takes_main

abbrev pub next_back : List ChildBlock → ℕ
next_back [] = 0
next_back (b ∷ bs) = counted b.takes_back

abbrev pub next_ups : List ChildBlock → ℕ
next_ups [] = 0
next_ups (b ∷ bs) = b.ups

abbrev pub placed : Turn → Walk → Walk
placed Parent w = record w {
  parents = rest w.parents;
  ups_taken = w.ups_taken + next_up w.parents;
  mains_sent = w.mains_sent + next_mains w.parents;
  backs_sent = w.backs_sent + next_backs w.parents;
}
placed Forward w = record w { forwards = w.forwards - 1; backs_moved = w.backs_moved + 1 }
placed Child w = record w {
  children = rest w.children;
  mains_taken = w.mains_taken + next_main w.children;
  backs_taken = w.backs_taken + next_back w.children;
  ups_sent = w.ups_sent + next_ups w.children;
}

-- An order that places everything

abbrev pub none_left : {A : Type 0} → List A → Bool
none_left [] = true
none_left (x ∷ xs) = false

abbrev pub is_zero : ℕ → Bool
is_zero zero = true
is_zero (suc n) = false

abbrev pub is_done : Walk → Bool
is_done w = none_left w.parents && (is_zero w.forwards && none_left w.children)

abbrev pub Places : Walk → List Turn → Type 0
Places w [] = is_done w ≡ true
Places w (t ∷ ts) = (can t w ≡ true) × Places (placed t w) ts

-- some order does
abbrev pub CanPlace : Walk → Type 0
CanPlace w = (order : List Turn) × Places w order

-- The same as a test: the greedy walk places what can be placed, as long as something can

abbrev pub items : Walk → ℕ
items w = length w.parents + (w.forwards + length w.children)

-- at most so many turns
abbrev pub greedy : ℕ → Walk → Bool
greedy zero w = is_done w
greedy (suc n) w =
    if can Parent w then greedy n (placed Parent w)
    else if can Forward w then greedy n (placed Forward w)
    else if can Child w then greedy n (placed Child w)
    else is_done w

abbrev pub places_all : Walk → Bool
places_all w = greedy (items w) w
