-- The walk part of the way, as a loop over the three lists has it.
use Rattle.std.proofs.Common.{ℕ, ◌≡◌, ◌+◌, ◌*◌, ◌^◌, ◌-◌, ◌≤◌, sym, ◌∙◌, ap, true, false, List, [], ◌∷◌, length, arith}
use Rattle.nk_plan.specs.Walk.{ParentBlock, ChildBlock, Walk, Parent, Forward, Child, may_parent, may_child, may_forward, rest, can}
use Rattle.nk_walk.specs.declared.counts.Counts.{Counts}
use Rattle.nk_walk.specs.declared.walk.Placed.{Placed}
use Rattle.nk_walk.specs.Counted.{with_forward, with_first_parent, with_first_child, standing, AreSmall, AreCloseTo}
use Rattle.nk_walk.specs.Left.{left}
use Rattle.nk_walk.specs.Placed.{count_placed}
use Rattle.nk_walk.proofs.Turns.{forward_left}
use Rattle.nk_walk.proofs.Remains.{keep_exact, stuck_left, all_turns}

-- A turn leaves what was left

parent_turn : (ps : List ParentBlock) (n : ℕ) (cs : List ChildBlock) (c : Counts) → may_parent ps c.ups_taken c.ups_sent ≡ true
    → left (standing (rest ps) n cs (with_first_parent ps c)) ≡ left (standing ps n cs c)
parent_turn [] n cs c h = cc
parent_turn (b ∷ bs) n cs c h = keep_exact (standing (b ∷ bs) n cs c) Parent h

pub parent_same : (ps rs : List ParentBlock) (n : ℕ) (cs : List ChildBlock) (c d : Counts) → may_parent ps c.ups_taken c.ups_sent ≡ true → rs ≡ rest ps → d ≡ with_first_parent ps c
    → left (standing rs n cs d) ≡ left (standing ps n cs c)
parent_same ps rs n cs c d h e f = rw (e, f) (parent_turn ps n cs c h)

pub forward_same : (ps : List ParentBlock) (n : ℕ) (cs : List ChildBlock) (c d : Counts) → may_forward n c.backs_moved c.backs_sent ≡ true → d ≡ with_forward c
    → left (standing ps (n - 1) cs d) ≡ left (standing ps n cs c)
forward_same ps n cs c d h e = rw e (keep_exact (standing ps n cs c) Forward h)

child_turn : (ps : List ParentBlock) (n : ℕ) (cs : List ChildBlock) (c : Counts) → may_child cs c.mains_taken c.mains_sent c.backs_taken c.backs_moved ≡ true
    → left (standing ps n (rest cs) (with_first_child cs c)) ≡ left (standing ps n cs c)
child_turn ps n [] c h = cc
child_turn ps n (b ∷ bs) c h = keep_exact (standing ps n (b ∷ bs) c) Child h

pub child_same : (ps : List ParentBlock) (n : ℕ) (cs rs : List ChildBlock) (c d : Counts) → may_child cs c.mains_taken c.mains_sent c.backs_taken c.backs_moved ≡ true → rs ≡ rest cs → d ≡ with_first_child cs c
    → left (standing ps n rs d) ≡ left (standing ps n cs c)
child_same ps n cs rs c d h e f = rw (e, f) (child_turn ps n cs c h)

-- and one item less

pub parent_less : (ps rs : List ParentBlock) (a b : ℕ) → may_parent ps a b ≡ true → rs ≡ rest ps → length rs + 1 ≡ length ps
parent_less [] rs a b h e = cc
parent_less (p ∷ ps) rs a b h e = let l = ap length e in omega arith

pub forward_less : (n a b : ℕ) → may_forward n a b ≡ true → (n - 1) + 1 ≡ n
forward_less = forward_left

pub child_less : (cs rs : List ChildBlock) (a b c d : ℕ) → may_child cs a b c d ≡ true → rs ≡ rest cs → length rs + 1 ≡ length cs
child_less [] rs a b c d h e = cc
child_less (x ∷ cs) rs a b c d h e = let l = ap length e in omega arith

-- with so many items left no count wraps

abbrev pub Fits : ℕ → Counts → Type 0
Fits k c =
    (c.ups_taken + 255 * k ≤ 2 ^ 80)
    × (c.ups_sent + 255 * k ≤ 2 ^ 80)
    × (c.mains_taken + 255 * k ≤ 2 ^ 80)
    × (c.mains_sent + 255 * k ≤ 2 ^ 80)
    × (c.backs_taken + 255 * k ≤ 2 ^ 80)
    × (c.backs_moved + 255 * k ≤ 2 ^ 80)
    × (c.backs_sent + 255 * k ≤ 2 ^ 80)

pub fits_small : (k : ℕ) (c : Counts) → Fits k c → AreSmall c
fits_small k c (a, b, d, e, f, g, h) = (omega arith, omega arith, omega arith, omega arith, omega arith, omega arith, omega arith)

fits_one : (n m k l : ℕ) → n + 255 * k ≤ 2 ^ 80 → l + 1 ≤ k → m ≤ n + 255 → m + 255 * l ≤ 2 ^ 80
fits_one n m k l h e f = omega arith

pub fits_more : (k l : ℕ) (c d : Counts) → Fits k c → l + 1 ≤ k → AreCloseTo c d → Fits l d
fits_more k l c d f e n = (
  fits_one _ _ k l f.0 e n.0,
  fits_one _ _ k l f.1 e n.1,
  fits_one _ _ k l f.2 e n.2,
  fits_one _ _ k l f.3 e n.3,
  fits_one _ _ k l f.4 e n.4,
  fits_one _ _ k l f.5 e n.5,
  fits_one _ _ k l f.6 e n.6,
)

-- the counts, where the walk stands at its end
pub counts : (w v : Walk) → left v ≡ left w → can Parent v ≡ false → can Forward v ≡ false → can Child v ≡ false
    → ◌≡◌ {A = Placed} (record { parents = length w.parents - length v.parents; forwards = w.forwards - v.forwards; children = length w.children - length v.children }) (count_placed w)
counts w v same p f c =
    let e : v ≡ left w = sym (stuck_left v (all_turns v p f c)) ∙ same in
    let count : Walk → Placed = λ u. record { parents = length w.parents - length u.parents; forwards = w.forwards - u.forwards; children = length w.children - length u.children } in
    ap count e
