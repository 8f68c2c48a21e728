-- A parent's blocks leave, as blocks, what their entries leave one by one.
use Rattle.std.proofs.Common.{ℕ, suc, ◌≡◌, ◌+◌, ◌-◌, refl, sym, ◌∙◌, ap, subst, false, List, [], ◌∷◌, ◌++◌, length, drop, arith}
use Rattle.nk_plan.specs.Walk.{ParentBlock, ChildBlock, Walk, Turn, Parent, Forward, Child, counted, may_parent, walk_start}
use Rattle.nk_walk.specs.Left.{left, Leads, IsStuck}
use Rattle.nk_walk.specs.Placed.{count_placed}
use Rattle.nk_walk.proofs.Remains.{left_exact, placed_exact, all_turns}
use Rattle.nk_walk.proofs.Front.{Behind, all_behind, more_behind, behind_is}
use Rattle.nk_walk.specs.Cut.{Sends, ParentCut, Empty, Entries, sum_mains, sum_backs, parent_others, parent_wholes, all_parent_parts}
use Rattle.nk_walk.proofs.Reach.{walk_at, Reaches, before}

shift : (v : Walk) (ps : List ParentBlock) (n : ℕ) (bs : List ChildBlock) (ut ut' us mt ms ms' bt bm ks ks' : ℕ) → ut ≡ ut' → ms ≡ ms' → ks ≡ ks'
    → Reaches (walk_at ps n bs ut us mt ms bt bm ks) v → Reaches (walk_at ps n bs ut' us mt ms' bt bm ks') v
shift v ps n bs ut ut' us mt ms ms' bt bm ks ks' e f g c =
    let P : ℕ → Type 0 = λ x. Reaches (walk_at ps n bs x us mt ms bt bm ks) v in
    let Q : ℕ → Type 0 = λ x. Reaches (walk_at ps n bs ut' us mt x bt bm ks) v in
    let R : ℕ → Type 0 = λ x. Reaches (walk_at ps n bs ut' us mt ms' bt bm x) v in subst R g (subst Q f (subst P e c))

-- entries that take nothing may be placed at any time
others_in : (v : Walk) (more : List Sends) (ps : List ParentBlock) (n : ℕ) (bs : List ChildBlock) (ut us mt ms bt bm ks : ℕ)
    → Reaches (walk_at ps n bs ut us mt (ms + sum_mains more) bt bm (ks + sum_backs more)) v → Reaches (walk_at (parent_others more ++ ps) n bs ut us mt ms bt bm ks) v
others_in v [] ps n bs ut us mt ms bt bm ks c = shift v ps n bs ut ut us mt (ms + 0) ms bt bm (ks + 0) ks refl (omega arith) (omega arith) c
others_in v (x ∷ more) ps n bs ut us mt ms bt bm ks c =
    before (walk_at (record { takes_up = false; mains = x.mains; backs = x.backs } ∷ (parent_others more ++ ps)) n bs ut us mt ms bt bm ks) Parent v refl
    (others_in v more ps n bs (ut + 0) us mt (ms + x.mains) bt bm (ks + x.backs)
    (shift v ps n bs ut (ut + 0) us mt (ms + (x.mains + sum_mains more)) ((ms + x.mains) + sum_mains more) bt bm (ks + (x.backs + sum_backs more)) ((ks + x.backs) + sum_backs more) (omega arith) (omega arith) (omega arith) c))

-- from here on the entries, too, can be placed until those of the last blocks are left
record Ends (xs : List ParentCut) (start v : Walk) : Type 0 where
  rest : List ParentCut
  behind : Behind ParentCut rest xs
  whole : v.parents ≡ parent_wholes rest
  reach : Reaches start (record v { parents = all_parent_parts rest })

keep : (xs : List ParentCut) (s s' v : Walk) → ((u : Walk) → Reaches s u → Reaches s' u) → Ends xs s v → Ends xs s' v
keep xs s s' v f r = record { rest = r.rest; behind = r.behind; whole = r.whole; reach = f _ r.reach }

more : (x : ParentCut) (xs : List ParentCut) (s s' v : Walk) → ((u : Walk) → Reaches s u → Reaches s' u) → Ends xs s v → Ends (x ∷ xs) s' v
more x xs s s' v f r = record { rest = r.rest; behind = more_behind r.rest x xs r.behind; whole = r.whole; reach = f _ r.reach }

to_parts : (v : Walk) (o : List Turn) (xs : List ParentCut) (n : ℕ) (bs : List ChildBlock) (ut us mt ms bt bm ks : ℕ)
    → Leads (walk_at (parent_wholes xs) n bs ut us mt ms bt bm ks) o v → Ends xs (walk_at (all_parent_parts xs) n bs ut us mt ms bt bm ks) v
to_parts v [] xs n bs ut us mt ms bt bm ks h =
    let whole : List ParentBlock → Walk → Walk = λ ps u. record u { parents = ps } in
    record { rest = xs; behind = all_behind xs; whole = ap (λ (u : Walk). u.parents) (sym h); reach = ([], ap (whole (all_parent_parts xs)) h) }
to_parts v (Parent ∷ ts) [] n bs ut us mt ms bt bm ks h = let f = h.0 in cc
to_parts v (Parent ∷ ts) (Empty ∷ xs) n bs ut us mt ms bt bm ks h =
    more Empty xs (walk_at (all_parent_parts xs) n bs (ut + 0) us mt (ms + 0) bt bm (ks + 0)) _ v
    (λ u c. shift u (all_parent_parts xs) n bs (ut + 0) ut us mt (ms + 0) ms bt bm (ks + 0) ks (omega arith) (omega arith) (omega arith) c)
    (to_parts v ts xs n bs (ut + 0) us mt (ms + 0) bt bm (ks + 0) h.1)
to_parts v (Parent ∷ ts) (Entries t m b others ∷ xs) n bs ut us mt ms bt bm ks h =
    more (Entries t m b others) xs (walk_at (all_parent_parts xs) n bs (ut + counted t) us mt (ms + (m + sum_mains others)) bt bm (ks + (b + sum_backs others))) _ v
    (λ u c. before (walk_at (all_parent_parts (Entries t m b others ∷ xs)) n bs ut us mt ms bt bm ks) Parent u h.0
    (others_in u others (all_parent_parts xs) n bs (ut + counted t) us mt (ms + m) bt bm (ks + b)
    (shift u (all_parent_parts xs) n bs (ut + counted t) (ut + counted t) us mt (ms + (m + sum_mains others)) ((ms + m) + sum_mains others) bt bm (ks + (b + sum_backs others)) ((ks + b) + sum_backs others) refl (omega arith) (omega arith) c)))
    (to_parts v ts xs n bs (ut + counted t) us mt (ms + (m + sum_mains others)) bt bm (ks + (b + sum_backs others)) h.1)
to_parts v (Forward ∷ ts) xs n bs ut us mt ms bt bm ks h =
    keep xs (walk_at (all_parent_parts xs) (n - 1) bs ut us mt ms bt (bm + 1) ks) _ v
    (λ u c. before (walk_at (all_parent_parts xs) n bs ut us mt ms bt bm ks) Forward u h.0 c)
    (to_parts v ts xs (n - 1) bs ut us mt ms bt (bm + 1) ks h.1)
to_parts v (Child ∷ ts) xs n [] ut us mt ms bt bm ks h = let f = h.0 in cc
to_parts v (Child ∷ ts) xs n (y ∷ bs) ut us mt ms bt bm ks h =
    keep xs (walk_at (all_parent_parts xs) n bs ut (us + y.ups) (mt + counted y.takes_main) ms (bt + counted y.takes_back) bm ks) _ v
    (λ u c. before (walk_at (all_parent_parts xs) n (y ∷ bs) ut us mt ms bt bm ks) Child u h.0 c)
    (to_parts v ts xs n bs ut (us + y.ups) (mt + counted y.takes_main) ms (bt + counted y.takes_back) bm ks h.1)

stuck_parts : (xs : List ParentCut) (a b : ℕ) → may_parent (parent_wholes xs) a b ≡ false → may_parent (all_parent_parts xs) a b ≡ false
stuck_parts [] a b h = h
stuck_parts (Empty ∷ xs) a b h = cc
stuck_parts (Entries t m k others ∷ xs) a b h = h

wholes_length : (xs : List ParentCut) → length (parent_wholes xs) ≡ length xs
wholes_length [] = refl
wholes_length (x ∷ xs) = ap suc (wholes_length xs)

pub parent_cut : (xs : List ParentCut) (n : ℕ) (bs : List ChildBlock) →
    let blocks = walk_start (parent_wholes xs) n bs in
    left (walk_start (all_parent_parts xs) n bs) ≡ record (left blocks) { parents = all_parent_parts (drop (count_placed blocks).parents xs) }
parent_cut xs n bs =
    let w : Walk = walk_start (parent_wholes xs) n bs in
    let v : Walk = left w in
    let l = left_exact w in
    let r : Ends xs (walk_start (all_parent_parts xs) n bs) v = to_parts v l.0.0 xs n bs 0 0 0 0 0 0 0 l.0.1 in
    let u : Walk = record v { parents = all_parent_parts r.rest } in
    let s : IsStuck v = l.1 in
    let p : may_parent (parent_wholes r.rest) v.ups_taken v.ups_sent ≡ false = subst (λ ps. may_parent ps v.ups_taken v.ups_sent ≡ false) r.whole (s Parent) in
    let stuck : IsStuck u = all_turns u (stuck_parts r.rest v.ups_taken v.ups_sent p) (s Forward) (s Child) in
    let same : u ≡ left (walk_start (all_parent_parts xs) n bs) = placed_exact (walk_start (all_parent_parts xs) n bs) u r.reach.0 r.reach.1 stuck in
    let size : length v.parents ≡ length r.rest = ap length r.whole ∙ wholes_length r.rest in
    let all = wholes_length xs in
    let count : length (parent_wholes xs) - length v.parents ≡ length xs - length r.rest = omega arith in
    let rest_is : r.rest ≡ drop (length (parent_wholes xs) - length v.parents) xs = behind_is r.rest xs r.behind ∙ ap (λ k. drop k xs) (sym count) in
    let with : List ParentCut → Walk = λ ys. record v { parents = all_parent_parts ys } in
    sym same ∙ ap with rest_is
