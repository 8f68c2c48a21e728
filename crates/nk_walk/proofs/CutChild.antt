-- A child's blocks leave, as blocks, what their entries leave one by one.
use Rattle.std.proofs.Common.{ℕ, suc, ◌≡◌, ◌+◌, ◌-◌, refl, sym, ◌∙◌, ap, subst, false, List, [], ◌∷◌, ◌++◌, length, drop, arith}
use Rattle.nk_plan.specs.Walk.{ParentBlock, ChildBlock, Walk, Turn, Parent, Forward, Child, counted, may_child, walk_start}
use Rattle.nk_walk.specs.Left.{left, Leads, IsStuck}
use Rattle.nk_walk.specs.Placed.{count_placed}
use Rattle.nk_walk.proofs.Remains.{left_exact, placed_exact, all_turns}
use Rattle.nk_walk.proofs.Front.{Behind, all_behind, more_behind, behind_is}
use Rattle.nk_walk.specs.Cut.{ChildCut, NoEntry, Parts, sum_ups, child_others, child_wholes, all_child_parts}
use Rattle.nk_walk.proofs.Reach.{walk_at, Reaches, before}

shift : (v : Walk) (ps : List ParentBlock) (n : ℕ) (bs : List ChildBlock) (ut us us' mt mt' ms bt bt' bm ks : ℕ) → us ≡ us' → mt ≡ mt' → bt ≡ bt'
    → Reaches (walk_at ps n bs ut us mt ms bt bm ks) v → Reaches (walk_at ps n bs ut us' mt' ms bt' bm ks) v
shift v ps n bs ut us us' mt mt' ms bt bt' bm ks e f g c =
    let P : ℕ → Type 0 = λ x. Reaches (walk_at ps n bs ut x mt ms bt bm ks) v in
    let Q : ℕ → Type 0 = λ x. Reaches (walk_at ps n bs ut us' x ms bt bm ks) v in
    let R : ℕ → Type 0 = λ x. Reaches (walk_at ps n bs ut us' mt' ms x bm ks) v in subst R g (subst Q f (subst P e c))

-- entries that take nothing may be placed at any time
others_in : (v : Walk) (more : List ℕ) (bs : List ChildBlock) (ps : List ParentBlock) (n ut us mt ms bt bm ks : ℕ)
    → Reaches (walk_at ps n bs ut (us + sum_ups more) mt ms bt bm ks) v → Reaches (walk_at ps n (child_others more ++ bs) ut us mt ms bt bm ks) v
others_in v [] bs ps n ut us mt ms bt bm ks c = shift v ps n bs ut (us + 0) us mt mt ms bt bt bm ks (omega arith) refl refl c
others_in v (x ∷ more) bs ps n ut us mt ms bt bm ks c =
    before (walk_at ps n (record { takes_main = false; takes_back = false; ups = x } ∷ (child_others more ++ bs)) ut us mt ms bt bm ks) Child v refl
    (others_in v more bs ps n ut (us + x) (mt + 0) ms (bt + 0) bm ks
    (shift v ps n bs ut (us + (x + sum_ups more)) ((us + x) + sum_ups more) mt (mt + 0) ms bt (bt + 0) bm ks (omega arith) (omega arith) (omega arith) c))

-- from here on the entries, too, can be placed until those of the last blocks are left
record Ends (xs : List ChildCut) (start v : Walk) : Type 0 where
  rest : List ChildCut
  behind : Behind ChildCut rest xs
  whole : v.children ≡ child_wholes rest
  reach : Reaches start (record v { children = all_child_parts rest })

keep : (xs : List ChildCut) (s s' v : Walk) → ((u : Walk) → Reaches s u → Reaches s' u) → Ends xs s v → Ends xs s' v
keep xs s s' v f r = record { rest = r.rest; behind = r.behind; whole = r.whole; reach = f _ r.reach }

more : (x : ChildCut) (xs : List ChildCut) (s s' v : Walk) → ((u : Walk) → Reaches s u → Reaches s' u) → Ends xs s v → Ends (x ∷ xs) s' v
more x xs s s' v f r = record { rest = r.rest; behind = more_behind r.rest x xs r.behind; whole = r.whole; reach = f _ r.reach }

to_parts : (v : Walk) (o : List Turn) (xs : List ChildCut) (ps : List ParentBlock) (n ut us mt ms bt bm ks : ℕ)
    → Leads (walk_at ps n (child_wholes xs) ut us mt ms bt bm ks) o v → Ends xs (walk_at ps n (all_child_parts xs) ut us mt ms bt bm ks) v
to_parts v [] xs ps n ut us mt ms bt bm ks h =
    let whole : List ChildBlock → Walk → Walk = λ cs u. record u { children = cs } in
    record { rest = xs; behind = all_behind xs; whole = ap (λ (u : Walk). u.children) (sym h); reach = ([], ap (whole (all_child_parts xs)) h) }
to_parts v (Parent ∷ ts) xs [] n ut us mt ms bt bm ks h = let f = h.0 in cc
to_parts v (Parent ∷ ts) xs (p ∷ ps) n ut us mt ms bt bm ks h =
    keep xs (walk_at ps n (all_child_parts xs) (ut + counted p.takes_up) us mt (ms + p.mains) bt bm (ks + p.backs)) _ v
    (λ u c. before (walk_at (p ∷ ps) n (all_child_parts xs) ut us mt ms bt bm ks) Parent u h.0 c)
    (to_parts v ts xs ps n (ut + counted p.takes_up) us mt (ms + p.mains) bt bm (ks + p.backs) h.1)
to_parts v (Forward ∷ ts) xs ps n ut us mt ms bt bm ks h =
    keep xs (walk_at ps (n - 1) (all_child_parts xs) ut us mt ms bt (bm + 1) ks) _ v
    (λ u c. before (walk_at ps n (all_child_parts xs) ut us mt ms bt bm ks) Forward u h.0 c)
    (to_parts v ts xs ps (n - 1) ut us mt ms bt (bm + 1) ks h.1)
to_parts v (Child ∷ ts) [] ps n ut us mt ms bt bm ks h = let f = h.0 in cc
to_parts v (Child ∷ ts) (NoEntry ∷ xs) ps n ut us mt ms bt bm ks h =
    more NoEntry xs (walk_at ps n (all_child_parts xs) ut (us + 0) (mt + 0) ms (bt + 0) bm ks) _ v
    (λ u c. shift u ps n (all_child_parts xs) ut (us + 0) us (mt + 0) mt ms (bt + 0) bt bm ks (omega arith) (omega arith) (omega arith) c)
    (to_parts v ts xs ps n ut (us + 0) (mt + 0) ms (bt + 0) bm ks h.1)
to_parts v (Child ∷ ts) (Parts m b k others ∷ xs) ps n ut us mt ms bt bm ks h =
    more (Parts m b k others) xs (walk_at ps n (all_child_parts xs) ut (us + (k + sum_ups others)) (mt + counted m) ms (bt + counted b) bm ks) _ v
    (λ u c. before (walk_at ps n (all_child_parts (Parts m b k others ∷ xs)) ut us mt ms bt bm ks) Child u h.0
    (others_in u others (all_child_parts xs) ps n ut (us + k) (mt + counted m) ms (bt + counted b) bm ks
    (shift u ps n (all_child_parts xs) ut (us + (k + sum_ups others)) ((us + k) + sum_ups others) (mt + counted m) (mt + counted m) ms (bt + counted b) (bt + counted b) bm ks (omega arith) refl refl c)))
    (to_parts v ts xs ps n ut (us + (k + sum_ups others)) (mt + counted m) ms (bt + counted b) bm ks h.1)

stuck_parts : (xs : List ChildCut) (mt ms bt bm : ℕ) → may_child (child_wholes xs) mt ms bt bm ≡ false → may_child (all_child_parts xs) mt ms bt bm ≡ false
stuck_parts [] mt ms bt bm h = h
stuck_parts (NoEntry ∷ xs) mt ms bt bm h = cc
stuck_parts (Parts m b k others ∷ xs) mt ms bt bm h = h

wholes_length : (xs : List ChildCut) → length (child_wholes xs) ≡ length xs
wholes_length [] = refl
wholes_length (x ∷ xs) = ap suc (wholes_length xs)

pub child_cut : (xs : List ChildCut) (ps : List ParentBlock) (n : ℕ) →
    let blocks = walk_start ps n (child_wholes xs) in
    left (walk_start ps n (all_child_parts xs)) ≡ record (left blocks) { children = all_child_parts (drop (count_placed blocks).children xs) }
child_cut xs ps n =
    let w : Walk = walk_start ps n (child_wholes xs) in
    let v : Walk = left w in
    let l = left_exact w in
    let r : Ends xs (walk_start ps n (all_child_parts xs)) v = to_parts v l.0.0 xs ps n 0 0 0 0 0 0 0 l.0.1 in
    let u : Walk = record v { children = all_child_parts r.rest } in
    let s : IsStuck v = l.1 in
    let p : may_child (child_wholes r.rest) v.mains_taken v.mains_sent v.backs_taken v.backs_moved ≡ false = subst (λ cs. may_child cs v.mains_taken v.mains_sent v.backs_taken v.backs_moved ≡ false) r.whole (s Child) in
    let stuck : IsStuck u = all_turns u (s Parent) (s Forward) (stuck_parts r.rest v.mains_taken v.mains_sent v.backs_taken v.backs_moved p) in
    let same : u ≡ left (walk_start ps n (all_child_parts xs)) = placed_exact (walk_start ps n (all_child_parts xs)) u r.reach.0 r.reach.1 stuck in
    let size : length v.children ≡ length r.rest = ap length r.whole ∙ wholes_length r.rest in
    let all = wholes_length xs in
    let count : length (child_wholes xs) - length v.children ≡ length xs - length r.rest = omega arith in
    let rest_is : r.rest ≡ drop (length (child_wholes xs) - length v.children) xs = behind_is r.rest xs r.behind ∙ ap (λ k. drop k xs) (sym count) in
    let with : List ChildCut → Walk = λ ys. record v { children = all_child_parts ys } in
    sym same ∙ ap with rest_is
