-- The walk: what can be placed may be placed, whatever the order, so the greedy walk places all that some order does.
use Rattle.std.proofs.Common.{ℕ, suc, zero, ◌≡◌, ◌+◌, ◌-◌, ◌≤◌, ◌↔◌, refl, sym, subst, Bool, true, false, ◌⊎◌, inl, inr, nat_lt, List, [], ◌∷◌, length, arith}
use Rattle.std.proofs.lemmas.Bool.Decides.{nat_tests}
use Rattle.nk_laws.proofs.Tools.{keeps_if, both, one, other}
use Rattle.nk_plan.specs.Walk.{ParentBlock, ChildBlock, Walk, Turn, Parent, Forward, Child, may, may_parent, may_child, may_forward, can, rest, placed, none_left, is_zero, is_done, Places, CanPlace, items, greedy, places_all}

same_test : (a b : Bool) → (a ≡ true → b ≡ true) → (b ≡ true → a ≡ true) → a ≡ b
same_test true b p q = sym (p refl)
same_test false true p q = q refl
same_test false false p q = refl

-- a test that holds still holds once more was sent
lt_more : (a b c : ℕ) → nat_lt a b ≡ true → nat_lt a (b + c) ≡ true
lt_more a b c h = grind (arith, nat_tests)

may_more : (t : Bool) (a b c : ℕ) → may t a b ≡ true → may t a (b + c) ≡ true
may_more true a b c h = lt_more a b c h
may_more false a b c h = refl

parent_more : (ps : List ParentBlock) (a b c : ℕ) → may_parent ps a b ≡ true → may_parent ps a (b + c) ≡ true
parent_more [] a b c h = h
parent_more (p ∷ ps) a b c h = may_more p.takes_up a b c h

forward_more : (n : ℕ) (a b c : ℕ) → may_forward n a b ≡ true → may_forward n a (b + c) ≡ true
forward_more zero a b c h = h
forward_more (suc n) a b c h = lt_more a b c h

child_more_mains : (bs : List ChildBlock) (mt ms ks bt bm : ℕ) → may_child bs mt ms bt bm ≡ true → may_child bs mt (ms + ks) bt bm ≡ true
child_more_mains [] mt ms ks bt bm h = h
child_more_mains (b ∷ bs) mt ms ks bt bm h =
    both _ _ (may_more b.takes_main mt ms ks (one _ _ h)) (other (may b.takes_main mt ms) _ h)

child_more_backs : (bs : List ChildBlock) (mt ms bt bm k : ℕ) → may_child bs mt ms bt bm ≡ true → may_child bs mt ms bt (bm + k) ≡ true
child_more_backs [] mt ms bt bm k h = h
child_more_backs (b ∷ bs) mt ms bt bm k h =
    both _ _ (one _ _ h) (may_more b.takes_back bt bm k (other (may b.takes_main mt ms) _ h))

-- the three lists touch fields of their own
commute : (x y : Turn) (w : Walk) → placed x (placed y w) ≡ placed y (placed x w)
commute Parent Parent w = refl
commute Parent Forward w = refl
commute Parent Child w = refl
commute Forward Parent w = refl
commute Forward Forward w = refl
commute Forward Child w = refl
commute Child Parent w = refl
commute Child Forward w = refl
commute Child Child w = refl

-- of two different items that can be placed, each can still be placed after the other
apart : (x y : Turn) (w : Walk) → can x w ≡ true → can y w ≡ true → (x ≡ y) ⊎ ((can y (placed x w) ≡ true) × (can x (placed y w) ≡ true))
apart Parent Parent w p q = inl refl
apart Parent Forward w p q = inr (forward_more w.forwards w.backs_moved w.backs_sent _ q, p)
apart Parent Child w p q = inr (child_more_mains w.children w.mains_taken w.mains_sent _ w.backs_taken w.backs_moved q, parent_more w.parents w.ups_taken w.ups_sent _ p)
apart Forward Parent w p q = inr (q, forward_more w.forwards w.backs_moved w.backs_sent _ p)
apart Forward Forward w p q = inl refl
apart Forward Child w p q = inr (child_more_backs w.children w.mains_taken w.mains_sent w.backs_taken w.backs_moved _ q, p)
apart Child Parent w p q = inr (parent_more w.parents w.ups_taken w.ups_sent _ q, child_more_mains w.children w.mains_taken w.mains_sent _ w.backs_taken w.backs_moved p)
apart Child Forward w p q = inr (q, child_more_backs w.children w.mains_taken w.mains_sent w.backs_taken w.backs_moved _ p)
apart Child Child w p q = inl refl

parent_left : (ps : List ParentBlock) (a b : ℕ) → may_parent ps a b ≡ true → length (rest ps) + 1 ≡ length ps
parent_left [] a b h = cc
parent_left (p ∷ ps) a b h = omega arith

forward_left : (n a b : ℕ) → may_forward n a b ≡ true → (n - 1) + 1 ≡ n
forward_left zero a b h = cc
forward_left (suc n) a b h = omega arith

child_left : (bs : List ChildBlock) (a b c d : ℕ) → may_child bs a b c d ≡ true → length (rest bs) + 1 ≡ length bs
child_left [] a b c d h = cc
child_left (x ∷ bs) a b c d h = omega arith

fewer : (x : Turn) (w : Walk) → can x w ≡ true → items (placed x w) + 1 ≡ items w
fewer Parent w h = let e = parent_left w.parents w.ups_taken w.ups_sent h in omega arith
fewer Forward w h = let e = forward_left w.forwards w.backs_moved w.backs_sent h in omega arith
fewer Child w h = let e = child_left w.children w.mains_taken w.mains_sent w.backs_taken w.backs_moved h in omega arith

none_length : {A : Type 0} (xs : List A) → none_left xs ≡ true → length xs ≡ 0
none_length [] h = refl
none_length (x ∷ xs) h = cc

zero_is : (n : ℕ) → is_zero n ≡ true → n ≡ 0
zero_is zero h = refl
zero_is (suc n) h = cc

done_items : (w : Walk) → is_done w ≡ true → items w ≡ 0
done_items w h =
    let a = none_length w.parents (one _ _ h) in
    let r = other (none_left w.parents) _ h in
    let b = zero_is w.forwards (one _ _ r) in
    let c = none_length w.children (other (is_zero w.forwards) _ r) in omega arith

-- an order that places everything still exists once any item is placed that can be
advance : (order : List Turn) (w : Walk) (x : Turn) → can x w ≡ true → Places w order → CanPlace (placed x w)
advance [] w x p h = let a = done_items w h in let b = fewer x w p in absurd (omega arith)
advance (y ∷ ys) w x p h =
    elim (apart x y w p h.0) [
      | inl e ↦ (ys, (let P : Turn → Type 0 = λ t. Places (placed t w) ys in subst P (sym e) h.1))
      | inr k ↦
          let r : CanPlace (placed x (placed y w)) = advance ys (placed y w) x k.1 h.1 in
          let P : Walk → Type 0 = λ v. Places v r.0 in
          (y ∷ r.0, (k.0, subst P (commute x y w) r.1))
    ]

pub after : (w : Walk) (x : Turn) → can x w ≡ true → CanPlace w → CanPlace (placed x w)
after w x p h = advance h.0 w x p h.1

pub before : (w : Walk) (x : Turn) → can x w ≡ true → CanPlace (placed x w) → CanPlace w
before w x p h = (x ∷ h.0, (p, h.1))

greedy_sound : (n : ℕ) (w : Walk) → greedy n w ≡ true → CanPlace w
greedy_sound zero w = λ h. ([], h)
greedy_sound (suc n) w =
    keeps_if (λ (v : Bool). v ≡ true → CanPlace w) (can Parent w) _ _
    (λ c h. before w Parent c (greedy_sound n (placed Parent w) h))
    (λ _. keeps_if (λ (v : Bool). v ≡ true → CanPlace w) (can Forward w) _ _
    (λ c h. before w Forward c (greedy_sound n (placed Forward w) h))
    (λ _. keeps_if (λ (v : Bool). v ≡ true → CanPlace w) (can Child w) _ _
    (λ c h. before w Child c (greedy_sound n (placed Child w) h))
    (λ _ h. ([], h))))

stuck_done : (order : List Turn) (w : Walk) → can Parent w ≡ false → can Forward w ≡ false → can Child w ≡ false → Places w order → is_done w ≡ true
stuck_done [] w p f c h = h
stuck_done (Parent ∷ ys) w p f c h = let e = h.0 in cc
stuck_done (Forward ∷ ys) w p f c h = let e = h.0 in cc
stuck_done (Child ∷ ys) w p f c h = let e = h.0 in cc

greedy_complete : (n : ℕ) (w : Walk) → items w ≤ n → CanPlace w → greedy n w ≡ true
greedy_complete zero w le ([], h) = h
greedy_complete zero w le (y ∷ ys, h) = let e = fewer y w h.0 in absurd (omega arith)
greedy_complete (suc n) w le h =
    keeps_if (λ (v : Bool). v ≡ true) (can Parent w) _ _
    (λ c. let e = fewer Parent w c in greedy_complete n (placed Parent w) (omega arith) (after w Parent c h))
    (λ p. keeps_if (λ (v : Bool). v ≡ true) (can Forward w) _ _
    (λ c. let e = fewer Forward w c in greedy_complete n (placed Forward w) (omega arith) (after w Forward c h))
    (λ f. keeps_if (λ (v : Bool). v ≡ true) (can Child w) _ _
    (λ c. let e = fewer Child w c in greedy_complete n (placed Child w) (omega arith) (after w Child c h))
    (λ c. stuck_done h.0 w p f c h.1)))

pub walk_exact : (w : Walk) → places_all w ≡ true ↔ CanPlace w
walk_exact w = (greedy_sound (items w) w, greedy_complete (items w) w (omega arith))

pub keep_exact : (w : Walk) (t : Turn) → can t w ≡ true → places_all (placed t w) ≡ places_all w
keep_exact w t c =
    let there = walk_exact (placed t w) in
    let here = walk_exact w in
    same_test _ _ (λ h. here.1 (before w t c (there.0 h))) (λ h. there.1 (after w t c (here.0 h)))

pub stuck_exact : (w : Walk) → ((t : Turn) → can t w ≡ false) → places_all w ≡ is_done w
stuck_exact w blocked =
    let here = walk_exact w in
    same_test _ _ (λ h. let o : CanPlace w = here.0 h in stuck_done o.0 w (blocked Parent) (blocked Forward) (blocked Child) o.1) (λ h. here.1 ([], h))
