-- One more item at the end of one of the three lists, which may be placed once all else was.
use Rattle.std.proofs.Common.{ℕ, suc, zero, ◌≡◌, ◌+◌, ◌-◌, refl, sym, ◌∙◌, ap, subst, Bool, true, nat_lt, List, [], ◌∷◌, ◌++◌, arith}
use Rattle.nk_plan.specs.Walk.{ParentBlock, ChildBlock, Walk, Turn, Parent, Forward, Child, counted, may, Places, CanPlace}
use Rattle.nk_laws.proofs.Tools.{both}

-- where the walk stands
abbrev pub standing : List ParentBlock → ℕ → List ChildBlock → ℕ → ℕ → ℕ → ℕ → ℕ → ℕ → ℕ → Walk
standing parents forwards children ups_taken ups_sent mains_taken mains_sent backs_taken backs_moved backs_sent = record {
  parents = parents;
  forwards = forwards;
  children = children;
  ups_taken = ups_taken;
  ups_sent = ups_sent;
  mains_taken = mains_taken;
  mains_sent = mains_sent;
  backs_taken = backs_taken;
  backs_moved = backs_moved;
  backs_sent = backs_sent;
}

-- how many up messages are taken and sent, once all is placed
abbrev pub all_up : List ParentBlock → ℕ
all_up [] = 0
all_up (p ∷ ps) = counted p.takes_up + all_up ps

abbrev pub all_mains : List ParentBlock → ℕ
all_mains [] = 0
all_mains (p ∷ ps) = p.mains + all_mains ps

abbrev pub all_backs : List ParentBlock → ℕ
all_backs [] = 0
all_backs (p ∷ ps) = p.backs + all_backs ps

abbrev pub all_main : List ChildBlock → ℕ
all_main [] = 0
all_main (b ∷ bs) = counted b.takes_main + all_main bs

abbrev pub all_back : List ChildBlock → ℕ
all_back [] = 0
all_back (b ∷ bs) = counted b.takes_back + all_back bs

abbrev pub all_ups : List ChildBlock → ℕ
all_ups [] = 0
all_ups (b ∷ bs) = b.ups + all_ups bs

may_same : (t : Bool) (a b c d : ℕ) → a ≡ c → b ≡ d → may t a b ≡ true → may t c d ≡ true
may_same t a b c d e f h = ap (λ x. may t x d) (sym e) ∙ (ap (λ x. may t a x) (sym f) ∙ h)

parent_last : (order : List Turn) (ps : List ParentBlock) (n : ℕ) (bs : List ChildBlock) (ut us mt ms bt bm ks : ℕ) (b : ParentBlock)
    → Places (standing ps n bs ut us mt ms bt bm ks) order → may b.takes_up (ut + all_up ps) (us + all_ups bs) ≡ true
    → Places (standing (ps ++ b ∷ []) n bs ut us mt ms bt bm ks) (order ++ Parent ∷ [])
parent_last [] [] zero [] ut us mt ms bt bm ks b h m = (may_same b.takes_up _ _ _ _ (omega arith) (omega arith) m, refl)
parent_last [] [] zero (c ∷ cs) ut us mt ms bt bm ks b h m = cc
parent_last [] [] (suc n) bs ut us mt ms bt bm ks b h m = cc
parent_last [] (p ∷ ps) n bs ut us mt ms bt bm ks b h m = cc
parent_last (Parent ∷ ts) [] n bs ut us mt ms bt bm ks b h m = let f = h.0 in cc
parent_last (Parent ∷ ts) (p ∷ ps) n bs ut us mt ms bt bm ks b h m =
    (h.0, parent_last ts ps n bs (ut + counted p.takes_up) us mt (ms + p.mains) bt bm (ks + p.backs) b h.1 (may_same b.takes_up _ _ _ _ (omega arith) refl m))
parent_last (Forward ∷ ts) ps n bs ut us mt ms bt bm ks b h m =
    (h.0, parent_last ts ps (n - 1) bs ut us mt ms bt (bm + 1) ks b h.1 m)
parent_last (Child ∷ ts) ps n [] ut us mt ms bt bm ks b h m = let f = h.0 in cc
parent_last (Child ∷ ts) ps n (c ∷ cs) ut us mt ms bt bm ks b h m =
    (h.0, parent_last ts ps n cs ut (us + c.ups) (mt + counted c.takes_main) ms (bt + counted c.takes_back) bm ks b h.1 (may_same b.takes_up _ _ _ _ refl (omega arith) m))

pub parent_more : (w : Walk) (b : ParentBlock) → CanPlace w → may b.takes_up (w.ups_taken + all_up w.parents) (w.ups_sent + all_ups w.children) ≡ true
    → CanPlace (record w { parents = w.parents ++ b ∷ [] })
parent_more w b o m = (o.0 ++ Parent ∷ [], parent_last o.0 w.parents w.forwards w.children w.ups_taken w.ups_sent w.mains_taken w.mains_sent w.backs_taken w.backs_moved w.backs_sent b o.1 m)

child_last : (order : List Turn) (ps : List ParentBlock) (n : ℕ) (bs : List ChildBlock) (ut us mt ms bt bm ks : ℕ) (b : ChildBlock)
    → Places (standing ps n bs ut us mt ms bt bm ks) order → may b.takes_main (mt + all_main bs) (ms + all_mains ps) ≡ true → may b.takes_back (bt + all_back bs) (bm + n) ≡ true
    → Places (standing ps n (bs ++ b ∷ []) ut us mt ms bt bm ks) (order ++ Child ∷ [])
child_last [] [] zero [] ut us mt ms bt bm ks b h m k =
    (both _ _ (may_same b.takes_main _ _ _ _ (omega arith) (omega arith) m) (may_same b.takes_back _ _ _ _ (omega arith) (omega arith) k), refl)
child_last [] [] zero (c ∷ cs) ut us mt ms bt bm ks b h m k = cc
child_last [] [] (suc n) bs ut us mt ms bt bm ks b h m k = cc
child_last [] (p ∷ ps) n bs ut us mt ms bt bm ks b h m k = cc
child_last (Parent ∷ ts) [] n bs ut us mt ms bt bm ks b h m k = let f = h.0 in cc
child_last (Parent ∷ ts) (p ∷ ps) n bs ut us mt ms bt bm ks b h m k =
    (h.0, child_last ts ps n bs (ut + counted p.takes_up) us mt (ms + p.mains) bt bm (ks + p.backs) b h.1 (may_same b.takes_main _ _ _ _ refl (omega arith) m) k)
child_last (Forward ∷ ts) ps zero bs ut us mt ms bt bm ks b h m k = let f = h.0 in cc
child_last (Forward ∷ ts) ps (suc n) bs ut us mt ms bt bm ks b h m k =
    (h.0, child_last ts ps (suc n - 1) bs ut us mt ms bt (bm + 1) ks b h.1 m (may_same b.takes_back _ _ _ _ refl (omega arith) k))
child_last (Child ∷ ts) ps n [] ut us mt ms bt bm ks b h m k = let f = h.0 in cc
child_last (Child ∷ ts) ps n (c ∷ cs) ut us mt ms bt bm ks b h m k = (
  h.0,
  child_last ts ps n cs ut (us + c.ups) (mt + counted c.takes_main) ms (bt + counted c.takes_back) bm ks b h.1
      (may_same b.takes_main _ _ _ _ (omega arith) refl m) (may_same b.takes_back _ _ _ _ (omega arith) refl k),
)

pub child_more : (w : Walk) (b : ChildBlock) → CanPlace w
    → may b.takes_main (w.mains_taken + all_main w.children) (w.mains_sent + all_mains w.parents) ≡ true
    → may b.takes_back (w.backs_taken + all_back w.children) (w.backs_moved + w.forwards) ≡ true
    → CanPlace (record w { children = w.children ++ b ∷ [] })
child_more w b o m k = (o.0 ++ Child ∷ [], child_last o.0 w.parents w.forwards w.children w.ups_taken w.ups_sent w.mains_taken w.mains_sent w.backs_taken w.backs_moved w.backs_sent b o.1 m k)

lt_same : (a b c d : ℕ) → a ≡ c → b ≡ d → nat_lt a b ≡ true → nat_lt c d ≡ true
lt_same a b c d e f h = ap (λ x. nat_lt x d) (sym e) ∙ (ap (λ x. nat_lt a x) (sym f) ∙ h)

forward_last : (order : List Turn) (ps : List ParentBlock) (n : ℕ) (bs : List ChildBlock) (ut us mt ms bt bm ks : ℕ)
    → Places (standing ps n bs ut us mt ms bt bm ks) order → nat_lt (bm + n) (ks + all_backs ps) ≡ true
    → Places (standing ps (suc n) bs ut us mt ms bt bm ks) (order ++ Forward ∷ [])
forward_last [] [] zero [] ut us mt ms bt bm ks h m = (lt_same _ _ _ _ (omega arith) (omega arith) m, refl)
forward_last [] [] zero (c ∷ cs) ut us mt ms bt bm ks h m = cc
forward_last [] [] (suc n) bs ut us mt ms bt bm ks h m = cc
forward_last [] (p ∷ ps) n bs ut us mt ms bt bm ks h m = cc
forward_last (Parent ∷ ts) [] n bs ut us mt ms bt bm ks h m = let f = h.0 in cc
forward_last (Parent ∷ ts) (p ∷ ps) n bs ut us mt ms bt bm ks h m =
    (h.0, forward_last ts ps n bs (ut + counted p.takes_up) us mt (ms + p.mains) bt bm (ks + p.backs) h.1 (lt_same _ _ _ _ refl (omega arith) m))
forward_last (Forward ∷ ts) ps zero bs ut us mt ms bt bm ks h m = let f = h.0 in cc
forward_last (Forward ∷ ts) ps (suc n) bs ut us mt ms bt bm ks h m =
    let e : suc (suc n - 1) ≡ suc (suc n) - 1 = omega arith in
    let P : ℕ → Type 0 = λ x. Places (standing ps x bs ut us mt ms bt (bm + 1) ks) (ts ++ Forward ∷ []) in
    (h.0, subst P e (forward_last ts ps (suc n - 1) bs ut us mt ms bt (bm + 1) ks h.1 (lt_same _ _ _ _ (omega arith) refl m)))
forward_last (Child ∷ ts) ps n [] ut us mt ms bt bm ks h m = let f = h.0 in cc
forward_last (Child ∷ ts) ps n (c ∷ cs) ut us mt ms bt bm ks h m =
    (h.0, forward_last ts ps n cs ut (us + c.ups) (mt + counted c.takes_main) ms (bt + counted c.takes_back) bm ks h.1 m)

pub forward_more_at_end : (w : Walk) → CanPlace w → nat_lt (w.backs_moved + w.forwards) (w.backs_sent + all_backs w.parents) ≡ true
    → CanPlace (record w { forwards = suc w.forwards })
forward_more_at_end w o m = (o.0 ++ Forward ∷ [], forward_last o.0 w.parents w.forwards w.children w.ups_taken w.ups_sent w.mains_taken w.mains_sent w.backs_taken w.backs_moved w.backs_sent o.1 m)
