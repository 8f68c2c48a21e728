-- A child's blocks can be placed exactly where their entries can, one by one: the first entry of a block takes as the block
-- does, and the others take nothing.
use Rattle.std.proofs.Common.{ℕ, suc, zero, ◌≡◌, ◌+◌, ◌-◌, ◌≤◌, refl, subst, Bool, true, false, ◌&&◌, List, [], ◌∷◌, ◌++◌, length, arith}
use Rattle.nk_plan.specs.Walk.{ParentBlock, ChildBlock, Turn, Parent, Forward, Child, counted, may, may_forward, none_left, is_zero, Places, CanPlace}
use Rattle.nk_laws.proofs.Placing.{after, before}
use Rattle.nk_laws.proofs.More.{standing}
use Rattle.nk_laws.proofs.Tools.{other}

-- the entries of a block: none, or the first and how many messages each of the others sends
pub data ChildPiece : Type 0 where
  Nothing : ChildPiece
  Parts : (takes_main : Bool) → (takes_back : Bool) → (first : ℕ) → (more : List ℕ) → ChildPiece

abbrev pub total : List ℕ → ℕ
total [] = 0
total (n ∷ ns) = n + total ns

abbrev pub child_whole : ChildPiece → ChildBlock
child_whole Nothing = record { takes_main = false; takes_back = false; ups = 0 }
child_whole (Parts m b first more) = record { takes_main = m; takes_back = b; ups = first + total more }

abbrev pub quiet_child : List ℕ → List ChildBlock
quiet_child [] = []
quiet_child (n ∷ ns) = record { takes_main = false; takes_back = false; ups = n } ∷ quiet_child ns

abbrev pub child_parts : ChildPiece → List ChildBlock
child_parts Nothing = []
child_parts (Parts m b first more) = record { takes_main = m; takes_back = b; ups = first } ∷ quiet_child more

abbrev pub child_wholes : List ChildPiece → List ChildBlock
child_wholes [] = []
child_wholes (x ∷ xs) = child_whole x ∷ child_wholes xs

abbrev pub all_child_parts : List ChildPiece → List ChildBlock
all_child_parts [] = []
all_child_parts (x ∷ xs) = child_parts x ++ all_child_parts xs

shift : (ps : List ParentBlock) (n : ℕ) (bs : List ChildBlock) (ut us us' mt mt' ms bt bt' bm ks : ℕ) → us ≡ us' → mt ≡ mt' → bt ≡ bt'
    → CanPlace (standing ps n bs ut us mt ms bt bm ks) → CanPlace (standing ps n bs ut us' mt' ms bt' bm ks)
shift ps n bs ut us us' mt mt' ms bt bt' bm ks e f g c =
    let P : ℕ → Type 0 = λ x. CanPlace (standing ps n bs ut x mt ms bt bm ks) in
    let Q : ℕ → Type 0 = λ x. CanPlace (standing ps n bs ut us' x ms bt bm ks) in
    let R : ℕ → Type 0 = λ x. CanPlace (standing ps n bs ut us' mt' ms x bm ks) in subst R g (subst Q f (subst P e c))

-- entries that take nothing may be placed at any time

quiet_in : (more : List ℕ) (bs : List ChildBlock) (ps : List ParentBlock) (n ut us mt ms bt bm ks : ℕ)
    → CanPlace (standing ps n bs ut (us + total more) mt ms bt bm ks) → CanPlace (standing ps n (quiet_child more ++ bs) ut us mt ms bt bm ks)
quiet_in [] bs ps n ut us mt ms bt bm ks c = shift ps n bs ut (us + 0) us mt mt ms bt bt bm ks (omega arith) refl refl c
quiet_in (x ∷ more) bs ps n ut us mt ms bt bm ks c =
    before (standing ps n (record { takes_main = false; takes_back = false; ups = x } ∷ (quiet_child more ++ bs)) ut us mt ms bt bm ks) Child refl
    (quiet_in more bs ps n ut (us + x) (mt + 0) ms (bt + 0) bm ks
    (shift ps n bs ut (us + (x + total more)) ((us + x) + total more) mt (mt + 0) ms bt (bt + 0) bm ks (omega arith) (omega arith) (omega arith) c))

quiet_out : (more : List ℕ) (bs : List ChildBlock) (ps : List ParentBlock) (n ut us mt ms bt bm ks : ℕ)
    → CanPlace (standing ps n (quiet_child more ++ bs) ut us mt ms bt bm ks) → CanPlace (standing ps n bs ut (us + total more) mt ms bt bm ks)
quiet_out [] bs ps n ut us mt ms bt bm ks c = shift ps n bs ut us (us + 0) mt mt ms bt bt bm ks (omega arith) refl refl c
quiet_out (x ∷ more) bs ps n ut us mt ms bt bm ks c =
    let one = after (standing ps n (record { takes_main = false; takes_back = false; ups = x } ∷ (quiet_child more ++ bs)) ut us mt ms bt bm ks) Child refl c in
    shift ps n bs ut ((us + x) + total more) (us + (x + total more)) (mt + 0) mt ms (bt + 0) bt bm ks (omega arith) (omega arith) (omega arith)
    (quiet_out more bs ps n ut (us + x) (mt + 0) ms (bt + 0) bm ks one)

to_parts : (o : List Turn) (xs : List ChildPiece) (ps : List ParentBlock) (n ut us mt ms bt bm ks : ℕ)
    → Places (standing ps n (child_wholes xs) ut us mt ms bt bm ks) o → CanPlace (standing ps n (all_child_parts xs) ut us mt ms bt bm ks)
to_parts [] [] ps n ut us mt ms bt bm ks h = ([], h)
to_parts [] (x ∷ xs) ps n ut us mt ms bt bm ks h = let f = other (is_zero n) false (other (none_left ps) _ h) in cc
to_parts (Parent ∷ ts) xs [] n ut us mt ms bt bm ks h = let f = h.0 in cc
to_parts (Parent ∷ ts) xs (p ∷ ps) n ut us mt ms bt bm ks h =
    before (standing (p ∷ ps) n (all_child_parts xs) ut us mt ms bt bm ks) Parent h.0
    (to_parts ts xs ps n (ut + counted p.takes_up) us mt (ms + p.mains) bt bm (ks + p.backs) h.1)
to_parts (Forward ∷ ts) xs ps n ut us mt ms bt bm ks h =
    before (standing ps n (all_child_parts xs) ut us mt ms bt bm ks) Forward h.0 (to_parts ts xs ps (n - 1) ut us mt ms bt (bm + 1) ks h.1)
to_parts (Child ∷ ts) [] ps n ut us mt ms bt bm ks h = let f = h.0 in cc
to_parts (Child ∷ ts) (Nothing ∷ xs) ps n ut us mt ms bt bm ks h =
    shift ps n (all_child_parts xs) ut (us + 0) us (mt + 0) mt ms (bt + 0) bt bm ks (omega arith) (omega arith) (omega arith)
    (to_parts ts xs ps n ut (us + 0) (mt + 0) ms (bt + 0) bm ks h.1)
to_parts (Child ∷ ts) (Parts m b first more ∷ xs) ps n ut us mt ms bt bm ks h =
    before (standing ps n (all_child_parts (Parts m b first more ∷ xs)) ut us mt ms bt bm ks) Child h.0
    (quiet_in more (all_child_parts xs) ps n ut (us + first) (mt + counted m) ms (bt + counted b) bm ks
    (shift ps n (all_child_parts xs) ut (us + (first + total more)) ((us + first) + total more) (mt + counted m) (mt + counted m) ms (bt + counted b) (bt + counted b) bm ks (omega arith) refl refl
    (to_parts ts xs ps n ut (us + (first + total more)) (mt + counted m) ms (bt + counted b) bm ks h.1)))

-- with all entries of a block placed, the rest can be placed as with the block placed
front : (m b : Bool) (first : ℕ) (more : List ℕ) (xs : List ChildPiece) (ps : List ParentBlock) (n ut us mt ms bt bm ks : ℕ) → (may m mt ms && may b bt bm) ≡ true
    → CanPlace (standing ps n (all_child_parts (Parts m b first more ∷ xs)) ut us mt ms bt bm ks)
    → CanPlace (standing ps n (all_child_parts xs) ut (us + (first + total more)) (mt + counted m) ms (bt + counted b) bm ks)
front m b first more xs ps n ut us mt ms bt bm ks t c =
    let one = after (standing ps n (all_child_parts (Parts m b first more ∷ xs)) ut us mt ms bt bm ks) Child t c in
    shift ps n (all_child_parts xs) ut ((us + first) + total more) (us + (first + total more)) (mt + counted m) (mt + counted m) ms (bt + counted b) (bt + counted b) bm ks (omega arith) refl refl
    (quiet_out more (all_child_parts xs) ps n ut (us + first) (mt + counted m) ms (bt + counted b) bm ks one)

pub fits_more : (n k a b : ℕ) → may_forward n a b ≡ true → n + k ≡ ((n - 1) + k) + 1
fits_more zero k a b h = cc
fits_more (suc n) k a b h = omega arith

to_wholes : (fuel : ℕ) (o : List Turn) (xs : List ChildPiece) (ps : List ParentBlock) (n ut us mt ms bt bm ks : ℕ) → length ps + (n + length xs) ≤ fuel
    → Places (standing ps n (all_child_parts xs) ut us mt ms bt bm ks) o → CanPlace (standing ps n (child_wholes xs) ut us mt ms bt bm ks)
to_wholes zero o (Nothing ∷ xs) ps n ut us mt ms bt bm ks le h = absurd (omega arith)
to_wholes (suc fuel) o (Nothing ∷ xs) ps n ut us mt ms bt bm ks le h =
    before (standing ps n (child_wholes (Nothing ∷ xs)) ut us mt ms bt bm ks) Child refl
    (shift ps n (child_wholes xs) ut us (us + 0) mt (mt + 0) ms bt (bt + 0) bm ks (omega arith) (omega arith) (omega arith)
    (to_wholes fuel o xs ps n ut us mt ms bt bm ks (omega arith) h))
to_wholes fuel [] [] ps n ut us mt ms bt bm ks le h = ([], h)
to_wholes fuel [] (Parts m b first more ∷ xs) ps n ut us mt ms bt bm ks le h = let f = other (is_zero n) false (other (none_left ps) _ h) in cc
to_wholes fuel (Parent ∷ ts) xs [] n ut us mt ms bt bm ks le h = let f = h.0 in cc
to_wholes zero (Parent ∷ ts) xs (p ∷ ps) n ut us mt ms bt bm ks le h = absurd (omega arith)
to_wholes (suc fuel) (Parent ∷ ts) xs (p ∷ ps) n ut us mt ms bt bm ks le h =
    before (standing (p ∷ ps) n (child_wholes xs) ut us mt ms bt bm ks) Parent h.0
    (to_wholes fuel ts xs ps n (ut + counted p.takes_up) us mt (ms + p.mains) bt bm (ks + p.backs) (omega arith) h.1)
to_wholes zero (Forward ∷ ts) xs ps n ut us mt ms bt bm ks le h = let e = fits_more n (length xs) bm ks h.0 in absurd (omega arith)
to_wholes (suc fuel) (Forward ∷ ts) xs ps n ut us mt ms bt bm ks le h =
    let e = fits_more n (length xs) bm ks h.0 in
    before (standing ps n (child_wholes xs) ut us mt ms bt bm ks) Forward h.0 (to_wholes fuel ts xs ps (n - 1) ut us mt ms bt (bm + 1) ks (omega arith) h.1)
to_wholes fuel (Child ∷ ts) [] ps n ut us mt ms bt bm ks le h = let f = h.0 in cc
to_wholes zero (Child ∷ ts) (Parts m b first more ∷ xs) ps n ut us mt ms bt bm ks le h = absurd (omega arith)
to_wholes (suc fuel) (Child ∷ ts) (Parts m b first more ∷ xs) ps n ut us mt ms bt bm ks le h =
    let r = front m b first more xs ps n ut us mt ms bt bm ks h.0 (Child ∷ ts, h) in
    before (standing ps n (child_wholes (Parts m b first more ∷ xs)) ut us mt ms bt bm ks) Child h.0
    (to_wholes fuel r.0 xs ps n ut (us + (first + total more)) (mt + counted m) ms (bt + counted b) bm ks (omega arith) r.1)

pub child_cut : (xs : List ChildPiece) (ps : List ParentBlock) (n : ℕ)
    → (CanPlace (standing ps n (child_wholes xs) 0 0 0 0 0 0 0) → CanPlace (standing ps n (all_child_parts xs) 0 0 0 0 0 0 0))
    × (CanPlace (standing ps n (all_child_parts xs) 0 0 0 0 0 0 0) → CanPlace (standing ps n (child_wholes xs) 0 0 0 0 0 0 0))
child_cut xs ps n = (
  (λ c. to_parts c.0 xs ps n 0 0 0 0 0 0 0 c.1),
  (λ c. to_wholes (length ps + (n + length xs)) c.0 xs ps n 0 0 0 0 0 0 0 (omega arith) c.1),
)
