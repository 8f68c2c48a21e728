-- A parent's blocks can be placed exactly where their entries can, one by one: the first entry of a block takes as the block
-- does, and the others take nothing.
use Rattle.std.proofs.Common.{ℕ, suc, zero, ◌≡◌, ◌+◌, ◌-◌, ◌≤◌, refl, subst, Bool, true, false, List, [], ◌∷◌, ◌++◌, length, arith}
use Rattle.nk_plan.specs.Walk.{ParentBlock, ChildBlock, Turn, Parent, Forward, Child, counted, may, Places, CanPlace}
use Rattle.nk_laws.proofs.Placing.{after, before}
use Rattle.nk_laws.proofs.CutChild.{fits_more}
use Rattle.nk_laws.proofs.More.{standing}

-- how many messages an entry that takes nothing sends on each lane
pub record Sends : Type 0 where
  pub mains : ℕ
  pub backs : ℕ

-- the entries of a block: none, or the first and what each of the others sends
pub data ParentPiece : Type 0 where
  Nothing : ParentPiece
  Parts : (takes_up : Bool) → (mains : ℕ) → (backs : ℕ) → (more : List Sends) → ParentPiece

abbrev pub total_mains : List Sends → ℕ
total_mains [] = 0
total_mains (x ∷ xs) = x.mains + total_mains xs

abbrev pub total_backs : List Sends → ℕ
total_backs [] = 0
total_backs (x ∷ xs) = x.backs + total_backs xs

abbrev pub parent_whole : ParentPiece → ParentBlock
parent_whole Nothing = record { takes_up = false; mains = 0; backs = 0 }
parent_whole (Parts u m b more) = record { takes_up = u; mains = m + total_mains more; backs = b + total_backs more }

abbrev pub quiet_parent : List Sends → List ParentBlock
quiet_parent [] = []
quiet_parent (x ∷ xs) = record { takes_up = false; mains = x.mains; backs = x.backs } ∷ quiet_parent xs

abbrev pub parent_parts : ParentPiece → List ParentBlock
parent_parts Nothing = []
parent_parts (Parts u m b more) = record { takes_up = u; mains = m; backs = b } ∷ quiet_parent more

abbrev pub parent_wholes : List ParentPiece → List ParentBlock
parent_wholes [] = []
parent_wholes (x ∷ xs) = parent_whole x ∷ parent_wholes xs

abbrev pub all_parent_parts : List ParentPiece → List ParentBlock
all_parent_parts [] = []
all_parent_parts (x ∷ xs) = parent_parts x ++ all_parent_parts xs

shift : (ps : List ParentBlock) (n : ℕ) (bs : List ChildBlock) (ut ut' us mt ms ms' bt bm ks ks' : ℕ) → ut ≡ ut' → ms ≡ ms' → ks ≡ ks'
    → CanPlace (standing ps n bs ut us mt ms bt bm ks) → CanPlace (standing ps n bs ut' us mt ms' bt bm ks')
shift ps n bs ut ut' us mt ms ms' bt bm ks ks' e f g c =
    let P : ℕ → Type 0 = λ x. CanPlace (standing ps n bs x us mt ms bt bm ks) in
    let Q : ℕ → Type 0 = λ x. CanPlace (standing ps n bs ut' us mt x bt bm ks) in
    let R : ℕ → Type 0 = λ x. CanPlace (standing ps n bs ut' us mt ms' bt bm x) in subst R g (subst Q f (subst P e c))

-- entries that take nothing may be placed at any time

quiet_in : (more : List Sends) (ps : List ParentBlock) (n : ℕ) (bs : List ChildBlock) (ut us mt ms bt bm ks : ℕ)
    → CanPlace (standing ps n bs ut us mt (ms + total_mains more) bt bm (ks + total_backs more)) → CanPlace (standing (quiet_parent more ++ ps) n bs ut us mt ms bt bm ks)
quiet_in [] ps n bs ut us mt ms bt bm ks c = shift ps n bs ut ut us mt (ms + 0) ms bt bm (ks + 0) ks refl (omega arith) (omega arith) c
quiet_in (x ∷ more) ps n bs ut us mt ms bt bm ks c =
    before (standing (record { takes_up = false; mains = x.mains; backs = x.backs } ∷ (quiet_parent more ++ ps)) n bs ut us mt ms bt bm ks) Parent refl
    (quiet_in more ps n bs (ut + 0) us mt (ms + x.mains) bt bm (ks + x.backs)
    (shift ps n bs ut (ut + 0) us mt (ms + (x.mains + total_mains more)) ((ms + x.mains) + total_mains more) bt bm (ks + (x.backs + total_backs more)) ((ks + x.backs) + total_backs more) (omega arith) (omega arith) (omega arith) c))

quiet_out : (more : List Sends) (ps : List ParentBlock) (n : ℕ) (bs : List ChildBlock) (ut us mt ms bt bm ks : ℕ)
    → CanPlace (standing (quiet_parent more ++ ps) n bs ut us mt ms bt bm ks) → CanPlace (standing ps n bs ut us mt (ms + total_mains more) bt bm (ks + total_backs more))
quiet_out [] ps n bs ut us mt ms bt bm ks c = shift ps n bs ut ut us mt ms (ms + 0) bt bm ks (ks + 0) refl (omega arith) (omega arith) c
quiet_out (x ∷ more) ps n bs ut us mt ms bt bm ks c =
    let first = after (standing (record { takes_up = false; mains = x.mains; backs = x.backs } ∷ (quiet_parent more ++ ps)) n bs ut us mt ms bt bm ks) Parent refl c in
    shift ps n bs (ut + 0) ut us mt ((ms + x.mains) + total_mains more) (ms + (x.mains + total_mains more)) bt bm ((ks + x.backs) + total_backs more) (ks + (x.backs + total_backs more)) (omega arith) (omega arith) (omega arith)
    (quiet_out more ps n bs (ut + 0) us mt (ms + x.mains) bt bm (ks + x.backs) first)

to_parts : (o : List Turn) (xs : List ParentPiece) (n : ℕ) (bs : List ChildBlock) (ut us mt ms bt bm ks : ℕ)
    → Places (standing (parent_wholes xs) n bs ut us mt ms bt bm ks) o → CanPlace (standing (all_parent_parts xs) n bs ut us mt ms bt bm ks)
to_parts [] [] n bs ut us mt ms bt bm ks h = ([], h)
to_parts [] (x ∷ xs) n bs ut us mt ms bt bm ks h = cc
to_parts (Parent ∷ ts) [] n bs ut us mt ms bt bm ks h = let f = h.0 in cc
to_parts (Parent ∷ ts) (Nothing ∷ xs) n bs ut us mt ms bt bm ks h =
    shift (all_parent_parts xs) n bs (ut + 0) ut us mt (ms + 0) ms bt bm (ks + 0) ks (omega arith) (omega arith) (omega arith)
    (to_parts ts xs n bs (ut + 0) us mt (ms + 0) bt bm (ks + 0) h.1)
to_parts (Parent ∷ ts) (Parts u m b more ∷ xs) n bs ut us mt ms bt bm ks h =
    before (standing (all_parent_parts (Parts u m b more ∷ xs)) n bs ut us mt ms bt bm ks) Parent h.0
    (quiet_in more (all_parent_parts xs) n bs (ut + counted u) us mt (ms + m) bt bm (ks + b)
    (shift (all_parent_parts xs) n bs (ut + counted u) (ut + counted u) us mt (ms + (m + total_mains more)) ((ms + m) + total_mains more) bt bm (ks + (b + total_backs more)) ((ks + b) + total_backs more) refl (omega arith) (omega arith)
    (to_parts ts xs n bs (ut + counted u) us mt (ms + (m + total_mains more)) bt bm (ks + (b + total_backs more)) h.1)))
to_parts (Forward ∷ ts) xs n bs ut us mt ms bt bm ks h =
    before (standing (all_parent_parts xs) n bs ut us mt ms bt bm ks) Forward h.0 (to_parts ts xs (n - 1) bs ut us mt ms bt (bm + 1) ks h.1)
to_parts (Child ∷ ts) xs n [] ut us mt ms bt bm ks h = let f = h.0 in cc
to_parts (Child ∷ ts) xs n (y ∷ bs) ut us mt ms bt bm ks h =
    before (standing (all_parent_parts xs) n (y ∷ bs) ut us mt ms bt bm ks) Child h.0
    (to_parts ts xs n bs ut (us + y.ups) (mt + counted y.takes_main) ms (bt + counted y.takes_back) bm ks h.1)

-- with all entries of a block placed, the rest can be placed as with the block placed
front : (u : Bool) (m b : ℕ) (more : List Sends) (xs : List ParentPiece) (n : ℕ) (bs : List ChildBlock) (ut us mt ms bt bm ks : ℕ) → may u ut us ≡ true
    → CanPlace (standing (all_parent_parts (Parts u m b more ∷ xs)) n bs ut us mt ms bt bm ks)
    → CanPlace (standing (all_parent_parts xs) n bs (ut + counted u) us mt (ms + (m + total_mains more)) bt bm (ks + (b + total_backs more)))
front u m b more xs n bs ut us mt ms bt bm ks t c =
    let first = after (standing (all_parent_parts (Parts u m b more ∷ xs)) n bs ut us mt ms bt bm ks) Parent t c in
    shift (all_parent_parts xs) n bs (ut + counted u) (ut + counted u) us mt ((ms + m) + total_mains more) (ms + (m + total_mains more)) bt bm ((ks + b) + total_backs more) (ks + (b + total_backs more)) refl (omega arith) (omega arith)
    (quiet_out more (all_parent_parts xs) n bs (ut + counted u) us mt (ms + m) bt bm (ks + b) first)

to_wholes : (fuel : ℕ) (o : List Turn) (xs : List ParentPiece) (n : ℕ) (bs : List ChildBlock) (ut us mt ms bt bm ks : ℕ) → length xs + (n + length bs) ≤ fuel
    → Places (standing (all_parent_parts xs) n bs ut us mt ms bt bm ks) o → CanPlace (standing (parent_wholes xs) n bs ut us mt ms bt bm ks)
to_wholes zero o (Nothing ∷ xs) n bs ut us mt ms bt bm ks le h = absurd (omega arith)
to_wholes (suc fuel) o (Nothing ∷ xs) n bs ut us mt ms bt bm ks le h =
    before (standing (parent_wholes (Nothing ∷ xs)) n bs ut us mt ms bt bm ks) Parent refl
    (shift (parent_wholes xs) n bs ut (ut + 0) us mt ms (ms + 0) bt bm ks (ks + 0) (omega arith) (omega arith) (omega arith)
    (to_wholes fuel o xs n bs ut us mt ms bt bm ks (omega arith) h))
to_wholes fuel [] [] n bs ut us mt ms bt bm ks le h = ([], h)
to_wholes fuel [] (Parts u m b more ∷ xs) n bs ut us mt ms bt bm ks le h = cc
to_wholes fuel (Parent ∷ ts) [] n bs ut us mt ms bt bm ks le h = let f = h.0 in cc
to_wholes zero (Parent ∷ ts) (Parts u m b more ∷ xs) n bs ut us mt ms bt bm ks le h = absurd (omega arith)
to_wholes (suc fuel) (Parent ∷ ts) (Parts u m b more ∷ xs) n bs ut us mt ms bt bm ks le h =
    let r = front u m b more xs n bs ut us mt ms bt bm ks h.0 (Parent ∷ ts, h) in
    before (standing (parent_wholes (Parts u m b more ∷ xs)) n bs ut us mt ms bt bm ks) Parent h.0
    (to_wholes fuel r.0 xs n bs (ut + counted u) us mt (ms + (m + total_mains more)) bt bm (ks + (b + total_backs more)) (omega arith) r.1)
to_wholes zero (Forward ∷ ts) xs n bs ut us mt ms bt bm ks le h = let e = fits_more n (length bs) bm ks h.0 in absurd (omega arith)
to_wholes (suc fuel) (Forward ∷ ts) xs n bs ut us mt ms bt bm ks le h =
    let e = fits_more n (length bs) bm ks h.0 in
    before (standing (parent_wholes xs) n bs ut us mt ms bt bm ks) Forward h.0 (to_wholes fuel ts xs (n - 1) bs ut us mt ms bt (bm + 1) ks (omega arith) h.1)
to_wholes fuel (Child ∷ ts) xs n [] ut us mt ms bt bm ks le h = let f = h.0 in cc
to_wholes zero (Child ∷ ts) xs n (y ∷ bs) ut us mt ms bt bm ks le h = absurd (omega arith)
to_wholes (suc fuel) (Child ∷ ts) xs n (y ∷ bs) ut us mt ms bt bm ks le h =
    before (standing (parent_wholes xs) n (y ∷ bs) ut us mt ms bt bm ks) Child h.0
    (to_wholes fuel ts xs n bs ut (us + y.ups) (mt + counted y.takes_main) ms (bt + counted y.takes_back) bm ks (omega arith) h.1)

pub parent_cut : (xs : List ParentPiece) (n : ℕ) (bs : List ChildBlock)
    → (CanPlace (standing (parent_wholes xs) n bs 0 0 0 0 0 0 0) → CanPlace (standing (all_parent_parts xs) n bs 0 0 0 0 0 0 0))
    × (CanPlace (standing (all_parent_parts xs) n bs 0 0 0 0 0 0 0) → CanPlace (standing (parent_wholes xs) n bs 0 0 0 0 0 0 0))
parent_cut xs n bs = (
  (λ c. to_parts c.0 xs n bs 0 0 0 0 0 0 0 c.1),
  (λ c. to_wholes (length xs + (n + length bs)) c.0 xs n bs 0 0 0 0 0 0 0 (omega arith) c.1),
)
