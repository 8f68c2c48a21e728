-- The laws on data: a new child has no data, and each step keeps what is said of it.
use Rattle.std.proofs.Common.{ℕ, zero, suc, ◌≡◌, ◌+◌, ◌≤◌, ◌∙◌, refl, sym, ap, subst, List, [], ◌∷◌, ◌++◌, append_assoc, length, true, Option, Some, slice_get, arith}
use Rattle.nk_base.specs.declared.status.Status.{Status}
use Rattle.nk_base.specs.declared.status.Target.{Target}
use Rattle.nk_base.specs.declared.message.Entry.{Entry}
use Rattle.nk_base.specs.declared.message.Entry.TheVariants as shown
use Rattle.nk_base.specs.Status.{is_failure}
use Rattle.nk_plan.specs.declared.plan.ChannelPlan.{ChannelPlan}
use Rattle.nk_plan.specs.declared.journal.ChildEntry.{ChildEntry}
use Rattle.nk_plan.specs.declared.journal.ChildEntry.TheVariants as child
use Rattle.nk_plan.specs.declared.step.ChildStep.{ChildStep}
use Rattle.nk_plan.specs.Journal.{is_data, count_of}
use Rattle.nk_plan.specs.Child.{ChildState, new_hold, new_child, child_after}
use Rattle.nk_half_laws.specs.Growth.{Shape, Began, Piece, Closed, shapes, told_by, hop_by, told}
use Rattle.nk_half_laws.specs.Pieces.{run_in, data_shown, data_run, shown_weight, message_weight, run_weight, drop_weight, data_taken, data_left, by_place, one_each, is_drop, DataCountLaw, DataLaw, DataOrderLaw, DropsLaw, ShownLaw}
use Rattle.nk_half_laws.specs.Sums.{sum_of}
use Rattle.nk_half_laws.proofs.Failures.{IsKept}
use Rattle.nk_half_laws.proofs.GrowthRows.{trace_told}
use Rattle.nk_half_laws.proofs.PiecesKept.{DropOf, DropsOf, Holds}
use Rattle.nk_half_laws.proofs.PieceRows.{step_kept}
use Rattle.nk_half_laws.proofs.Sums.{empty_hold}

first_kept : (w : ℕ → List ℕ → ℕ) (d : ℕ → ℕ) (c : ChannelPlan) → ((o : ℕ) (p : List ℕ) → d o ≤ w o p) → Holds w d 0 (new_child c)
first_kept w d c l =
    let e : sum_of (message_weight w) (new_hold c.start).kept ≡ 0 = ap (sum_of (message_weight w)) (empty_hold c.start) in
    record { less = l; within = omega arith; whole = λ f i. omega arith; clean = λ f i. omega arith; drops = tt; fails = tt }

all_kept : (w : ℕ → List ℕ → ℕ) (d : ℕ → ℕ) (c : ChannelPlan) (steps : List ChildStep) → ((o : ℕ) (p : List ℕ) → d o ≤ w o p)
    → Holds w d 0 (child_after c steps)
all_kept w d c [] l = first_kept w d c l
all_kept w d c (x ∷ xs) l = step_kept w d c x (child_after c xs) (all_kept w d c xs l)

-- In order: what the journal tells of the trace has the pieces that ran

piece_in : Shape → List (ℕ × ℕ)
piece_in (Began code s) = []
piece_in (Piece o n) = (o, n) ∷ []
piece_in (Closed s trailers) = []

pieces_in : List Shape → List (ℕ × ℕ)
pieces_in [] = []
pieces_in (x ∷ xs) = piece_in x ++ pieces_in xs

pieces_in-append : (xs ys : List Shape) → pieces_in (xs ++ ys) ≡ pieces_in xs ++ pieces_in ys
unfolding pieces_in
pieces_in-append [] ys = refl
pieces_in-append (x ∷ xs) ys =
    ap (λ t. piece_in x ++ t) (pieces_in-append xs ys) ∙ sym (append_assoc (piece_in x) (pieces_in xs) (pieces_in ys))

pieces_shown : (t : List Entry) → pieces_in (shapes t) ≡ data_shown t
unfolding pieces_in piece_in
pieces_shown [] = refl
pieces_shown (shown.Start code st ∷ t) = pieces_shown t
pieces_shown (shown.Bytes o p ∷ t) = ap (λ z. (o, length p) ∷ z) (pieces_shown t)
pieces_shown (shown.Stop st trailers ∷ t) = pieces_shown t

piece_told : (c : ChannelPlan) (h : ℕ) (e : ChildEntry) → pieces_in (told_by c h e) ≡ run_in e
unfolding pieces_in piece_in
piece_told c h (child.RunStart t code s) = refl
piece_told c h (child.RunBytes t o n) = refl
piece_told c h (child.RunStop t s) = refl
piece_told c h _ = refl

pieces_told : (c : ChannelPlan) (h : ℕ) (j : List ChildEntry) → pieces_in (told c h j) ≡ data_run j
unfolding pieces_in
pieces_told c h [] = refl
pieces_told c h (e ∷ j) =
    pieces_in-append (told_by c h e) (told c (hop_by h e) j)
    ∙ (ap (λ t. t ++ pieces_in (told c (hop_by h e) j)) (piece_told c h e) ∙ ap (λ t. run_in e ++ t) (pieces_told c (hop_by h e) j))

pub runs : DataOrderLaw
runs c steps =
    let s : ChildState = child_after c steps in
    sym (pieces_shown s.trace) ∙ (ap pieces_in (trace_told c steps) ∙ pieces_told c 0 s.journal)

-- What was shown weighs what was run

pairs_sum : (ℕ → ℕ) → List (ℕ × ℕ) → ℕ
pairs_sum v xs = sum_of (λ (x : ℕ × ℕ). v x.0) xs

pairs_shown : (v : ℕ → ℕ) (t : List Entry) → pairs_sum v (data_shown t) ≡ sum_of (shown_weight (by_place v)) t
unfolding pairs_sum
pairs_shown v [] = refl
pairs_shown v (shown.Start code st ∷ t) =
    let h : pairs_sum v (data_shown t) ≡ sum_of (shown_weight (by_place v)) t = pairs_shown v t in omega arith
pairs_shown v (shown.Bytes o p ∷ t) =
    let h : pairs_sum v (data_shown t) ≡ sum_of (shown_weight (by_place v)) t = pairs_shown v t in omega arith
pairs_shown v (shown.Stop st trailers ∷ t) =
    let h : pairs_sum v (data_shown t) ≡ sum_of (shown_weight (by_place v)) t = pairs_shown v t in omega arith

pairs_run : (v : ℕ → ℕ) (j : List ChildEntry) → pairs_sum v (data_run j) ≡ sum_of (run_weight v) j
unfolding pairs_sum
pairs_run v [] = refl
pairs_run v (child.RunBytes t o n ∷ j) = let h : pairs_sum v (data_run j) ≡ sum_of (run_weight v) j = pairs_run v j in omega arith
pairs_run v (_ ∷ j) = let h : pairs_sum v (data_run j) ≡ sum_of (run_weight v) j = pairs_run v j in omega arith

shown_is_run : (v : ℕ → ℕ) (c : ChannelPlan) (steps : List ChildStep) →
    let s = child_after c steps in sum_of (shown_weight (by_place v)) s.trace ≡ sum_of (run_weight v) s.journal
shown_is_run v c steps =
    let s : ChildState = child_after c steps in sym (pairs_shown v s.trace) ∙ (ap (pairs_sum v) (runs c steps) ∙ pairs_run v s.journal)

-- In numbers

runs_counted : (j : List ChildEntry) → sum_of (run_weight (λ o. 1)) j ≡ count_of is_data j
runs_counted [] = refl
runs_counted (child.RunBytes t o n ∷ j) = let h : sum_of (run_weight (λ o. 1)) j ≡ count_of is_data j = runs_counted j in omega arith
runs_counted (_ ∷ j) = let h : sum_of (run_weight (λ o. 1)) j ≡ count_of is_data j = runs_counted j in omega arith

drops_counted : (j : List ChildEntry) → sum_of (drop_weight (λ o. 1)) j ≡ count_of is_drop j
drops_counted [] = refl
drops_counted (child.RunDrop t o q ∷ j) = let h : sum_of (drop_weight (λ o. 1)) j ≡ count_of is_drop j = drops_counted j in omega arith
drops_counted (_ ∷ j) = let h : sum_of (drop_weight (λ o. 1)) j ≡ count_of is_drop j = drops_counted j in omega arith

-- Nothing dropped weighs anything

no_drops : (j : List ChildEntry) → sum_of (drop_weight (λ o. 0)) j ≡ 0
no_drops [] = refl
no_drops (child.RunDrop t o q ∷ j) = let h : sum_of (drop_weight (λ o. 0)) j ≡ 0 = no_drops j in omega arith
no_drops (_ ∷ j) = let h : sum_of (drop_weight (λ o. 0)) j ≡ 0 = no_drops j in omega arith

-- The drop in a journal

drop_found : (k : Option Status) (j : List ChildEntry) (i : ℕ) (t : Target) (o : ℕ) (q : Status) → DropsOf k j
    → slice_get j i ≡ Some (child.RunDrop t o q) → k ≡ Some q
drop_found k [] i t o q h e = cc
drop_found k (x ∷ j) zero t o q h e = let y : x ≡ child.RunDrop t o q = cc in subst (DropOf k) y h.0
drop_found k (x ∷ j) (suc i) t o q h e = drop_found k j i t o q h.1 e

-- The laws. What was shown, dropped and is left are a', b and l; a is a' told otherwise

sum_within : (a a' b l k : ℕ) → a' ≡ a → 0 + l + a' + b ≤ k → a + b + l ≤ k
sum_within a a' b l k q h = omega arith

sum_whole : (a a' b l k : ℕ) → a' ≡ a → 0 + l + a' + b ≡ k → a + b + l ≡ k
sum_whole a a' b l k q h = omega arith

pub data_kept : DataLaw
data_kept c steps v =
    let w : ℕ → List ℕ → ℕ = by_place v in
    let s : ChildState = child_after c steps in
    let h : Holds w v 0 s = all_kept w v c steps (λ o p. omega arith) in
    let a : ℕ = sum_of (run_weight v) s.journal in
    let a' : ℕ = sum_of (shown_weight w) s.trace in
    let b : ℕ = sum_of (drop_weight v) s.journal in
    let r : sum_of (shown_weight w) s.trace ≡ sum_of (run_weight v) s.journal = shown_is_run v c steps in (
      sum_within a a' b (data_left w s) (data_taken w s) r h.within,
      λ f. sum_whole a a' b (data_left w s) (data_taken w s) r (h.whole f (λ o p. refl)),
    )

counts_within : (a b a' b' l k : ℕ) → a ≡ a' → b ≡ b' → a + b + l ≤ k → a' + b' + l ≤ k
counts_within a b a' b' l k p q h = omega arith

counts_whole : (a b a' b' l k : ℕ) → a ≡ a' → b ≡ b' → a + b + l ≡ k → a' + b' + l ≡ k
counts_whole a b a' b' l k p q h = omega arith

pub counts : DataCountLaw
counts c steps =
    let s : ChildState = child_after c steps in
    let a : ℕ = sum_of (run_weight (λ o. 1)) s.journal in
    let b : ℕ = sum_of (drop_weight (λ o. 1)) s.journal in
    let a' : ℕ = count_of is_data s.journal in
    let b' : ℕ = count_of is_drop s.journal in
    let p : sum_of (run_weight (λ o. 1)) s.journal ≡ count_of is_data s.journal = runs_counted s.journal in
    let q : sum_of (drop_weight (λ o. 1)) s.journal ≡ count_of is_drop s.journal = drops_counted s.journal in
    let d = data_kept c steps (λ o. 1) in (
      counts_within a b a' b' (data_left one_each s) (data_taken one_each s) p q d.0,
      λ f. counts_whole a b a' b' (data_left one_each s) (data_taken one_each s) p q (d.1 f),
    )

some_within : (a b l k : ℕ) → b ≡ 0 → 0 + l + a + b ≤ k → a + l ≤ k
some_within a b l k q h = omega arith

some_whole : (a b l k : ℕ) → b ≡ 0 → 0 + l + a + b ≡ k → a + l ≡ k
some_whole a b l k q h = omega arith

pub shown_kept : ShownLaw
shown_kept c steps w =
    let s : ChildState = child_after c steps in
    let h : Holds w (λ o. 0) 0 s = all_kept w (λ o. 0) c steps (λ o p. omega arith) in
    let a : ℕ = sum_of (shown_weight w) s.trace in
    let b : ℕ = sum_of (drop_weight (λ o. 0)) s.journal in (
      some_within a b (data_left w s) (data_taken w s) (no_drops s.journal) h.within,
      λ f k. some_whole a b (data_left w s) (data_taken w s) (no_drops s.journal) (h.clean f k),
    )

fails_of : (k : Option Status) (q : Status) → k ≡ Some q → IsKept k → is_failure q ≡ true
fails_of k q e h = subst IsKept e h

pub drops_kept : DropsLaw
drops_kept c steps i t o q e =
    let s : ChildState = child_after c steps in
    let h : Holds one_each (λ o. 0) 0 s = all_kept one_each (λ o. 0) c steps (λ o p. omega arith) in
    let k : s.kept ≡ Some q = drop_found s.kept s.journal i t o q h.drops e in
    (k, fails_of s.kept q k h.fails)
