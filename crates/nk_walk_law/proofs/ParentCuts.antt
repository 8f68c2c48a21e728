-- The entries of a parent's journal are the blocks of its run, cut.
use Rattle.std.proofs.Common.{ℕ, suc, ◌≡◌, ◌+◌, refl, sym, ◌∙◌, ap, Bool, true, false, List, [], ◌∷◌, ◌++◌, length, drop, arith, append_assoc}
use Rattle.nk_base.specs.Queue.{has_some}
use Rattle.nk_plan.specs.declared.plan.ChannelPlan.{ChannelPlan}
use Rattle.nk_plan.specs.declared.journal.ParentEntry.{ParentEntry}
use Rattle.nk_plan.specs.declared.journal.ParentEntry.TheVariants as entry
use Rattle.nk_plan.specs.declared.step.ParentStep.{ParentStep}
use Rattle.nk_plan.specs.Journal.{ups_taken, mains_sent, backs_sent}
use Rattle.nk_plan.specs.Parent.{ParentState, parent_step, parent_after}
use Rattle.nk_plan.specs.Run.{parent_block, parent_blocks}
use Rattle.nk_plan.specs.Telling.{parent_entry_block, parent_entries}
use Rattle.nk_plan.specs.Walk.{ParentBlock}
use Rattle.nk_walk.specs.Cut.{Sends, ParentCut, Empty, Entries, sum_mains, sum_backs, parent_whole, parent_others, parent_parts, parent_wholes, all_parent_parts}
use Rattle.nk_walk_law.proofs.Tools.{append_nil, added}
use Rattle.nk_walk_law.proofs.ParentEnters.{TakesFirst, parent_enters}

-- Entries as a block that is cut

abbrev sends_all : List ParentEntry → List Sends
sends_all [] = []
sends_all (e ∷ p) = record { mains = (parent_entry_block e).mains; backs = (parent_entry_block e).backs } ∷ sends_all p

abbrev pub parent_cut : List ParentEntry → ParentCut
parent_cut [] = Empty
parent_cut (e ∷ p) = Entries (parent_entry_block e).takes_up (parent_entry_block e).mains (parent_entry_block e).backs (sends_all p)

mains_total : (p : List ParentEntry) → sum_mains (sends_all p) ≡ length (mains_sent p)
mains_total [] = refl
mains_total (entry.Took m ∷ p) = let e = mains_total p in omega arith
mains_total (entry.SentMain m ∷ p) = let e = mains_total p in omega arith
mains_total (entry.SentBack m ∷ p) = let e = mains_total p in omega arith

backs_total : (p : List ParentEntry) → sum_backs (sends_all p) ≡ length (backs_sent p)
backs_total [] = refl
backs_total (entry.Took m ∷ p) = let e = backs_total p in omega arith
backs_total (entry.SentMain m ∷ p) = let e = backs_total p in omega arith
backs_total (entry.SentBack m ∷ p) = let e = backs_total p in omega arith

abbrev block_with : Bool → ℕ → ℕ → ParentBlock
block_with u m b = record { takes_up = u; mains = m; backs = b }

same_block : (u u' : Bool) (m m' b b' : ℕ) → u ≡ u' → m ≡ m' → b ≡ b' → block_with u m b ≡ block_with u' m' b'
same_block u u' m m' b b' e f g = ap (λ x. block_with x m b) e ∙ (ap (λ x. block_with u' x b) f ∙ ap (λ x. block_with u' m' x) g)

whole_is : (p : List ParentEntry) → TakesFirst p → parent_whole (parent_cut p) ≡ parent_block p
whole_is [] h = refl
whole_is (entry.Took m ∷ p) h =
    same_block true true (0 + sum_mains (sends_all p)) (length (mains_sent p)) (0 + sum_backs (sends_all p)) (length (backs_sent p)) refl
    (let e = mains_total p in omega arith) (let e = backs_total p in omega arith)
whole_is (entry.SentMain m ∷ p) h =
    same_block false (has_some (ups_taken p)) (1 + sum_mains (sends_all p)) (suc (length (mains_sent p))) (0 + sum_backs (sends_all p)) (length (backs_sent p)) (ap has_some (sym h))
    (let e = mains_total p in omega arith) (let e = backs_total p in omega arith)
whole_is (entry.SentBack m ∷ p) h =
    same_block false (has_some (ups_taken p)) (0 + sum_mains (sends_all p)) (length (mains_sent p)) (1 + sum_backs (sends_all p)) (suc (length (backs_sent p))) (ap has_some (sym h))
    (let e = mains_total p in omega arith) (let e = backs_total p in omega arith)

others_are : (p : List ParentEntry) → ups_taken p ≡ [] → parent_others (sends_all p) ≡ parent_entries p
others_are [] h = refl
others_are (entry.Took m ∷ p) h = cc
others_are (entry.SentMain m ∷ p) h = ap (λ t. block_with false 1 0 ∷ t) (others_are p h)
others_are (entry.SentBack m ∷ p) h = ap (λ t. block_with false 0 1 ∷ t) (others_are p h)

parts_are : (p : List ParentEntry) → TakesFirst p → parent_parts (parent_cut p) ≡ parent_entries p
parts_are [] h = refl
parts_are (e ∷ p) h = ap (λ t. parent_entry_block e ∷ t) (others_are p h)

-- The blocks of steps

abbrev pub parent_last : ChannelPlan → ParentStep → List ParentStep → ParentCut
parent_last c x xs = parent_cut (parent_enters c x (parent_after c xs)).entries

abbrev pub parent_cuts : ChannelPlan → List ParentStep → List ParentCut
parent_cuts c [] = []
parent_cuts c (x ∷ xs) = parent_cuts c xs ++ parent_last c x xs ∷ []

wholes-append : (xs ys : List ParentCut) → parent_wholes (xs ++ ys) ≡ parent_wholes xs ++ parent_wholes ys
wholes-append [] ys = refl
wholes-append (x ∷ xs) ys = ap (λ t. parent_whole x ∷ t) (wholes-append xs ys)

parts-append : (xs ys : List ParentCut) → all_parent_parts (xs ++ ys) ≡ all_parent_parts xs ++ all_parent_parts ys
parts-append [] ys = refl
parts-append (x ∷ xs) ys = ap (λ t. parent_parts x ++ t) (parts-append xs ys) ∙ sym (append_assoc (parent_parts x) (all_parent_parts xs) (all_parent_parts ys))

entries-append : (p q : List ParentEntry) → parent_entries (p ++ q) ≡ parent_entries p ++ parent_entries q
entries-append [] q = refl
entries-append (e ∷ p) q = ap (λ t. parent_entry_block e ∷ t) (entries-append p q)

pub parent_wholes_are : (c : ChannelPlan) (xs : List ParentStep) → parent_wholes (parent_cuts c xs) ≡ parent_blocks c xs
parent_wholes_are c [] = refl
parent_wholes_are c (x ∷ xs) =
    let s : ParentState = parent_after c xs in
    let e = parent_enters c x s in
    let b : parent_whole (parent_cut e.entries) ≡ parent_block (drop (length s.journal) (parent_step c x s).journal) =
    whole_is e.entries e.takes_first ∙ sym (ap parent_block (added s.journal e.entries (parent_step c x s).journal e.journal_is)) in
    wholes-append (parent_cuts c xs) (parent_cut e.entries ∷ [])
    ∙ (ap (λ t. t ++ parent_whole (parent_cut e.entries) ∷ []) (parent_wholes_are c xs)
    ∙ ap (λ y. parent_blocks c xs ++ y ∷ []) b)

pub parent_parts_are : (c : ChannelPlan) (xs : List ParentStep) → all_parent_parts (parent_cuts c xs) ≡ parent_entries (parent_after c xs).journal
parent_parts_are c [] = refl
parent_parts_are c (x ∷ xs) =
    let s : ParentState = parent_after c xs in
    let e = parent_enters c x s in
    parts-append (parent_cuts c xs) (parent_cut e.entries ∷ [])
    ∙ (ap (λ t. t ++ (parent_parts (parent_cut e.entries) ++ [])) (parent_parts_are c xs)
    ∙ (ap (λ t. parent_entries s.journal ++ t) (append_nil (parent_parts (parent_cut e.entries)) ∙ parts_are e.entries e.takes_first)
    ∙ (sym (entries-append s.journal e.entries)
    ∙ ap parent_entries (sym e.journal_is))))

pub parent_entries_length : (p : List ParentEntry) → length (parent_entries p) ≡ length p
parent_entries_length [] = refl
parent_entries_length (e ∷ p) = ap suc (parent_entries_length p)

pub parent_wholes_length : (xs : List ParentCut) → length (parent_wholes xs) ≡ length xs
parent_wholes_length [] = refl
parent_wholes_length (x ∷ xs) = ap suc (parent_wholes_length xs)
