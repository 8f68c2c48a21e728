-- The entries of a child's journal are the blocks of its run, cut. What a block sent is what its entries tell.
use Rattle.std.proofs.Common.{ℕ, suc, ◌≡◌, ◌+◌, refl, sym, ◌∙◌, ap, Bool, false, List, [], ◌∷◌, ◌++◌, length, drop, arith, append_assoc, length-append}
use Rattle.nk_base.specs.declared.message.UpMsg.{UpMsg}
use Rattle.nk_base.specs.Queue.{has_some}
use Rattle.nk_plan.specs.declared.plan.ChannelPlan.{ChannelPlan}
use Rattle.nk_plan.specs.declared.journal.ChildEntry.{ChildEntry}
use Rattle.nk_plan.specs.declared.step.ChildStep.{ChildStep}
use Rattle.nk_plan.specs.Child.{ChildState, child_step, child_after}
use Rattle.nk_plan.specs.Journal.{main_in, back_in, mains_taken, backs_taken}
use Rattle.nk_plan.specs.Run.{child_block, child_blocks}
use Rattle.nk_plan.specs.Telling.{Telling, new_telling, sends_at, telling_after, sends_from, child_entry_block, child_entries}
use Rattle.nk_plan.specs.Walk.{ChildBlock}
use Rattle.nk_laws.specs.Laws.{SendsLaw}
use Rattle.nk_walk.specs.Cut.{ChildCut, NoEntry, Parts, sum_ups, child_whole, child_others, child_parts, child_wholes, all_child_parts}
use Rattle.nk_walk_law.proofs.Tools.{append_nil, first_empty, last_empty, added}
use Rattle.nk_walk_law.proofs.ChildEnters.{TakesFirst, child_enters}

-- what several entries tell
abbrev telling_at : Telling → List ChildEntry → Telling
telling_at t [] = t
telling_at t (e ∷ j) = telling_at (telling_after t e) j

-- Entries as a block that is cut

abbrev sizes : Telling → List ChildEntry → List ℕ
sizes t [] = []
sizes t (e ∷ j) = length (sends_at t e) ∷ sizes (telling_after t e) j

abbrev child_cut : Telling → List ChildEntry → ChildCut
child_cut t [] = NoEntry
child_cut t (e ∷ j) = Parts (has_some (main_in e)) (has_some (back_in e)) (length (sends_at t e)) (sizes (telling_after t e) j)

sizes_total : (t : Telling) (j : List ChildEntry) → sum_ups (sizes t j) ≡ length (sends_from t j)
sizes_total t [] = refl
sizes_total t (e ∷ j) =
    let r = sizes_total (telling_after t e) j in
    let l = length-append (sends_at t e) (sends_from (telling_after t e) j) in
    omega arith

abbrev block_with : Bool → Bool → ℕ → ChildBlock
block_with m b n = record { takes_main = m; takes_back = b; ups = n }

same_block : (m m' b b' : Bool) (n n' : ℕ) → m ≡ m' → b ≡ b' → n ≡ n' → block_with m b n ≡ block_with m' b' n'
same_block m m' b b' n n' e f g = ap (λ x. block_with x b n) e ∙ (ap (λ x. block_with m' x n) f ∙ ap (λ x. block_with m' b' x) g)

has_front : {A : Type 0} (xs ys : List A) → ys ≡ [] → has_some xs ≡ has_some (xs ++ ys)
has_front xs ys e = ap has_some (sym (append_nil xs) ∙ ap (λ t. xs ++ t) (sym e))

whole_is : (t : Telling) (j : List ChildEntry) → TakesFirst j → child_whole (child_cut t j) ≡ child_block j (sends_from t j)
whole_is t [] h = refl
whole_is t (e ∷ j) h =
    same_block (has_some (main_in e)) (has_some (main_in e ++ mains_taken j)) (has_some (back_in e)) (has_some (back_in e ++ backs_taken j)) (length (sends_at t e) + sum_ups (sizes (telling_after t e) j)) (length (sends_from t (e ∷ j)))
    (has_front (main_in e) (mains_taken j) h.0) (has_front (back_in e) (backs_taken j) h.1)
    (let r = sizes_total (telling_after t e) j in let l = length-append (sends_at t e) (sends_from (telling_after t e) j) in omega arith)

others_are : (t : Telling) (j : List ChildEntry) → mains_taken j ≡ [] → backs_taken j ≡ [] → child_others (sizes t j) ≡ child_entries t j
others_are t [] m b = refl
others_are t (e ∷ j) m b =
    let n = length (sends_at t e) in
    ap (λ x. x ∷ child_others (sizes (telling_after t e) j))
    (same_block false (has_some (main_in e)) false (has_some (back_in e)) (length (sends_at t e)) (length (sends_at t e))
    (ap has_some (sym (first_empty (main_in e) (mains_taken j) m))) (ap has_some (sym (first_empty (back_in e) (backs_taken j) b))) refl)
    ∙ ap (λ x. child_entry_block t e ∷ x) (others_are (telling_after t e) j (last_empty (main_in e) (mains_taken j) m) (last_empty (back_in e) (backs_taken j) b))

parts_are : (t : Telling) (j : List ChildEntry) → TakesFirst j → child_parts (child_cut t j) ≡ child_entries t j
parts_are t [] h = refl
parts_are t (e ∷ j) h = ap (λ x. child_entry_block t e ∷ x) (others_are (telling_after t e) j h.0 h.1)

-- The blocks of steps

abbrev told : ChannelPlan → List ChildStep → Telling
told c xs = telling_at new_telling (child_after c xs).journal

abbrev pub child_last : ChannelPlan → ChildStep → List ChildStep → ChildCut
child_last c x xs = child_cut (told c xs) (child_enters c x (child_after c xs)).entries

abbrev pub child_cuts : ChannelPlan → List ChildStep → List ChildCut
child_cuts c [] = []
child_cuts c (x ∷ xs) = child_cuts c xs ++ child_last c x xs ∷ []

wholes-append : (xs ys : List ChildCut) → child_wholes (xs ++ ys) ≡ child_wholes xs ++ child_wholes ys
wholes-append [] ys = refl
wholes-append (x ∷ xs) ys = ap (λ t. child_whole x ∷ t) (wholes-append xs ys)

parts-append : (xs ys : List ChildCut) → all_child_parts (xs ++ ys) ≡ all_child_parts xs ++ all_child_parts ys
parts-append [] ys = refl
parts-append (x ∷ xs) ys = ap (λ t. child_parts x ++ t) (parts-append xs ys) ∙ sym (append_assoc (child_parts x) (all_child_parts xs) (all_child_parts ys))

entries-append : (t : Telling) (j k : List ChildEntry) → child_entries t (j ++ k) ≡ child_entries t j ++ child_entries (telling_at t j) k
entries-append t [] k = refl
entries-append t (e ∷ j) k = ap (λ x. child_entry_block t e ∷ x) (entries-append (telling_after t e) j k)

sends-append : (t : Telling) (j k : List ChildEntry) → sends_from t (j ++ k) ≡ sends_from t j ++ sends_from (telling_at t j) k
sends-append t [] k = refl
sends-append t (e ∷ j) k = ap (λ x. sends_at t e ++ x) (sends-append (telling_after t e) j k) ∙ sym (append_assoc (sends_at t e) (sends_from (telling_after t e) j) (sends_from (telling_at (telling_after t e) j) k))

-- what a step sent is what its entries tell
sent_behind : SendsLaw → (c : ChannelPlan) (x : ChildStep) (xs : List ChildStep) →
    let s = child_after c xs in drop (length s.sent) (child_step c x s).sent ≡ sends_from (told c xs) (child_enters c x s).entries
sent_behind sends c x xs =
    let s : ChildState = child_after c xs in
    let e = child_enters c x s in
    let k : List UpMsg = sends_from (told c xs) e.entries in
    added s.sent k (child_step c x s).sent
    (sends c (x ∷ xs)
    ∙ (ap (λ t. sends_from new_telling t) e.journal_is
    ∙ (sends-append new_telling s.journal e.entries ∙ ap (λ t. t ++ k) (sym (sends c xs)))))

pub child_wholes_are : SendsLaw → (c : ChannelPlan) (xs : List ChildStep) → child_wholes (child_cuts c xs) ≡ child_blocks c xs
child_wholes_are sends c [] = refl
child_wholes_are sends c (x ∷ xs) =
    let s : ChildState = child_after c xs in
    let e = child_enters c x s in
    let b : child_whole (child_last c x xs) ≡ child_block (drop (length s.journal) (child_step c x s).journal) (drop (length s.sent) (child_step c x s).sent) =
    whole_is (told c xs) e.entries e.takes_first
    ∙ sym (ap (λ t. child_block t (drop (length s.sent) (child_step c x s).sent)) (added s.journal e.entries (child_step c x s).journal e.journal_is)
    ∙ ap (λ t. child_block e.entries t) (sent_behind sends c x xs)) in
    wholes-append (child_cuts c xs) (child_last c x xs ∷ [])
    ∙ (ap (λ t. t ++ child_whole (child_last c x xs) ∷ []) (child_wholes_are sends c xs)
    ∙ ap (λ y. child_blocks c xs ++ y ∷ []) b)

pub child_parts_are : (c : ChannelPlan) (xs : List ChildStep) → all_child_parts (child_cuts c xs) ≡ child_entries new_telling (child_after c xs).journal
child_parts_are c [] = refl
child_parts_are c (x ∷ xs) =
    let s : ChildState = child_after c xs in
    let e = child_enters c x s in
    parts-append (child_cuts c xs) (child_last c x xs ∷ [])
    ∙ (ap (λ t. t ++ (child_parts (child_last c x xs) ++ [])) (child_parts_are c xs)
    ∙ (ap (λ t. child_entries new_telling s.journal ++ t) (append_nil (child_parts (child_last c x xs)) ∙ parts_are (told c xs) e.entries e.takes_first)
    ∙ (sym (entries-append new_telling s.journal e.entries)
    ∙ ap (λ t. child_entries new_telling t) (sym e.journal_is))))

pub child_entries_length : (t : Telling) (j : List ChildEntry) → length (child_entries t j) ≡ length j
child_entries_length t [] = refl
child_entries_length t (e ∷ j) = ap suc (child_entries_length (telling_after t e) j)

pub child_wholes_length : (xs : List ChildCut) → length (child_wholes xs) ≡ length xs
child_wholes_length [] = refl
child_wholes_length (x ∷ xs) = ap suc (child_wholes_length xs)
