-- The walk over the blocks of two runs and the walk over the entries of their journals, one by one, come to the same.
use Rattle.std.proofs.Common.{ℕ, suc, ◌≡◌, ◌+◌, ◌↔◌, refl, sym, ◌∙◌, ap, subst, Bool, true, false, List, [], ◌∷◌, ◌++◌, length, arith, append_assoc, length-append}
use Rattle.nk_base.specs.declared.message.UpMsg.{UpMsg}
use Rattle.nk_base.specs.Queue.{has_some}
use Rattle.nk_plan.specs.declared.plan.ChannelPlan.{ChannelPlan}
use Rattle.nk_plan.specs.declared.journal.ParentEntry.{ParentEntry}
use Rattle.nk_plan.specs.declared.journal.ParentEntry.TheVariants as entry
use Rattle.nk_plan.specs.declared.journal.ChildEntry.{ChildEntry}
use Rattle.nk_plan.specs.declared.step.ParentStep.{ParentStep}
use Rattle.nk_plan.specs.declared.step.ChildStep.{ChildStep}
use Rattle.nk_plan.specs.Journal.{ups_taken, mains_sent, backs_sent, main_in, back_in, mains_taken, backs_taken}
use Rattle.nk_plan.specs.Parent.{ParentState, parent_after}
use Rattle.nk_plan.specs.Child.{ChildState, child_after}
use Rattle.nk_plan.specs.Run.{parent_block, child_block, parent_blocks, child_blocks}
use Rattle.nk_plan.specs.Telling.{Telling, new_telling, sends_at, telling_after, sends_from, parent_entry_block, parent_entries, child_entry_block, child_entries}
use Rattle.nk_plan.specs.Walk.{ParentBlock, ChildBlock, walk_start, CanPlace, places_all}
use Rattle.nk_laws.proofs.Tools.{append_nil, last_empty}
use Rattle.nk_laws.proofs.Blocks.{ParentTakesFirst, parent_enters, ChildTakesFirst, child_enters, parent_block_at, child_block_at, parent_block_is, child_block_is}
use Rattle.nk_half_laws.specs.Growth.{GrowthLaw, telling_at}
use Rattle.nk_laws.proofs.Tells.{child_named, sends-append}
use Rattle.nk_laws.proofs.Placing.{walk_exact}
use Rattle.nk_laws.proofs.CutChild.{ChildPiece, Nothing, Parts, total, child_whole, quiet_child, child_parts, child_wholes, all_child_parts, child_cut}
use Rattle.nk_laws.proofs.CutParent.{Sends, ParentPiece, total_mains, total_backs, parent_whole, quiet_parent, parent_parts, parent_wholes, all_parent_parts, parent_cut}
use Rattle.nk_laws.proofs.CutParent.{Nothing as NoEntries, Parts as Entries}

-- The parent's entries

abbrev sends_of_entry : ParentEntry → Sends
sends_of_entry e = record { mains = (parent_entry_block e).mains; backs = (parent_entry_block e).backs }

abbrev sends_all : List ParentEntry → List Sends
sends_all [] = []
sends_all (e ∷ p) = sends_of_entry e ∷ sends_all p

abbrev parent_piece : List ParentEntry → ParentPiece
parent_piece [] = NoEntries
parent_piece (e ∷ p) = Entries (parent_entry_block e).takes_up (parent_entry_block e).mains (parent_entry_block e).backs (sends_all p)

mains_total : (p : List ParentEntry) → total_mains (sends_all p) ≡ length (mains_sent p)
mains_total [] = refl
mains_total (entry.Took m ∷ p) = let e = mains_total p in omega arith
mains_total (entry.SentMain m ∷ p) = let e = mains_total p in omega arith
mains_total (entry.SentBack m ∷ p) = let e = mains_total p in omega arith

backs_total : (p : List ParentEntry) → total_backs (sends_all p) ≡ length (backs_sent p)
backs_total [] = refl
backs_total (entry.Took m ∷ p) = let e = backs_total p in omega arith
backs_total (entry.SentMain m ∷ p) = let e = backs_total p in omega arith
backs_total (entry.SentBack m ∷ p) = let e = backs_total p in omega arith

abbrev block_with : Bool → ℕ → ℕ → ParentBlock
block_with u m b = record { takes_up = u; mains = m; backs = b }

same_block : (u u' : Bool) (m m' b b' : ℕ) → u ≡ u' → m ≡ m' → b ≡ b' → block_with u m b ≡ block_with u' m' b'
same_block u u' m m' b b' e f g = ap (λ x. block_with x m b) e ∙ (ap (λ x. block_with u' x b) f ∙ ap (λ x. block_with u' m' x) g)

parent_whole_is : (p : List ParentEntry) → ParentTakesFirst p → parent_whole (parent_piece p) ≡ parent_block p
parent_whole_is [] h = refl
parent_whole_is (entry.Took m ∷ p) h =
    same_block true true (0 + total_mains (sends_all p)) (length (mains_sent p)) (0 + total_backs (sends_all p)) (length (backs_sent p)) refl
    (let e = mains_total p in omega arith) (let e = backs_total p in omega arith)
parent_whole_is (entry.SentMain m ∷ p) h =
    same_block false (has_some (ups_taken p)) (1 + total_mains (sends_all p)) (suc (length (mains_sent p))) (0 + total_backs (sends_all p)) (length (backs_sent p)) (ap has_some (sym h))
    (let e = mains_total p in omega arith) (let e = backs_total p in omega arith)
parent_whole_is (entry.SentBack m ∷ p) h =
    same_block false (has_some (ups_taken p)) (0 + total_mains (sends_all p)) (length (mains_sent p)) (1 + total_backs (sends_all p)) (suc (length (backs_sent p))) (ap has_some (sym h))
    (let e = mains_total p in omega arith) (let e = backs_total p in omega arith)

quiet_parent_is : (p : List ParentEntry) → ups_taken p ≡ [] → quiet_parent (sends_all p) ≡ parent_entries p
quiet_parent_is [] h = refl
quiet_parent_is (entry.Took m ∷ p) h = cc
quiet_parent_is (entry.SentMain m ∷ p) h = ap (λ t. block_with false 1 0 ∷ t) (quiet_parent_is p h)
quiet_parent_is (entry.SentBack m ∷ p) h = ap (λ t. block_with false 0 1 ∷ t) (quiet_parent_is p h)

parent_parts_is : (p : List ParentEntry) → ParentTakesFirst p → parent_parts (parent_piece p) ≡ parent_entries p
parent_parts_is [] h = refl
parent_parts_is (e ∷ p) h = ap (λ t. parent_entry_block e ∷ t) (quiet_parent_is p h)

abbrev parent_pieces : ChannelPlan → List ParentStep → List ParentPiece
parent_pieces c [] = []
parent_pieces c (x ∷ xs) = parent_pieces c xs ++ parent_piece (parent_enters c x (parent_after c xs)).entries ∷ []

parent_wholes-append : (xs ys : List ParentPiece) → parent_wholes (xs ++ ys) ≡ parent_wholes xs ++ parent_wholes ys
parent_wholes-append [] ys = refl
parent_wholes-append (x ∷ xs) ys = ap (λ t. parent_whole x ∷ t) (parent_wholes-append xs ys)

parent_parts-append : (xs ys : List ParentPiece) → all_parent_parts (xs ++ ys) ≡ all_parent_parts xs ++ all_parent_parts ys
parent_parts-append [] ys = refl
parent_parts-append (x ∷ xs) ys = ap (λ t. parent_parts x ++ t) (parent_parts-append xs ys) ∙ sym (append_assoc (parent_parts x) (all_parent_parts xs) (all_parent_parts ys))

parent_entries-append : (p q : List ParentEntry) → parent_entries (p ++ q) ≡ parent_entries p ++ parent_entries q
parent_entries-append [] q = refl
parent_entries-append (e ∷ p) q = ap (λ t. parent_entry_block e ∷ t) (parent_entries-append p q)

parent_wholes_are : (c : ChannelPlan) (xs : List ParentStep) → parent_wholes (parent_pieces c xs) ≡ parent_blocks c xs
parent_wholes_are c [] = refl
parent_wholes_are c (x ∷ xs) =
    let s : ParentState = parent_after c xs in
    let e = parent_enters c x s in
    let b : parent_whole (parent_piece e.entries) ≡ parent_block_at c x s = parent_whole_is e.entries e.takes_first ∙ sym (parent_block_is c x s e) in
    parent_wholes-append (parent_pieces c xs) (parent_piece e.entries ∷ [])
    ∙ (ap (λ t. t ++ parent_whole (parent_piece e.entries) ∷ []) (parent_wholes_are c xs)
    ∙ ap (λ y. parent_blocks c xs ++ y ∷ []) b)

parent_parts_are : (c : ChannelPlan) (xs : List ParentStep) → all_parent_parts (parent_pieces c xs) ≡ parent_entries (parent_after c xs).journal
parent_parts_are c [] = refl
parent_parts_are c (x ∷ xs) =
    let s : ParentState = parent_after c xs in
    let e = parent_enters c x s in
    parent_parts-append (parent_pieces c xs) (parent_piece e.entries ∷ [])
    ∙ (ap (λ t. t ++ (parent_parts (parent_piece e.entries) ++ [])) (parent_parts_are c xs)
    ∙ (ap (λ t. parent_entries s.journal ++ t) (append_nil (parent_parts (parent_piece e.entries)) ∙ parent_parts_is e.entries e.takes_first)
    ∙ (sym (parent_entries-append s.journal e.entries)
    ∙ ap parent_entries (sym e.journal_is))))

-- The child's entries

abbrev sizes : Telling → List ChildEntry → List ℕ
sizes t [] = []
sizes t (e ∷ j) = length (sends_at t e) ∷ sizes (telling_after t e) j

abbrev child_piece : Telling → List ChildEntry → ChildPiece
child_piece t [] = Nothing
child_piece t (e ∷ j) = Parts (has_some (main_in e)) (has_some (back_in e)) (length (sends_at t e)) (sizes (telling_after t e) j)

sizes_total : (t : Telling) (j : List ChildEntry) → total (sizes t j) ≡ length (sends_from t j)
sizes_total t [] = refl
sizes_total t (e ∷ j) =
    let r = sizes_total (telling_after t e) j in
    let l = length-append (sends_at t e) (sends_from (telling_after t e) j) in
    omega arith

abbrev child_with : Bool → Bool → ℕ → ChildBlock
child_with m b n = record { takes_main = m; takes_back = b; ups = n }

same_child : (m m' b b' : Bool) (n n' : ℕ) → m ≡ m' → b ≡ b' → n ≡ n' → child_with m b n ≡ child_with m' b' n'
same_child m m' b b' n n' e f g = ap (λ x. child_with x b n) e ∙ (ap (λ x. child_with m' x n) f ∙ ap (λ x. child_with m' b' x) g)

has_front : {A : Type 0} (xs ys : List A) → ys ≡ [] → has_some xs ≡ has_some (xs ++ ys)
has_front xs ys e = ap has_some (sym (append_nil xs) ∙ ap (λ t. xs ++ t) (sym e))

child_whole_is : (t : Telling) (j : List ChildEntry) (u : List UpMsg) → ChildTakesFirst j → length u ≡ length (sends_from t j) → child_whole (child_piece t j) ≡ child_block j u
child_whole_is t [] u h n = same_child false false false false 0 (length u) refl refl (sym n)
child_whole_is t (e ∷ j) u h n =
    same_child (has_some (main_in e)) (has_some (main_in e ++ mains_taken j)) (has_some (back_in e)) (has_some (back_in e ++ backs_taken j)) (length (sends_at t e) + total (sizes (telling_after t e) j)) (length u)
    (has_front (main_in e) (mains_taken j) h.0) (has_front (back_in e) (backs_taken j) h.1)
    (let r = sizes_total (telling_after t e) j in let l = length-append (sends_at t e) (sends_from (telling_after t e) j) in omega arith)

first_empty : {A : Type 0} (xs ys : List A) → xs ++ ys ≡ [] → xs ≡ []
first_empty [] ys h = refl
first_empty (x ∷ xs) ys h = cc

quiet_child_is : (t : Telling) (j : List ChildEntry) → mains_taken j ≡ [] → backs_taken j ≡ [] → quiet_child (sizes t j) ≡ child_entries t j
quiet_child_is t [] m b = refl
quiet_child_is t (e ∷ j) m b =
    let n = length (sends_at t e) in
    ap (λ x. x ∷ quiet_child (sizes (telling_after t e) j))
    (same_child false (has_some (main_in e)) false (has_some (back_in e)) (length (sends_at t e)) (length (sends_at t e))
    (ap has_some (sym (first_empty (main_in e) (mains_taken j) m))) (ap has_some (sym (first_empty (back_in e) (backs_taken j) b))) refl)
    ∙ ap (λ x. child_entry_block t e ∷ x) (quiet_child_is (telling_after t e) j (last_empty (main_in e) (mains_taken j) m) (last_empty (back_in e) (backs_taken j) b))

child_parts_is : (t : Telling) (j : List ChildEntry) → ChildTakesFirst j → child_parts (child_piece t j) ≡ child_entries t j
child_parts_is t [] h = refl
child_parts_is t (e ∷ j) h = ap (λ x. child_entry_block t e ∷ x) (quiet_child_is (telling_after t e) j h.0 h.1)

abbrev told : ChannelPlan → List ChildStep → Telling
told c xs = telling_at new_telling (child_after c xs).journal

abbrev child_pieces : ChannelPlan → List ChildStep → List ChildPiece
child_pieces c [] = []
child_pieces c (x ∷ xs) = child_pieces c xs ++ child_piece (told c xs) (child_enters c x (child_after c xs)).entries ∷ []

child_wholes-append : (xs ys : List ChildPiece) → child_wholes (xs ++ ys) ≡ child_wholes xs ++ child_wholes ys
child_wholes-append [] ys = refl
child_wholes-append (x ∷ xs) ys = ap (λ t. child_whole x ∷ t) (child_wholes-append xs ys)

child_parts-append : (xs ys : List ChildPiece) → all_child_parts (xs ++ ys) ≡ all_child_parts xs ++ all_child_parts ys
child_parts-append [] ys = refl
child_parts-append (x ∷ xs) ys = ap (λ t. child_parts x ++ t) (child_parts-append xs ys) ∙ sym (append_assoc (child_parts x) (all_child_parts xs) (all_child_parts ys))

child_entries-append : (t : Telling) (j k : List ChildEntry) → child_entries t (j ++ k) ≡ child_entries t j ++ child_entries (telling_at t j) k
child_entries-append t [] k = refl
child_entries-append t (e ∷ j) k = ap (λ x. child_entry_block t e ∷ x) (child_entries-append (telling_after t e) j k)

-- what a step sent is what its entries tell
step_sends : GrowthLaw → (c : ChannelPlan) (x : ChildStep) (xs : List ChildStep) → length (child_enters c x (child_after c xs)).messages ≡ length (sends_from (told c xs) (child_enters c x (child_after c xs)).entries)
step_sends growth c x xs =
    let s : ChildState = child_after c xs in
    let e = child_enters c x s in
    let before : sends_from new_telling s.journal ≡ s.sent = (child_named growth c xs).sends in
    let after : sends_from new_telling (child_after c (x ∷ xs)).journal ≡ (child_after c (x ∷ xs)).sent = (child_named growth c (x ∷ xs)).sends in
    let all : s.sent ++ sends_from (told c xs) e.entries ≡ s.sent ++ e.messages =
    ap (λ t. t ++ sends_from (told c xs) e.entries) (sym before) ∙ (sym (sends-append new_telling s.journal e.entries) ∙ (ap (λ t. sends_from new_telling t) (sym e.journal_is) ∙ (after ∙ e.sent_is))) in
    let l = length-append s.sent (sends_from (told c xs) e.entries) in
    let k = length-append s.sent e.messages in
    let a = ap length all in omega arith

child_wholes_are : GrowthLaw → (c : ChannelPlan) (xs : List ChildStep) → child_wholes (child_pieces c xs) ≡ child_blocks c xs
child_wholes_are growth c [] = refl
child_wholes_are growth c (x ∷ xs) =
    let s : ChildState = child_after c xs in
    let e = child_enters c x s in
    let b : child_whole (child_piece (told c xs) e.entries) ≡ child_block_at c x s = child_whole_is (told c xs) e.entries e.messages e.takes_first (step_sends growth c x xs) ∙ sym (child_block_is c x s e) in
    child_wholes-append (child_pieces c xs) (child_piece (told c xs) e.entries ∷ [])
    ∙ (ap (λ t. t ++ child_whole (child_piece (told c xs) e.entries) ∷ []) (child_wholes_are growth c xs)
    ∙ ap (λ y. child_blocks c xs ++ y ∷ []) b)

child_parts_are : (c : ChannelPlan) (xs : List ChildStep) → all_child_parts (child_pieces c xs) ≡ child_entries new_telling (child_after c xs).journal
child_parts_are c [] = refl
child_parts_are c (x ∷ xs) =
    let s : ChildState = child_after c xs in
    let e = child_enters c x s in
    child_parts-append (child_pieces c xs) (child_piece (told c xs) e.entries ∷ [])
    ∙ (ap (λ t. t ++ (child_parts (child_piece (told c xs) e.entries) ++ [])) (child_parts_are c xs)
    ∙ (ap (λ t. child_entries new_telling s.journal ++ t) (append_nil (child_parts (child_piece (told c xs) e.entries)) ∙ child_parts_is (told c xs) e.entries e.takes_first)
    ∙ (sym (child_entries-append new_telling s.journal e.entries)
    ∙ ap (λ t. child_entries new_telling t) (sym e.journal_is))))

-- Both

entries_place : GrowthLaw → (c : ChannelPlan) (xs : List ParentStep) (ys : List ChildStep) (n : ℕ)
    → CanPlace (walk_start (parent_blocks c xs) n (child_blocks c ys)) → CanPlace (walk_start (parent_entries (parent_after c xs).journal) n (child_entries new_telling (child_after c ys).journal))
entries_place growth c xs ys n h =
    let a : CanPlace (walk_start (parent_wholes (parent_pieces c xs)) n (child_blocks c ys)) = subst (λ t. CanPlace (walk_start t n (child_blocks c ys))) (sym (parent_wholes_are c xs)) h in
    let b : CanPlace (walk_start (parent_entries (parent_after c xs).journal) n (child_blocks c ys)) = subst (λ t. CanPlace (walk_start t n (child_blocks c ys))) (parent_parts_are c xs) ((parent_cut (parent_pieces c xs) n (child_blocks c ys)).0 a) in
    let d : CanPlace (walk_start (parent_entries (parent_after c xs).journal) n (child_wholes (child_pieces c ys))) = subst (λ t. CanPlace (walk_start (parent_entries (parent_after c xs).journal) n t)) (sym (child_wholes_are growth c ys)) b in
    subst (λ t. CanPlace (walk_start (parent_entries (parent_after c xs).journal) n t)) (child_parts_are c ys) ((child_cut (child_pieces c ys) (parent_entries (parent_after c xs).journal) n).0 d)

blocks_place : GrowthLaw → (c : ChannelPlan) (xs : List ParentStep) (ys : List ChildStep) (n : ℕ)
    → CanPlace (walk_start (parent_entries (parent_after c xs).journal) n (child_entries new_telling (child_after c ys).journal)) → CanPlace (walk_start (parent_blocks c xs) n (child_blocks c ys))
blocks_place growth c xs ys n h =
    let a : CanPlace (walk_start (parent_entries (parent_after c xs).journal) n (all_child_parts (child_pieces c ys))) = subst (λ t. CanPlace (walk_start (parent_entries (parent_after c xs).journal) n t)) (sym (child_parts_are c ys)) h in
    let b : CanPlace (walk_start (parent_entries (parent_after c xs).journal) n (child_blocks c ys)) = subst (λ t. CanPlace (walk_start (parent_entries (parent_after c xs).journal) n t)) (child_wholes_are growth c ys) ((child_cut (child_pieces c ys) (parent_entries (parent_after c xs).journal) n).1 a) in
    let d : CanPlace (walk_start (all_parent_parts (parent_pieces c xs)) n (child_blocks c ys)) = subst (λ t. CanPlace (walk_start t n (child_blocks c ys))) (sym (parent_parts_are c xs)) b in
    subst (λ t. CanPlace (walk_start t n (child_blocks c ys))) (parent_wholes_are c xs) ((parent_cut (parent_pieces c xs) n (child_blocks c ys)).1 d)

pub entries_exact : GrowthLaw → (c : ChannelPlan) (xs : List ParentStep) (ys : List ChildStep) (n : ℕ)
    → places_all (walk_start (parent_entries (parent_after c xs).journal) n (child_entries new_telling (child_after c ys).journal)) ≡ true ↔ CanPlace (walk_start (parent_blocks c xs) n (child_blocks c ys))
entries_exact growth c xs ys n =
    let w = walk_exact (walk_start (parent_entries (parent_after c xs).journal) n (child_entries new_telling (child_after c ys).journal)) in
    (λ h. blocks_place growth c xs ys n (w.0 h), λ h. w.1 (entries_place growth c xs ys n h))
