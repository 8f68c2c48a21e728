-- The entries that the walk places are those that the steps of the placed blocks entered.
use Rattle.std.proofs.Common.{ℕ, suc, zero, ◌≡◌, ◌-◌, ◌≤◌, inl, inr, refl, sym, ◌∙◌, ap, subst, List, [], ◌∷◌, ◌++◌, length, take, drop, arith, length-append}
use Rattle.std.proofs.lemmas.List.{take-append-le, take_all}
use Rattle.nk_plan.specs.declared.plan.ChannelPlan.{ChannelPlan}
use Rattle.nk_plan.specs.declared.step.ParentStep.{ParentStep}
use Rattle.nk_plan.specs.declared.step.ChildStep.{ChildStep}
use Rattle.nk_plan.specs.Parent.{parent_after}
use Rattle.nk_plan.specs.Child.{child_after}
use Rattle.nk_plan.specs.Run.{parent_blocks, child_blocks}
use Rattle.nk_plan.specs.Telling.{new_telling, parent_entries, child_entries}
use Rattle.nk_plan.specs.Walk.{ParentBlock, ChildBlock, walk_start}
use Rattle.nk_laws.specs.Laws.{SendsLaw}
use Rattle.nk_walk.specs.declared.walk.Placed.{Placed}
use Rattle.nk_walk.specs.Cut.{ParentCut, ChildCut, parent_wholes, all_parent_parts, child_wholes, all_child_parts}
use Rattle.nk_walk.specs.CutLaws.{CountLaw}
use Rattle.nk_walk.specs.Laws.{FrontLaw}
use Rattle.nk_walk.specs.Placed.{count_placed}
use Rattle.nk_walk_law.specs.Laws.{BlocksLaw, StepsLaw}
use Rattle.nk_walk_law.proofs.Tools.{le_or_more}
use Rattle.nk_walk_law.proofs.ParentCuts.{parent_last, parent_cuts, parent_wholes_are, parent_parts_are, parent_entries_length, parent_wholes_length}
use Rattle.nk_walk_law.proofs.ChildCuts.{child_last, child_cuts, child_wholes_are, child_parts_are, child_entries_length, child_wholes_length}

pub blocks_exact : SendsLaw → BlocksLaw
blocks_exact sends c = (
  λ xs. (parent_cuts c xs, parent_wholes_are c xs, parent_parts_are c xs),
  λ ys. (child_cuts c ys, child_wholes_are sends c ys, child_parts_are c ys),
)

-- A list that is made by adding behind, as the blocks of steps are
module _ (S B : Type 0) (made : List S → List B) (none : made [] ≡ []) (last : (x : S) → (xs : List S) → B) (grows : (x : S) (xs : List S) → made (x ∷ xs) ≡ made xs ++ last x xs ∷ []) where
  made_length : (xs : List S) → length (made xs) ≡ length xs
  made_length [] = ap length none
  made_length (x ∷ xs) =
      let e = ap length (grows x xs) in
      let a = length-append (made xs) (last x xs ∷ []) in
      let r = made_length xs in omega arith

  made_front : (i : ℕ) (xs : List S) → i ≤ length xs → take i (made xs) ≡ made (drop (length xs - i) xs)
  made_front zero [] h = rw none refl
  made_front (suc i) [] h = absurd (omega arith)
  made_front i (x ∷ xs) h =
      elim (le_or_more i (length xs)) [
        | inl k ↦
            let l = made_length xs in
            let below : i ≤ length (made xs) = omega arith in
            let e : suc (length xs) - i ≡ suc (length xs - i) = omega arith in
            ap (λ ys. take i ys) (grows x xs)
            ∙ (take-append-le i (made xs) (last x xs ∷ []) below
            ∙ (made_front i xs k
            ∙ ap (λ j. made (drop j (x ∷ xs))) (sym e)))
        | inr k ↦
            let l = made_length (x ∷ xs) in
            let all : length (made (x ∷ xs)) ≤ i = omega arith in
            let e : suc (length xs) - i ≡ 0 = omega arith in
            take_all i (made (x ∷ xs)) all ∙ ap (λ j. made (drop j (x ∷ xs))) (sym e)
      ]

parent_front : (c : ChannelPlan) (i : ℕ) (xs : List ParentStep) → i ≤ length xs → length (all_parent_parts (take i (parent_cuts c xs))) ≡ length (parent_after c (drop (length xs - i) xs)).journal
parent_front c i xs h =
    let zs : List ParentStep = drop (length xs - i) xs in
    let front : take i (parent_cuts c xs) ≡ parent_cuts c zs = made_front ParentStep ParentCut (parent_cuts c) refl (λ x ys. parent_last c x ys) (λ x ys. refl) i xs h in
    ap (λ ps. length (all_parent_parts ps)) front ∙ (ap length (parent_parts_are c zs) ∙ parent_entries_length (parent_after c zs).journal)

child_front : (c : ChannelPlan) (i : ℕ) (xs : List ChildStep) → i ≤ length xs → length (all_child_parts (take i (child_cuts c xs))) ≡ length (child_after c (drop (length xs - i) xs)).journal
child_front c i xs h =
    let zs : List ChildStep = drop (length xs - i) xs in
    let front : take i (child_cuts c xs) ≡ child_cuts c zs = made_front ChildStep ChildCut (child_cuts c) refl (λ x ys. child_last c x ys) (λ x ys. refl) i xs h in
    ap (λ ps. length (all_child_parts ps)) front ∙ (ap length (child_parts_are c zs) ∙ child_entries_length new_telling (child_after c zs).journal)

pub steps_exact : SendsLaw → CountLaw → FrontLaw → StepsLaw
steps_exact sends placed_counts fronts c xs ys n =
    let ps : List ParentCut = parent_cuts c xs in
    let cs : List ChildCut = child_cuts c ys in
    let count : List ParentBlock → List ChildBlock → Placed = λ bs ds. count_placed (walk_start bs n ds) in
    let blocks : count (parent_wholes ps) (child_wholes cs) ≡ count (parent_blocks c xs) (child_blocks c ys) =
    ap (λ bs. count bs (child_wholes cs)) (parent_wholes_are c xs) ∙ ap (λ ds. count (parent_blocks c xs) ds) (child_wholes_are sends c ys) in
    let entries : count (all_parent_parts ps) (all_child_parts cs) ≡ count (parent_entries (parent_after c xs).journal) (child_entries new_telling (child_after c ys).journal) =
    ap (λ bs. count bs (all_child_parts cs)) (parent_parts_are c xs) ∙ ap (λ ds. count (parent_entries (parent_after c xs).journal) ds) (child_parts_are c ys) in
    let e = placed_counts ps n cs in
    let f = fronts (walk_start (parent_wholes ps) n (child_wholes cs)) in
    let placed : Placed = count (parent_wholes ps) (child_wholes cs) in
    let pl : length (parent_wholes ps) ≡ length xs = parent_wholes_length ps ∙ made_length ParentStep ParentCut (parent_cuts c) refl (λ x zs. parent_last c x zs) (λ x zs. refl) xs in
    let cl : length (child_wholes cs) ≡ length ys = child_wholes_length cs ∙ made_length ChildStep ChildCut (child_cuts c) refl (λ x zs. child_last c x zs) (λ x zs. refl) ys in
    let pb : placed.parents ≤ length xs = subst (λ k. placed.parents ≤ k) pl f.3 in
    let cb : placed.children ≤ length ys = subst (λ k. placed.children ≤ k) cl f.4 in (
      ap (λ (p : Placed). p.parents) (sym entries) ∙ (e.0 ∙ (parent_front c placed.parents xs pb ∙ ap (λ (p : Placed). length (parent_after c (drop (length xs - p.parents) xs)).journal) blocks)),
      ap (λ (p : Placed). p.forwards) (sym entries) ∙ (e.1 ∙ ap (λ (p : Placed). p.forwards) blocks),
      ap (λ (p : Placed). p.children) (sym entries) ∙ (e.2 ∙ (child_front c placed.children ys cb ∙ ap (λ (p : Placed). length (child_after c (drop (length ys - p.children) ys)).journal) blocks)),
    )
