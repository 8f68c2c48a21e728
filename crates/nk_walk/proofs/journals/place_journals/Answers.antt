use Rattle.std.proofs.Common.{ℕ, ◌+◌, ◌-◌, ◌≤◌, sym, ◌∙◌, length, arith}
use Rattle.nk_plan.specs.Telling.{new_telling, parent_entries, child_entries}
use Rattle.nk_plan.specs.Walk.{walk_start}
use Rattle.nk_walk.specs.Counted.{standing}
use Rattle.nk_walk.proofs.Steps.{parent_rest, child_rest, parent_less, child_less, rest_suspends, entries_length, told_length, same_counts}
use Rattle.nk_walk.proofs.Standing.{parent_same, forward_same, child_same, forward_less, fits_more, counts}
use Rattle.nk_walk.proofs.journals.place_journals.Goals as goal

pub placing-preserved-then-may_parent : goal.placing-preserved-then-may_parent
placing-preserved-then-may_parent c =
    let may = sym c.may_parent.ensures ∙ c.if-may_parent.true in
    let rest = c.rest_of_parents-parents_left.ensures in
    let here = parent_rest c.placing.parents_left.now c.rest_of_parents-parents_left.result.now rest in
    let less = parent_less c.placing.parents_left.now c.rest_of_parents-parents_left.result.now _ _ may rest in
    let k : ℕ = length c.placing.parents_left.now + (c.placing.forwards_left + length c.placing.children_left.now) in
    let l : ℕ = length c.rest_of_parents-parents_left.result.now + (c.placing.forwards_left + length c.placing.children_left.now) in
    let fewer : l + 1 ≤ k = omega arith in
    let i = c.placing.invariant in record {
      same = parent_same _ _ _ _ _ _ may here c.count_parent.ensures.value ∙ i.same;
      parents_below = omega arith;
      forwards_below = i.forwards_below;
      children_below = i.children_below;
      fits = fits_more k l _ _ i.fits fewer c.count_parent.ensures.most;
      suspends_below = i.suspends_below;
    }

pub placing-preserved-then-may_forward : goal.placing-preserved-then-may_forward
placing-preserved-then-may_forward c =
    let may = sym c.may_forward.ensures ∙ c.if-may_forward.true in
    let less = forward_less c.placing.forwards_left _ _ may in
    let k : ℕ = length c.placing.parents_left.now + (c.placing.forwards_left + length c.placing.children_left.now) in
    let l : ℕ = length c.placing.parents_left.now + (c.placing.forwards_left - 1 + length c.placing.children_left.now) in
    let fewer : l + 1 ≤ k = omega arith in
    let i = c.placing.invariant in record {
      same = forward_same _ c.placing.forwards_left _ _ _ may c.place_forward.ensures.value ∙ i.same;
      parents_below = i.parents_below;
      forwards_below = omega arith;
      children_below = i.children_below;
      fits = fits_more k l _ _ i.fits fewer c.place_forward.ensures.most;
      suspends_below = i.suspends_below;
    }

pub placing-preserved : goal.placing-preserved
placing-preserved c =
    let may = sym c.may_child.ensures ∙ c.if-may_child.true in
    let rest = c.rest_of_children-children_left.ensures in
    let here = child_rest c.placing.telling _ c.placing.children_left.now c.rest_of_children-children_left.result.now c.note_next.ensures rest in
    let less = child_less c.placing.telling c.placing.children_left.now c.rest_of_children-children_left.result.now _ _ _ _ may rest in
    let told = rest_suspends c.placing.telling _ c.placing.children_left.now c.note_next.ensures in
    let k : ℕ = length c.placing.parents_left.now + (c.placing.forwards_left + length c.placing.children_left.now) in
    let l : ℕ = length c.placing.parents_left.now + (c.placing.forwards_left + length c.rest_of_children-children_left.result.now) in
    let fewer : l + 1 ≤ k = omega arith in
    let i = c.placing.invariant in record {
      same = child_same _ _ _ _ _ _ may here c.count_child.ensures.value ∙ i.same;
      parents_below = i.parents_below;
      forwards_below = i.forwards_below;
      children_below = omega arith;
      fits = fits_more k l _ _ i.fits fewer c.count_child.ensures.most;
      suspends_below = omega arith;
    }

pub returns-else-may_child : goal.returns-else-may_child
returns-else-may_child c =
    let p = c.placing in
    same_counts _ _ _ _ _ _ _ _ _ (entries_length c.args.parent.now) (entries_length p.parents_left.now) (told_length new_telling c.args.child.now) (told_length p.telling p.children_left.now)
    ∙ counts (walk_start (parent_entries c.args.parent.now) c.args.forwards (child_entries new_telling c.args.child.now))
    (standing (parent_entries p.parents_left.now) p.forwards_left (child_entries p.telling p.children_left.now) p.counts)
    p.invariant.same (sym c.may_parent.ensures ∙ c.if-may_parent.false) (sym c.may_forward.ensures ∙ c.if-may_forward.false) (sym c.may_child.ensures ∙ c.if-may_child.false)
