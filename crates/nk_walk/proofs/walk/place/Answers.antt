use Rattle.std.proofs.Common.{ℕ, ◌+◌, ◌-◌, ◌≤◌, sym, ◌∙◌, length, arith}
use Rattle.nk_plan.specs.Walk.{walk_start}
use Rattle.nk_walk.specs.Counted.{standing}
use Rattle.nk_walk.proofs.Standing.{parent_same, forward_same, child_same, parent_less, forward_less, child_less, fits_more, counts}
use Rattle.nk_walk.proofs.walk.place.Goals as goal

pub placing-preserved-then-may_parent : goal.placing-preserved-then-may_parent
placing-preserved-then-may_parent c =
    let may = sym c.may_parent.ensures ∙ c.if-may_parent.true in
    let rest = c.rest_of_parents-parents_left.ensures in
    let less = parent_less c.placing.parents_left.now c.rest_of_parents-parents_left.result.now _ _ may rest in
    let k : ℕ = length c.placing.parents_left.now + (c.placing.forwards_left + length c.placing.children_left.now) in
    let l : ℕ = length c.rest_of_parents-parents_left.result.now + (c.placing.forwards_left + length c.placing.children_left.now) in
    let fewer : l + 1 ≤ k = omega arith in
    let i = c.placing.invariant in record {
      same = parent_same _ _ _ _ _ _ may rest c.count_parent.ensures.value ∙ i.same;
      parents_below = omega arith;
      forwards_below = i.forwards_below;
      children_below = i.children_below;
      fits = fits_more k l _ _ i.fits fewer c.count_parent.ensures.most;
    }

pub placing-preserved-then-may_forward : goal.placing-preserved-then-may_forward
placing-preserved-then-may_forward c =
    let may = sym c.may_forward.ensures ∙ c.if-may_forward.true in
    let less = forward_less c.placing.forwards_left _ _ may in
    let k : ℕ = length c.placing.parents_left.now + (c.placing.forwards_left + length c.placing.children_left.now) in
    let l : ℕ = length c.placing.parents_left.now + (c.placing.forwards_left - 1 + length c.placing.children_left.now) in
    let fewer : l + 1 ≤ k = omega arith in
    let i = c.placing.invariant in record {
      same = forward_same _ c.placing.forwards_left _ _ _ may c.place_forward.ensures.value ∙ i.same;
      parents_below = i.parents_below;
      forwards_below = omega arith;
      children_below = i.children_below;
      fits = fits_more k l _ _ i.fits fewer c.place_forward.ensures.most;
    }

pub placing-preserved : goal.placing-preserved
placing-preserved c =
    let may = sym c.may_child.ensures ∙ c.if-may_child.true in
    let rest = c.rest_of_children-children_left.ensures in
    let less = child_less c.placing.children_left.now c.rest_of_children-children_left.result.now _ _ _ _ may rest in
    let k : ℕ = length c.placing.parents_left.now + (c.placing.forwards_left + length c.placing.children_left.now) in
    let l : ℕ = length c.placing.parents_left.now + (c.placing.forwards_left + length c.rest_of_children-children_left.result.now) in
    let fewer : l + 1 ≤ k = omega arith in
    let i = c.placing.invariant in record {
      same = child_same _ _ _ _ _ _ may rest c.count_child.ensures.value ∙ i.same;
      parents_below = i.parents_below;
      forwards_below = i.forwards_below;
      children_below = omega arith;
      fits = fits_more k l _ _ i.fits fewer c.count_child.ensures.most;
    }

pub returns-else-may_child : goal.returns-else-may_child
returns-else-may_child c =
    let p = c.placing in
    counts (walk_start c.args.parents.now c.args.forwards c.args.children.now)
    (standing p.parents_left.now p.forwards_left p.children_left.now p.counts)
    p.invariant.same (sym c.may_parent.ensures ∙ c.if-may_parent.false) (sym c.may_forward.ensures ∙ c.if-may_forward.false) (sym c.may_child.ensures ∙ c.if-may_child.false)
