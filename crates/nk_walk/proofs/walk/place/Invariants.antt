use Rattle.std.proofs.Common.{◌≡◌, ◌+◌, ◌≤◌, length}
use Rattle.nk_plan.specs.Walk.{walk_start}
use Rattle.nk_walk.specs.Counted.{standing}
use Rattle.nk_walk.specs.Left.{left}
use Rattle.nk_walk.proofs.Standing.{Fits}
use Rattle.nk_walk.proofs.walk.place.Given as goal

abbrev pub invariant-placing : goal.invariant-placing
invariant-placing l = record {
  same : left (standing l.parents_left l.forwards_left l.children_left l.counts) ≡ left (walk_start l.fn.parents l.fn.forwards l.fn.children);
  parents_below : length l.parents_left ≤ length l.fn.parents;
  forwards_below : l.forwards_left ≤ l.fn.forwards;
  children_below : length l.children_left ≤ length l.fn.children;
  fits : Fits (length l.parents_left + (l.forwards_left + length l.children_left)) l.counts;
}

abbrev pub decreases-placing : goal.decreases-placing
decreases-placing l = length l.parents_left + (l.forwards_left + length l.children_left)
