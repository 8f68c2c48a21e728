use Rattle.std.proofs.Common.{◌≡◌, ◌+◌, ◌^◌, ◌≤◌, length}
use Rattle.nk_plan.specs.Telling.{new_telling, parent_entries, child_entries}
use Rattle.nk_plan.specs.Walk.{walk_start}
use Rattle.nk_walk.specs.Counted.{standing}
use Rattle.nk_walk.specs.Left.{left}
use Rattle.nk_walk.proofs.Standing.{Fits}
use Rattle.nk_walk.proofs.journals.place_journals.Given as goal

abbrev pub invariant-placing : goal.invariant-placing
invariant-placing l = record {
  same : left (standing (parent_entries l.parents_left) l.forwards_left (child_entries l.telling l.children_left) l.counts) ≡ left (walk_start (parent_entries l.fn.parent) l.fn.forwards (child_entries new_telling l.fn.child));
  parents_below : length l.parents_left ≤ length l.fn.parent;
  forwards_below : l.forwards_left ≤ l.fn.forwards;
  children_below : length l.children_left ≤ length l.fn.child;
  fits : Fits (length l.parents_left + (l.forwards_left + length l.children_left)) l.counts;
  suspends_below : l.telling.suspends + length l.children_left ≤ 2 ^ 63;
}

abbrev pub decreases-placing : goal.decreases-placing
decreases-placing l = length l.parents_left + (l.forwards_left + length l.children_left)
