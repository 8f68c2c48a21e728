-- The walk over the blocks of two runs, and the walk over the entries of the journals that they left. This project's own.
use Rattle.std.specs.Prelude.{ℕ, ◌≡◌, ◌-◌, ◌↔◌, true, List, length, drop}
use Rattle.nk_plan.specs.declared.plan.ChannelPlan.{ChannelPlan}
use Rattle.nk_plan.specs.declared.journal.ParentEntry.{ParentEntry}
use Rattle.nk_plan.specs.declared.journal.ChildEntry.{ChildEntry}
use Rattle.nk_plan.specs.declared.step.ParentStep.{ParentStep}
use Rattle.nk_plan.specs.declared.step.ChildStep.{ChildStep}
use Rattle.nk_plan.specs.Journal.{ups_taken}
use Rattle.nk_plan.specs.Lanes.{IsPrefix}
use Rattle.nk_plan.specs.Parent.{parent_after}
use Rattle.nk_plan.specs.Child.{child_after}
use Rattle.nk_plan.specs.Run.{Down, Run, parent_blocks, child_blocks}
use Rattle.nk_plan.specs.Telling.{new_telling, sends_from, parent_entries, child_entries}
use Rattle.nk_plan.specs.Walk.{walk_start, places_all}
use Rattle.nk_walk.specs.Cut.{ParentCut, ChildCut, parent_wholes, all_parent_parts, child_wholes, all_child_parts}
use Rattle.nk_walk.specs.Placed.{count_placed}

-- the entries of a journal are the blocks of its run, cut
abbrev pub BlocksLaw : Type 0
BlocksLaw = (c : ChannelPlan) →
    ((xs : List ParentStep) → (cuts : List ParentCut) × (parent_wholes cuts ≡ parent_blocks c xs) × (all_parent_parts cuts ≡ parent_entries (parent_after c xs).journal))
    × ((ys : List ChildStep) → (cuts : List ChildCut) × (child_wholes cuts ≡ child_blocks c ys) × (all_child_parts cuts ≡ child_entries new_telling (child_after c ys).journal))

-- The walk over the entries places as many of them as the steps of the placed blocks entered. The newest step stands first,
-- so these are the last of the list.
abbrev pub StepsLaw : Type 0
StepsLaw = (c : ChannelPlan) (xs : List ParentStep) (ys : List ChildStep) (n : ℕ) →
    let placed = count_placed (walk_start (parent_blocks c xs) n (child_blocks c ys)) in
    let each = count_placed (walk_start (parent_entries (parent_after c xs).journal) n (child_entries new_telling (child_after c ys).journal)) in
    (each.parents ≡ length (parent_after c (drop (length xs - placed.parents) xs)).journal)
    × (each.forwards ≡ placed.forwards)
    × (each.children ≡ length (child_after c (drop (length ys - placed.children) ys)).journal)

-- whether the journals of two runs are a run of a whole channel is told by the journals alone, entry by entry
abbrev pub RunLaw : Type 0
RunLaw = (c : ChannelPlan) (p : List ParentEntry) (j : List ChildEntry) (n : ℕ) → Down c p j n →
    (IsPrefix (ups_taken p) (sends_from new_telling j) × (places_all (walk_start (parent_entries p) n (child_entries new_telling j)) ≡ true))
    ↔ Run c p j n
