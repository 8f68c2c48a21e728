use Rattle.std.proofs.Common.{sym, ◌∙◌, ap, ℕ, Bool, ◌&&◌, nat_eq, length}
use Rattle.nk_plan.specs.Telling.{new_telling, parent_entries, child_entries}
use Rattle.nk_plan.specs.Walk.{Walk, walk_start}
use Rattle.nk_walk.specs.declared.walk.Placed.{Placed}
use Rattle.nk_walk.specs.Placed.{count_placed}
use Rattle.nk_walk.proofs.Front.{all_counted}
use Rattle.nk_walk.proofs.Steps.{entries_length, told_length}
use Rattle.nk_walk.proofs.journals.places_all_journals.Goals as goal

pub returns : goal.returns
returns c =
    let p = c.args.parent.now in
    let j = c.args.child.now in
    let w : Walk = walk_start (parent_entries p) c.args.forwards (child_entries new_telling j) in
    let is_all : Placed → ℕ → ℕ → Bool = λ q a b. nat_eq q.parents a && (nat_eq q.forwards c.args.forwards && nat_eq q.children b) in
    c.is_all.ensures
    ∙ (ap (λ q. is_all q (length p) (length j)) c.place_journals-placed.ensures
    ∙ (ap (λ a. is_all (count_placed w) a (length j)) (sym (entries_length p))
    ∙ (ap (λ b. is_all (count_placed w) (length (parent_entries p)) b) (sym (told_length new_telling j))
    ∙ all_counted w)))
