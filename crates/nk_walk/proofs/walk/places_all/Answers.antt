use Rattle.std.proofs.Common.{◌∙◌, ap, Bool, ◌&&◌, nat_eq, length}
use Rattle.nk_plan.specs.Walk.{walk_start}
use Rattle.nk_walk.specs.declared.walk.Placed.{Placed}
use Rattle.nk_walk.proofs.Front.{all_counted}
use Rattle.nk_walk.proofs.walk.places_all.Goals as goal

pub returns : goal.returns
returns c =
    let is_all : Placed → Bool = λ p. nat_eq p.parents (length c.args.parents.now) && (nat_eq p.forwards c.args.forwards && nat_eq p.children (length c.args.children.now)) in
    c.is_all.ensures ∙ (ap is_all c.place-placed.ensures ∙ all_counted (walk_start c.args.parents.now c.args.forwards c.args.children.now))
