-- What a plan holds, good or not: what its load meets, what its listener does, and what the page calls. This project's own.
use Rattle.std.specs.Prelude.{ℕ, Bool, List}
use Rattle.nk_plan.specs.declared.plan.Hop.{Hop}
use Rattle.nk_plan.specs.declared.plan.ListenerKind.{ListenerKind}
use Rattle.nk_plan.specs.declared.plan.Reaction.{Reaction}
use Rattle.nk_plan.specs.declared.plan.Control.{Control}
use Rattle.nk_plan.specs.declared.plan.StartLane.{StartLane}

pub record PlanParts : Type 0 where
  pub hops : List Hop
  pub listener : ListenerKind
  pub retargetable : Bool
  pub reactions : List Reaction
  pub controls : List Control
  pub window : ℕ
  pub closed : Bool
  pub start : StartLane
