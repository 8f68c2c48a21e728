-- The schedule leads step by step, and no channel loses its plan.
use Rattle.std.proofs.Common.{◌≡◌, ◌+◌, List, map, drop, ◌∙◌, ap}
use Rattle.nk_script.specs.declared.script.ScheduleItem.{ScheduleItem}
use Rattle.nk_world.specs.Play.{new_play}
use Rattle.nk_world.specs.World.{WorldView}
use Rattle.nk_run.specs.Ends.{scheduled}
use Rattle.nk_run.proofs.Channels.{promised_are, scheduled_next}
use Rattle.nk_run.proofs.ends.ends_of.Goals as goal

pub loop-item-init : goal.loop-item-init
loop-item-init c =
    let plays : c.in_ok-world.world.plays ≡ map new_play c.args.script.plans = ap (λ (w : WorldView). w.plays) c.in_ok-world.ensures.world in
    let items = c.as_slice-item-items in
    record {
      items = items.ensures;
      led =
          ap (scheduled items.result.now) plays
          ∙ ap (λ (xs : List ScheduleItem). scheduled xs (map new_play c.args.script.plans)) items.ensures;
      plans = c.in_ok-world.ensures.plans;
    }

pub loop-item-preserved : goal.loop-item-preserved
loop-item-preserved c =
    let items = c.as_slice-item-items.result.now in
    let i = c.loop-item.item-index in
    let plays = ap (λ (w : WorldView). w.plays) c.in_ok-step.ensures.state in
    record {
      items = c.as_slice-item-items.ensures;
      led =
          ap (scheduled (drop (i + 1) items)) plays
          ∙ (scheduled_next items i _ c.loop-item.world.plays c.loop-item-test.true ∙ c.loop-item.invariant.led);
      plans = c.in_ok-step.ensures.plans ∙ c.loop-item.invariant.plans;
    }

pub returns-clause-promised : goal.returns-clause-promised
returns-clause-promised c =
    let drained = c.in_ok-drain.ensures.drained in
    promised_are c.into_ends.result c.args.script.plans _ drained.quiet (c.in_ok-drain.ensures.plans ∙ c.loop-item.invariant.plans) c.into_ends.ensures.promised
