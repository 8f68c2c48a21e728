-- The steps that are left lead where all lead, and each channel has its plan.
use Rattle.std.proofs.Common.{◌≡◌, drop, map}
use Rattle.nk_world.specs.World.{plan_of}
use Rattle.nk_run.specs.Ends.{scheduled, plays_of}
use Rattle.nk_run.proofs.ends.ends_of.Given as goal

abbrev pub invariant-loop-item : goal.invariant-loop-item
invariant-loop-item l = record {
  items : l.item-items ≡ l.fn.script.schedule;
  led : scheduled (drop l.item-index l.item-items) l.world.plays ≡ plays_of l.fn.script;
  plans : map plan_of l.world.plays ≡ l.fn.script.plans;
}
