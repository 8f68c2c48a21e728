-- A channel was made for each plan.
use Rattle.std.proofs.Common.{◌∙◌, ap, map, List}
use Rattle.std.proofs.lemmas.List.{take_all}
use Rattle.nk_plan.specs.declared.plan.ChannelPlan.{ChannelPlan}
use Rattle.nk_world.specs.Parts.{new_playing}
use Rattle.nk_world.proofs.world.play_all.Goals as goal

pub returns : goal.returns
returns c =
    c.loop-plan.invariant
    ∙ (ap (λ (cs : List ChannelPlan). map new_playing cs) (take_all c.loop-plan.plan-index c.as_slice-plan-items.result.now c.loop-plan-test.false)
    ∙ ap (λ (cs : List ChannelPlan). map new_playing cs) c.as_slice-plan-items.ensures)
