-- The listener of an accepted plan is in its ranges.
use Rattle.std.proofs.Common.{sym, subst}
use Rattle.nk_plan.specs.declared.plan.ChannelPlan.{ChannelPlan}
use Rattle.nk_sink.specs.Reached.{IsGoodKind}
use Rattle.nk_world.proofs.Heard.{good_kind}
use Rattle.nk_world.proofs.playing.Playing.new.Goals as goal

pub new-requires : goal.new-requires
new-requires c = subst (λ (p : ChannelPlan). IsGoodKind p.listener) (sym c.plan.view_is) (good_kind c.args.plan.now c.requires)
