-- The parent has taken one step more.
use Rattle.std.proofs.Common.{ap}
use Rattle.nk_parent.specs.Views.{LoadView}
use Rattle.nk_parent.proofs.Runs.{up_stays}
use Rattle.nk_parent.proofs.parent.Parent.up.Goals as goal

pub invariant_of-self-2 : goal.invariant_of-self-2
invariant_of-self-2 c =
    up_stays c.self.inside.load.plan c.take.new.self.plan c.self.inside.load.state c.take.new.self.state c.self.inside.journal c.push.new.self c.args.m c.self.invariant
    (ap (λ (x : LoadView). x.plan) c.take.ensures) (ap (λ (x : LoadView). x.state) c.take.ensures) c.in_ok-push.ensures.ok
