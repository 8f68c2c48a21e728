use Rattle.std.proofs.Common.{arith}
use Rattle.nk_plan.specs.Accepted.{IsGoodHop}
use Rattle.nk_plan.proofs.First.{all_one_more, all_seen}
use Rattle.nk_plan.proofs.accept.first_bad_hop.Goals as goal

pub loop-i-preserved : goal.loop-i-preserved
loop-i-preserved c =
    all_one_more IsGoodHop c.args.hops.now c.loop-i.i c.index-hops-i.result (omega arith) c.index-hops-i.is c.loop-i.invariant (grind arith)

pub returns : goal.returns
returns c = all_seen IsGoodHop c.args.hops.now c.loop-i.i (omega arith) c.loop-i.invariant
