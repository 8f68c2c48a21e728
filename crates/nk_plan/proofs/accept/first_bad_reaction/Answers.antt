use Rattle.std.proofs.Common.{arith}
use Rattle.std.proofs.lemmas.List.Elements.{All-more}
use Rattle.nk_plan.specs.Accepted.{IsGoodReaction}
use Rattle.nk_plan.proofs.First.{all_seen}
use Rattle.nk_plan.proofs.accept.first_bad_reaction.Goals as goal

pub loop-i-preserved : goal.loop-i-preserved
loop-i-preserved c =
    (All-more IsGoodReaction c.args.reactions.now c.loop-i.i _ (omega arith) c.loop-i.invariant.0 (c.is_good.ensures.0 c.if-not-is_good.false), omega arith)

pub returns-clause-all : goal.returns-clause-all
returns-clause-all c = λ none. all_seen IsGoodReaction c.args.reactions.now c.loop-i.i (omega arith) c.loop-i.invariant.0
