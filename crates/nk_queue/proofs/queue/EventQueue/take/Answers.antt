use Rattle.std.proofs.Common.{refl, rules}
use Rattle.nk_chain.specs.Chain.{items_of}
use Rattle.nk_queue.proofs.LegalLemmas.{legal_posted}
use Rattle.nk_queue.proofs.queue.EventQueue.take.Goals as goal

pub invariant_of-self-then-not-is : goal.invariant_of-self-then-not-is
invariant_of-self-then-not-is g c =
    let legal = c.self.invariant in
    rw c.post.ensures.posted
    (legal_posted g.E.Classed.class _ _ _ _ _ _ _ c.target_of-target.result refl c.post.ensures.within legal.targets legal.delivers tt legal.classes)

pub returns-clause-cases : goal.returns-clause-cases
returns-clause-cases g c = (items_of c.pop_front.new.self.items, search rules, search rules)
