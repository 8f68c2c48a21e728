use Rattle.nk_chain.proofs.LinkLemmas.{chain_contains, chain_node}
use Rattle.nk_chain.proofs.Chain.next.Goals as goal

pub index-requires : goal.index-requires
index-requires g c = chain_contains c.args.place c.self.invariant (rw (← c.self.view_is) at c.requires)

pub returns : goal.returns
returns g c =
    let node = chain_node c.args.place c.self.invariant (rw (← c.self.view_is) at c.requires) c.index.ensures in
    rw (← c.self.view_is) node.after
