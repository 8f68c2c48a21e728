use Rattle.std.proofs.Common.{refl, ap}
use Rattle.nk_chain.proofs.LinkLemmas.{chain_contains, chain_node, chain_listed, listed-chain, chain_with_item}
use Rattle.nk_chain.proofs.Chain.get_mut.Goals as goal

pub index_mut-requires : goal.index_mut-requires
index_mut-requires g c = chain_contains c.args.place c.self.invariant (rw (← c.self.view_is) at c.requires)

pub invariant_of-self-lent : goal.invariant_of-self-lent
invariant_of-self-lent g c w = chain_listed (chain_with_item c.args.place w c.self.invariant c.index_mut.ensures.value)

pub returns : goal.returns
returns g c =
    let node = chain_node c.args.place c.self.invariant (rw (← c.self.view_is) at c.requires) c.index_mut.ensures.value in (
      (
        refl,
        λ w. rw (← c.self.view_is) (ap (λ xs. record { items = xs; spare = c.self.inside.spare })
            (listed-chain (chain_with_item c.args.place w c.self.invariant c.index_mut.ensures.value))),
      ),
      record { writes_back = tt; value = rw (← c.self.view_is) node.item },
    )
