use Rattle.std.proofs.Common.{◌-◌, ap, ◌∙◌, arith, rules}
use Rattle.nk_chain.specs.Chain.{Chain}
use Rattle.nk_chain.proofs.LinkLemmas.{chain_listed, listed-chain, chain_roomier, chain_spared}
use Rattle.nk_chain.proofs.Chain.reserve.Goals as goal

pub invariant_of-self : goal.invariant_of-self
invariant_of-self g c =
    chain_listed (chain_roomier c.self.invariant c.reserve.ensures.rest_kept c.reserve.ensures.capacity)

pub returns-in_err-reserve-clause-items : goal.returns-in_err-reserve-clause-items
returns-in_err-reserve-clause-items g c =
    listed-chain (chain_roomier c.self.invariant c.reserve.ensures.rest_kept c.reserve.ensures.capacity)
    ∙ ap (λ (v : Chain g.row.T.Denot). v.items) c.self.view_is

pub returns-in_err-reserve-clause-err : goal.returns-in_err-reserve-clause-err
returns-in_err-reserve-clause-err g c =
    let same = ap (λ xs. record { items = xs; spare = c.self.inside.spare })
    (listed-chain (chain_roomier c.self.invariant c.reserve.ensures.rest_kept c.reserve.ensures.capacity)) ∙ c.self.view_is in
    search rules

pub invariant_of-self-2 : goal.invariant_of-self-2
invariant_of-self-2 g c =
    chain_listed (chain_spared (c.capacity.result - c.len.result) (chain_roomier c.self.invariant c.reserve.ensures.rest_kept c.reserve.ensures.capacity) (omega arith) (omega arith))

pub returns-clause-items : goal.returns-clause-items
returns-clause-items g c =
    listed-chain (chain_roomier c.self.invariant c.reserve.ensures.rest_kept c.reserve.ensures.capacity)
    ∙ ap (λ (v : Chain g.row.T.Denot). v.items) c.self.view_is
