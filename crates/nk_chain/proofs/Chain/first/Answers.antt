use Rattle.std.proofs.Common.{subst}
use Rattle.nk_chain.specs.Chain.{Chain, PlacesDiffer}
use Rattle.nk_chain.proofs.LinkLemmas.{chain_places_differ}
use Rattle.nk_chain.proofs.Chain.first.Goals as goal

pub returns-clause-distinct : goal.returns-clause-distinct
returns-clause-distinct g c =
    subst (λ (v : Chain g.row.T.Denot). PlacesDiffer v.items) c.self.view_is (chain_places_differ c.self.invariant)
