use Rattle.std.proofs.Common.{◌≡◌, ◌-◌, ◌∷◌, Some, None, ap, subst, ◌∙◌, arith}
use Rattle.nk_chain.specs.declared.Place.{Place}
use Rattle.nk_chain.specs.Chain.{Chain, item_at}
use Rattle.nk_chain.specs.Links.{IsChain, listed}
use Rattle.nk_chain.proofs.LinkLemmas.{Inserts, chain_vacant, chain_listed, chain_places_differ, listed-chain, one_before, more_before}
use Rattle.nk_chain.proofs.Chain.push_front.Goals as goal
use Rattle.nk_chain.proofs.Chain.push_front.Goals.{in-Some, in-None}

-- the place that is given
abbrev place : (g : _) → goal.After-self-3-1 g → Place
place g c = record { 0 = c.insert_reserved.result }

pushed : (g : _) (c : goal.After-self-3-1 g)
    → IsChain c.match-self.self-inside.nodes (Some (place g c)) c.match-self.self-inside.last (c.match-self.self-inside.spare - 1) ((place g c, c.args.item) ∷ listed c.self.inside.nodes c.self.inside.first)
pushed g c =
    let some = ap (λ (v : Chain g.row.T.Denot). v.spare) c.self.view_is in
    let inserts : Inserts c.self.inside.nodes c.insert_reserved.new.self (place g c) (record { before = None; after = c.self.inside.first; item = c.args.item }) = record {
      vacant = c.insert_reserved.ensures.was_vacant;
      updates = c.insert_reserved.ensures.updates;
      len = c.insert_reserved.ensures.len;
      capacity = c.insert_reserved.ensures.capacity;
    } in
    elim c.match-self.branch [
      | in-Some w ↦ rw w.self-inside-is (more_before c.self.invariant w.in-Some.is inserts (omega (arith, some, c.requires)) w.index_mut.ensures.value)
      | in-None w ↦ rw w.self-inside-is (one_before c.self.invariant w.in-None.is inserts (omega (arith, some, c.requires)))
    ]

spare_kept : (g : _) (c : goal.After-self-3-1 g) → c.match-self.self-inside.spare ≡ c.self.inside.spare
spare_kept g c = elim c.match-self.branch [
  | in-Some w ↦ ap (λ i. i.spare) w.self-inside-is
  | in-None w ↦ ap (λ i. i.spare) w.self-inside-is
]

pub invariant_of-self : goal.invariant_of-self
invariant_of-self g c = chain_listed (pushed g c)

pub returns-clause-fresh : goal.returns-clause-fresh
returns-clause-fresh g c =
    subst (λ (v : Chain g.row.T.Denot). item_at v.items (place g c) ≡ None) c.self.view_is
    (chain_vacant (place g c) c.self.invariant c.insert_reserved.ensures.was_vacant)

pub returns-clause-items : goal.returns-clause-items
returns-clause-items g c =
    listed-chain (pushed g c) ∙ ap (λ (v : Chain g.row.T.Denot). (place g c, c.args.item) ∷ v.items) c.self.view_is

pub returns-clause-distinct : goal.returns-clause-distinct
returns-clause-distinct g c = chain_places_differ (chain_listed (pushed g c))

pub returns-clause-spare : goal.returns-clause-spare
returns-clause-spare g c = ap (λ n. n - 1) (spare_kept g c ∙ ap (λ (v : Chain g.row.T.Denot). v.spare) c.self.view_is)
