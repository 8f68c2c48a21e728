use Rattle.std.proofs.Common.{◌≡◌, ◌+◌, ◌∷◌, sym, ap, ◌∙◌}
use Rattle.nk_chain.specs.Links.{listed}
use Rattle.nk_chain.proofs.LinkLemmas.{Removes, Pops, chain_listed, listed-chain, pops_last, pops_first}
use Rattle.nk_chain.proofs.Chain.pop_front.Goals as goal
use Rattle.nk_chain.proofs.Chain.pop_front.Goals.{in-Some, in-None}

pops : (g : _) (c : goal.After-self-2-1 g) → Pops (listed c.self.inside.nodes c.self.inside.first) c.remove-after.result.item c.match-after.self-inside.nodes c.match-after.after c.match-after.self-inside.last (c.match-after.self-inside.spare + 1)
pops g c =
    let removes : Removes c.self.inside.nodes c.remove-after.new.self c.in_ok-key.field-0 c.remove-after.result = record {
      found = c.remove-after.ensures.value;
      updates = c.remove-after.ensures.updates;
      len = c.remove-after.ensures.len;
      capacity = c.remove-after.ensures.capacity;
    } in
    elim c.match-after.branch [
      | in-Some w ↦ rw (w.self-inside-is, w.after-is) (pops_first c.self.invariant c.in_ok-key.was removes w.in-Some.is w.index_mut.ensures.value)
      | in-None w ↦ rw (w.self-inside-is, w.after-is) (pops_last c.self.invariant c.in_ok-key.was removes w.in-None.is)
    ]

pub invariant_of-self : goal.invariant_of-self
invariant_of-self g c = chain_listed (pops g c).chain

spare_kept : (g : _) (c : goal.After-self-2-1 g) → c.match-after.self-inside.spare ≡ c.self.inside.spare
spare_kept g c = elim c.match-after.branch [
  | in-Some w ↦ ap (λ i. i.spare) w.self-inside-is
  | in-None w ↦ ap (λ i. i.spare) w.self-inside-is
]

pub returns : goal.returns
returns g c =
    let p = pops g c in
    rw (← c.self.view_is) (
      p.place,
      p.was ∙ ap (λ xs. (p.place, c.remove-after.result.item) ∷ xs) (sym (listed-chain p.chain)),
      ap (λ n. n + 1) (spare_kept g c),
    )
