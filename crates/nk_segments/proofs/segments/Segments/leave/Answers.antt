-- One count is lowered, and what no reader needs is given back.
use Rattle.std.proofs.Common.{◌≡◌, ap, ◌∙◌}
use Rattle.nk_chain.specs.Chain.{with_item}
use Rattle.nk_segments.specs.Segments.{lowered, needed, changed_at}
use Rattle.nk_segments.proofs.SegmentLemmas.{with_item-changed, segments-needed, segments-lowered_at}
use Rattle.nk_segments.proofs.segments.Segments.leave.Goals as goal

kept : (c : goal.After-give_back) → c.give_back.new.chain.items ≡ needed (changed_at lowered c.self.inside.chain.items c.args.place)
kept c =
    let same : with_item c.self.inside.chain.items c.args.place c.lower.new.self ≡ changed_at lowered c.self.inside.chain.items c.args.place =
    rw c.lower.ensures (with_item-changed lowered c.self.inside.chain.items c.args.place c.get_mut.result.now c.get_mut.ensures.value) in
    c.give_back.ensures.items ∙ ap needed same

pub invariant_of-self : goal.invariant_of-self
invariant_of-self c =
    rw (kept c) (segments-needed c.self.inside.size _ (segments-lowered_at c.self.inside.size c.self.inside.chain.items c.args.place c.self.invariant))

pub returns-clause-kept : goal.returns-clause-kept
returns-clause-kept c =
    rw (← c.self.view_is) (ap (λ xs. record { size = c.self.inside.size; segments = xs }) (kept c))

pub returns-clause-told : goal.returns-clause-told
returns-clause-told c = invariant_of-self c
