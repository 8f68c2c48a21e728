-- Each turn changes one segment, and goes on to the next.
use Rattle.std.proofs.Common.{◌≡◌, ◌∙◌, arith}
use Rattle.std.proofs.lemmas.List.{length-drop}
use Rattle.nk_chain.specs.Chain.{with_item}
use Rattle.nk_segments.specs.Segments.{lowered, changed_at, since}
use Rattle.nk_segments.proofs.SegmentLemmas.{with_item-changed}
use Rattle.nk_segments.proofs.Onward.{Steps, steps, held_here, held_rest, since_some}
use Rattle.nk_segments.proofs.walk.lower_from.Goals as goal

pub lower-requires : goal.lower-requires
lower-requires c =
    held_here c.loop-at.chain.items c.in-Some.here c.get_mut.result.now c.get_mut.ensures.value (rw c.in-Some.is at c.loop-at.invariant.held)

step : (c : goal.After-chain-1) → Steps lowered c.loop-at.chain.items c.in-Some.here
step c = steps lowered c.loop-at.chain.items c.in-Some.here c.loop-at.invariant.distinct

changed : (c : goal.After-chain-1) → with_item c.loop-at.chain.items c.in-Some.here c.lower.new.self ≡ changed_at lowered c.loop-at.chain.items c.in-Some.here
changed c =
    rw c.lower.ensures (with_item-changed lowered c.loop-at.chain.items c.in-Some.here c.get_mut.result.now c.get_mut.ensures.value)

pub loop-at-smaller : goal.loop-at-smaller
loop-at-smaller c =
    rw (changed c, c.next-after.ensures, (step c).since, c.in-Some.is)
    (omega (arith, length-drop 1 (since c.loop-at.chain.items c.in-Some.here), since_some c.loop-at.chain.items c.in-Some.here (rw c.in-Some.is at c.loop-at.invariant.live)))

pub loop-at-preserved : goal.loop-at-preserved
loop-at-preserved c =
    rw (changed c, c.next-after.ensures) (record {
      whole = (step c).onward ∙ rw c.in-Some.is at c.loop-at.invariant.whole;
      held = rw (step c).since (held_rest _ (rw c.in-Some.is at c.loop-at.invariant.held));
      live = (step c).live;
      distinct = (step c).distinct;
    })
