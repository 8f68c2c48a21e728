-- Each turn parts one more of the messages that were kept.
use Rattle.std.proofs.Common.{◌≡◌, ◌∙◌, ◌+◌, ◌≤◌, ◌<◌, length, rules, arith, sym, refl}
use Rattle.std.specs.VecDeque.{deque_len, deque_capacity}
use Rattle.nk_base.specs.declared.message.BackMsg.{BackMsg}
use Rattle.nk_base.specs.Hold.{of_hop, not_of_hop}
use Rattle.nk_hold.proofs.Parted.{parted_next, some_left}
use Rattle.nk_hold.proofs.hold.Hold.release.Goals as goal
use Rattle.nk_hold.proofs.hold.Hold.release.Goals.{in-Some-pop_front, in_default-pop_front}

pub loop-preserved : goal.loop-preserved
loop-preserved c =
    let left : c.loop.counter < length c.self.inside.kept.items = rw (← c.loop.invariant.2) c.loop-test.true in
    elim c.match-pop_front.branch [
      | in-Some-pop_front w ↦
          let next = parted_next c.in-Some.hop c.self.inside.kept.items c.loop.counter w.in-Some-pop_front.m _ _ _ _ _ left
          c.loop.invariant.0 c.loop.invariant.1 w.in-Some-pop_front.ensures.items w.part.ensures.staying w.part.ensures.leaving in
          rw w.self-inside-is (next.0, next.1, c.loop.invariant.2, omega (arith, w.part.ensures.leaving_len, c.loop.invariant.3), rw w.part.ensures.leaving_capacity c.loop.invariant.4, c.loop.invariant.5, c.loop.invariant.6)
      | in_default-pop_front w ↦
          absurd (some_left c.self.inside.kept.items _ c.loop.self-inside.kept.items c.loop.counter left c.loop.invariant.0 (w.in_default-pop_front.ensures.items ∙ w.in_default-pop_front.ensures.rest))
    ]
