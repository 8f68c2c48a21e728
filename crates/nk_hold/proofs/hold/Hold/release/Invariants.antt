-- The messages that were looked at are parted: those of the hop leave, and the others stand behind those not looked at.
use Rattle.std.proofs.Common.{◌≡◌, ◌++◌, ◌≤◌, length, take, drop}
use Rattle.std.specs.VecDeque.{deque_len, deque_capacity}
use Rattle.nk_base.specs.Hold.{of_hop, not_of_hop}
use Rattle.nk_hold.proofs.hold.Hold.release.Given as goal

abbrev pub invariant-loop : goal.invariant-loop
invariant-loop l =
    (l.self-inside.kept.items ≡ drop l.counter l.initial.self-inside.kept.items ++ not_of_hop l.hop (take l.counter l.initial.self-inside.kept.items))
    × (l.self-inside.leaving.items ≡ of_hop l.hop (take l.counter l.initial.self-inside.kept.items))
    × (l.end ≡ length l.initial.self-inside.kept.items)
    × (deque_len l.self-inside.leaving ≤ l.counter)
    × (length l.initial.self-inside.kept.items ≤ deque_capacity l.self-inside.leaving)
    × (l.self-inside.released ≡ l.initial.self-inside.released)
    × (l.self-inside.report ≡ l.initial.self-inside.report)
