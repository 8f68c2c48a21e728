-- Only the room has grown.
use Rattle.std.proofs.Common.{◌≡◌, ◌-◌}
use Rattle.nk_pipe.proofs.pipe.Pipe.make_room.Given as goal

abbrev pub invariant-loop-self : goal.invariant-loop-self
invariant-loop-self l = l.self ≡ record l.initial.self { ahead = l.self.ahead }

abbrev pub decreases-loop-self : goal.decreases-loop-self
decreases-loop-self l = l.n - l.self.ahead
