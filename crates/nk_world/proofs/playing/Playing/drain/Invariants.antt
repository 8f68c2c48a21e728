-- Rounds led here; fewer are left with each round.
use Rattle.nk_world.specs.Parts.{play_of, IsSound}
use Rattle.nk_world.proofs.Left.{rounds_left}
use Rattle.nk_world.proofs.Drains.{Led}
use Rattle.nk_world.proofs.playing.Playing.drain.Given as goal

abbrev pub invariant-loop : goal.invariant-loop
invariant-loop l = record {
  sound : IsSound l.self;
  led : Led (play_of l.fn.self) (play_of l.self);
}

abbrev pub decreases-loop : goal.decreases-loop
decreases-loop l = rounds_left (play_of l.self)
