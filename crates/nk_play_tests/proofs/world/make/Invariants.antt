-- No step changes how many channels there are.
use Rattle.std.proofs.Common.{◌<◌, length}
use Rattle.nk_play_tests.proofs.world.make.Given as goal

abbrev pub invariant-loop-step : goal.invariant-loop-step
invariant-loop-step l = 0 < length l.world.plays
