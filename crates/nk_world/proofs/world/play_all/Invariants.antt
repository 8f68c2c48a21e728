-- A channel was made for each plan so far.
use Rattle.std.proofs.Common.{◌≡◌, map, take}
use Rattle.nk_world.specs.Parts.{new_playing}
use Rattle.nk_world.proofs.world.play_all.Given as goal

abbrev pub invariant-loop-plan : goal.invariant-loop-plan
invariant-loop-plan l = l.channels.items ≡ map new_playing (take l.plan-index l.plan-items)
