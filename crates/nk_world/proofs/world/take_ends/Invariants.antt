-- The channels so far have left their ends.
use Rattle.std.proofs.Common.{◌≡◌, ◌++◌, map}
use Rattle.nk_world.specs.Parts.{play_of}
use Rattle.nk_world.specs.End.{end_of}
use Rattle.nk_world.proofs.world.take_ends.Given as goal

abbrev pub invariant-loop-channel : goal.invariant-loop-channel
invariant-loop-channel l = record {
  all : l.yielded ++ l.channel-iterator.rest.items ≡ l.fn.channels.items;
  ends : l.ends ≡ map end_of (map play_of l.yielded);
}
