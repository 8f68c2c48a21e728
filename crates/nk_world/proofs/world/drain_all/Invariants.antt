-- The channels so far are drained, and the others are as they were.
use Rattle.std.proofs.Common.{◌≡◌, take, drop}
use Rattle.std.specs.List.{AllZip}
use Rattle.nk_world.specs.Parts.{DrainsTo}
use Rattle.nk_world.proofs.world.drain_all.Given as goal

abbrev pub invariant-loop-channel : goal.invariant-loop-channel
invariant-loop-channel l = record {
  done : AllZip DrainsTo (take l.channel-index l.fn.channels) (take l.channel-index l.channel-items);
  rest : drop l.channel-index l.channel-items ≡ drop l.channel-index l.fn.channels;
}
