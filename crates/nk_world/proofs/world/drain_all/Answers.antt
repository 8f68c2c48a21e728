-- The next channel is drained.
use Rattle.nk_world.proofs.Channels.{next_sound, next_drained, next_rest}
use Rattle.nk_world.proofs.world.drain_all.Goals as goal

pub drain-requires : goal.drain-requires
drain-requires c =
    next_sound c.loop-channel.channel-items c.args.channels.now c.loop-channel.channel-index c.channel-item.result c.loop-channel-test.true c.loop-channel.invariant.rest c.requires

pub loop-channel-preserved : goal.loop-channel-preserved
loop-channel-preserved c = record {
  done =
      next_drained c.loop-channel.channel-items c.args.channels.now c.loop-channel.channel-index c.channel-item.result c.drain.new.self
      c.loop-channel-test.true c.loop-channel.invariant.rest c.loop-channel.invariant.done c.in_ok-drain.ensures;
  rest =
      next_rest c.loop-channel.channel-items c.args.channels.now c.loop-channel.channel-index c.channel-item.result c.drain.new.self
      c.loop-channel-test.true c.loop-channel.invariant.rest;
}
