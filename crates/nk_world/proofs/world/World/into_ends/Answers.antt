-- The ends are those of the channels, and the laws promise what each is.
use Rattle.nk_world.proofs.Channels.{world_promised}
use Rattle.nk_world.proofs.world.World.into_ends.Goals as goal

pub returns-clause-promised : goal.returns-clause-promised
returns-clause-promised c =
    world_promised c.take_ends.result c.self.inside.channels.items c.self.inside.failed c.args.self c.self.view_is (c.self.invariant c.if-failed.false)
    (record {
      joined = c.moves_law.ensures.joined;
      orders = c.order_law.ensures.run;
      run = c.merge_law.ensures.run;
      state = c.state_law.ensures;
      ends = c.ending_law.ensures.ends;
      calm = c.calm_law.ensures.calm;
      closed = c.calm_law.ensures.closed;
      body = c.offsets_law.ensures.bounded;
      readers = c.readers_law.ensures;
    })
    c.take_ends.ensures
