use Rattle.std.proofs.Common.{◌++◌, ◌+◌, ◌-◌}
use Rattle.nk_gen.specs.Made.{channels, channel_lines}
use Rattle.nk_gen.proofs.Lines.{shifted, channel_left}
use Rattle.nk_gen.proofs.make.make_script.Goals as goal

pub loop-preserved : goal.loop-preserved
loop-preserved c =
    let count = 16 + c.draw-channels.result in
    shifted c.loop.printer c.channel.new.printer (c.word.new.self ++ channels count c.draw-channels.new.self.0) (channel_lines c.loop.draws.0)
    (channels (count - (c.loop.counter + 1)) c.channel.new.draws.0) (channels (count - c.loop.counter) c.loop.draws.0) c.loop.invariant
    (channel_left count c.loop.counter c.loop.draws.0 c.channel.new.draws.0 c.loop-test.true c.in_ok-channel.ensures.draws) c.in_ok-channel.ensures.text
