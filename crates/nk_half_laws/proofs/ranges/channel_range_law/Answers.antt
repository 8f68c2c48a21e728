use Rattle.nk_half_laws.proofs.ChannelRanges.{channel}
use Rattle.nk_half_laws.proofs.ranges.channel_range_law.Goals as goal

pub returns : goal.returns
returns c = channel
