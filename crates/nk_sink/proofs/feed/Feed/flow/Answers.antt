-- A read still takes one segment.
use Rattle.nk_sink.proofs.Showing.{fed_after}
use Rattle.nk_sink.proofs.feed.Feed.flow.Goals as goal

pub returns-clause-fed : goal.returns-clause-fed
returns-clause-fed c =
    fed_after c.args.entries.now c.flow.result c.args.self.now c.flow.new.self c.requires.fed c.flow.ensures.at (c.flow.ensures.flowed c.args.self.now.pumps.items)
