-- The parent has taken one step more, or is as it was.
use Rattle.nk_parent.proofs.Runs.{fetch_stays}
use Rattle.nk_parent.proofs.parent.Parent.fetch.Goals as goal

pub invariant_of-self : goal.invariant_of-self
invariant_of-self g c =
    fetch_stays c.turn-moved.result c.self.inside.load.plan c.put_journal.new.self.plan c.turn-moved.new.self.plan c.take_journal.new.self.plan
    c.self.inside.load.state c.put_journal.new.self.state c.turn-moved.new.self.state c.take_journal.new.self.state
    c.self.inside.journal c.replace.result c.take_journal.result c.self.invariant c.replace.ensures.value
    c.put_journal.ensures.plan c.put_journal.ensures.state c.turn-moved.ensures.plan c.turn-moved.ensures.state c.turn-moved.ensures.err
    c.take_journal.ensures.journal c.take_journal.ensures.plan c.take_journal.ensures.state
