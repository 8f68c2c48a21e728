use Rattle.nk_laws.proofs.Proved.{failures, counts, bounds, sends}
use Rattle.nk_laws.proofs.laws.journal_law.Goals as goal

pub returns : goal.returns
returns c = record { failure = failures c.growth_law.ensures; counts = counts; bounds = bounds c.child_queue_law.ensures; sends = sends c.growth_law.ensures }
