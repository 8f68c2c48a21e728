use Rattle.nk_walk_law.proofs.RunTest.{run_exact}
use Rattle.nk_walk_law.proofs.laws.run_law.Goals as goal

pub returns : goal.returns
returns c = run_exact c.journal_law.ensures.sends c.state_law.ensures c.walk_law.ensures.entries
