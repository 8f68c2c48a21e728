use Rattle.nk_walk_law.proofs.Steps.{blocks_exact}
use Rattle.nk_walk_law.proofs.laws.blocks_law.Goals as goal

pub returns : goal.returns
returns c = blocks_exact c.journal_law.ensures.sends
