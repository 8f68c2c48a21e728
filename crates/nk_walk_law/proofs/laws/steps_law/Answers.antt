use Rattle.nk_walk_law.proofs.Steps.{steps_exact}
use Rattle.nk_walk_law.proofs.laws.steps_law.Goals as goal

pub returns : goal.returns
returns c = steps_exact c.journal_law.ensures.sends c.cut_law.ensures.placed c.placed_law.ensures.front
