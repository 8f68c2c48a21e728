use Rattle.nk_laws.proofs.Placing.{walk_exact, keep_exact, stuck_exact}
use Rattle.nk_laws.proofs.Entries.{entries_exact}
use Rattle.nk_laws.proofs.laws.walk_law.Goals as goal

pub returns : goal.returns
returns c = record { greedy = walk_exact; keep = keep_exact; stuck = stuck_exact; entries = entries_exact c.growth_law.ensures }
