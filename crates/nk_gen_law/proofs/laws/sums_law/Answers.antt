use Rattle.nk_gen_law.proofs.Sums.{sums_small}
use Rattle.nk_gen_law.proofs.laws.sums_law.Goals as goal

pub returns : goal.returns
returns c = sums_small
