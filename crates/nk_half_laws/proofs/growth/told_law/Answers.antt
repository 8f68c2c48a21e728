use Rattle.nk_half_laws.proofs.GrowthRows.{trace_told}
use Rattle.nk_half_laws.proofs.growth.told_law.Goals as goal

pub returns : goal.returns
returns c = trace_told
