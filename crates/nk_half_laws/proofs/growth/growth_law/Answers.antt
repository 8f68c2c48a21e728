use Rattle.nk_half_laws.proofs.GrowthRows.{growth}
use Rattle.nk_half_laws.proofs.growth.growth_law.Goals as goal

pub returns : goal.returns
returns c = growth
