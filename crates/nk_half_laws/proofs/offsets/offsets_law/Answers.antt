use Rattle.nk_half_laws.proofs.DataEnds.{within, bounded}
use Rattle.nk_half_laws.proofs.offsets.offsets_law.Goals as goal

pub returns-clause-within : goal.returns-clause-within
returns-clause-within c = within

pub returns-clause-bounded : goal.returns-clause-bounded
returns-clause-bounded c = bounded
