use Rattle.nk_half_laws.proofs.ParentRest.{ended}
use Rattle.nk_half_laws.proofs.settled.parent_end_law.Goals as goal

pub returns : goal.returns
returns c = ended
