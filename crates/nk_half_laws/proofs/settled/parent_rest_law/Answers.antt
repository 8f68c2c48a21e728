use Rattle.nk_half_laws.proofs.ParentRest.{waits}
use Rattle.nk_half_laws.proofs.settled.parent_rest_law.Goals as goal

pub returns : goal.returns
returns c = waits
