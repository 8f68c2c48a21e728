use Rattle.nk_half_laws.proofs.ChildRest.{rest}
use Rattle.nk_half_laws.proofs.settled.child_rest_law.Goals as goal

pub returns : goal.returns
returns c = rest
