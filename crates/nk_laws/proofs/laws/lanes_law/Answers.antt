use Rattle.nk_laws.proofs.Proved.{lanes}
use Rattle.nk_laws.proofs.laws.lanes_law.Goals as goal

pub returns : goal.returns
returns c = lanes
