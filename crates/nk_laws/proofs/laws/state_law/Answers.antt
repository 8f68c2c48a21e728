use Rattle.nk_laws.proofs.Proved.{states}
use Rattle.nk_laws.proofs.laws.state_law.Goals as goal

pub returns : goal.returns
returns c = states
