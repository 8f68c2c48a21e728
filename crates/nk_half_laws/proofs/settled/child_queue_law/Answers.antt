use Rattle.nk_half_laws.proofs.ChildRest.{queue}
use Rattle.nk_half_laws.proofs.settled.child_queue_law.Goals as goal

pub returns : goal.returns
returns c = queue
