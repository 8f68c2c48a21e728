use Rattle.nk_half_laws.proofs.ParentRoom.{sends}
use Rattle.nk_half_laws.proofs.capacity.parent_sends_law.Goals as goal

pub returns : goal.returns
returns c = sends
