use Rattle.nk_half_laws.proofs.ParentRoom.{ranged}
use Rattle.nk_half_laws.proofs.ranges.parent_range_law.Goals as goal

pub returns : goal.returns
returns c = ranged
