use Rattle.nk_half_laws.proofs.PieceLaws.{runs}
use Rattle.nk_half_laws.proofs.pieces.data_order_law.Goals as goal

pub returns : goal.returns
returns c = runs
