use Rattle.nk_half_laws.proofs.PieceLaws.{data_kept, counts}
use Rattle.nk_half_laws.proofs.pieces.data_law.Goals as goal

pub returns : goal.returns
returns c = record { places = data_kept; numbers = counts }
