use Rattle.nk_half_laws.proofs.PieceLaws.{drops_kept}
use Rattle.nk_half_laws.proofs.pieces.drops_law.Goals as goal

pub returns : goal.returns
returns c = drops_kept
