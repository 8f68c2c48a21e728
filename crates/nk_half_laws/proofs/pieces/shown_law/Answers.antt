use Rattle.nk_half_laws.proofs.PieceLaws.{shown_kept}
use Rattle.nk_half_laws.proofs.pieces.shown_law.Goals as goal

pub returns : goal.returns
returns c = shown_kept
