use Rattle.nk_half_laws.proofs.SystemMoves.{system_falls}
use Rattle.nk_half_laws.proofs.SystemRuns.{runs}
use Rattle.nk_half_laws.proofs.falls.system_falls_law.Goals as goal

pub returns : goal.returns
returns c = record { falls = system_falls; run = runs }
