use Rattle.nk_half_laws.proofs.HalfFalls.{child_falls, child_keeps}
use Rattle.nk_half_laws.proofs.IdleSteps.{child_idle}
use Rattle.nk_half_laws.proofs.falls.child_falls_law.Goals as goal

pub returns : goal.returns
returns c = record { falls = child_falls; keeps = child_keeps; idle = child_idle }
