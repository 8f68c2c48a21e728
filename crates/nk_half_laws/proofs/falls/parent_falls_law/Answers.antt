use Rattle.nk_half_laws.proofs.HalfFalls.{fetch_there, up_keeps}
use Rattle.nk_half_laws.proofs.IdleSteps.{parent_idle}
use Rattle.nk_half_laws.proofs.falls.parent_falls_law.Goals as goal

pub returns : goal.returns
returns c = record { fetch = fetch_there; up = up_keeps; idle = parent_idle }
