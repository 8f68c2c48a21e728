use Rattle.nk_half_laws.proofs.ParentRest.{held, agree}
use Rattle.nk_half_laws.proofs.Suspends.{said}
use Rattle.nk_half_laws.proofs.settled.suspend_law.Goals as goal

pub returns : goal.returns
returns c = record { parent = held; child = said; both = agree }
