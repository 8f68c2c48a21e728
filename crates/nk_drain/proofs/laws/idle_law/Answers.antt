use Rattle.nk_drain.proofs.Idle.{idle}
use Rattle.nk_drain.proofs.laws.idle_law.Goals as goal

pub returns : goal.returns
returns c = idle c.child_falls_law.ensures.idle c.parent_falls_law.ensures.idle
