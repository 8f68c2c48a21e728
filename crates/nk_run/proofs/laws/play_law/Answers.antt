use Rattle.nk_run.proofs.Plays.{one_play}
use Rattle.nk_run.proofs.laws.play_law.Goals as goal

pub returns : goal.returns
returns c = one_play c.script_law.ensures c.drain_law.ensures.new c.drain_law.ensures.step c.drain_law.ensures.ends c.drain_law.ensures.one
