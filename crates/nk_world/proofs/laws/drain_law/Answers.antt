-- The laws of the layers below give those of the drain.
use Rattle.nk_world.proofs.Lawful.{new_law, step_law, ends_law}
use Rattle.nk_world.proofs.Worlds.{one_world}
use Rattle.nk_world.proofs.laws.drain_law.Goals as goal

pub returns : goal.returns
returns c = record {
  new = new_law;
  step = step_law c.play_law.ensures;
  ends = λ ps a. ends_law ps a c.play_law.ensures (record { channel = c.falls_law.ensures.left; listener = c.reads_law.ensures.lowers });
  one = λ ps qs rs a d e. one_world ps qs rs a c.play_law.ensures d e;
}
