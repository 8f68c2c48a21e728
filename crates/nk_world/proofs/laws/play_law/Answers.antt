-- What each layer says.
use Rattle.nk_world.proofs.laws.play_law.Goals as goal

pub returns : goal.returns
returns c = record {
  step = c.channel_law.ensures.step;
  enabled = c.channel_law.ensures.enabled;
  grows = c.channel_law.ensures.grows;
  roomy = c.channel_law.ensures.roomy;
  shown = c.channel_law.ensures.shown;
  idle = c.idle_law.ensures;
  reads = c.reads_law.ensures.idle;
}
