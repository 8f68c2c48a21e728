-- The laws of the halves and of the lanes give those of the parts.
use Rattle.nk_channel.proofs.Little.{SendLaws}
use Rattle.nk_channel.proofs.Proved.{step_law, enabled_law, idle_law, grows_law, roomy_law, shown_law}
use Rattle.nk_channel.proofs.laws.channel_law.Goals as goal

pub returns : goal.returns
returns c =
    let sends : SendLaws = record {
      joined = c.moves_law.ensures.joined;
      parent = c.parent_sends_law.ensures;
      child = c.child_sends_law.ensures.sends;
      shown = c.child_sends_law.ensures.shows;
    } in
    record {
      step = step_law c.moves_law.ensures.moves;
      enabled = enabled_law;
      idle = idle_law c.child_falls_law.ensures.idle c.parent_falls_law.ensures.idle;
      grows = grows_law c.growth_law.ensures;
      roomy = roomy_law sends;
      shown = shown_law sends;
    }
