-- Once nothing is left, all was handed over.
use Rattle.std.proofs.Common.{sym, ◌∙◌}
use Rattle.nk_world.proofs.Handing.{all_handed}
use Rattle.nk_world.proofs.playing.Playing.hand_over.Goals as goal

pub returns : goal.returns
returns c =
    all_handed c.loop-entry.self c.args.self.now c.take.new.self c.loop-entry.invariant.parts c.loop-entry.invariant.works c.loop-entry.invariant.handed
    (sym c.in_default.is ∙ c.take.ensures.first) c.take.ensures.rest
