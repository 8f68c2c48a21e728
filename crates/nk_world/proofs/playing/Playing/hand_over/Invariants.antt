-- What is still on the list is still to be handed over, and all else is as it was.
use Rattle.std.proofs.Common.{◌≡◌, ◌+◌, ◌<◌, ◌^◌, length, false}
use Rattle.nk_sink.specs.Listener.{entered_all}
use Rattle.nk_world.specs.Parts.{lane}
use Rattle.nk_world.proofs.playing.Playing.hand_over.Given as goal

abbrev pub invariant-loop-entry : goal.invariant-loop-entry
invariant-loop-entry l = record {
  parts : l.self ≡ record l.fn.self { delivery = lane l.self.delivery.held; listener = l.self.listener };
  works : l.self.listener.failed ≡ false;
  handed : entered_all l.self.delivery.held l.self.listener.listener ≡ entered_all l.fn.self.delivery.held l.fn.self.listener.listener;
  few : length l.self.listener.listener.entries + length l.self.delivery.held < 2 ^ 32;
}

abbrev pub decreases-loop-entry : goal.decreases-loop-entry
decreases-loop-entry l = length l.self.delivery.held
