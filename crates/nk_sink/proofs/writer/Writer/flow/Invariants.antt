-- What then flows is what flows from the start.
use Rattle.std.proofs.Common.{◌≡◌, ◌-◌, length, List}
use Rattle.nk_pump.specs.Shown.{Shown}
use Rattle.nk_sink.specs.Listener.{flowed}
use Rattle.nk_sink.specs.Fed.{piped_with, IsAt}
use Rattle.nk_sink.proofs.writer.Writer.flow.Given as goal

abbrev pub invariant-loop-self : goal.invariant-loop-self
invariant-loop-self l = record {
  at : IsAt l.entries l.self.pipe l.self.place l.self.offset;
  flowed : (pumps : List Shown) → flowed (piped_with l.entries l.self.pipe pumps) ≡ flowed (piped_with l.entries l.initial.self.pipe pumps);
}

abbrev pub decreases-loop-self : goal.decreases-loop-self
decreases-loop-self l = length l.entries - l.self.place
