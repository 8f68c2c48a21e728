-- What was known of the bytes before is known of them after, and no byte is lost.
use Rattle.std.proofs.Common.{◌≡◌, ◌+◌, ℕ, List, length}
use Rattle.nk_run.specs.Listing.{AreBytes, Listed}
use Rattle.nk_run.proofs.frames.Listing.lines.Given as goal

abbrev pub invariant-loop : goal.invariant-loop
invariant-loop l = record {
  listed : (fed : List ℕ) → AreBytes fed → Listed fed l.initial.self.frames l.initial.self.printer → Listed fed l.self.frames l.self.printer;
  total : l.self.frames.offset + length l.self.frames.unused ≡ l.initial.self.frames.offset + length l.initial.self.frames.unused;
}

abbrev pub decreases-loop : goal.decreases-loop
decreases-loop l = length l.self.frames.unused
