-- So many pumps were made.
use Rattle.std.proofs.Common.{◌≡◌, replicate}
use Rattle.nk_pump.specs.Shown.{nothing_shown}
use Rattle.nk_sink.proofs.feed.new_pumps.Given as goal

abbrev pub invariant-loop : goal.invariant-loop
invariant-loop l = l.pumps.items ≡ replicate l.counter (nothing_shown l.segment)
