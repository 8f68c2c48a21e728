use Rattle.std.proofs.Common.{◌≡◌, ◌≤◌, ℕ, List, [], ◌++◌, length}
use Rattle.nk_io.specs.Got.{Gains}
use Rattle.nk_io.proofs.whole.write_all.Given as goal

abbrev pub invariant-loop-rest : goal.invariant-loop-rest
invariant-loop-rest g l = record {
  split : (done : List ℕ) × (l.bytes ≡ done ++ l.rest) × Gains (g.O.Sink.got l.initial.out) (g.O.Sink.got l.out) done;
  counted : g.O.Sink.faults l.initial.out ≤ g.O.Sink.faults l.out;
  nothing : l.bytes ≡ [] → l.out ≡ l.initial.out;
}

abbrev pub decreases-loop-rest : goal.decreases-loop-rest
decreases-loop-rest g l = length l.rest
