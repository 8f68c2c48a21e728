use Rattle.std.proofs.Common.{◌≡◌, ◌+◌, ◌-◌, ◌≤◌, vec_len}
use Rattle.std.specs.Io.KnownBytes.{Consumes}
use Rattle.nk_io.proofs.whole.read_all.Given as goal

abbrev pub invariant-turns : goal.invariant-turns
invariant-turns g l = record {
  within : vec_len l.bytes ≤ l.most;
  buffer : vec_len l.chunk ≡ 65536;
  given : Consumes (g.I.Source.left l.initial.input) (g.I.Source.left l.input) l.bytes.items;
  counted : g.I.Source.faults l.initial.input ≤ g.I.Source.faults l.input;
}

abbrev pub decreases-turns : goal.decreases-turns
decreases-turns g l = l.most + 1 - vec_len l.bytes
