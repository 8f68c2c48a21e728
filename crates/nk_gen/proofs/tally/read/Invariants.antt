-- What was summed up is the sum over the readers so far.
use Rattle.std.proofs.Common.{◌≡◌, take}
use Rattle.nk_gen.specs.Summing.{read_by}
use Rattle.nk_gen.proofs.tally.read.Given as goal

abbrev pub invariant-loop-reader : goal.invariant-loop-reader
invariant-loop-reader l = l.size ≡ read_by (take l.reader-index l.reader-items)
