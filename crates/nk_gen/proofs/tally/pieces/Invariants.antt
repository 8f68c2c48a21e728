-- What was summed up is the sum over the entries so far.
use Rattle.std.proofs.Common.{◌≡◌, sum_by, take}
use Rattle.nk_gen.specs.Summing.{counts_piece}
use Rattle.nk_gen.proofs.tally.pieces.Given as goal

abbrev pub invariant-loop-entry : goal.invariant-loop-entry
invariant-loop-entry l = l.count ≡ sum_by counts_piece (take l.entry-index l.entry-items)
