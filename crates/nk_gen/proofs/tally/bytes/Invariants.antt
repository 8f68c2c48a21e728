-- What was summed up is the sum over the entries so far.
use Rattle.std.proofs.Common.{◌≡◌, sum_by, take}
use Rattle.nk_gen.specs.Summing.{size_of}
use Rattle.nk_gen.proofs.tally.bytes.Given as goal

abbrev pub invariant-loop-entry : goal.invariant-loop-entry
invariant-loop-entry l = l.size ≡ sum_by size_of (take l.entry-index l.entry-items)
