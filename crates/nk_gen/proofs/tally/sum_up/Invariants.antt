-- What was summed up are the sums over the channels so far.
use Rattle.std.proofs.Common.{◌≡◌, sum_by, take}
use Rattle.nk_gen.specs.Summing.{stopped_in, pieces_in, bytes_in, readers_in, read_in}
use Rattle.nk_gen.proofs.tally.sum_up.Given as goal

abbrev pub invariant-loop-end : goal.invariant-loop-end
invariant-loop-end l =
    (l.sums.stopped ≡ sum_by stopped_in (take l.end-index l.end-items))
    × (l.sums.pieces ≡ sum_by pieces_in (take l.end-index l.end-items))
    × (l.sums.bytes ≡ sum_by bytes_in (take l.end-index l.end-items))
    × (l.sums.readers ≡ sum_by readers_in (take l.end-index l.end-items))
    × (l.sums.read ≡ sum_by read_in (take l.end-index l.end-items))
