-- Those before the index are moved, and those from it on are as before.
use Rattle.std.proofs.Common.{◌≡◌, ◌++◌, drop, take}
use Rattle.nk_pipe.specs.Laid.{all_reaching}
use Rattle.nk_pipe.proofs.readers.all_reach.Given as goal

abbrev pub invariant-loop-reader : goal.invariant-loop-reader
invariant-loop-reader l =
    l.readers ≡ all_reaching l.place (take l.reader-index l.fn.readers) ++ drop l.reader-index l.fn.readers
