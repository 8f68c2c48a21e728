-- The first of the bytes are written.
use Rattle.std.proofs.Common.{◌≡◌, ◌-◌, ◌++◌, ◌≤◌, length, take}
use Rattle.nk_pipe.proofs.pipe.Pipe.append.Given as goal

abbrev pub invariant-loop-done : goal.invariant-loop-done
invariant-loop-done l = record {
  within : l.done ≤ length l.bytes;
  written : l.self ≡ record l.initial.self {
    bytes = l.initial.self.bytes ++ take l.done l.bytes;
    ahead = l.initial.self.ahead - l.done;
  };
}

abbrev pub decreases-loop-done : goal.decreases-loop-done
decreases-loop-done l = length l.bytes - l.done
