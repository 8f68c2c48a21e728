-- The first bytes of the buffer are handed out, and the reader has moved so far.
use Rattle.std.proofs.Common.{◌≡◌, ◌-◌, ◌≤◌, length, take, drop}
use Rattle.std.specs.Prelude.{IfSome, slice_get, slice_set}
use Rattle.nk_pipe.specs.Pipe.{moved}
use Rattle.nk_pipe.specs.Kept.{Forgets}
use Rattle.nk_pipe.proofs.pipe.Pipe.hand_out.Given as goal

abbrev pub invariant-loop-done : goal.invariant-loop-done
invariant-loop-done l = record {
  within : l.done ≤ length l.buffer;
  handed : IfSome (slice_get l.initial.self.readers l.i) (λ r. take l.done l.buffer ≡ take l.done (drop (r.position - l.initial.self.past) l.initial.self.bytes));
  moved : IfSome (slice_get l.initial.self.readers l.i) (λ r. Forgets (record l.initial.self { readers = slice_set l.initial.self.readers l.i (moved r l.done) }) l.self);
}

abbrev pub decreases-loop-done : goal.decreases-loop-done
decreases-loop-done l = length l.buffer - l.done
