-- So many readers were made.
use Rattle.std.proofs.Common.{◌≡◌, ◌≤◌, ◌-◌}
use Rattle.nk_pipe.specs.Kept.{Stands, count}
use Rattle.nk_sink.proofs.Moving.{pipe_with}
use Rattle.nk_sink.proofs.feed.new_pipe.Given as goal

abbrev pub invariant-loop-made : goal.invariant-loop-made
invariant-loop-made l = record {
  some : 1 ≤ l.made;
  most : l.made ≤ l.readers;
  pipe : Stands l.pipe (pipe_with l.segment l.limit l.made);
  count : count l.pipe ≡ 0;
}

abbrev pub decreases-loop-made : goal.decreases-loop-made
decreases-loop-made l = l.readers - l.made
