-- The ends of the pumps so far were added.
use Rattle.std.proofs.Common.{◌≡◌, ◌++◌}
use Rattle.nk_sink.specs.Listener.{ends_by}
use Rattle.nk_sink.proofs.listener.push_ends.Given as goal

abbrev pub invariant-loop-pump : goal.invariant-loop-pump
invariant-loop-pump l = l.ends ≡ l.initial.ends ++ ends_by l.yielded
