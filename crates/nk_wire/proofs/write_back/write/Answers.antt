-- A start's kind, and its fields behind it.
use Rattle.std.proofs.Common.{append_assoc}
use Rattle.nk_wire.proofs.write_back.write.Goals as goal

pub returns-in_ok-write-in-Start-clause-written : goal.returns-in_ok-write-in-Start-clause-written
returns-in_ok-write-in-Start-clause-written c = rw (c.in-Start.is, c.in_ok-write-in-Start.ensures.written, c.in_ok-kind-in-Start.ensures) (simp append_assoc)
