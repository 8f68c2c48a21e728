-- The parts, one behind the other.
use Rattle.std.proofs.Common.{append_assoc}
use Rattle.nk_wire.proofs.write_start.write.Goals as goal

pub returns-clause-written : goal.returns-clause-written
returns-clause-written c =
    rw (← c.head.view_is, c.in_ok-headers.ensures, c.in_ok-u16.ensures, c.in_ok-u32-2.ensures.written, c.in_ok-u32.ensures.written) (simp append_assoc)
