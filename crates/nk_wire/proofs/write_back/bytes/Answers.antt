-- The parts, one behind the other.
use Rattle.std.proofs.Common.{append_assoc}
use Rattle.nk_wire.proofs.write_back.bytes.Goals as goal

pub returns-clause-written : goal.returns-clause-written
returns-clause-written c =
    rw (
      c.in_ok-put.ensures,
      c.in_ok-u32-3.ensures.written,
      c.in_ok-u64.ensures.written,
      c.in_ok-u32-2.ensures.written,
      c.in_ok-u32.ensures.written,
      c.in_ok-kind.ensures,
      c.as_slice.ensures,
      c.size.ensures.size,
    ) (simp append_assoc)
