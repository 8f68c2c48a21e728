-- The parts of the second version, one behind the other: there are trailers.
use Rattle.std.proofs.Common.{◌<◌, length, append_assoc, arith}
use Rattle.nk_wire.proofs.BackWire.{some_spelled}
use Rattle.nk_wire.proofs.write_back.stop.Goals as goal

pub returns-clause-written : goal.returns-clause-written
returns-clause-written c =
    let some : 0 < length c.args.trailers.now = omega arith in
    rw (
      some_spelled c.args.hop c.args.status c.args.trailers.now some,
      c.in_ok-headers.ensures,
      c.in_ok-u32-3.ensures.written,
      c.in_ok-u32-2.ensures.written,
      c.in_ok-kind-3.ensures,
      c.in_ok-kind-2.ensures,
    ) (simp append_assoc)
