-- Each kind of entry passes as it is said.
use Rattle.std.proofs.Common.{refl}
use Rattle.nk_sink.proofs.Writing.{passes_bytes}
use Rattle.nk_sink.proofs.writer.Writer.pass.Goals as goal

pub returns-in-Bytes-clause-passes : goal.returns-in-Bytes-clause-passes
returns-in-Bytes-clause-passes c =
    rw (c.in-Bytes.is, ← c.as_slice.ensures) (passes_bytes c.pass_bytes.result c.args.self.now.pipe c.pass_bytes.new.self.pipe c.args.self.now.offset c.pass_bytes.new.self.offset _ c.pass_bytes.ensures.wrote c.pass_bytes.ensures.passed)

pub returns-in-Stop-clause-passes : goal.returns-in-Stop-clause-passes
returns-in-Stop-clause-passes c = rw c.in-Stop.is (λ p stands. c.close_writer.ensures.state p stands, refl, refl)
