-- A read of the reader is that of its stream.
use Rattle.std.proofs.Common.{◌∙◌, sym, ap, length}
use Rattle.nk_pump.specs.Stream.{Stream}
use Rattle.nk_sink.proofs.Lending.{stands_whole, there, answer_is, bytes_are, read_there, read_is, no_err}
use Rattle.nk_sink.proofs.pipe_reader.PipeReaderPumpStream.read_into.Goals as goal

pub invariant_of-self : goal.invariant_of-self
invariant_of-self c =
    let r = there c.args.self.now.pipe.now c.args.self.now.reader c.args.self.now.there in
    record { there = read_there c.args.self.now.pipe.now c.read_into-read.new.self c.args.self.now.reader (length c.args.buffer.now) r.0 r.1 (c.read_into-read.ensures.state _ (stands_whole c.args.self.now.pipe.now)) }

pub returns-in-Ok-clause-answer : goal.returns-in-Ok-clause-answer
returns-in-Ok-clause-answer c =
    let r = there c.args.self.now.pipe.now c.args.self.now.reader c.args.self.now.there in
    c.pump_read.ensures ∙ answer_is c.args.self.now.pipe.now c.args.self.now.reader (length c.args.buffer.now) r.0 c.in-Ok.read r.1 (sym c.in-Ok.is ∙ c.read_into-read.ensures.answer _ (stands_whole c.args.self.now.pipe.now))

pub returns-in-Ok-clause-bytes : goal.returns-in-Ok-clause-bytes
returns-in-Ok-clause-bytes c =
    let r = there c.args.self.now.pipe.now c.args.self.now.reader c.args.self.now.there in
    bytes_are c.args.self.now.pipe.now c.args.self.now.reader (length c.args.buffer.now) r.0 c.args.buffer.now c.read_into-read.new.buffer r.1 (c.read_into-read.ensures.bytes _ (stands_whole c.args.self.now.pipe.now))

pub returns-in-Ok-clause-left : goal.returns-in-Ok-clause-left
returns-in-Ok-clause-left c =
    let r = there c.args.self.now.pipe.now c.args.self.now.reader c.args.self.now.there in
    ap (λ (s : Stream). s.left) (read_is c.args.self.now.pipe.now c.read_into-read.new.self c.args.self.now.reader (length c.args.buffer.now) r.0 r.1 (c.read_into-read.ensures.state _ (stands_whole c.args.self.now.pipe.now)) c.position.ensures.reaches)

pub returns-in-Ok-clause-end : goal.returns-in-Ok-clause-end
returns-in-Ok-clause-end c =
    let r = there c.args.self.now.pipe.now c.args.self.now.reader c.args.self.now.there in
    ap (λ (s : Stream). s.end) (read_is c.args.self.now.pipe.now c.read_into-read.new.self c.args.self.now.reader (length c.args.buffer.now) r.0 r.1 (c.read_into-read.ensures.state _ (stands_whole c.args.self.now.pipe.now)) c.position.ensures.reaches)

pub returns-in-Ok-clause-closed : goal.returns-in-Ok-clause-closed
returns-in-Ok-clause-closed c =
    let r = there c.args.self.now.pipe.now c.args.self.now.reader c.args.self.now.there in
    ap (λ (s : Stream). s.closed) (read_is c.args.self.now.pipe.now c.read_into-read.new.self c.args.self.now.reader (length c.args.buffer.now) r.0 r.1 (c.read_into-read.ensures.state _ (stands_whole c.args.self.now.pipe.now)) c.position.ensures.reaches)

pub returns-in-Err-clause-answer : goal.returns-in-Err-clause-answer
returns-in-Err-clause-answer c =
    let r = there c.args.self.now.pipe.now c.args.self.now.reader c.args.self.now.there in
    absurd (no_err c.args.self.now.pipe.now c.args.self.now.reader (length c.args.buffer.now) r.0 _ r.1 (sym c.in-Err.is ∙ c.read_into-read.ensures.answer _ (stands_whole c.args.self.now.pipe.now)))

pub returns-in-Err-clause-bytes : goal.returns-in-Err-clause-bytes
returns-in-Err-clause-bytes c =
    let r = there c.args.self.now.pipe.now c.args.self.now.reader c.args.self.now.there in
    absurd (no_err c.args.self.now.pipe.now c.args.self.now.reader (length c.args.buffer.now) r.0 _ r.1 (sym c.in-Err.is ∙ c.read_into-read.ensures.answer _ (stands_whole c.args.self.now.pipe.now)))

pub returns-in-Err-clause-left : goal.returns-in-Err-clause-left
returns-in-Err-clause-left c =
    let r = there c.args.self.now.pipe.now c.args.self.now.reader c.args.self.now.there in
    absurd (no_err c.args.self.now.pipe.now c.args.self.now.reader (length c.args.buffer.now) r.0 _ r.1 (sym c.in-Err.is ∙ c.read_into-read.ensures.answer _ (stands_whole c.args.self.now.pipe.now)))

pub returns-in-Err-clause-end : goal.returns-in-Err-clause-end
returns-in-Err-clause-end c =
    let r = there c.args.self.now.pipe.now c.args.self.now.reader c.args.self.now.there in
    absurd (no_err c.args.self.now.pipe.now c.args.self.now.reader (length c.args.buffer.now) r.0 _ r.1 (sym c.in-Err.is ∙ c.read_into-read.ensures.answer _ (stands_whole c.args.self.now.pipe.now)))

pub returns-in-Err-clause-closed : goal.returns-in-Err-clause-closed
returns-in-Err-clause-closed c =
    let r = there c.args.self.now.pipe.now c.args.self.now.reader c.args.self.now.there in
    absurd (no_err c.args.self.now.pipe.now c.args.self.now.reader (length c.args.buffer.now) r.0 _ r.1 (sym c.in-Err.is ∙ c.read_into-read.ensures.answer _ (stands_whole c.args.self.now.pipe.now)))
