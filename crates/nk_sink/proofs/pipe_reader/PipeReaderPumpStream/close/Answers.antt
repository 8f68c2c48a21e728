-- The close of the reader is that of its stream.
use Rattle.nk_sink.proofs.Lending.{stands_whole, there, close_is}
use Rattle.nk_sink.proofs.pipe_reader.PipeReaderPumpStream.close.Goals as goal

pub invariant_of-self : goal.invariant_of-self
invariant_of-self c =
    let r = there c.args.self.now.pipe.now c.args.self.now.reader c.args.self.now.there in
    record { there = (close_is c.args.self.now.pipe.now c.close_reader.new.self c.args.self.now.reader r.0 c.args.status c.requires r.1 (c.close_reader.ensures.state _ (stands_whole c.args.self.now.pipe.now))).1 }

pub returns-clause-stream : goal.returns-clause-stream
returns-clause-stream c =
    let r = there c.args.self.now.pipe.now c.args.self.now.reader c.args.self.now.there in
    (close_is c.args.self.now.pipe.now c.close_reader.new.self c.args.self.now.reader r.0 c.args.status c.requires r.1 (c.close_reader.ensures.state _ (stands_whole c.args.self.now.pipe.now))).0
