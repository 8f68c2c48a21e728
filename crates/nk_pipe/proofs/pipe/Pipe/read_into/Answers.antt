-- The read of the reader of the number is the model's.
use Rattle.std.proofs.Common.{◌≡◌, ◌++◌, length, drop}
use Rattle.nk_pipe.specs.Pipe.{numbered, read_from, handed}
use Rattle.nk_pipe.specs.Kept.{Stands}
use Rattle.nk_pipe.proofs.StandsLemmas.{of_whole, named, read_whole, count_kept, read_writes_none}
use Rattle.nk_pipe.proofs.pipe.Pipe.read_into.Goals as goal

pub returns-in-Some-clause-state : goal.returns-in-Some-clause-state
returns-in-Some-clause-state c =
    let r = named c.args.self.now.readers c.args.reader c.in-Some.i c.in-Some.ensures in
    of_whole c.args.self.now (λ p. Stands c.read_at.new.self (read_from (numbered p.readers c.args.reader) c.args.reader (length c.args.buffer.now) p))
    (λ gone long. (read_whole c.args.self.now c.read_at.new.self c.in-Some.i c.args.reader r.0 c.args.buffer.now c.read_at.new.buffer gone r.1 r.2 c.in-Some.ensures.0 long (rw r.1 at c.read_at.ensures.reads)).0)

pub returns-in-Some-clause-bytes : goal.returns-in-Some-clause-bytes
returns-in-Some-clause-bytes c =
    let r = named c.args.self.now.readers c.args.reader c.in-Some.i c.in-Some.ensures in
    of_whole c.args.self.now (λ p. c.read_at.new.buffer ≡ handed (numbered p.readers c.args.reader) (length c.args.buffer.now) p.written ++ drop (length (handed (numbered p.readers c.args.reader) (length c.args.buffer.now) p.written)) c.args.buffer.now)
    (λ gone long. (read_whole c.args.self.now c.read_at.new.self c.in-Some.i c.args.reader r.0 c.args.buffer.now c.read_at.new.buffer gone r.1 r.2 c.in-Some.ensures.0 long (rw r.1 at c.read_at.ensures.reads)).1)

pub returns-in-Some-clause-count : goal.returns-in-Some-clause-count
returns-in-Some-clause-count c =
    count_kept c.args.self.now c.read_at.new.self (λ p. read_from (numbered p.readers c.args.reader) c.args.reader (length c.args.buffer.now) p) (λ p. read_writes_none (numbered p.readers c.args.reader) c.args.reader (length c.args.buffer.now) p) (returns-in-Some-clause-state c)
