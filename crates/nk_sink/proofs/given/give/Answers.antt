-- The bytes in the buffer are the next of the stream.
use Rattle.std.proofs.Common.{◌≤◌, length, arith}
use Rattle.std.proofs.lemmas.List.{length-take}
use Rattle.nk_sink.proofs.Giving.{few_in, given_is}
use Rattle.nk_sink.proofs.given.give.Goals as goal

pub slice_bounds-result-end : goal.slice_bounds-result-end
slice_bounds-result-end c =
    let few : c.bytes_in.result ≤ length c.args.buffer.now = rw (c.bytes_in.ensures, c.answered-answer.ensures) (few_in (length c.args.buffer.now) c.args.reader c.args.pipe.now c.read_into.result c.read_into.ensures.answer) in
    omega (arith, few, c.read_into.auto.buffer, length-take c.bytes_in.result c.read_into.new.buffer)

pub returns-clause-given : goal.returns-clause-given
returns-clause-given c = λ p stands.
    rw (c.bytes_in.ensures, c.answered-answer.ensures) (given_is (length c.args.buffer.now) c.args.reader p c.args.buffer.now c.read_into.new.buffer c.read_into.result (c.read_into.ensures.answer p stands) (c.read_into.ensures.bytes p stands))
