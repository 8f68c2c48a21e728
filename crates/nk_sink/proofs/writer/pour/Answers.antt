-- As many bytes as there is room for.
use Rattle.std.proofs.Common.{sym, ◌∙◌}
use Rattle.nk_sink.proofs.Writing.{wrote_is, refused_is}
use Rattle.nk_sink.proofs.writer.pour.Goals as goal

pub returns-in-Wrote-clause-count : goal.returns-in-Wrote-clause-count
returns-in-Wrote-clause-count c =
    wrote_is c.args.pipe.now c.args.bytes.now c.in-Wrote.count c.requires.opens (λ p stands. sym c.in-Wrote.is ∙ c.in_ok-count.ensures.answer p stands)

pub returns-in-WouldBlock : goal.returns-in-WouldBlock
returns-in-WouldBlock c = record {
  wrote = λ p stands. c.in_ok-count.ensures.state p stands;
  count = refused_is c.args.pipe.now c.args.bytes.now c.in_ok-count.field-0 c.requires.opens c.in-WouldBlock.is c.in_ok-count.ensures.answer;
}
