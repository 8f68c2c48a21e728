-- The pipe is what the read left.
use Rattle.std.proofs.Common.{◌∙◌, ap, sym, subst}
use Rattle.nk_pipe.specs.Pipe.{numbered, read_from}
use Rattle.nk_pipe.specs.Kept.{Stands}
use Rattle.nk_sink.proofs.Giving.{behind_read}
use Rattle.nk_sink.proofs.given.turn_over.Goals as goal

pub returns-in_err-turn-clause-pipe : goal.returns-in_err-turn-clause-pipe
returns-in_err-turn-clause-pipe c = λ p stands.
    let same = behind_read c.args.pump.now c.args.reader p c.requires.reads.0 c.requires.reads.1 c.requires.free ∙ ap (λ n. read_from (numbered p.readers c.args.reader) c.args.reader n p) c.requires.size in
    subst (λ q. Stands c.give-given.new.pipe q) (sym same) (c.give-given.ensures.pipe p stands)

pub returns-clause-pipe : goal.returns-clause-pipe
returns-clause-pipe c = λ p stands.
    let same = behind_read c.args.pump.now c.args.reader p c.requires.reads.0 c.requires.reads.1 c.requires.free ∙ ap (λ n. read_from (numbered p.readers c.args.reader) c.args.reader n p) c.requires.size in
    subst (λ q. Stands c.give-given.new.pipe q) (sym same) (c.give-given.ensures.pipe p stands)
