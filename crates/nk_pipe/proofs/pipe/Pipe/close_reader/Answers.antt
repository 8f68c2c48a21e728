-- The open reader of the number is closed; a closed one stays as it is.
use Rattle.std.proofs.Common.{◌≡◌, refl, sym, ◌∙◌, true}
use Rattle.nk_pipe.specs.Pipe.{without_reader, numbered, is_open, close_answer}
use Rattle.nk_pipe.specs.Kept.{Stands}
use Rattle.nk_pipe.proofs.StandsLemmas.{of_whole, named, close_whole, count_kept, close_writes_none}
use Rattle.nk_pipe.proofs.pipe.Pipe.close_reader.Goals as goal

pub returns-then-is_open-clause-state : goal.returns-then-is_open-clause-state
returns-then-is_open-clause-state c =
    let r = named c.args.self.now.readers c.args.reader c.in-Some.i c.in-Some.ensures in
    let opens : is_open r.0.closed ≡ true = sym (rw r.1 at c.is_open.ensures) ∙ c.if-is_open.true in
    of_whole c.args.self.now (λ p. Stands c.close_at.new.self (without_reader (numbered p.readers c.args.reader) c.args.reader c.args.status p))
    (λ gone long. close_whole c.args.self.now c.close_at.new.self c.in-Some.i c.args.reader r.0 c.args.status gone r.2 c.in-Some.ensures.0 long opens (rw r.1 at c.close_at.ensures))

pub returns-else-is_open-clause-answer : goal.returns-else-is_open-clause-answer
returns-else-is_open-clause-answer c =
    let r = named c.args.self.now.readers c.args.reader c.in-Some.i c.in-Some.ensures in
    of_whole c.args.self.now (λ p. _ ≡ close_answer (numbered p.readers c.args.reader) c.args.reader) (λ gone long. rw r.2 refl)

pub returns-then-is_open-clause-count : goal.returns-then-is_open-clause-count
returns-then-is_open-clause-count c =
    count_kept c.args.self.now c.close_at.new.self (λ p. without_reader (numbered p.readers c.args.reader) c.args.reader c.args.status p) (λ p. close_writes_none (numbered p.readers c.args.reader) c.args.reader c.args.status p) (returns-then-is_open-clause-state c)
