-- What was written is the rest of the piece, as far as it fits.
use Rattle.std.proofs.Common.{ℕ, List, drop, take_all, subst, arith}
use Rattle.std.proofs.lemmas.List.{length-drop}
use Rattle.nk_pipe.specs.Pipe.{written_to}
use Rattle.nk_pipe.specs.Kept.{Stands}
use Rattle.nk_sink.proofs.writer.Writer.pass_bytes.Goals as goal

pub returns-clause-wrote : goal.returns-clause-wrote
returns-clause-wrote c = λ p stands.
    subst (λ (xs : List ℕ). Stands c.pour.new.pipe (written_to p.closed xs p)) (take_all _ (drop c.args.self.now.offset c.args.piece.now) (omega (arith, length-drop c.args.self.now.offset c.args.piece.now))) (c.in_ok-count.ensures.wrote p stands)
