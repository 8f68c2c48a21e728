-- What is read is what the wire says of the rest.
use Rattle.std.proofs.Common.{subst, arith}
use Rattle.nk_wire.specs.Spelling.{SpellsUp}
use Rattle.nk_wire.specs.Reading.{Gives, up_answer}
use Rattle.nk_wire.proofs.UpWire.{up-found}
use Rattle.nk_wire.proofs.AnyWire.{given-found, up-only}
use Rattle.nk_wire.proofs.decode.decode_up.Goals as goal

pub returns-clause-found : goal.returns-clause-found
returns-clause-found c =
    let rest = c.args.rest.now in
    given-found SpellsUp (up_answer rest) rest c.answer.result (λ m h. up-found rest m (λ i. omega (arith, c.type_inv.rest i)) h) c.answer.ensures

pub returns-clause-only : goal.returns-clause-only
returns-clause-only c = λ m s. subst (λ answer. Gives (λ x. x) c.answer.result answer) (up-only m c.args.rest.now s) c.answer.ensures
