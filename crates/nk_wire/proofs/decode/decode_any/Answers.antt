-- What is read is what the wire says of the rest.
use Rattle.std.proofs.Common.{subst, arith}
use Rattle.nk_wire.specs.Spelling.{SpellsAny}
use Rattle.nk_wire.specs.Reading.{Gives, any_answer}
use Rattle.nk_wire.proofs.AnyWire.{given-found, any-found, any-only}
use Rattle.nk_wire.proofs.decode.decode_any.Goals as goal

pub returns-clause-found : goal.returns-clause-found
returns-clause-found c =
    let rest = c.args.rest.now in
    given-found SpellsAny (any_answer rest) rest c.answer.result (λ m h. any-found rest m (λ i. omega (arith, c.type_inv.rest i)) h) c.answer.ensures

pub returns-clause-only : goal.returns-clause-only
returns-clause-only c = λ m s. subst (λ answer. Gives (λ x. x) c.answer.result answer) (any-only m c.args.rest.now s) c.answer.ensures
