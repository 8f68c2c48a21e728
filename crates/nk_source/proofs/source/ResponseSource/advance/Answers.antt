-- The source stands behind the piece that it has given.
use Rattle.std.proofs.Common.{◌∙◌, rules}
use Rattle.nk_source.proofs.Sizes.{given_is_source}
use Rattle.nk_source.proofs.source.ResponseSource.advance.Goals as goal

pub invariant_of-self : goal.invariant_of-self
invariant_of-self c =
    given_is_source c.self.inside.pieces c.self.inside.next c.self.inside.offset c.get.result.now c.from.result c.self.invariant c.get.ensures
    (search rules)
    (c.from.ensures ∙ c.size.ensures.size)
    (rw c.from.ensures c.size.ensures.bounded)
