-- A reader whose position is told was made.
use Rattle.std.proofs.Common.{◌≡◌, ◌∙◌, refl, sym, ℕ, Option, Some, None, replicate}
use Rattle.std.specs.Prelude.{IsSome}
use Rattle.std.proofs.lemmas.List.{length-replicate}
use Rattle.nk_pipe.specs.Pipe.{Reader, numbered, position_of}
use Rattle.nk_sink.specs.Lent.{some_whole}
use Rattle.nk_parts_tests.proofs.sink.is_there.Goals as goal

told : (o : Option Reader) (q : Option ℕ) → q ≡ position_of o → IsSome q → IsSome o
told (Some r) q is some = refl
told None q is some = absurd (cc (is, some))

pub returns : goal.returns
returns c = λ is.
    let k = c.args.pipe.now in
    let model : c.position.result ≡ position_of (numbered k.readers c.args.reader) =
    c.position.ensures.position (some_whole k) (replicate k.past 0, length-replicate k.past 0, refl) in
    told _ _ model (sym c.is_some.ensures ∙ is)
