-- The reader of the number has its position.
use Rattle.std.proofs.Common.{◌≡◌, ◌<◌, length, refl, ◌∙◌, arith, Some}
use Rattle.nk_pipe.specs.Pipe.{numbered, position_of}
use Rattle.nk_pipe.specs.Laid.{all_seen}
use Rattle.nk_pipe.specs.contracts.pipe.Pipe.{the_view}
use Rattle.nk_pipe.proofs.ReaderLemmas.{read_get, seen_get, length_seen, numbered_at}
use Rattle.nk_pipe.proofs.PipeLemmas.{reaches_by}
use Rattle.nk_pipe.proofs.StandsLemmas.{of_whole}
use Rattle.nk_pipe.proofs.pipe.Pipe.position.Goals as goal

pub index-requires-in-Some : goal.index-requires-in-Some
index-requires-in-Some c =
    let below = rw (← c.self.view_is) at c.in-Some.ensures.1 in
    omega (arith, below, length_seen c.self.inside.readers.items, c.self.inside.readers.ok.0)

pub returns-in-Some-clause-position : goal.returns-in-Some-clause-position
returns-in-Some-clause-position c =
    let below = rw (← c.self.view_is) at c.in-Some.ensures.1 in
    let within : c.in-Some.i < length c.self.inside.readers.items = omega (arith, below, length_seen c.self.inside.readers.items) in
    let get = read_get c.self.inside.readers.items c.in-Some.i c.index-in-Some.result.now within c.index-in-Some.ensures in
    let name = numbered_at (all_seen c.self.inside.readers.items) c.args.reader c.in-Some.i c.in-Some.ensures.0 ∙ seen_get c.self.inside.readers.items c.in-Some.i c.index-in-Some.result.now get in
    rw (← c.self.view_is) (of_whole (the_view c.self.inside) (λ p. Some c.index-in-Some.result.now.position ≡ position_of (numbered p.readers c.args.reader)) (λ gone long. rw name refl))

pub returns-in-Some-clause-reaches : goal.returns-in-Some-clause-reaches
returns-in-Some-clause-reaches c =
    let below = rw (← c.self.view_is) at c.in-Some.ensures.1 in
    let within : c.in-Some.i < length c.self.inside.readers.items = omega (arith, below, length_seen c.self.inside.readers.items) in
    let get = read_get c.self.inside.readers.items c.in-Some.i c.index-in-Some.result.now within c.index-in-Some.ensures in
    let name = numbered_at (all_seen c.self.inside.readers.items) c.args.reader c.in-Some.i c.in-Some.ensures.0 ∙ seen_get c.self.inside.readers.items c.in-Some.i c.index-in-Some.result.now get in
    rw (← c.self.view_is, name) (reaches_by c.self.inside.segment c.self.inside.limit c.self.inside.written c.self.inside.ahead c.self.inside.segments c.self.inside.readers.items c.self.inside.writer c.self.inside.closed c.in-Some.i c.index-in-Some.result.now c.index-in-Some.result.now.closed c.self.invariant get refl)
