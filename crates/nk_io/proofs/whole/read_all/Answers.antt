use Rattle.std.proofs.Common.{ℕ, ◌+◌, take, arith}
use Rattle.std.proofs.lemmas.List.{length-take, length-take-le}
use Rattle.nk_io.proofs.Chains.{GivesCount-next, GivesAtMost-next, Consumes-next}
use Rattle.nk_io.proofs.whole.read_all.Goals as goal

pub returns-then-count-most-clause-given : goal.returns-then-count-most-clause-given
returns-then-count-most-clause-given g c =
    GivesCount-next (g.I.Source.left c.args.input.now) (g.I.Source.left c.turns.input) (g.I.Source.left c.take.new.self)
    c.turns.bytes.items c.take.new.buffer c.in-Took.count (c.args.limit + 1)
    c.turns.invariant.given c.in-Took.ensures.took.2 c.in-Took.ensures.took.1
    (omega (arith, c.in-Took.ensures.took.1, c.take.auto.buffer, c.turns.bytes.ok, length-take {A = ℕ}))

pub turns-preserved : goal.turns-preserved
turns-preserved g c = record {
  within = omega (arith, c.in-Ok.ensures.len, length-take-le c.in-Took.count c.take.new.buffer c.in-Took.ensures.took.1);
  buffer = c.turns.invariant.buffer;
  given = Consumes-next (g.I.Source.left c.args.input.now) (g.I.Source.left c.turns.input) (g.I.Source.left c.take.new.self)
      c.turns.bytes.items (take c.in-Took.count c.take.new.buffer) c.extend_from_slice.new.self.items
      c.turns.invariant.given c.in-Took.ensures.took.2 c.in-Ok.ensures.items;
  counted = omega (arith, c.turns.invariant.counted, c.in-Took.ensures.never_falls);
}

pub returns-in_default-clause-given : goal.returns-in_default-clause-given
returns-in_default-clause-given g c =
    GivesAtMost-next (g.I.Source.left c.args.input.now) (g.I.Source.left c.turns.input) (g.I.Source.left c.take.new.self)
    c.turns.bytes.items c.take.new.buffer c.in-Took.count c.args.limit
    c.turns.invariant.given c.in-Took.ensures.took.2 c.in-Took.ensures.took.1
    (omega (arith, c.in-Took.ensures.took.1, c.take.auto.buffer, c.turns.bytes.ok))
