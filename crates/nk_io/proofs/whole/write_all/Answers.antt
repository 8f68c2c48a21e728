use Rattle.std.proofs.Common.{◌++◌, length, take, arith}
use Rattle.nk_io.proofs.Chains.{Gains-append, GainsPart-done, Gains-stay, split-next, not-empty, some-left}
use Rattle.nk_io.proofs.whole.write_all.Goals as goal

pub loop-rest-preserved : goal.loop-rest-preserved
loop-rest-preserved g c = record {
  split = (
    c.loop-rest.invariant.split.0 ++ take c.in-Put.count c.loop-rest.rest.now,
    split-next c.args.bytes.now c.loop-rest.invariant.split.0 c.loop-rest.rest.now c.in-Put.count c.loop-rest.invariant.split.1,
    Gains-append (g.O.Sink.got c.args.out.now) (g.O.Sink.got c.loop-rest.out) (g.O.Sink.got c.put.new.self)
        c.loop-rest.invariant.split.0 (take c.in-Put.count c.loop-rest.rest.now)
        c.loop-rest.invariant.split.2 c.in-Put.ensures.put.2,
  );
  counted = omega (arith, c.loop-rest.invariant.counted, c.in-Put.ensures.never_falls);
  nothing = λ none. absurd (not-empty c.args.bytes.now c.loop-rest.invariant.split.0 c.loop-rest.rest.now c.loop-rest.invariant.split.1 none (omega (arith, c.in-Put.ensures.put.0, c.in-Put.ensures.put.1)));
}

pub returns-in-Failed-clause-part : goal.returns-in-Failed-clause-part
returns-in-Failed-clause-part g c =
    GainsPart-done (g.O.Sink.got c.args.out.now) (g.O.Sink.got c.put.new.self) c.args.bytes.now
    c.loop-rest.invariant.split.0 c.loop-rest.rest.now c.loop-rest.invariant.split.1
    (some-left (length c.loop-rest.rest.now) c.loop-rest-test.ensures)
    (Gains-stay (g.O.Sink.got c.args.out.now) (g.O.Sink.got c.loop-rest.out) (g.O.Sink.got c.put.new.self)
    c.loop-rest.invariant.split.0 c.loop-rest.invariant.split.2 c.in-Failed.ensures.failed.1)
