-- Each turn writes the next header field.
use Rattle.std.proofs.Common.{◌∙◌}
use Rattle.nk_wire.proofs.Written.{next-good, left-good, with_next}
use Rattle.nk_wire.proofs.frame.Frame.headers.Goals as goal

pub header-requires : goal.header-requires
header-requires c = next-good c.args.items.now c.loop-i.i c.get.result.now c.get.ensures c.loop-i.invariant.good

pub loop-i-preserved : goal.loop-i-preserved
loop-i-preserved c =
    let items = c.args.items.now in
    let i = c.loop-i.i in
    let f = c.get.result.now in
    record {
      end = c.loop-i.invariant.end;
      written = rw c.in_ok-header.ensures (with_next c.loop-i.self items i f c.get.ensures ∙ c.loop-i.invariant.written);
      good = left-good items i f c.get.ensures c.loop-i.invariant.good;
    }
