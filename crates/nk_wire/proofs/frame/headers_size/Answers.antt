-- Each turn counts the next header field.
use Rattle.std.proofs.Common.{arith}
use Rattle.nk_wire.proofs.Written.{next-good, left-good, next-sized}
use Rattle.nk_wire.proofs.frame.headers_size.Goals as goal

pub header_size-size-requires : goal.header_size-size-requires
header_size-size-requires c = next-good c.args.items.now c.loop-i.i c.get.result.now c.get.ensures c.loop-i.invariant.good

pub loop-i-preserved : goal.loop-i-preserved
loop-i-preserved c =
    let items = c.args.items.now in
    let i = c.loop-i.i in
    let f = c.get.result.now in
    record {
      end = c.loop-i.invariant.end;
      counted = omega (arith, next-sized items i f c.get.ensures);
      bounded = omega arith;
      good = left-good items i f c.get.ensures c.loop-i.invariant.good;
    }
