use Rattle.std.proofs.Common.{◌++◌, ◌+◌, ◌-◌, ◌∙◌, ap}
use Rattle.nk_gen.specs.Draws.{next, first_draw}
use Rattle.nk_gen.specs.Made.{fill_line, fill_lines}
use Rattle.nk_gen.proofs.Lines.{shifted, fill_left, behind_left}
use Rattle.nk_gen.proofs.make.fills.Goals as goal

pub loop-preserved : goal.loop-preserved
loop-preserved c =
    let y = c.draw-size.ensures.next ∙ ap next c.draw-byte.ensures.next in
    let size = c.draw-size.ensures.draw ∙ ap (first_draw 8192) c.draw-byte.ensures.next in (
      shifted c.loop.printer c.fill.new.printer (c.args.printer.now ++ fill_lines c.args.count c.args.draws.now.0) (fill_line c.draw-byte.result (1 + c.draw-size.result))
          (fill_lines (c.args.count - (c.loop.counter + 1)) c.draw-size.new.self.0) (fill_lines (c.args.count - c.loop.counter) c.loop.draws.0) c.loop.invariant.0
          (fill_left c.args.count c.loop.counter c.loop.draws.0 c.draw-byte.result c.draw-size.result c.draw-size.new.self.0 c.loop-test.true c.draw-byte.ensures.draw size y) c.in_ok-fill.ensures,
      behind_left c.args.count c.loop.counter c.loop.draws.0 c.draw-size.new.self.0 c.loop-test.true y ∙ c.loop.invariant.1,
    )
