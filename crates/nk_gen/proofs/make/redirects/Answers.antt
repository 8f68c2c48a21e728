use Rattle.std.proofs.Common.{◌++◌, ◌+◌, ◌-◌, codes}
use Rattle.nk_gen.specs.Made.{redirect_lines}
use Rattle.nk_gen.proofs.Lines.{shifted, redirect_left}
use Rattle.nk_gen.proofs.make.redirects.Goals as goal

pub loop-preserved : goal.loop-preserved
loop-preserved c =
    shifted c.loop.printer c.word.new.self (c.args.printer.now ++ redirect_lines c.args.count) (codes "hop redirect 302 allow\n")
    (redirect_lines (c.args.count - (c.loop.counter + 1))) (redirect_lines (c.args.count - c.loop.counter)) c.loop.invariant
    (redirect_left c.args.count c.loop.counter c.loop-test.true) c.in_ok-word.ensures.ok
