-- The sums over the ends of a made script can be counted, and are printed.
use Rattle.nk_gen.specs.Made.{made_script}
use Rattle.nk_gen.specs.Summing.{summary_text}
use Rattle.nk_run.proofs.Channels.{played, printed, sums_small}
use Rattle.nk_run.proofs.made.summed.Goals as goal

pub summary-requires : goal.summary-requires
summary-requires c =
    let playable = c.in_ok-script.ensures.playable in
    sums_small c.sums_law.ensures c.in_ok-script.script.plans c.in_ok-ends.ends playable.few playable.plans c.in_ok-ends.ensures.promised

pub returns : goal.returns
returns c =
    let script = c.in_ok-script.script in
    let ends = c.in_ok-ends.ends in
    let is = played (made_script c.args.n) script ends c.in_ok-script.ensures.script c.in_ok-script.ensures.playable c.in_ok-ends.ensures.ends c.in_ok-ends.ensures.promised in
    printed summary_text (made_script c.args.n) script ends c.summary.result is c.summary.ensures
