-- No channel is still going, and the report is printed.
use Rattle.std.proofs.Common.{List}
use Rattle.nk_plan.specs.declared.ends.ChannelEnd.{ChannelEnd}
use Rattle.nk_trace.specs.Report.{text as report_text}
use Rattle.nk_run.proofs.Channels.{none_going, played, printed}
use Rattle.nk_run.proofs.play.report_of.Goals as goal

pub report-requires : goal.report-requires
report-requires c = none_going c.args.script.plans c.in_ok-ends.ends c.in_ok-ends.ensures.promised

pub returns : goal.returns
returns c = λ text is.
    let script = c.args.script in
    let ends = c.in_ok-ends.ends in
    let is_played = played text script ends is c.requires c.in_ok-ends.ensures.ends c.in_ok-ends.ensures.promised in
    printed (λ (es : List ChannelEnd). report_text es c.args.log) text script ends c.report.result is_played c.report.ensures
