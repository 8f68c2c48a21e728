-- The report is written, or it is told why there is none.
use Rattle.std.proofs.Common.{ℕ, List, sym, subst}
use Rattle.nk_run.specs.Ends.{IsReport}
use Rattle.nk_run.specs.Runs.{IsRead, outcome}
use Rattle.nk_run.proofs.Runs.{script_written, script_failed_answer, script_failed_run, run_written, read_most}
use Rattle.nk_run.proofs.play.run_play.Goals as goal

pub returns-in-Ok-clause-answer : goal.returns-in-Ok-clause-answer
returns-in-Ok-clause-answer g c =
    let left = g.I.Source.left in
    let faults = g.I.Source.faults in
    let w = c.write_out.ensures in
    let played = subst (λ (b : List ℕ). IsRead (left c.args.input.now) (left c.play.new.input) (λ all. IsReport c.args.log all b)) (sym c.as_slice.ensures.value) c.in-Ok.ensures.played in
    script_written (IsReport c.args.log) (outcome c.write_out.result (left c.args.input.now) (left c.play.new.input) (faults c.args.input.now) (faults c.play.new.input)
    (g.O.Sink.got c.args.out.now) (g.O.Sink.got c.write_out.new.out) (g.O.Sink.faults c.args.out.now) (g.O.Sink.faults c.write_out.new.out)
    (g.E.Sink.got c.args.err.now) (g.E.Sink.got c.write_out.new.err) (g.E.Sink.faults c.args.err.now) (g.E.Sink.faults c.write_out.new.err)) c.as_slice.result.now (λ all h. (h.0, h.2.read)) played w.statuses w.whole w.part w.fault

pub returns-in-Ok-clause-run : goal.returns-in-Ok-clause-run
returns-in-Ok-clause-run g c =
    let w = c.write_out.ensures in
    run_written _ (read_most _ _ _ c.in-Ok.ensures.played) w.statuses w.fault w.told

pub returns-in-Err-clause-answer : goal.returns-in-Err-clause-answer
returns-in-Err-clause-answer g c = script_failed_answer (IsReport c.args.log) _ c.in-Err.failure c.in-Err.ensures.fails c.tell_any.ensures

pub returns-in-Err-clause-run : goal.returns-in-Err-clause-run
returns-in-Err-clause-run g c = script_failed_run _ c.in-Err.failure c.in-Err.ensures.fails c.tell_any.ensures
