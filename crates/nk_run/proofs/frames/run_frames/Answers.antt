-- The lines are written, or it is told why there are none.
use Rattle.std.proofs.Common.{ℕ, List, sym, subst}
use Rattle.nk_run.specs.Frames.{AreLines}
use Rattle.nk_run.specs.Runs.{IsRead}
use Rattle.nk_run.proofs.Runs.{frames_written, frames_failed_answer, frames_failed_run, run_written, read_most}
use Rattle.nk_run.proofs.frames.run_frames.Goals as goal

pub returns-in-Ok-clause-answer : goal.returns-in-Ok-clause-answer
returns-in-Ok-clause-answer g c =
    let left = g.I.Source.left in
    let w = c.write_out.ensures in
    let listed = subst (λ (b : List ℕ). IsRead (left c.args.input.now) (left c.frames.new.input) (λ all. AreLines all b)) (sym c.as_slice.ensures.value) c.in-Ok.ensures.lines in
    frames_written _ c.as_slice.result.now listed w.statuses w.whole w.part w.fault

pub returns-in-Ok-clause-run : goal.returns-in-Ok-clause-run
returns-in-Ok-clause-run g c =
    let w = c.write_out.ensures in
    run_written _ (read_most _ _ _ c.in-Ok.ensures.lines) w.statuses w.fault w.told

pub returns-in-Err-clause-answer : goal.returns-in-Err-clause-answer
returns-in-Err-clause-answer g c = frames_failed_answer _ c.in-Err.failure c.in-Err.ensures.fails c.tell_any.ensures

pub returns-in-Err-clause-run : goal.returns-in-Err-clause-run
returns-in-Err-clause-run g c = frames_failed_run _ c.in-Err.failure c.in-Err.ensures.fails c.tell_any.ensures
