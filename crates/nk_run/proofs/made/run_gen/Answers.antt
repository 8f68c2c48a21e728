-- The summary is written, or want of memory is told.
use Rattle.std.proofs.Common.{ℕ, List, refl, sym, subst, inr}
use Rattle.nk_run.specs.Making.{IsSummary}
use Rattle.nk_run.proofs.Runs.{gen_written, gen_failed, run_written, run_unread, nothing_taken}
use Rattle.nk_run.proofs.made.run_gen.Goals as goal

pub returns-in-Ok-clause-answer : goal.returns-in-Ok-clause-answer
returns-in-Ok-clause-answer g c = λ left faults.
    let w = c.write_out.ensures in
    gen_written c.args.n _ c.as_slice.result.now (subst (λ (b : List ℕ). IsSummary c.args.n b) (sym c.as_slice.ensures.value) c.in-Ok.ensures) refl w.statuses w.whole w.part w.fault

pub returns-in-Ok-clause-run : goal.returns-in-Ok-clause-run
returns-in-Ok-clause-run g c = λ left faults.
    let w = c.write_out.ensures in
    run_written _ (nothing_taken left) w.statuses w.fault w.told

pub returns-in-Err-clause-answer : goal.returns-in-Err-clause-answer
returns-in-Err-clause-answer g c = λ left faults. gen_failed c.args.n _ refl c.tell.ensures.status

pub returns-in-Err-clause-run : goal.returns-in-Err-clause-run
returns-in-Err-clause-run g c = λ left faults. run_unread _ 5 c.tell.ensures.status (inr refl) (nothing_taken left) c.tell.ensures.told
