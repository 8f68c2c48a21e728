-- The lines that need memory.
use Rattle.std.proofs.Common.{sym, subst}
use Rattle.nk_run.specs.declared.failure.Failure.{Failure}
use Rattle.nk_run.specs.Runs.{Told}
use Rattle.nk_run.specs.Failures.{TellsAny}
use Rattle.nk_run.proofs.Tells.{told_text}
use Rattle.nk_run.proofs.failure.Failure.tell_any.Goals as goal

pub returns-in-Line : goal.returns-in-Line
returns-in-Line g c =
    let tells = Told (g.E.Sink.got c.args.err.now) (g.E.Sink.got c.tell_line.new.err) (g.E.Sink.faults c.args.err.now) (g.E.Sink.faults c.tell_line.new.err) in
    subst (λ (f : Failure). TellsAny f c.tell_line.result tells) (sym c.in-Line.is)
    (told_text c.bad_line.result 1 c.tell_line.result _ tells c.bad_line.ensures c.tell_line.ensures.line c.tell_line.ensures.memory)

pub returns-in-Frame : goal.returns-in-Frame
returns-in-Frame g c =
    let tells = Told (g.E.Sink.got c.args.err.now) (g.E.Sink.got c.tell_line-in-Frame.new.err) (g.E.Sink.faults c.args.err.now) (g.E.Sink.faults c.tell_line-in-Frame.new.err) in
    subst (λ (f : Failure). TellsAny f c.tell_line-in-Frame.result tells) (sym c.in-Frame.is)
    (told_text c.bad_frame.result 7 c.tell_line-in-Frame.result _ tells c.bad_frame.ensures c.tell_line-in-Frame.ensures.line c.tell_line-in-Frame.ensures.memory)

pub returns-in-Log : goal.returns-in-Log
returns-in-Log g c =
    let tells = Told (g.E.Sink.got c.args.err.now) (g.E.Sink.got c.tell_line-in-Log.new.err) (g.E.Sink.faults c.args.err.now) (g.E.Sink.faults c.tell_line-in-Log.new.err) in
    subst (λ (f : Failure). TellsAny f c.tell_line-in-Log.result tells) (sym c.in-Log.is)
    (told_text c.bad_log.result 6 c.tell_line-in-Log.result _ tells c.bad_log.ensures c.tell_line-in-Log.ensures.line c.tell_line-in-Log.ensures.memory)
