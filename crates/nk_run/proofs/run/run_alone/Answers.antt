-- Each command's run is its answer, and words of no command that is built are refused.
use Rattle.std.proofs.Common.{rules, Ok, ap, ◌∙◌, refl, inl}
use Rattle.nk_words.specs.declared.command.Command.TheVariants.{Play, Frames, Gen}
use Rattle.nk_run.proofs.Calls.{answered, play_meant, frames_meant, gen_meant, meant, unmeant}
use Rattle.nk_run.proofs.Runs.{run_unread, nothing_taken}
use Rattle.nk_run.proofs.run.run_alone.Goals as goal

pub returns-in-Ok-Play-clause-answer : goal.returns-in-Ok-Play-clause-answer
returns-in-Ok-Play-clause-answer g c =
    answered _ c.read_words.result (Play c.in-Ok-Play.log) _ c.read_words.ensures.each (c.in-Ok-Play.is ∙ ap Ok c.in-Ok-Play.field-0-is) c.run_play.ensures.answer

pub returns-in-Ok-Play-clause-usage : goal.returns-in-Ok-Play-clause-usage
returns-in-Ok-Play-clause-usage g c =
    let call = rw c.in-Ok-Play.field-0-is at c.in-Ok-Play.ensures.command in
    meant _ (Play c.in-Ok-Play.log) _ call (play_meant c.in-Ok-Play.log) c.run_play.ensures.answer

pub returns-in-Ok-Play-clause-run : goal.returns-in-Ok-Play-clause-run
returns-in-Ok-Play-clause-run g c = c.run_play.ensures.run

pub returns-in-Ok-Play-clause-out : goal.returns-in-Ok-Play-clause-out
returns-in-Ok-Play-clause-out g c = c.run_play.ensures.out

pub returns-in-Ok-Play-clause-input : goal.returns-in-Ok-Play-clause-input
returns-in-Ok-Play-clause-input g c = λ two. absurd (c.run_play.ensures.answer.others.1 two)

pub returns-in-Ok-Play-clause-gen_input : goal.returns-in-Ok-Play-clause-gen_input
returns-in-Ok-Play-clause-gen_input g c = λ n call.
    let called = c.read_words.ensures.each (Gen n) call in absurd (cc (called, c.in-Ok-Play.is, c.in-Ok-Play.field-0-is))

pub returns-in-Ok-Frames-clause-answer : goal.returns-in-Ok-Frames-clause-answer
returns-in-Ok-Frames-clause-answer g c =
    answered _ c.read_words.result Frames _ c.read_words.ensures.each (c.in-Ok-Frames.is ∙ ap Ok c.in-Ok-Frames.field-0-is) c.run_frames.ensures.answer

pub returns-in-Ok-Frames-clause-usage : goal.returns-in-Ok-Frames-clause-usage
returns-in-Ok-Frames-clause-usage g c =
    let call = rw c.in-Ok-Frames.field-0-is at c.in-Ok-Frames.ensures.command in
    meant _ Frames _ call frames_meant c.run_frames.ensures.answer

pub returns-in-Ok-Frames-clause-run : goal.returns-in-Ok-Frames-clause-run
returns-in-Ok-Frames-clause-run g c = c.run_frames.ensures.run

pub returns-in-Ok-Frames-clause-out : goal.returns-in-Ok-Frames-clause-out
returns-in-Ok-Frames-clause-out g c = c.run_frames.ensures.out

pub returns-in-Ok-Frames-clause-input : goal.returns-in-Ok-Frames-clause-input
returns-in-Ok-Frames-clause-input g c = λ two. absurd (frames_meant _ c.run_frames.ensures.answer two)

pub returns-in-Ok-Frames-clause-gen_input : goal.returns-in-Ok-Frames-clause-gen_input
returns-in-Ok-Frames-clause-gen_input g c = λ n call.
    let called = c.read_words.ensures.each (Gen n) call in absurd (cc (called, c.in-Ok-Frames.is, c.in-Ok-Frames.field-0-is))

pub returns-in-Ok-Gen-clause-answer : goal.returns-in-Ok-Gen-clause-answer
returns-in-Ok-Gen-clause-answer g c =
    let run = c.run_gen.ensures.answer (g.I.Source.left c.args.input.now) (g.I.Source.faults c.args.input.now) in
    answered _ c.read_words.result (Gen c.in-Ok-Gen.n) _ c.read_words.ensures.each (c.in-Ok-Gen.is ∙ ap Ok c.in-Ok-Gen.field-0-is) run

pub returns-in-Ok-Gen-clause-run : goal.returns-in-Ok-Gen-clause-run
returns-in-Ok-Gen-clause-run g c = c.run_gen.ensures.run (g.I.Source.left c.args.input.now) (g.I.Source.faults c.args.input.now)

pub returns-in-Ok-Gen-clause-usage : goal.returns-in-Ok-Gen-clause-usage
returns-in-Ok-Gen-clause-usage g c =
    let run = c.run_gen.ensures.answer (g.I.Source.left c.args.input.now) (g.I.Source.faults c.args.input.now) in
    let call = rw c.in-Ok-Gen.field-0-is at c.in-Ok-Gen.ensures.command in
    meant _ (Gen c.in-Ok-Gen.n) _ call (gen_meant c.in-Ok-Gen.n) run

pub returns-in-Ok-Divert-clause-answer : goal.returns-in-Ok-Divert-clause-answer
returns-in-Ok-Divert-clause-answer g c = search rules

pub returns-in-Ok-Divert-clause-usage : goal.returns-in-Ok-Divert-clause-usage
returns-in-Ok-Divert-clause-usage g c = unmeant _ _ c.refuse_words.ensures.status (returns-in-Ok-Divert-clause-answer g c)

pub returns-in-Ok-Divert-clause-run : goal.returns-in-Ok-Divert-clause-run
returns-in-Ok-Divert-clause-run g c = run_unread _ 2 c.refuse_words.ensures.status (inl refl) (nothing_taken (g.I.Source.left c.args.input.now)) c.refuse_words.ensures.told
