-- A round that has moved leaves fewer; one that has not was the last.
use Rattle.std.proofs.Common.{◌∙◌, ap, not, List}
use Rattle.nk_plan.specs.declared.step.Step.{Step}
use Rattle.nk_base.specs.Status.{moved_if}
use Rattle.nk_world.specs.Play.{Play, tried, are_idle}
use Rattle.nk_world.specs.Parts.{play_of}
use Rattle.nk_world.proofs.Drains.{led_more, less_left, drains}
use Rattle.nk_world.proofs.playing.Playing.drain.Goals as goal

pub loop-smaller : goal.loop-smaller
loop-smaller c =
    let p : Play = play_of c.loop.self in
    less_left p (play_of c.try_all.new.self) c.in_ok-try_all.field-0 c.loop.invariant.sound.reached
    c.play_law.ensures
    (record { channel = c.falls_law.ensures.left; listener = c.reads_law.ensures.lowers })
    (c.in_ok-try_all.ensures.answer ∙ ap (λ (xs : List Step). moved_if (not (are_idle xs p))) c.round_steps.ensures)
    c.in-Did.is
    (c.in_ok-try_all.ensures.state ∙ ap (λ (xs : List Step). tried xs p) c.round_steps.ensures)

pub loop-preserved : goal.loop-preserved
loop-preserved c =
    let p : Play = play_of c.loop.self in
    record {
      sound = c.in_ok-try_all.ensures.sound;
      led =
          led_more (play_of c.args.self.now) p (play_of c.try_all.new.self) c.loop.invariant.led
          (c.in_ok-try_all.ensures.state ∙ ap (λ (xs : List Step). tried xs p) c.round_steps.ensures);
    }

pub returns-in-Idle : goal.returns-in-Idle
returns-in-Idle c =
    let p : Play = play_of c.loop.self in
    drains c.args.self.now c.loop.self c.try_all.new.self c.in_ok-try_all.field-0 c.loop.invariant.sound.reached
    c.play_law.ensures
    c.loop.invariant.led
    (c.in_ok-try_all.ensures.answer ∙ ap (λ (xs : List Step). moved_if (not (are_idle xs p))) c.round_steps.ensures)
    c.in-Idle.is c.in_ok-try_all.ensures.sound
    (c.in_ok-try_all.ensures.state ∙ ap (λ (xs : List Step). tried xs p) c.round_steps.ensures)
