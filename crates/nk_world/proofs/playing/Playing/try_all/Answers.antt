-- One step more was tried.
use Rattle.std.proofs.Common.{◌≡◌, ◌+◌, ◌++◌, ◌∷◌, [], ◌∙◌, sym, ap, take, get_or, not, List}
use Rattle.std.proofs.lemmas.List.{take_more}
use Rattle.nk_plan.specs.declared.step.Step.{Step}
use Rattle.nk_plan.specs.declared.step.Step.TheVariants.{Act}
use Rattle.nk_base.specs.Status.{moved_if}
use Rattle.nk_world.specs.Play.{Play, play_step, tried, are_idle}
use Rattle.nk_world.specs.Parts.{play_of}
use Rattle.nk_world.proofs.Drains.{tried_more, moved_more}
use Rattle.nk_world.proofs.playing.Playing.try_all.Goals as goal

pub loop-step-preserved : goal.loop-step-preserved
loop-step-preserved c =
    let i = c.loop-step.step-index in
    let xs : List Step = take i c.args.steps.now in
    let x : Step = get_or c.args.steps.now i Act in
    let p : Play = play_of c.args.self.now in
    let more : take (i + 1) c.args.steps.now ≡ xs ++ x ∷ [] = take_more c.args.steps.now i Act c.loop-step-test.true in
    record {
      sound = c.in_ok-step.ensures.sound;
      state =
          c.in_ok-step.ensures.state
          ∙ (ap (λ (q : Play). play_step x q) c.loop-step.invariant.state
          ∙ (sym (tried_more xs x p) ∙ ap (λ (ys : List Step). tried ys p) (sym more)));
      moved =
          c.either-moved.ensures
          ∙ (moved_more xs x p (play_of c.loop-step.self) c.loop-step.moved c.in_ok-step.field-0 c.requires.reached
          c.play_law.ensures
          c.loop-step.invariant.state c.loop-step.invariant.moved c.in_ok-step.ensures.answer
          ∙ ap (λ (ys : List Step). moved_if (not (are_idle ys p))) (sym more));
    }
