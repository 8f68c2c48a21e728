-- The steps so far were tried, and it has moved where one of them was enabled.
use Rattle.std.proofs.Common.{◌≡◌, not, take}
use Rattle.nk_base.specs.Status.{moved_if}
use Rattle.nk_world.specs.Play.{tried, are_idle}
use Rattle.nk_world.specs.Parts.{play_of, IsSound}
use Rattle.nk_world.proofs.playing.Playing.try_all.Given as goal

abbrev pub invariant-loop-step : goal.invariant-loop-step
invariant-loop-step l = record {
  sound : IsSound l.self;
  state : play_of l.self ≡ tried (take l.step-index l.steps) (play_of l.fn.self);
  moved : l.moved ≡ moved_if (not (are_idle (take l.step-index l.steps) (play_of l.fn.self)));
}
