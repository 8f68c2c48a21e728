-- One channel more has left its end.
use Rattle.std.proofs.Common.{◌++◌, ◌∷◌, [], ◌∙◌, sym, ap, List, append_assoc}
use Rattle.nk_world.specs.declared.playing.Playing.{Playing}
use Rattle.nk_world.proofs.Channels.{ends_more}
use Rattle.nk_world.proofs.world.take_ends.Goals as goal

pub loop-channel-preserved : goal.loop-channel-preserved
loop-channel-preserved c = record {
  all =
      append_assoc c.loop-channel.yielded (c.in-Some.channel ∷ []) c.next.new.self.rest.items
      ∙ (ap (λ (xs : List Playing). c.loop-channel.yielded ++ xs) (sym c.in-Some.ensures.steps.0) ∙ c.loop-channel.invariant.all);
  ends = c.in_ok-push.ensures.ok ∙ ends_more c.loop-channel.yielded c.in-Some.channel c.loop-channel.ends c.in_ok-into_end.field-0 c.loop-channel.invariant.ends c.in_ok-into_end.ensures;
}
