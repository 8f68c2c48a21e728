-- Each channel is drained, and so is the world.
use Rattle.std.proofs.Common.{sym, subst, List}
use Rattle.std.specs.List.{All}
use Rattle.nk_world.specs.declared.playing.Playing.{Playing}
use Rattle.nk_world.specs.Parts.{IsSound}
use Rattle.nk_world.proofs.Channels.{whole, sound_each, world_drained, drained_plans}
use Rattle.nk_world.proofs.world.World.drain.Goals as goal

pub invariant_of-self : goal.invariant_of-self
invariant_of-self c =
    λ f. subst (λ (xs : List Playing). All IsSound xs)
    (sym (whole c.deref_mut.result.now c.drain_all.new.channels c.self.inside.channels.items c.self.inside.channels.len c.in-Ok.ensures c.deref_mut.ensures.value c.deref_mut.ensures.len))
    (sound_each c.deref_mut.result.now c.drain_all.new.channels c.in-Ok.ensures)

pub returns-in-Ok-clause-drained : goal.returns-in-Ok-clause-drained
returns-in-Ok-clause-drained c =
    world_drained c.deref_mut.result.now c.drain_all.new.channels c.self.inside.channels.items _ c.self.inside.failed c.args.self.now (c.self.invariant c.if-self.false)
    c.play_law.ensures c.self.view_is c.deref_mut.ensures.value c.in-Ok.ensures
    (whole c.deref_mut.result.now c.drain_all.new.channels c.self.inside.channels.items c.self.inside.channels.len c.in-Ok.ensures c.deref_mut.ensures.value c.deref_mut.ensures.len)

pub returns-in-Ok-clause-plans : goal.returns-in-Ok-clause-plans
returns-in-Ok-clause-plans c =
    drained_plans c.args.self.now.plays _
    (world_drained c.deref_mut.result.now c.drain_all.new.channels c.self.inside.channels.items _ c.self.inside.failed c.args.self.now (c.self.invariant c.if-self.false)
    c.play_law.ensures c.self.view_is c.deref_mut.ensures.value c.in-Ok.ensures
    (whole c.deref_mut.result.now c.drain_all.new.channels c.self.inside.channels.items c.self.inside.channels.len c.in-Ok.ensures c.deref_mut.ensures.value c.deref_mut.ensures.len))
