-- One channel has made its step, and the others are as they were.
use Rattle.std.proofs.Common.{◌-◌, ◌∙◌, ap}
use Rattle.std.proofs.lemmas.List.Elements.{All-set}
use Rattle.nk_world.specs.Parts.{IsSound}
use Rattle.nk_world.specs.World.{WorldView, plans_of}
use Rattle.nk_world.proofs.Channels.{at_place, world_stepped, world_answered, world_idle, stepped_plans}
use Rattle.nk_world.proofs.world.World.step.Goals as goal

pub invariant_of-self : goal.invariant_of-self
invariant_of-self c =
    λ f. All-set IsSound c.self.inside.channels.items (c.args.channel - 1) c.step.new.self c.in-Ok.ensures.sound (c.self.invariant c.if-self.false)

pub returns-in-Ok-clause-state : goal.returns-in-Ok-clause-state
returns-in-Ok-clause-state c =
    world_stepped c.self.inside.channels.items c.self.inside.failed c.args.self.now c.args.channel c.index_mut.result.now c.step.new.self c.args.step c.self.view_is c.if-self.false
    (at_place c.self.inside.channels.items c.self.inside.failed c.args.self.now c.args.channel c.index_mut.result.now c.self.view_is c.requires.first c.requires.last c.index_mut.ensures.value)
    c.in-Ok.ensures.state

pub returns-in-Ok-clause-answer : goal.returns-in-Ok-clause-answer
returns-in-Ok-clause-answer c =
    world_answered c.self.inside.channels.items c.self.inside.failed c.args.self.now c.args.channel c.index_mut.result.now c.args.step c.in-Ok.moved c.self.view_is
    (at_place c.self.inside.channels.items c.self.inside.failed c.args.self.now c.args.channel c.index_mut.result.now c.self.view_is c.requires.first c.requires.last c.index_mut.ensures.value)
    c.in-Ok.ensures.answer

pub returns-in-Ok-clause-idle : goal.returns-in-Ok-clause-idle
returns-in-Ok-clause-idle c = λ idle.
    let there =
    at_place c.self.inside.channels.items c.self.inside.failed c.args.self.now c.args.channel c.index_mut.result.now c.self.view_is c.requires.first c.requires.last c.index_mut.ensures.value in
    world_idle c.self.inside.channels.items c.self.inside.failed c.args.self.now _ c.args.channel c.args.step c.in-Ok.moved (c.self.invariant c.if-self.false) c.play_law.ensures
    c.self.view_is c.if-self.false
    (world_stepped c.self.inside.channels.items c.self.inside.failed c.args.self.now c.args.channel c.index_mut.result.now c.step.new.self c.args.step c.self.view_is c.if-self.false there
    c.in-Ok.ensures.state)
    (world_answered c.self.inside.channels.items c.self.inside.failed c.args.self.now c.args.channel c.index_mut.result.now c.args.step c.in-Ok.moved c.self.view_is there c.in-Ok.ensures.answer)
    idle

pub returns-in-Ok-clause-plans : goal.returns-in-Ok-clause-plans
returns-in-Ok-clause-plans c =
    ap (λ (w : WorldView). plans_of w)
    (world_stepped c.self.inside.channels.items c.self.inside.failed c.args.self.now c.args.channel c.index_mut.result.now c.step.new.self c.args.step c.self.view_is c.if-self.false
    (at_place c.self.inside.channels.items c.self.inside.failed c.args.self.now c.args.channel c.index_mut.result.now c.self.view_is c.requires.first c.requires.last c.index_mut.ensures.value)
    c.in-Ok.ensures.state)
    ∙ stepped_plans c.args.channel c.args.step c.args.self.now.plays
