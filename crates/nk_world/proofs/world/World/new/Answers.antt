-- Each channel is one of the plans before its first step.
use Rattle.std.proofs.Common.{◌∙◌, ap, false, List}
use Rattle.nk_world.specs.Play.{Play}
use Rattle.nk_world.specs.World.{WorldView, plans_of}
use Rattle.nk_world.proofs.Channels.{new_sound, new_plays, plans_new}
use Rattle.nk_world.proofs.world.World.new.Goals as goal

pub invariant_of-result : goal.invariant_of-result
invariant_of-result c = λ f. new_sound c.args.plans c.in_ok-channels.channels.items c.accepted_law.ensures c.in_ok-channels.ensures

pub returns-clause-world : goal.returns-clause-world
returns-clause-world c =
    ap (λ (ps : List Play). let w : WorldView = record { plays = ps; failed = false } in w)
    (new_plays c.args.plans c.in_ok-channels.channels.items c.in_ok-channels.ensures)

pub returns-clause-plans : goal.returns-clause-plans
returns-clause-plans c =
    ap (λ (w : WorldView). plans_of w)
    (ap (λ (ps : List Play). let w : WorldView = record { plays = ps; failed = false } in w)
    (new_plays c.args.plans c.in_ok-channels.channels.items c.in_ok-channels.ensures))
    ∙ plans_new c.args.plans
