-- Each turn stages what one reaction more sends.
use Rattle.std.proofs.Common.{◌≡◌, ◌∙◌, ◌+◌, subst, drop, slice_get, Some}
use Rattle.nk_child.specs.Views.{WorkView}
use Rattle.nk_child.proofs.Reacting.{drop_at, staged_next}
use Rattle.nk_child.proofs.work.Work.stage_reactions.Goals as goal

pub loop-i-preserved : goal.loop-i-preserved
loop-i-preserved g c =
    let reactions = c.args.self.now.plan.reactions in
    let at : slice_get c.args.self.now.plan.reactions c.loop-i.i ≡ Some c.reaction_of.result =
    subst (λ (v : WorkView). slice_get v.plan.reactions c.loop-i.i ≡ Some c.reaction_of.result) c.self.view_is c.reaction_of.ensures in
    record {
      staged = staged_next (g.U.Out.staged c.loop-i.up) (g.U.Out.staged c.stage.new.up) _ c.loop-i.standing.suspended c.loop-i.standing.failed
          c.stage.new.self.suspended c.stage.new.self.failed c.reaction_of.result (drop (c.loop-i.i + 1) reactions) (drop c.loop-i.i reactions)
          c.in_ok-stage.ensures.staged c.in_ok-stage.ensures.suspended c.in_ok-stage.ensures.failed
          (drop_at reactions c.loop-i.i c.reaction_of.result at) c.loop-i.invariant.staged;
      left = c.in_ok-stage.ensures.left;
      held = c.in_ok-stage.ensures.held ∙ c.loop-i.invariant.held;
      room = c.in_ok-stage.ensures.room ∙ c.loop-i.invariant.room;
    }
