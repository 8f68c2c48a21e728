-- What the reactions that are left send is still to be staged, and there is room for it.
use Rattle.std.proofs.Common.{◌≡◌, ◌++◌, ◌≤◌, ◌+◌, length, drop, nat_lt, is_some}
use Rattle.nk_child.specs.Reactions.{reactions_send, sends_left}
use Rattle.nk_child.proofs.work.Work.stage_reactions.Given as goal

abbrev pub invariant-loop-i : goal.invariant-loop-i
invariant-loop-i g l = record {
  staged : g.U.Out.staged l.up ++ reactions_send l.standing.suspended l.standing.failed (drop l.i l.fn.self.plan.reactions)
      ≡ g.U.Out.staged l.fn.up ++ reactions_send (nat_lt 0 l.fn.self.state.queue.count) (is_some l.fn.self.state.kept) l.fn.self.plan.reactions;
  left : sends_left l.standing.suspended l.standing.failed ≤ g.U.Out.room l.up;
  held : g.U.Out.held l.up ≡ g.U.Out.held l.fn.up;
  room : g.U.Out.room l.up + length (g.U.Out.staged l.up) ≡ g.U.Out.room l.fn.up + length (g.U.Out.staged l.fn.up);
}
