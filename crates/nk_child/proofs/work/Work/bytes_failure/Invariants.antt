-- No reaction so far names the callback.
use Rattle.std.proofs.Common.{◌≡◌, drop}
use Rattle.nk_plan.specs.Child.{bytes_failure}
use Rattle.nk_child.proofs.work.Work.bytes_failure.Given as goal

abbrev pub invariant-loop-i : goal.invariant-loop-i
invariant-loop-i l =
    bytes_failure (drop l.i l.fn.self.plan.reactions) l.fn.self.state.data_begun
    ≡ bytes_failure l.fn.self.plan.reactions l.fn.self.state.data_begun
