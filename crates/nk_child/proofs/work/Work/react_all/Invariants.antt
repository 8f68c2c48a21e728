-- The reactions that are left are still to be performed, and there is room for them.
use Rattle.std.proofs.Common.{◌≡◌, ◌≤◌, ◌+◌, ◌-◌, length, drop}
use Rattle.nk_plan.specs.Child.{react_all}
use Rattle.nk_child.proofs.work.Work.react_all.Given as goal

abbrev pub invariant-loop-i : goal.invariant-loop-i
invariant-loop-i l = record {
  plan : l.self.plan ≡ l.fn.self.plan;
  state : react_all l.fn.self.plan (drop l.i l.fn.self.plan.reactions) l.self.state ≡ react_all l.fn.self.plan l.fn.self.plan.reactions l.fn.self.state;
  trace : l.self.state.trace ≡ l.fn.self.state.trace;
  running : l.self.state.running ≡ l.fn.self.state.running;
  forced : l.self.state.queue.forced ≡ l.fn.self.state.queue.forced;
  journal : 64 - l.i ≤ l.self.rooms.journal;
  sent : 64 - l.i ≤ l.self.rooms.sent;
  count : l.self.state.queue.count ≤ l.fn.self.state.queue.count + l.i;
  few : length l.fn.self.plan.reactions ≤ 64;
}
