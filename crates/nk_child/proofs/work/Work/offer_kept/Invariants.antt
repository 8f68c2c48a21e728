-- The events of the messages that are left are still to be offered, and there is room for them.
use Rattle.std.proofs.Common.{◌≡◌, ◌≤◌, ◌<◌, ◌^◌, length, false}
use Rattle.nk_base.specs.declared.status.Target.{Target}
use Rattle.nk_base.specs.declared.status.Target.TheVariants as target
use Rattle.nk_base.specs.Queue.{is_busy, posted_to}
use Rattle.nk_plan.specs.Child.{offer_all, back_events}
use Rattle.nk_child.proofs.work.Work.offer_kept.Given as goal

abbrev pub invariant-loop-m : goal.invariant-loop-m
invariant-loop-m l = record {
  plan : l.self.plan ≡ l.fn.self.plan;
  state : offer_all l.fn.self.plan target.Back (back_events l.rest) l.self.state ≡ offer_all l.fn.self.plan target.Back (back_events l.fn.kept) l.fn.self.state;
  trace : l.self.state.trace ≡ l.fn.self.state.trace;
  sent : l.self.state.sent ≡ l.fn.self.state.sent;
  room : length l.rest ≤ l.self.rooms.queue;
  posted : is_busy l.self.state.queue ≡ false → (t : Target) → posted_to l.self.state.queue t < 2 ^ 62;
}

abbrev pub decreases-loop-m : goal.decreases-loop-m
decreases-loop-m l = length l.rest
