use Rattle.std.proofs.Common.{◌≡◌, ◌+◌, ◌≤◌, ◌++◌, length}
use Rattle.nk_lane.specs.Ends.{sent_on, send_capacity, SameSendEnd}
use Rattle.nk_lane.proofs.entry_out.send_all.Given as goal

abbrev pub invariant-loop-entry : goal.invariant-loop-entry
invariant-loop-entry l = record {
  same : SameSendEnd l.initial.end l.end;
  sent : sent_on l.end ++ l.staged.items ≡ sent_on l.initial.end ++ l.initial.staged.items;
  fits : length (sent_on l.end) + length l.staged.items ≤ send_capacity l.end;
}

abbrev pub decreases-loop-entry : goal.decreases-loop-entry
decreases-loop-entry l = length l.staged.items
