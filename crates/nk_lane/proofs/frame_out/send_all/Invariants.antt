use Rattle.std.proofs.Common.{◌≡◌, ◌+◌, ◌≤◌, ◌++◌, length, map}
use Rattle.nk_lane.specs.Ends.{sent_on, send_capacity, SameSendEnd}
use Rattle.nk_lane.proofs.frame_out.send_all.Given as goal

abbrev pub invariant-loop-ready : goal.invariant-loop-ready
invariant-loop-ready g l = record {
  same : SameSendEnd l.initial.end l.end;
  sent : sent_on l.end ++ map (λ r. r.frame) l.staged.items ≡ sent_on l.initial.end ++ map (λ r. r.frame) l.initial.staged.items;
  fits : length (sent_on l.end) + length l.staged.items ≤ send_capacity l.end;
}

abbrev pub decreases-loop-ready : goal.decreases-loop-ready
decreases-loop-ready g l = length l.staged.items
