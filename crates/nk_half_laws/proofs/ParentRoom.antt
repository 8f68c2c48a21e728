-- The laws on what a parent sends, from its invariant.
use Rattle.std.proofs.Common.{ℕ, ◌+◌, ◌*◌, ◌<◌, ◌≤◌, List, length, take, arith}
use Rattle.nk_base.specs.declared.message.BackMsg.{BackMsg}
use Rattle.nk_plan.specs.Accepted.{body_of}
use Rattle.nk_plan.specs.Journal.{backs_sent}
use Rattle.nk_plan.specs.Parent.{parent_after}
use Rattle.nk_half_laws.specs.Capacity.{HalfRoomLaw, ParentRoomLaw, ParentSendsLaw}
use Rattle.nk_half_laws.specs.Ranges.{ParentRangeLaw}
use Rattle.nk_half_laws.proofs.ParentSends.{all_kept, all_ended, all_ranged}
use Rattle.nk_half_laws.proofs.Tools.{take_most}

pub sends : ParentSendsLaw
sends c steps a = all_ended c a (parent_after c steps) (all_kept c a steps)

room_of : (m b h n : ℕ) → (m < 2 * h) × (b ≤ n + 2) → (m + 2 ≤ 2 * h + 2) × (b + 2 ≤ n + 4)
room_of m b h n p = (omega (arith, p.0), omega (arith, p.1))

pub room : ParentRoomLaw
room c steps a = room_of _ _ _ _ (sends c steps a)

half_of : (k b n : ℕ) → k ≤ b → b ≤ n + 2 → (k ≤ n + 2) × (k + 3 ≤ n + 5)
half_of k b n l m = (omega arith, omega arith)

pub half_room : HalfRoomLaw
half_room c steps n a =
    let bs : List BackMsg = backs_sent (parent_after c steps).journal in
    half_of (length (take n bs)) (length bs) (length (body_of c)) (take_most n bs) (sends c steps a).1

pub ranged : ParentRangeLaw
ranged c steps a g = all_ranged c g (parent_after c steps) (all_kept c a steps)
