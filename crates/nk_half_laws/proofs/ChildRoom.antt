-- The laws: a new child has nothing but its plan, and each step keeps to it.
use Rattle.std.proofs.Common.{ap, ℕ, ◌≡◌, ◌+◌, ◌*◌, ◌≤◌, List, [], ◌∷◌, length, arith}
use Rattle.nk_plan.specs.declared.plan.ChannelPlan.{ChannelPlan}
use Rattle.nk_plan.specs.declared.step.ChildStep.{ChildStep}
use Rattle.nk_plan.specs.Accepted.{body_of}
use Rattle.nk_plan.specs.Journal.{mains_taken, backs_taken}
use Rattle.nk_plan.specs.Child.{ChildState, new_hold, new_child, child_after}
use Rattle.nk_half_laws.specs.Capacity.{ChildLeftLaw, ChildRoomLaw, ChildShowsLaw, ChildSendsLaw, ups_left, shown_left}
use Rattle.nk_half_laws.proofs.RoomKept.{Holds}
use Rattle.nk_half_laws.proofs.Plans.{GoodPlan, good_plan}
use Rattle.nk_half_laws.proofs.RoomRows.{Kept, step_kept}
use Rattle.nk_half_laws.proofs.Sums.{empty_hold}

first_kept : (c : ChannelPlan) → Kept c (new_child c)
first_kept c =
    let e : length (new_hold c.start).kept ≡ 0 = ap length (empty_hold c.start) in
    (0, 0, record { ups = omega arith; shown = omega arith; mains = omega arith; backs = omega arith; good = tt })

all_kept : (c : ChannelPlan) (steps : List ChildStep) → GoodPlan c → Kept c (child_after c steps)
all_kept c [] f = first_kept c
all_kept c (x ∷ xs) f = step_kept c x (child_after c xs) f (all_kept c xs f)

-- what was sent and shown, with what is left

ups_within : (left sent m n k l g : ℕ) → 0 + (left + sent) ≤ m + n + 2 * g + 4 → m ≤ k → n ≤ l → sent + left ≤ k + l + 2 * g + 4
ups_within left sent m n k l g a b d = omega arith

shown_within : (left shown m n k l : ℕ) → 0 + (left + shown) ≤ 2 * m + n + 2 → m ≤ k → n ≤ l → shown + left ≤ 2 * k + l + 2
shown_within left shown m n k l a b d = omega arith

ups_kept : (c : ChannelPlan) (s : ChildState) → Kept c s
    → length s.sent + ups_left c s ≤ length (mains_taken s.journal) + length (backs_taken s.journal) + 2 * length c.controls + 4
ups_kept c s k =
    let h : Holds c 0 0 k.0 k.1 s = k.2 in
    ups_within (ups_left c s) (length s.sent) k.0 k.1 (length (mains_taken s.journal)) (length (backs_taken s.journal))
    (length c.controls) h.ups h.mains h.backs

shown_kept : (c : ChannelPlan) (s : ChildState) → Kept c s
    → length s.trace + shown_left s ≤ 2 * length (mains_taken s.journal) + length (backs_taken s.journal) + 2
shown_kept c s k =
    let h : Holds c 0 0 k.0 k.1 s = k.2 in
    shown_within (shown_left s) (length s.trace) k.0 k.1 (length (mains_taken s.journal))
    (length (backs_taken s.journal)) h.shown h.mains h.backs

-- The laws

alone : (x left most : ℕ) → x + left ≤ most → x ≤ most
alone x left most l = omega arith

pub with_left : ChildLeftLaw
with_left c steps a =
    let k : Kept c (child_after c steps) = all_kept c steps (good_plan c a) in
    (ups_kept c (child_after c steps) k, shown_kept c (child_after c steps) k)

pub ups : ChildSendsLaw
ups c steps a =
    let s : ChildState = child_after c steps in
    alone (length s.sent) (ups_left c s) (length (mains_taken s.journal) + length (backs_taken s.journal) + 2 * length c.controls + 4)
    (with_left c steps a).0

pub shown : ChildShowsLaw
shown c steps a =
    let s : ChildState = child_after c steps in
    alone (length s.trace) (shown_left s) (2 * length (mains_taken s.journal) + length (backs_taken s.journal) + 2) (with_left c steps a).1

-- with m and n messages taken of the two down lanes, in a plan of h hops, p pieces and g calls
up_room : (sent m n h p g : ℕ) → sent ≤ m + n + 2 * g + 4 → m ≤ 2 * h + 2 → n ≤ p + 5 → sent + 4 ≤ 4 * h + p + 2 * g + 24
up_room sent m n h p g l a b = omega arith

shown_room : (shown m n h p : ℕ) → shown ≤ 2 * m + n + 2 → m ≤ 2 * h + 2 → n ≤ p + 5 → shown + 1 ≤ 4 * h + p + 16
shown_room shown m n h p l a b = omega arith

pub room : ChildRoomLaw
room c steps a m n =
    let s : ChildState = child_after c steps in
    let ms : ℕ = length (mains_taken s.journal) in
    let bs : ℕ = length (backs_taken s.journal) in (
      up_room (length s.sent) ms bs (length c.hops) (length (body_of c)) (length c.controls) (ups c steps a) m n,
      shown_room (length s.trace) ms bs (length c.hops) (length (body_of c)) (shown c steps a) m n,
    )
