-- A call of the page takes what is spare for it: two messages for a resume, and nothing for any other.
use Rattle.std.proofs.Common.{ℕ, zero, suc, ◌≡◌, ◌+◌, ◌-◌, ◌≤◌, refl, subst, sym, ap, List, [], ◌∷◌, ◌++◌, length, length-append, Bool, true, false, ◌||◌, Option, Some, None, is_some, if◌then◌else◌, ◌==◌, arith}
use Rattle.std.proofs.Math.Dec.{eqb-suc-zero}
use Rattle.std.proofs.Math.Numerals.{add-one}
use Rattle.nk_base.specs.declared.status.Status.{Status}
use Rattle.nk_base.specs.declared.status.Target.TheVariants as target
use Rattle.nk_base.specs.declared.status.RetargetError.{RetargetError}
use Rattle.nk_base.specs.declared.message.UpMsg.{UpMsg}
use Rattle.nk_base.specs.declared.message.UpMsg.TheVariants as up
use Rattle.nk_base.specs.Queue.{cleared}
use Rattle.nk_base.specs.Status.{is_failure, merged}
use Rattle.nk_plan.specs.declared.plan.ChannelPlan.{ChannelPlan}
use Rattle.nk_plan.specs.declared.plan.Act.{Act}
use Rattle.nk_plan.specs.declared.plan.Act.TheVariants as act
use Rattle.nk_plan.specs.declared.event.ChildEvent.{ChildEvent}
use Rattle.nk_plan.specs.declared.event.ChildEvent.TheVariants.{Start, Stop}
use Rattle.nk_plan.specs.declared.journal.ChildEntry.TheVariants as child
use Rattle.nk_plan.specs.Accepted.{IsGoodAct}
use Rattle.nk_plan.specs.Child.{ChildState, with_entry, offer_all, call_suspend, call_resume, call_cancel, refusal, call_retarget, is_empty, call_break, perform_call}
use Rattle.nk_half_laws.specs.Capacity.{until, cancels_left, suspends_left}
use Rattle.nk_half_laws.proofs.Tools.{keeps_if, second_false, none_of, one_or_none, one_more}
use Rattle.nk_half_laws.proofs.RoomKept.{Holds, less, moved, noted}
use Rattle.nk_half_laws.proofs.RoomEvents.{fewer_cancels, kept_failure, events_offered}

-- a suspend is sent only where none is in force
suspend_paid : (n : ℕ) → suspends_left (n + 1) + length (if n == 0 then up.Suspend ∷ [] else []) ≤ suspends_left n
suspend_paid zero = omega arith
suspend_paid (suc n) =
    let x : suspends_left (suc n + 1) ≡ 0 = ap suspends_left (add-one (suc n)) in
    let y : length (if suc n == 0 then up.Suspend ∷ [] else []) ≡ 0 =
    ap (λ (b : Bool). length (if b then up.Suspend ∷ [] else [])) (eqb-suc-zero n) in
    omega arith

suspend_most : (n : ℕ) → suspends_left n ≤ 1
suspend_most zero = omega arith
suspend_most (suc n) = omega arith

suspended : (c : ChannelPlan) (u v m n : ℕ) (s : ChildState) → Holds c u v m n s → Holds c u v m n (call_suspend s)
suspended c u v m n s h =
    let more : List UpMsg = if s.suspends == 0 then up.Suspend ∷ [] else [] in
    let x : length (s.sent ++ more) ≡ length s.sent + length more = length-append s.sent more in
    let y : suspends_left (s.suspends + 1) + length more ≤ suspends_left s.suspends = suspend_paid s.suspends in
    moved c u v u v m n s (call_suspend s) child.Suspend refl (omega arith) (omega arith) h.good h

resumed : (c : ChannelPlan) (u v m n : ℕ) (s : ChildState) → Holds c (2 + u) v m n s → Holds c u v m n (call_resume s)
resumed c u v m n s h =
    let more : List UpMsg = if s.suspends == 1 then up.Resume ∷ [] else [] in
    let x : length (s.sent ++ more) ≡ length s.sent + length more = length-append s.sent more in
    let y : length more ≤ 1 = one_or_none (s.suspends == 1) up.Resume in
    let z : suspends_left (s.suspends - 1) ≤ 1 = suspend_most (s.suspends - 1) in
    moved c (2 + u) v u v m n s (call_resume s) child.Resume refl (omega arith) (omega arith) h.good h

cancelled : (c : ChannelPlan) (u v m n : ℕ) (s : ChildState) (st : Status) → s.kept ≡ None → is_failure st ≡ true → Holds c u v m n s
    → Holds c u v m n (call_cancel st s)
cancelled c u v m n s st k f h =
    let x : length (s.sent ++ up.Cancel st ∷ []) ≡ length s.sent + 1 = one_more s.sent (up.Cancel st) in
    let y : cancels_left s.kept ≡ 1 = ap cancels_left k in
    let w : cancels_left (merged None st) ≡ 0 = ap cancels_left (kept_failure st f) in
    let z : cancels_left (merged s.kept st) ≡ 0 = subst (λ (o : Option Status). cancels_left (merged o st) ≡ 0) (sym k) w in
    moved c u v u v m n s (call_cancel st s) (child.Cancel st) refl (omega arith) (omega arith) h.good h

retargeted : (c : ChannelPlan) (u v m n : ℕ) (s : ChildState) (o : Option RetargetError) (w : ℕ) → Holds c u v m n s
    → Holds c u v m n (call_retarget o w s)
retargeted c u v m n s (Some e) w h = noted c u v m n s (child.NoRetarget e) h
retargeted c u v m n s None w h =
    moved c u v u v m n s (call_retarget None w s) (child.Retarget w) refl (omega arith) (omega arith) h.good h

-- a break gives up what waits, and offers a start and a stop at most
broke : (c : ChannelPlan) (u v m n : ℕ) (s : ChildState) (st : Status) → s.broken ≡ false → Holds c u v m n s
    → Holds c u v m n (call_break c st s)
broke c u v m n s st b h =
    let s1 : ChildState =
    record s { broken = true; kept = merged s.kept st; queue = cleared s.queue; journal = s.journal ++ child.Break st ∷ [] } in
    let x : until s.broken ≡ 1 = ap until b in
    let l : cancels_left (merged s.kept st) ≤ cancels_left s.kept = fewer_cancels s.kept st in
    let k : Holds c (1 + u) (2 + v) m n s1 = moved c u v (1 + u) (2 + v) m n s s1 (child.Break st) refl (omega arith) (omega arith) tt h in
    keeps_if (λ (es : List ChildEvent). Holds c u v m n (offer_all c target.Main es s1)) (is_empty s.trace) (Start 0 st ∷ Stop st ∷ [])
    (Stop st ∷ [])
    (λ r. events_offered c u v m n s1 target.Main (Start 0 st ∷ Stop st ∷ []) (tt, (tt, tt))
    (less c (1 + u) (2 + v) (1 + u) (2 + v) m n s1 (omega arith) (omega arith) k))
    (λ r. events_offered c u v m n s1 target.Main (Stop st ∷ []) (tt, tt)
    (less c (1 + u) (2 + v) (1 + u) (1 + v) m n s1 (omega arith) (omega arith) k))

abbrev pub act_ups : Act → ℕ
act_ups act.Suspend = 0
act_ups act.Resume = 2
act_ups (act.Cancel st) = 0
act_ups (act.Retarget w) = 0
act_ups (act.Break st) = 0

pub act_most : (x : Act) → act_ups x ≤ 2
act_most act.Suspend = omega arith
act_most act.Resume = omega arith
act_most (act.Cancel st) = omega arith
act_most (act.Retarget w) = omega arith
act_most (act.Break st) = omega arith

idle : (c : ChannelPlan) (k u v m n : ℕ) (s : ChildState) → Holds c (k + u) v m n s → Holds c u v m n (with_entry child.NoEffect s)
idle c k u v m n s h = noted c u v m n s child.NoEffect (less c (k + u) v u v m n s (omega arith) (omega arith) h)

pub called : (c : ChannelPlan) (u v m n : ℕ) (s : ChildState) (x : Act) → IsGoodAct x → Holds c (act_ups x + u) v m n s
    → Holds c u v m n (perform_call c x s)
called c u v m n s act.Suspend g h =
    keeps_if (Holds c u v m n) s.stopped (with_entry child.NoEffect s) (call_suspend s) (λ r. idle c 0 u v m n s h)
    (λ r. suspended c u v m n s (less c (0 + u) v u v m n s (omega arith) (omega arith) h))
called c u v m n s act.Resume g h =
    keeps_if (Holds c u v m n) (s.stopped || (s.suspends == 0)) (with_entry child.NoEffect s) (call_resume s) (λ r. idle c 2 u v m n s h)
    (λ r. resumed c u v m n s h)
called c u v m n s (act.Cancel st) g h =
    keeps_if (Holds c u v m n) (s.stopped || is_some s.kept) (with_entry child.NoEffect s) (call_cancel st s) (λ r. idle c 0 u v m n s h)
    (λ r. cancelled c u v m n s st (none_of s.kept (second_false s.stopped (is_some s.kept) r)) g
    (less c (0 + u) v u v m n s (omega arith) (omega arith) h))
called c u v m n s (act.Retarget w) g h = retargeted c u v m n s (refusal c s) w (less c (0 + u) v u v m n s (omega arith) (omega arith) h)
called c u v m n s (act.Break st) g h =
    keeps_if (Holds c u v m n) (s.stopped || s.broken) (with_entry child.NoEffect s) (call_break c st s) (λ r. idle c 0 u v m n s h)
    (λ r. broke c u v m n s st (second_false s.stopped s.broken r) (less c (0 + u) v u v m n s (omega arith) (omega arith) h))
