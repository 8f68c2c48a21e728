-- What a callback does at its end takes what is spare for it.
use Rattle.std.proofs.Common.{ℕ, suc, ◌≡◌, ◌+◌, refl, ap, List, [], ◌∷◌, ◌++◌, length, true, Option, Some, None, arith}
use Rattle.nk_base.specs.declared.status.Status.{Status}
use Rattle.nk_base.specs.declared.status.Target.{Target}
use Rattle.nk_base.specs.declared.status.Target.TheVariants as target
use Rattle.nk_base.specs.declared.message.UpMsg.{UpMsg}
use Rattle.nk_base.specs.declared.message.UpMsg.TheVariants as up
use Rattle.nk_base.specs.Queue.{same_target}
use Rattle.nk_base.specs.Status.{is_failure}
use Rattle.nk_plan.specs.declared.plan.ChannelPlan.{ChannelPlan}
use Rattle.nk_plan.specs.declared.plan.Reaction.{Reaction}
use Rattle.nk_plan.specs.declared.plan.Reaction.TheVariants as reaction
use Rattle.nk_plan.specs.declared.plan.Act.TheVariants as act
use Rattle.nk_plan.specs.declared.event.ChildEvent.{ChildEvent}
use Rattle.nk_plan.specs.declared.event.ChildEvent.TheVariants.{Start, Bytes, Stop, Redirect1, Redirect3, Cancel}
use Rattle.nk_plan.specs.declared.journal.ChildEntry.TheVariants as child
use Rattle.nk_plan.specs.Accepted.{IsGoodReaction}
use Rattle.nk_plan.specs.Child.{ChildState, perform_call, react, react_all, bytes_failure, prepend_cancel, fail_data, finish_event, step_finish}
use Rattle.nk_half_laws.specs.Capacity.{callback_ups, running_ups}
use Rattle.nk_half_laws.proofs.Tools.{keeps_if, one_more}
use Rattle.nk_half_laws.proofs.RoomKept.{Holds, less, still, moved}
use Rattle.nk_half_laws.proofs.RoomCalls.{called}
use Rattle.nk_half_laws.proofs.Plans.{GoodReactions, bytes_may_fail}
use Rattle.nk_half_laws.proofs.Failures.{IsKept}

-- a call that takes nothing
plain : (c : ChannelPlan) (u v m n : ℕ) (s : ChildState) → Holds c u v m n s → Holds c (0 + u) v m n s
plain c u v m n s h = less c u v (0 + u) v m n s (omega arith) (omega arith) h

reacted : (c : ChannelPlan) (u v m n : ℕ) (s : ChildState) (r : Reaction) → IsGoodReaction r → Holds c u v m n s
    → Holds c u v m n (react c r s)
reacted c u v m n s (reaction.StartRetarget w) g h = called c u v m n s (act.Retarget w) g (plain c u v m n s h)
reacted c u v m n s reaction.StartSuspend g h = called c u v m n s act.Suspend tt (plain c u v m n s h)
reacted c u v m n s (reaction.StartCancel st) g h = called c u v m n s (act.Cancel st) g (plain c u v m n s h)
reacted c u v m n s (reaction.StartFail st) g h = called c u v m n s (act.Cancel st) g (plain c u v m n s h)
reacted c u v m n s (reaction.BytesFail k st) g h = h

all_reacted : (c : ChannelPlan) (u v m n : ℕ) (s : ChildState) (rs : List Reaction) → GoodReactions rs → Holds c u v m n s
    → Holds c u v m n (react_all c rs s)
all_reacted c u v m n s [] g h = h
all_reacted c u v m n s (r ∷ rs) g h = all_reacted c u v m n (react c r s) rs g.1 (reacted c u v m n s r g.0 h)

prepended_holds : (c : ChannelPlan) (u v m n : ℕ) (s : ChildState) (st : Status) → is_failure st ≡ true → Holds c u v m n s
    → Holds c u v m n (prepend_cancel st s)
prepended_holds c u v m n s st f h =
    moved c u v u v m n s (prepend_cancel st s) (child.Prepend st) refl (omega arith) (omega arith) (f, h.good) h

data_failed : (c : ChannelPlan) (u v m n : ℕ) (s : ChildState) (t : Target) (o : Option Status) → IsKept o → Holds c u v m n s
    → Holds c u v m n (fail_data c t o s)
data_failed c u v m n s t None f h = h
data_failed c u v m n s t (Some st) f h =
    keeps_if (Holds c u v m n) (same_target t target.Main) (perform_call c (act.Cancel st) s) (prepend_cancel st s)
    (λ r. called c u v m n s (act.Cancel st) f (plain c u v m n s h)) (λ r. prepended_holds c u v m n s st f h)

said : (c : ChannelPlan) (u v m n : ℕ) (s : ChildState) (x : UpMsg) → Holds c (1 + u) v m n s
    → Holds c u v m n (record s { sent = s.sent ++ x ∷ [] })
said c u v m n s x h =
    let y : length (s.sent ++ x ∷ []) ≡ length s.sent + 1 = one_more s.sent x in
    still c (1 + u) v u v m n s (record s { sent = s.sent ++ x ∷ [] }) refl (omega arith) (omega arith) h.good h

finished : (c : ChannelPlan) (u v m n : ℕ) (s : ChildState) (t : Target) (e : ChildEvent) → GoodReactions c.reactions
    → Holds c (callback_ups e + u) v m n s → Holds c u v m n (finish_event c t e s)
finished c u v m n s t (Start code st) g h =
    all_reacted c u v m n s c.reactions g (less c (0 + u) v u v m n s (omega arith) (omega arith) h)
finished c u v m n s t (Bytes o p st) g h =
    data_failed c u v m n (record s { sent = s.sent ++ up.BytesRead (length p) ∷ [] }) t (bytes_failure c.reactions s.data_begun)
    (bytes_may_fail c.reactions s.data_begun g) (said c u v m n s (up.BytesRead (length p)) h)
finished c u v m n s t (Stop st) g h = said c u v m n s up.Deleting h
finished c u v m n s t (Redirect1 i) g h = less c (0 + u) v u v m n s (omega arith) (omega arith) h
finished c u v m n s t (Redirect3 i) g h = less c (0 + u) v u v m n s (omega arith) (omega arith) h
finished c u v m n s t (Cancel st) g h = less c (0 + u) v u v m n s (omega arith) (omega arith) h

pub returned : (c : ChannelPlan) (m n : ℕ) (s : ChildState) (t : Target) (o : Option (Target × ChildEvent)) → GoodReactions c.reactions
    → s.running ≡ o
    → Holds c 0 0 m n s → Holds c 0 0 m n (step_finish c t o s)
returned c m n s t None g q h = h
returned c m n s t (Some r) g q h =
    let s1 : ChildState = record s { running = None; finished = suc s.finished; journal = s.journal ++ child.Finish t ∷ [] } in
    let x : running_ups s.running ≡ callback_ups r.1 = ap running_ups q in
    keeps_if (Holds c 0 0 m n) (same_target r.0 t) (finish_event c t r.1 s1) s
    (λ e. finished c 0 0 m n s1 t r.1 g (moved c 0 0 (callback_ups r.1 + 0) 0 m n s s1 (child.Finish t) refl (omega arith)
    (omega arith) h.good h))
    (λ e. h)
