-- A call of the page, and what a callback does at its end, leave the data as it is; a break gives up what waits.
use Rattle.std.proofs.Common.{ℕ, suc, ◌+◌, List, [], ◌∷◌, ◌++◌, length, true, ◌||◌, Option, Some, None, is_some, ◌==◌, arith}
use Rattle.nk_base.specs.declared.status.Status.{Status}
use Rattle.nk_base.specs.declared.status.Target.{Target}
use Rattle.nk_base.specs.declared.status.Target.TheVariants as target
use Rattle.nk_base.specs.declared.status.RetargetError.{RetargetError}
use Rattle.nk_base.specs.declared.message.UpMsg.TheVariants as up
use Rattle.nk_base.specs.Queue.{same_target, cleared}
use Rattle.nk_plan.specs.declared.plan.ChannelPlan.{ChannelPlan}
use Rattle.nk_plan.specs.declared.plan.Act.{Act}
use Rattle.nk_plan.specs.declared.plan.Act.TheVariants as act
use Rattle.nk_plan.specs.declared.plan.Reaction.{Reaction}
use Rattle.nk_plan.specs.declared.plan.Reaction.TheVariants as reaction
use Rattle.nk_plan.specs.declared.event.ChildEvent.{ChildEvent}
use Rattle.nk_plan.specs.declared.event.ChildEvent.TheVariants.{Start, Bytes, Stop, Redirect1, Redirect3, Cancel}
use Rattle.nk_plan.specs.declared.journal.ChildEntry.TheVariants as child
use Rattle.nk_base.specs.Status.{merged}
use Rattle.nk_plan.specs.Child.{ChildState, with_entry, offer_all, call_suspend, call_resume, call_cancel, refusal, call_retarget, is_empty, call_break, perform_call, react, react_all, bytes_failure, prepend_cancel, fail_data, finish_event, step_finish}
use Rattle.nk_half_laws.proofs.Tools.{keeps_if}
use Rattle.nk_half_laws.specs.Pieces.{data_left}
use Rattle.nk_half_laws.proofs.PiecesKept.{Holds, still, merging, given_up, noted}
use Rattle.nk_half_laws.proofs.PieceEvents.{events_offered}

retargeted : (w : ℕ → List ℕ → ℕ) (d : ℕ → ℕ) (u : ℕ) (s : ChildState) (o : Option RetargetError) (n : ℕ) → Holds w d u s
    → Holds w d u (call_retarget o n s)
retargeted w d u s (Some e) n h = noted h (child.NoRetarget e) u (data_left w s) tt (omega arith)
retargeted w d u s None n h = noted h (child.Retarget n) u (data_left w s) tt (omega arith)

broke : (w : ℕ → List ℕ → ℕ) (d : ℕ → ℕ) (c : ChannelPlan) (u : ℕ) (s : ChildState) (st : Status) → Holds w d u s
    → Holds w d u (call_break c st s)
broke w d c u s st h =
    let s1 : ChildState =
    record s { broken = true; kept = merged s.kept st; queue = cleared s.queue; journal = s.journal ++ child.Break st ∷ [] } in
    let k : Holds w d u s1 =
    given_up (noted (merging h st) (child.Break st) u (data_left w s) tt (omega arith)) u (data_left w s1) (omega arith) in
    keeps_if (λ (es : List ChildEvent). Holds w d u (offer_all c target.Main es s1)) (is_empty s.trace) (Start 0 st ∷ Stop st ∷ [])
    (Stop st ∷ [])
    (λ r. events_offered w d c u s1 target.Main (Start 0 st ∷ Stop st ∷ []) (still k (0 + (0 + 0) + u) (data_left w s1) (omega arith)))
    (λ r. events_offered w d c u s1 target.Main (Stop st ∷ []) (still k (0 + 0 + u) (data_left w s1) (omega arith)))

idle : (w : ℕ → List ℕ → ℕ) (d : ℕ → ℕ) (u : ℕ) (s : ChildState) → Holds w d u s → Holds w d u (with_entry child.NoEffect s)
idle w d u s h = noted h child.NoEffect u (data_left w s) tt (omega arith)

pub called : (w : ℕ → List ℕ → ℕ) (d : ℕ → ℕ) (c : ChannelPlan) (u : ℕ) (s : ChildState) (x : Act) → Holds w d u s
    → Holds w d u (perform_call c x s)
called w d c u s act.Suspend h =
    keeps_if (Holds w d u) s.stopped (with_entry child.NoEffect s) (call_suspend s) (λ r. idle w d u s h)
    (λ r. noted h child.Suspend u (data_left w s) tt (omega arith))
called w d c u s act.Resume h =
    keeps_if (Holds w d u) (s.stopped || (s.suspends == 0)) (with_entry child.NoEffect s) (call_resume s) (λ r. idle w d u s h)
    (λ r. noted h child.Resume u (data_left w s) tt (omega arith))
called w d c u s (act.Cancel st) h =
    keeps_if (Holds w d u) (s.stopped || is_some s.kept) (with_entry child.NoEffect s) (call_cancel st s) (λ r. idle w d u s h)
    (λ r. noted (merging h st) (child.Cancel st) u (data_left w s) tt (omega arith))
called w d c u s (act.Retarget n) h = retargeted w d u s (refusal c s) n h
called w d c u s (act.Break st) h =
    keeps_if (Holds w d u) (s.stopped || s.broken) (with_entry child.NoEffect s) (call_break c st s) (λ r. idle w d u s h)
    (λ r. broke w d c u s st h)

-- The end of a callback

reacted : (w : ℕ → List ℕ → ℕ) (d : ℕ → ℕ) (c : ChannelPlan) (u : ℕ) (s : ChildState) (r : Reaction) → Holds w d u s
    → Holds w d u (react c r s)
reacted w d c u s (reaction.StartRetarget n) h = called w d c u s (act.Retarget n) h
reacted w d c u s reaction.StartSuspend h = called w d c u s act.Suspend h
reacted w d c u s (reaction.StartCancel st) h = called w d c u s (act.Cancel st) h
reacted w d c u s (reaction.StartFail st) h = called w d c u s (act.Cancel st) h
reacted w d c u s (reaction.BytesFail n st) h = h

all_reacted : (w : ℕ → List ℕ → ℕ) (d : ℕ → ℕ) (c : ChannelPlan) (u : ℕ) (s : ChildState) (rs : List Reaction) → Holds w d u s
    → Holds w d u (react_all c rs s)
all_reacted w d c u s [] h = h
all_reacted w d c u s (r ∷ rs) h = all_reacted w d c u (react c r s) rs (reacted w d c u s r h)

data_failed : (w : ℕ → List ℕ → ℕ) (d : ℕ → ℕ) (c : ChannelPlan) (u : ℕ) (s : ChildState) (t : Target) (o : Option Status) → Holds w d u s
    → Holds w d u (fail_data c t o s)
data_failed w d c u s t None h = h
data_failed w d c u s t (Some st) h =
    keeps_if (Holds w d u) (same_target t target.Main) (perform_call c (act.Cancel st) s) (prepend_cancel st s)
    (λ r. called w d c u s (act.Cancel st) h)
    (λ r. noted h (child.Prepend st) u (data_left w (prepend_cancel st s)) tt (omega arith))

finished : (w : ℕ → List ℕ → ℕ) (d : ℕ → ℕ) (c : ChannelPlan) (u : ℕ) (s : ChildState) (t : Target) (e : ChildEvent) → Holds w d u s
    → Holds w d u (finish_event c t e s)
finished w d c u s t (Start code st) h = all_reacted w d c u s c.reactions h
finished w d c u s t (Bytes o p st) h =
    data_failed w d c u (record s { sent = s.sent ++ up.BytesRead (length p) ∷ [] }) t (bytes_failure c.reactions s.data_begun) h
finished w d c u s t (Stop st) h = h
finished w d c u s t (Redirect1 i) h = h
finished w d c u s t (Redirect3 i) h = h
finished w d c u s t (Cancel st) h = h

pub returned : (w : ℕ → List ℕ → ℕ) (d : ℕ → ℕ) (c : ChannelPlan) (u : ℕ) (s : ChildState) (t : Target) (o : Option (Target × ChildEvent))
    → Holds w d u s → Holds w d u (step_finish c t o s)
returned w d c u s t None h = h
returned w d c u s t (Some r) h =
    let s1 : ChildState = record s { running = None; finished = suc s.finished; journal = s.journal ++ child.Finish t ∷ [] } in
    keeps_if (Holds w d u) (same_target r.0 t) (finish_event c t r.1 s1) s
    (λ e. finished w d c u s1 t r.1 (noted h (child.Finish t) u (data_left w s) tt (omega arith))) (λ e. h)
