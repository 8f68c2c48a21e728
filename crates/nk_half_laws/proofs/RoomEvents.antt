-- An event that runs or is offered takes what is spare for it.
use Rattle.std.proofs.Common.{ℕ, ◌≡◌, ◌+◌, ◌≤◌, refl, subst, sym, ap, List, [], ◌∷◌, ◌++◌, length, length-append, Bool, true, Option, Some, None, if◌then◌else◌, arith}
use Rattle.nk_base.specs.declared.status.Status.{Status}
use Rattle.nk_base.specs.declared.status.Target.{Target}
use Rattle.nk_base.specs.declared.message.Entry.{Entry}
use Rattle.nk_base.specs.declared.message.Entry.TheVariants as shown
use Rattle.nk_base.specs.Queue.{running_now, appended}
use Rattle.nk_base.specs.Status.{is_failure, failure, merged, kept_status}
use Rattle.nk_plan.specs.declared.plan.ChannelPlan.{ChannelPlan}
use Rattle.nk_plan.specs.declared.event.ChildEvent.{ChildEvent}
use Rattle.nk_plan.specs.declared.event.ChildEvent.TheVariants.{Start, Bytes, Stop, Redirect1, Redirect3, Cancel}
use Rattle.nk_plan.specs.declared.journal.ChildEntry.TheVariants as child
use Rattle.nk_plan.specs.Event.{class_of}
use Rattle.nk_plan.specs.Plan.{stop_trailers}
use Rattle.nk_plan.specs.Child.{ChildState, run_bytes, cancel_messages, run_event, offer_event, offer_all}
use Rattle.nk_half_laws.specs.Capacity.{cancels_left, event_ups, event_shown}
use Rattle.nk_half_laws.proofs.Tools.{one_more}
use Rattle.nk_half_laws.proofs.RoomKept.{GoodEvent, GoodEvents, good_more, Holds, less, still, moved}
use Rattle.nk_half_laws.specs.Sums.{sum_of}
use Rattle.nk_half_laws.proofs.Sums.{sum_of-more}
use Rattle.nk_half_laws.proofs.Table.{offer_if}

-- The failure that is kept

one_cancel : (o : Option Status) → cancels_left o ≤ 1
one_cancel None = omega arith
one_cancel (Some q) = omega arith

pub fewer_cancels : (k : Option Status) (st : Status) → cancels_left (merged k st) ≤ cancels_left k
fewer_cancels None st = one_cancel (failure st)
fewer_cancels (Some q) st = omega arith

pub kept_failure : (st : Status) → is_failure st ≡ true → failure st ≡ Some st
kept_failure st e = subst (λ (b : Bool). (if b then Some st else None) ≡ Some st) (sym e) refl

cancel_paid : (k : Option Status) (st : Status) → is_failure st ≡ true
    → length (cancel_messages k st) + cancels_left (merged k st) ≤ cancels_left k
cancel_paid None st e = let z : cancels_left (failure st) ≡ 0 = ap cancels_left (kept_failure st e) in omega arith
cancel_paid (Some q) st e = omega arith

-- Running an event

bytes_run : (c : ChannelPlan) (u v m n : ℕ) (s : ChildState) (t : Target) (o : ℕ) (p : List ℕ) (k : Option Status) (st : Status)
    → cancels_left k ≤ cancels_left s.kept
    → Holds c (1 + u) (1 + v) m n s → Holds c u v m n (run_bytes s t o p k st)
bytes_run c u v m n s t o p None st l h =
    let x : length (s.trace ++ shown.Bytes o p ∷ []) ≡ length s.trace + 1 = one_more s.trace (shown.Bytes o p) in
    moved c (1 + u) (1 + v) u v m n s (run_bytes s t o p None st) (child.RunBytes t o (length p)) refl (omega arith) (omega arith) h.good h
bytes_run c u v m n s t o p (Some q) st l h =
    moved c (1 + u) (1 + v) u v m n s (run_bytes s t o p (Some q) st) (child.RunDrop t o q) refl (omega arith) (omega arith) h.good h

pub event_run : (c : ChannelPlan) (u v m n : ℕ) (s : ChildState) (t : Target) (e : ChildEvent) → GoodEvent e
    → Holds c (event_ups e + u) (event_shown e + v) m n s → Holds c u v m n (run_event c t e s)
event_run c u v m n s t (Start code st) g h =
    let k : Option Status = merged s.kept st in
    let l : cancels_left k ≤ cancels_left s.kept = fewer_cancels s.kept st in
    let x : length (s.trace ++ shown.Start code (kept_status k) ∷ []) ≡ length s.trace + 1 =
    one_more s.trace (shown.Start code (kept_status k)) in
    moved c (0 + u) (1 + v) u v m n s (run_event c t (Start code st) s) (child.RunStart t code (kept_status k)) refl (omega arith)
    (omega arith) h.good h
event_run c u v m n s t (Bytes o p st) g h = bytes_run c u v m n s t o p (merged s.kept st) st (fewer_cancels s.kept st) h
event_run c u v m n s t (Stop st) g h =
    let k : Option Status = merged s.kept st in
    let l : cancels_left k ≤ cancels_left s.kept = fewer_cancels s.kept st in
    let y : Entry = shown.Stop (kept_status k) (stop_trailers c s.hop (kept_status k)) in
    let x : length (s.trace ++ y ∷ []) ≡ length s.trace + 1 = one_more s.trace y in
    moved c (1 + u) (1 + v) u v m n s (run_event c t (Stop st) s) (child.RunStop t (kept_status k)) refl (omega arith)
    (omega arith) h.good h
event_run c u v m n s t (Redirect1 i) g h =
    moved c (1 + u) (0 + v) u v m n s (run_event c t (Redirect1 i) s) (child.RunRedirect1 t i) refl (omega arith) (omega arith) h.good h
event_run c u v m n s t (Redirect3 i) g h =
    moved c (0 + u) (0 + v) u v m n s (run_event c t (Redirect3 i) s) (child.RunRedirect3 t i) refl (omega arith) (omega arith) h.good h
event_run c u v m n s t (Cancel st) g h =
    let l : length (cancel_messages s.kept st) + cancels_left (merged s.kept st) ≤ cancels_left s.kept = cancel_paid s.kept st g in
    let x : length (s.sent ++ cancel_messages s.kept st) ≡ length s.sent + length (cancel_messages s.kept st) =
    length-append s.sent (cancel_messages s.kept st) in
    moved c (0 + u) (0 + v) u v m n s (run_event c t (Cancel st) s) (child.RunCancel t st) refl (omega arith) (omega arith) h.good h

-- Offering events

event_waits : (c : ChannelPlan) (u v m n : ℕ) (s : ChildState) (e : ChildEvent) → GoodEvent e
    → Holds c (event_ups e + u) (event_shown e + v) m n s → Holds c u v m n (record s { queue = appended class_of s.queue e })
event_waits c u v m n s e g h =
    let x : sum_of event_ups (s.queue.waiting ++ e ∷ []) ≡ sum_of event_ups s.queue.waiting + event_ups e =
    sum_of-more event_ups s.queue.waiting e in
    let y : sum_of event_shown (s.queue.waiting ++ e ∷ []) ≡ sum_of event_shown s.queue.waiting + event_shown e =
    sum_of-more event_shown s.queue.waiting e in
    still c (event_ups e + u) (event_shown e + v) u v m n s (record s { queue = appended class_of s.queue e }) refl (omega arith)
    (omega arith) (good_more s.queue.waiting e h.good g) h

event_offered : (c : ChannelPlan) (u v m n : ℕ) (s : ChildState) (here : Target) (e : ChildEvent) → GoodEvent e
    → Holds c (event_ups e + u) (event_shown e + v) m n s → Holds c u v m n (offer_event c here e s)
event_offered c u v m n s here e g h =
    offer_if (Holds c u v m n) c here e s (event_run c u v m n (record s { queue = running_now s.queue here }) here e g h)
    (event_waits c u v m n s e g h)

pub events_offered : (c : ChannelPlan) (u v m n : ℕ) (s : ChildState) (here : Target) (es : List ChildEvent) → GoodEvents es
    → Holds c (sum_of event_ups es + u) (sum_of event_shown es + v) m n s → Holds c u v m n (offer_all c here es s)
events_offered c u v m n s here [] g h = less c (0 + u) (0 + v) u v m n s (omega arith) (omega arith) h
events_offered c u v m n s here (e ∷ es) g h =
    events_offered c u v m n (offer_event c here e s) here es g.1
    (event_offered c (sum_of event_ups es + u) (sum_of event_shown es + v) m n s here e g.0
    (less c (sum_of event_ups (e ∷ es) + u) (sum_of event_shown (e ∷ es) + v) (event_ups e + (sum_of event_ups es + u))
    (event_shown e + (sum_of event_shown es + v)) m n s (omega arith) (omega arith) h))
