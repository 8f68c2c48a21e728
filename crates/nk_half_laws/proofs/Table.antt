-- The tests of the child's table: what each outcome of a row has, whatever the property, the row has.
use Rattle.std.proofs.Common.{◌≡◌, refl, List, [], ◌∷◌, ◌++◌, Bool, true, false, ◌||◌, if◌then◌else◌, nat_lt, slice_get, slice_index}
use Rattle.nk_base.specs.declared.status.Target.{Target}
use Rattle.nk_base.specs.declared.message.UpMsg.TheVariants as up
use Rattle.nk_base.specs.Queue.{Taken, Event, Over, Ended, same_target, is_target, target_in, target_number, runs_now, running_now, appended, completed, taken}
use Rattle.nk_plan.specs.declared.plan.ChannelPlan.{ChannelPlan}
use Rattle.nk_plan.specs.declared.event.ChildEvent.{ChildEvent}
use Rattle.nk_plan.specs.declared.journal.ChildEntry.TheVariants as child
use Rattle.nk_plan.specs.Event.{class_of}
use Rattle.nk_plan.specs.Child.{ChildState, run_event, offer_event, perform_control, step_act, flush_with, runs_on, step_begin}
use Rattle.nk_half_laws.proofs.Tools.{keeps_if}

-- an event that is offered runs or waits
pub offer_if : (P : ChildState → Type 0) (c : ChannelPlan) (here : Target) (e : ChildEvent) (s : ChildState)
    → P (run_event c here e (record s { queue = running_now s.queue here })) → P (record s { queue = appended class_of s.queue e })
    → P (offer_event c here e s)
offer_if P c here e s p q =
    keeps_if P (runs_now class_of s.queue e here) (run_event c here e (record s { queue = running_now s.queue here }))
    (record s { queue = appended class_of s.queue e }) (λ r. p) (λ r. q)

-- the page opens the channel, makes its next call, or does nothing
abbrev pub with_open : ChildState → ChildState
with_open s = record s { opened = true; sent = s.sent ++ up.Open ∷ []; journal = s.journal ++ child.Open ∷ [] }

pub act_if : (P : ChildState → Type 0) (c : ChannelPlan) (s : ChildState) → P s → P (perform_control c (slice_get c.controls s.next) s)
    → (s.opened ≡ false → P (with_open s)) → P (step_act c s)
act_if P c s h p q =
    let next : ChildState = perform_control c (slice_get c.controls s.next) s in
    keeps_if P c.closed s (if s.opened then next else with_open s) (λ r. h)
    (λ r. keeps_if P s.opened next (with_open s) (λ r. p) q)

-- a flush ends, goes on with the first event, or is handed over
flush_by : (P : ChildState → Type 0) (c : ChannelPlan) (t : Target) (s : ChildState) (w : List ChildEvent) → s.queue.waiting ≡ w
    → P (flush_with c t Ended s)
    → ((e : ChildEvent) (rest : List ChildEvent) → s.queue.waiting ≡ e ∷ rest → P (flush_with c t (Event e rest) s))
    → ((u : Target) → P (flush_with c t (Over u) s))
    → P (flush_with c t (taken class_of s.queue t w) s)
flush_by P c t s [] q ends event over = ends
flush_by P c t s (x ∷ xs) q ends event over =
    let u : Target = target_in s.queue.data_target (class_of x) in
    let Q : Taken ChildEvent → Type 0 = λ y. P (flush_with c t y s) in
    keeps_if Q (s.queue.suspended || nat_lt 0 s.queue.forced) Ended (if same_target u t then Event x xs else Over u) (λ r. ends)
    (λ r. keeps_if Q (same_target u t) (Event x xs) (Over u) (λ i. event x xs q) (λ i. over u))

pub flush_if : (P : ChildState → Type 0) (c : ChannelPlan) (t : Target) (s : ChildState)
    → P (flush_with c t Ended s)
    → ((e : ChildEvent) (rest : List ChildEvent) → s.queue.waiting ≡ e ∷ rest → P (flush_with c t (Event e rest) s))
    → ((u : Target) → P (flush_with c t (Over u) s))
    → P (flush_with c t (taken class_of s.queue t s.queue.waiting) s)
flush_if P c t s ends event over = flush_by P c t s s.queue.waiting refl ends event over

-- a target goes on with its flush, completes a task, or does nothing
abbrev pub with_complete : Target → ChildState → ChildState
with_complete t s = record s { queue = completed s.queue t; journal = s.journal ++ child.Complete t ∷ [] }

pub begin_if : (P : ChildState → Type 0) (c : ChannelPlan) (t : Target) (s : ChildState) → P s
    → P (flush_with c t (taken class_of s.queue t s.queue.waiting) s) → P (with_complete t s) → P (step_begin c t s)
begin_if P c t s h p q =
    let flushed : ChildState = flush_with c t (taken class_of s.queue t s.queue.waiting) s in
    let b : Bool = nat_lt 0 (slice_index s.queue.posted (target_number t)) in
    keeps_if P (runs_on s.running t) s
    (if is_target s.queue.flushing t then flushed else (if b then with_complete t s else s)) (λ r. h)
    (λ r. keeps_if P (is_target s.queue.flushing t) flushed (if b then with_complete t s else s) (λ i. p)
    (λ i. keeps_if P b (with_complete t s) s (λ j. q) (λ j. h)))
