-- What runs is on the target of the flush. So an event that is offered, or is the first of a flush, runs where nothing else does.
use Rattle.std.proofs.Common.{ℕ, ◌≡◌, refl, sym, ◌∙◌, ap, subst, List, Bool, true, false, not, ◌&&◌, ◌||◌, Option, Some, None, is_some, nat_lt}
use Rattle.std.proofs.lemmas.Bool.{eqb-true, eq-eqb}
use Rattle.nk_base.specs.declared.status.Status.{Status}
use Rattle.nk_base.specs.declared.status.Target.{Target}
use Rattle.nk_base.specs.declared.status.Target.TheVariants as target
use Rattle.nk_base.specs.Status.{merged}
use Rattle.nk_base.specs.Queue.{same_target, is_target, target_in, runs_now, running_now, appended, has_some}
use Rattle.nk_plan.specs.declared.plan.ChannelPlan.{ChannelPlan}
use Rattle.nk_plan.specs.declared.event.ChildEvent.{ChildEvent}
use Rattle.nk_plan.specs.declared.event.ChildEvent.TheVariants.{Start, Bytes, Stop, Redirect1, Redirect3, Cancel}
use Rattle.nk_plan.specs.Event.{class_of}
use Rattle.nk_plan.specs.Child.{ChildState, run_bytes, run_event, offer_event, runs_on}
use Rattle.nk_half_laws.specs.Settled.{FlushedBy}
use Rattle.nk_laws.proofs.Tools.{keeps_if}

abbrev pub Flushes : ChildState → Type 0
Flushes s = FlushedBy s.running s.queue.flushing

same_self : (t : Target) → same_target t t ≡ true
same_self target.Main = refl
same_self (target.Worker w) = eq-eqb w w refl
same_self target.Back = refl

same_is : (t u : Target) → same_target t u ≡ true → t ≡ u
same_is target.Main target.Main e = refl
same_is target.Main (target.Worker w) e = cc
same_is target.Main target.Back e = cc
same_is (target.Worker v) target.Main e = cc
same_is (target.Worker v) (target.Worker w) e = ap target.Worker (eqb-true v w e)
same_is (target.Worker v) target.Back e = cc
same_is target.Back target.Main e = cc
same_is target.Back (target.Worker w) e = cc
same_is target.Back target.Back e = refl

-- where a flush goes on nothing runs elsewhere
pub runs_elsewhere : (r : Option (Target × ChildEvent)) (f : Option Target) (t : Target) → runs_on r t ≡ false → is_target f t ≡ true → FlushedBy r f → r ≡ None
runs_elsewhere None f t e h k = refl
runs_elsewhere (Some x) None t e h k = cc
runs_elsewhere (Some x) (Some g) t e h k =
    let a : x.0 ≡ t = sym (same_is g x.0 k) ∙ same_is g t h in
    let y : same_target x.0 t ≡ true = subst (λ u. same_target x.0 u ≡ true) a (same_self x.0) in absurd (cc)

nothing_runs : (r : Option (Target × ChildEvent)) (f : Option Target) → FlushedBy r f → is_some f ≡ false → r ≡ None
nothing_runs None f h e = refl
nothing_runs (Some x) None h e = cc
nothing_runs (Some x) (Some t) h e = cc

no_flush : (a b d e g : Bool) → (not (a || (b || (d || e))) && g) ≡ true → d ≡ false
no_flush true b d e g h = cc
no_flush false true d e g h = cc
no_flush false false true e g h = cc
no_flush false false false true g h = cc
no_flush false false false false g h = refl

-- an event that is offered, and runs at once, finds no flush and nothing that runs
pub runs_alone : (here : Target) (e : ChildEvent) (s : ChildState) → Flushes s → runs_now class_of s.queue e here ≡ true
    → (is_some s.queue.flushing ≡ false) × (s.running ≡ None)
runs_alone here e s l r =
    let none : is_some s.queue.flushing ≡ false = no_flush (nat_lt 0 s.queue.forced) s.queue.suspended (is_some s.queue.flushing) (has_some s.queue.waiting) (same_target (target_in s.queue.data_target (class_of e)) here) r in
    (none, nothing_runs s.running s.queue.flushing l none)

idle : (r : Option (Target × ChildEvent)) (f : Option Target) → r ≡ None → FlushedBy r f
idle r f n = rw n tt

bytes_flushes : (s : ChildState) (t : Target) (at : ℕ) (p : List ℕ) (k : Option Status) (st : Status) → s.running ≡ None → is_target s.queue.flushing t ≡ true → Flushes (run_bytes s t at p k st)
bytes_flushes s t at p None st n h = h
bytes_flushes s t at p (Some q) st n h = idle s.running s.queue.flushing n

run_flushes : (c : ChannelPlan) (t : Target) (e : ChildEvent) (s : ChildState) → s.running ≡ None → is_target s.queue.flushing t ≡ true → Flushes (run_event c t e s)
run_flushes c t (Start code st) s n h = h
run_flushes c t (Bytes at p st) s n h = bytes_flushes s t at p (merged s.kept st) st n h
run_flushes c t (Stop st) s n h = h
run_flushes c t (Redirect1 i) s n h = idle s.running s.queue.flushing n
run_flushes c t (Redirect3 i) s n h = idle s.running s.queue.flushing n
run_flushes c t (Cancel st) s n h = idle s.running s.queue.flushing n

pub offered_flushes : (c : ChannelPlan) (here : Target) (e : ChildEvent) (s : ChildState) → Flushes s → Flushes (offer_event c here e s)
offered_flushes c here e s l =
    let s1 : ChildState = record s { queue = running_now s.queue here } in
    keeps_if Flushes (runs_now class_of s.queue e here) (run_event c here e s1) (record s { queue = appended class_of s.queue e })
    (λ r. run_flushes c here e s1 (runs_alone here e s l r).1 (same_self here)) (λ r. l)
