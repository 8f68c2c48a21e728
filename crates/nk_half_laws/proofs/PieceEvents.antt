-- An event that runs or is offered takes what is spare for it.
use Rattle.std.proofs.Common.{ℕ, ◌≡◌, ◌+◌, List, [], ◌∷◌, ◌++◌, length, Option, Some, None, arith}
use Rattle.nk_base.specs.declared.status.Status.{Status}
use Rattle.nk_base.specs.declared.status.Target.{Target}
use Rattle.nk_base.specs.declared.message.Entry.TheVariants as shown
use Rattle.nk_base.specs.Queue.{running_now, appended}
use Rattle.nk_plan.specs.declared.plan.ChannelPlan.{ChannelPlan}
use Rattle.nk_plan.specs.declared.event.ChildEvent.{ChildEvent}
use Rattle.nk_plan.specs.declared.event.ChildEvent.TheVariants.{Start, Bytes, Stop, Redirect1, Redirect3, Cancel}
use Rattle.nk_plan.specs.declared.journal.ChildEntry.TheVariants as child
use Rattle.nk_plan.specs.Event.{class_of}
use Rattle.nk_base.specs.Status.{merged, kept_status}
use Rattle.nk_plan.specs.Plan.{stop_trailers}
use Rattle.nk_plan.specs.Child.{ChildState, run_bytes, run_event, offer_event, offer_all}
use Rattle.nk_half_laws.specs.Pieces.{event_weight, data_left}
use Rattle.nk_half_laws.proofs.Sums.{sum_of-more}
use Rattle.nk_half_laws.proofs.PiecesKept.{Sound, Holds, still, merging, noted, shows, dropped}
use Rattle.nk_half_laws.specs.Sums.{sum_of}
use Rattle.nk_half_laws.proofs.Table.{offer_if}

bytes_run : (w : ℕ → List ℕ → ℕ) (d : ℕ → ℕ) (u : ℕ) (s : ChildState) (t : Target) (o : ℕ) (p : List ℕ) (k : Option Status) (st : Status)
    → Sound w d (w o p + u) s.broken k (data_left w s) s.trace s.journal → Holds w d u (run_bytes s t o p k st)
bytes_run w d u s t o p None st h = shows h (child.RunBytes t o (length p)) (shown.Bytes o p) u (data_left w s) tt (omega arith)
bytes_run w d u s t o p (Some q) st h = dropped u o p t q h

pub event_run : (w : ℕ → List ℕ → ℕ) (d : ℕ → ℕ) (c : ChannelPlan) (u : ℕ) (s : ChildState) (t : Target) (e : ChildEvent)
    → Holds w d (event_weight w e + u) s → Holds w d u (run_event c t e s)
event_run w d c u s t (Start code st) h =
    let k : Option Status = merged s.kept st in
    shows (merging h st) (child.RunStart t code (kept_status k)) (shown.Start code (kept_status k)) u (data_left w s) tt (omega arith)
event_run w d c u s t (Bytes o p st) h = bytes_run w d u s t o p (merged s.kept st) st (merging h st)
event_run w d c u s t (Stop st) h =
    let k : Option Status = merged s.kept st in
    shows (merging h st) (child.RunStop t (kept_status k)) (shown.Stop (kept_status k) (stop_trailers c s.hop (kept_status k))) u
    (data_left w s) tt (omega arith)
event_run w d c u s t (Redirect1 i) h = noted h (child.RunRedirect1 t i) u (data_left w s) tt (omega arith)
event_run w d c u s t (Redirect3 i) h = noted h (child.RunRedirect3 t i) u (data_left w s) tt (omega arith)
event_run w d c u s t (Cancel st) h = noted (merging h st) (child.RunCancel t st) u (data_left w s) tt (omega arith)

event_waits : (w : ℕ → List ℕ → ℕ) (d : ℕ → ℕ) (u : ℕ) (s : ChildState) (e : ChildEvent)
    → Holds w d (event_weight w e + u) s → Holds w d u (record s { queue = appended class_of s.queue e })
event_waits w d u s e h =
    let x : sum_of (event_weight w) (s.queue.waiting ++ e ∷ []) ≡ sum_of (event_weight w) s.queue.waiting + event_weight w e =
    sum_of-more (event_weight w) s.queue.waiting e in
    still h u (data_left w (record s { queue = appended class_of s.queue e })) (omega arith)

event_offered : (w : ℕ → List ℕ → ℕ) (d : ℕ → ℕ) (c : ChannelPlan) (u : ℕ) (s : ChildState) (here : Target) (e : ChildEvent)
    → Holds w d (event_weight w e + u) s → Holds w d u (offer_event c here e s)
event_offered w d c u s here e h =
    offer_if (Holds w d u) c here e s (event_run w d c u (record s { queue = running_now s.queue here }) here e h) (event_waits w d u s e h)

pub events_offered : (w : ℕ → List ℕ → ℕ) (d : ℕ → ℕ) (c : ChannelPlan) (u : ℕ) (s : ChildState) (here : Target) (es : List ChildEvent)
    → Holds w d (sum_of (event_weight w) es + u) s → Holds w d u (offer_all c here es s)
events_offered w d c u s here [] h = still h u (data_left w s) (omega arith)
events_offered w d c u s here (e ∷ es) h =
    events_offered w d c u (offer_event c here e s) here es
    (event_offered w d c (sum_of (event_weight w) es + u) s here e
    (still h (event_weight w e + (sum_of (event_weight w) es + u)) (data_left w s) (omega arith)))
