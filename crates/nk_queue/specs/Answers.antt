-- What the calls of an `EventQueue` answer, by the queue machine. This project's own.
use Rattle.std.specs.Prelude.{◌≡◌, Bool, true, false, if◌then◌else◌, List, [], ◌∷◌, Option, Some, None}
use Rattle.nk_base.specs.declared.status.Target.{Target}
use Rattle.nk_base.specs.declared.queue.Class.{Class}
use Rattle.nk_base.specs.Queue.{Queue, Taken, is_busy, runs_now, target_in, running_now, appended, taken, handed_over, flush_ended}
use Rattle.nk_base.specs.Queue as queue
use Rattle.nk_queue.specs.declared.answer.Offer.{Offer}
use Rattle.nk_queue.specs.declared.answer.Offer.TheVariants as offer
use Rattle.nk_queue.specs.declared.answer.Taken.{Taken as TakeAnswer}
use Rattle.nk_queue.specs.declared.answer.Taken.TheVariants as take

-- what an offer from a target answers
abbrev pub offer_answer : {E : Type 0} → (E → Class) → Queue E → E → Target → Offer E
offer_answer class q e here =
    if is_busy q
    then offer.Queued
    else (if runs_now class q e here then offer.RunNow e else offer.Posted (target_in q.data_target (class e)))

-- what a flush by this target takes of what waits
abbrev pub taken_by : {E : Type 0} → (E → Class) → Queue E → Target → Taken E
taken_by class q here = taken class q here q.waiting

-- what a take answers
abbrev pub take_answer : {E : Type 0} → Taken E → TakeAnswer E
take_answer (queue.Event e rest) = take.Event e
take_answer (queue.Over t) = take.HandOver t
take_answer queue.Ended = take.Ended

-- whether a take posts the first event at its target, where the flush goes on
abbrev pub hands_over : {E : Type 0} → Taken E → Bool
hands_over (queue.Event e rest) = false
hands_over (queue.Over t) = true
hands_over queue.Ended = false

-- an offer by its answer: when it comes, and what the queue is then
abbrev pub OfferCases : {E : Type 0} → (E → Class) → Queue E → E → Target → Offer E → Queue E → Type 0
OfferCases class q e here (offer.RunNow x) new =
    (x ≡ e) × (runs_now class q e here ≡ true) × (new ≡ running_now q here)
OfferCases class q e here offer.Queued new =
    (is_busy q ≡ true) × (runs_now class q e here ≡ false) × (new ≡ appended class q e)
OfferCases class q e here (offer.Posted t) new =
    (is_busy q ≡ false) × (runs_now class q e here ≡ false) × (new ≡ appended class q e)
    × (t ≡ target_in q.data_target (class e))

-- a take by its answer
abbrev pub TakeCases : {E : Type 0} → (E → Class) → Queue E → Target → TakeAnswer E → Queue E → Type 0
TakeCases class q here (take.Event e) new =
    (rest : List _) × (taken_by class q here ≡ queue.Event e rest) × (new ≡ record q { waiting = rest })
TakeCases class q here (take.HandOver t) new =
    (taken_by class q here ≡ queue.Over t) × (new ≡ handed_over q t)
TakeCases class q here take.Ended new =
    (taken_by class q here ≡ queue.Ended) × (new ≡ flush_ended q)

-- the event that a flush takes, if it takes one
abbrev pub event_of : {E : Type 0} → Taken E → Option E
event_of (queue.Event e rest) = Some e
event_of (queue.Over t) = None
event_of queue.Ended = None

-- the event that waits first
abbrev pub first_event : {E : Type 0} → List E → Option E
first_event [] = None
first_event (e ∷ rest) = Some e
