-- Calls of a queue as values: when each may be made, what it answers and what it leaves, by the queue
-- machine; and the same for a list of calls. This project's own.
use Rattle.std.specs.Prelude.{ℕ, ◌<◌, ◌+◌, ◌-◌, Bool, true, false, ◌||◌, if◌then◌else◌, nat_lt, max, List, [], ◌∷◌, length, IsTrue}
use Rattle.std.below.core.specs.declared.int.usize.TheConstants.{MAX}
use Rattle.nk_base.specs.declared.queue.Class.{Class}
use Rattle.nk_base.specs.Queue.{Queue, IsTarget, HasTarget, MayPost, target_in, is_target, is_posted, runs_now, offer_leaves, posted_to, suspended_once, resume_posts, resumed_once, resume_answer, completed, complete_answer, forced_once, unforced, unforced_answer, prepended, cleared, retargeted, take_leaves, take_spare}
use Rattle.nk_queue.specs.declared.laws.call.QueueCall.{QueueCall}
use Rattle.nk_queue.specs.declared.laws.call.QueueCall.TheVariants as call
use Rattle.nk_queue.specs.declared.laws.call.QueueAnswer.{QueueAnswer}
use Rattle.nk_queue.specs.declared.laws.call.QueueAnswer.TheVariants as answer
use Rattle.nk_queue.specs.Answers.{offer_answer, take_answer, taken_by, hands_over}

-- whether a call asks for room
abbrev pub is_reserve : {E : Type 0} → QueueCall E → Bool
is_reserve (call.Reserve n) = true
is_reserve (call.Offer e here) = false
is_reserve call.Suspend = false
is_reserve call.Resume = false
is_reserve (call.Complete here) = false
is_reserve call.StartForced = false
is_reserve (call.EndForced here) = false
is_reserve (call.Prepend e) = false
is_reserve (call.Take here) = false
is_reserve call.Clear = false
is_reserve (call.SetDataTarget t) = false
is_reserve call.Flushing = false
is_reserve (call.Posted t) = false
is_reserve call.IsSuspended = false
is_reserve call.Waiting = false

module _ {E : Type 0} (class : E → Class) where
  -- the condition of a call on a queue with so much room
  abbrev pub MayCall : Queue E → ℕ → QueueCall E → Type 0
  MayCall q spare (call.Reserve n) = Unit {0}
  MayCall q spare (call.Offer e here) =
      (0 < spare) × IsTarget here × HasTarget (class e)
      × (IsTrue (is_posted class q e here) → posted_to q (target_in q.data_target (class e)) < MAX)
  MayCall q spare call.Suspend = q.count < MAX - 1
  MayCall q spare call.Resume = (0 < q.count) × (IsTrue (resume_posts q) → MayPost class q q.waiting MAX)
  MayCall q spare (call.Complete here) = IsTarget here × (0 < posted_to q here)
  MayCall q spare call.StartForced = q.forced < MAX
  MayCall q spare (call.EndForced here) = IsTarget here × (0 < q.forced)
  MayCall q spare (call.Prepend e) =
      IsTrue (q.suspended || nat_lt 0 q.forced) × (0 < spare) × HasTarget (class e)
  MayCall q spare (call.Take here) =
      IsTarget here × IsTrue (is_target q.flushing here) × (IsTrue (hands_over (taken_by class q here)) → MayPost class q q.waiting MAX)
  MayCall q spare call.Clear = Unit {0}
  MayCall q spare (call.SetDataTarget t) = IsTarget t
  MayCall q spare call.Flushing = Unit {0}
  MayCall q spare (call.Posted t) = IsTarget t
  MayCall q spare call.IsSuspended = Unit {0}
  MayCall q spare call.Waiting = Unit {0}

  -- what a call answers; `Done` where it answers nothing
  abbrev pub call_answer : Queue E → QueueCall E → QueueAnswer E
  call_answer q (call.Reserve n) = answer.Done
  call_answer q (call.Offer e here) = answer.Offered (offer_answer class q e here)
  call_answer q call.Suspend = answer.Done
  call_answer q call.Resume = answer.Resumed (resume_answer class q)
  call_answer q (call.Complete here) = answer.Began (complete_answer q)
  call_answer q call.StartForced = answer.Done
  call_answer q (call.EndForced here) = answer.Began (unforced_answer q)
  call_answer q (call.Prepend e) = answer.Done
  call_answer q (call.Take here) = answer.Took (take_answer (taken_by class q here))
  call_answer q call.Clear = answer.Done
  call_answer q (call.SetDataTarget t) = answer.Done
  call_answer q call.Flushing = answer.Flushing q.flushing
  call_answer q (call.Posted t) = answer.Number (posted_to q t)
  call_answer q call.IsSuspended = answer.Flag q.suspended
  call_answer q call.Waiting = answer.Number (length q.waiting)

  -- the queue after a call
  abbrev pub call_leaves : Queue E → QueueCall E → Queue E
  call_leaves q (call.Reserve n) = q
  call_leaves q (call.Offer e here) = offer_leaves class q e here
  call_leaves q call.Suspend = suspended_once q
  call_leaves q call.Resume = resumed_once class q
  call_leaves q (call.Complete here) = completed q here
  call_leaves q call.StartForced = forced_once q
  call_leaves q (call.EndForced here) = unforced q here
  call_leaves q (call.Prepend e) = prepended q e
  call_leaves q (call.Take here) = take_leaves q (taken_by class q here)
  call_leaves q call.Clear = cleared q
  call_leaves q (call.SetDataTarget t) = retargeted q t
  call_leaves q call.Flushing = q
  call_leaves q (call.Posted t) = q
  call_leaves q call.IsSuspended = q
  call_leaves q call.Waiting = q

  -- the room after a call, at least
  abbrev pub call_spare : Queue E → ℕ → QueueCall E → ℕ
  call_spare q spare (call.Reserve n) = max spare n
  call_spare q spare (call.Offer e here) = if runs_now class q e here then spare else spare - 1
  call_spare q spare call.Suspend = spare
  call_spare q spare call.Resume = spare
  call_spare q spare (call.Complete here) = spare
  call_spare q spare call.StartForced = spare
  call_spare q spare (call.EndForced here) = spare
  call_spare q spare (call.Prepend e) = spare - 1
  call_spare q spare (call.Take here) = take_spare (taken_by class q here) spare
  call_spare q spare call.Clear = spare + length q.waiting
  call_spare q spare (call.SetDataTarget t) = spare
  call_spare q spare call.Flushing = spare
  call_spare q spare (call.Posted t) = spare
  call_spare q spare call.IsSuspended = spare
  call_spare q spare call.Waiting = spare

  -- each call of the list may be made where its turn comes
  abbrev pub MayCallAll : Queue E → ℕ → List (QueueCall E) → Type 0
  MayCallAll q spare [] = Unit {0}
  MayCallAll q spare (c ∷ cs) = MayCall q spare c × MayCallAll (call_leaves q c) (call_spare q spare c) cs

  -- what the calls of the list answer
  abbrev pub call_answers : Queue E → List (QueueCall E) → List (QueueAnswer E)
  call_answers q [] = []
  call_answers q (c ∷ cs) = call_answer q c ∷ call_answers (call_leaves q c) cs

  -- the queue after the calls of the list
  abbrev pub calls_leave : Queue E → List (QueueCall E) → Queue E
  calls_leave q [] = q
  calls_leave q (c ∷ cs) = calls_leave (call_leaves q c) cs
