-- More room lets the same calls be made.
use Rattle.std.proofs.Common.{ℕ, ◌≡◌, ◌≤◌, List, [], ◌∷◌, arith}
use Rattle.nk_base.specs.declared.queue.Class.{Class}
use Rattle.nk_base.specs.Queue.{Queue, Taken, runs_now, taken, take_spare}
use Rattle.nk_base.specs.Queue as queue
use Rattle.nk_queue.specs.declared.laws.call.QueueCall.{QueueCall}
use Rattle.nk_queue.specs.declared.laws.call.QueueCall.TheVariants as call
use Rattle.nk_queue.specs.Answers.{taken_by}
use Rattle.nk_queue.specs.Calls.{MayCall, MayCallAll, call_leaves, call_spare}

module _ {E : Type 0} (class : E → Class) where
  may_call_roomier : (q : Queue E) (less more : ℕ) (c : QueueCall E) → less ≤ more → MayCall class q less c → MayCall class q more c
  may_call_roomier q less more (call.Offer e here) roomier may = (omega (arith, may.0), may.1, may.2, may.3)
  may_call_roomier q less more (call.Prepend e) roomier may = (may.0, omega (arith, may.1), may.2)
  may_call_roomier q less more (call.Reserve n) roomier may = may
  may_call_roomier q less more call.Suspend roomier may = may
  may_call_roomier q less more call.Resume roomier may = may
  may_call_roomier q less more (call.Complete here) roomier may = may
  may_call_roomier q less more call.StartForced roomier may = may
  may_call_roomier q less more (call.EndForced here) roomier may = may
  may_call_roomier q less more (call.Take here) roomier may = may
  may_call_roomier q less more call.Clear roomier may = may
  may_call_roomier q less more (call.SetDataTarget t) roomier may = may
  may_call_roomier q less more call.Flushing roomier may = may
  may_call_roomier q less more (call.Posted t) roomier may = may
  may_call_roomier q less more call.IsSuspended roomier may = may
  may_call_roomier q less more call.Waiting roomier may = may

  take_spare_roomier : (t : Taken E) (less more : ℕ) → less ≤ more → take_spare t less ≤ take_spare t more
  take_spare_roomier (queue.Event e rest) less more roomier = omega arith
  take_spare_roomier (queue.Over t) less more roomier = roomier
  take_spare_roomier queue.Ended less more roomier = roomier

  call_spare_roomier : (q : Queue E) (less more : ℕ) (c : QueueCall E) → less ≤ more → call_spare class q less c ≤ call_spare class q more c
  call_spare_roomier q less more (call.Reserve n) roomier = omega arith
  call_spare_roomier q less more (call.Offer e here) roomier = grind arith
  call_spare_roomier q less more (call.Prepend e) roomier = omega arith
  call_spare_roomier q less more (call.Take here) roomier = take_spare_roomier (taken_by class q here) less more roomier
  call_spare_roomier q less more call.Clear roomier = omega arith
  call_spare_roomier q less more call.Suspend roomier = roomier
  call_spare_roomier q less more call.Resume roomier = roomier
  call_spare_roomier q less more (call.Complete here) roomier = roomier
  call_spare_roomier q less more call.StartForced roomier = roomier
  call_spare_roomier q less more (call.EndForced here) roomier = roomier
  call_spare_roomier q less more (call.SetDataTarget t) roomier = roomier
  call_spare_roomier q less more call.Flushing roomier = roomier
  call_spare_roomier q less more (call.Posted t) roomier = roomier
  call_spare_roomier q less more call.IsSuspended roomier = roomier
  call_spare_roomier q less more call.Waiting roomier = roomier

  may_call_all_roomier : (q : Queue E) (less more : ℕ) (cs : List (QueueCall E)) → less ≤ more → MayCallAll class q less cs → MayCallAll class q more cs
  may_call_all_roomier q less more [] roomier may = may
  may_call_all_roomier q less more (c ∷ cs) roomier may = (
    may_call_roomier q less more c roomier may.0,
    may_call_all_roomier (call_leaves class q c) (call_spare class q less c) (call_spare class q more c) cs (call_spare_roomier q less more c roomier) may.1,
  )

  -- after a call of the list, the others may be made
  pub rest_may_call : (q now : Queue E) (spare left : ℕ) (c : QueueCall E) (cs : List (QueueCall E)) → MayCallAll class q spare (c ∷ cs)
      → now ≡ call_leaves class q c → call_spare class q spare c ≤ left → MayCallAll class now left cs
  rest_may_call q now spare left c cs may leaves room =
      rw leaves (may_call_all_roomier (call_leaves class q c) (call_spare class q spare c) left cs room may.1)
