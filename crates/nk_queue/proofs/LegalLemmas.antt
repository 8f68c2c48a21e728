-- Each rule of the queue machine leaves a legal queue legal: the cases in which an event is appended or a
-- task is posted. In the others the check finds it by itself.
use Rattle.std.proofs.Common.{ℕ, zero, suc, ◌≡◌, ◌+◌, ◌<◌, refl, List, [], ◌∷◌, ◌++◌, length, length-set, Bool, true, ◌||◌, nat_lt, slice_set, slice_index, Option, is_some, arith}
use Rattle.std.proofs.lemmas.List.{map-append}
use Rattle.std.proofs.lemmas.Bool.Decides.{nat_tests}
use Rattle.nk_base.specs.declared.status.Target.{Target}
use Rattle.nk_base.specs.declared.queue.Class.{Class}
use Rattle.nk_base.specs.Queue.{Queue, LegalQueue, legal_parts, some_posted, raised, target_number, AllHaveTargets, HasTarget, FlushHasTarget, has_some, is_busy, IsTarget}
use Rattle.nk_chain.specs.declared.Place.{Place}
use Rattle.nk_chain.specs.Chain.{items_of}

-- Appended events.

-- an item that is pushed behind is the last of the items
pub items_of-append : {E : Type 0} (items : List (Place × E)) (place : Place) (e : E) → items_of (items ++ (place, e) ∷ []) ≡ items_of items ++ e ∷ []
items_of-append items place e = map-append (λ item. item.1) items ((place, e) ∷ [])

has_some-append : {E : Type 0} (es : List E) (e : E) → has_some (es ++ e ∷ []) ≡ true
has_some-append [] e = refl
has_some-append (first ∷ rest) e = refl

pub classes-append : {E : Type 0} (class : E → Class) (es : List E) (e : E) → AllHaveTargets class es → HasTarget (class e) → AllHaveTargets class (es ++ e ∷ [])
classes-append class [] e all one = (one, tt)
classes-append class (first ∷ rest) e all one = (all.0, classes-append class rest e all.1 one)

-- where something is under way, one more event may wait
waits_behind : (suspended counted waits flushing forced posted : Bool) → (forced || (suspended || (flushing || waits))) ≡ true
    → legal_parts suspended counted waits flushing forced posted ≡ true → legal_parts suspended counted true flushing forced posted ≡ true
waits_behind suspended counted waits flushing forced posted busy legal = grind arith

pub legal_queued : {E : Type 0} (class : E → Class) (q : Queue E) (e : E) → LegalQueue class q → HasTarget (class e) → is_busy q ≡ true
    → LegalQueue class (record q { waiting = q.waiting ++ e ∷ [] })
legal_queued class q e legal one busy = record {
  legal = rw (has_some-append q.waiting e) (waits_behind q.suspended (nat_lt 0 q.count) (has_some q.waiting) (is_some q.flushing) (nat_lt 0 q.forced) (some_posted q.posted) busy legal.legal);
  targets = legal.targets;
  delivers = legal.delivers;
  flusher = legal.flusher;
  classes = classes-append class q.waiting e legal.classes one;
}

-- Posted tasks.

some_raised : (posted : List ℕ) (k : ℕ) → k < length posted → some_posted (slice_set posted k (slice_index posted k + 1)) ≡ true
some_raised [] k within = absurd (omega arith)
some_raised (n ∷ ns) zero within =
    let above : nat_lt 0 (n + 1) ≡ true = grind (arith, nat_tests) in rw above refl
some_raised (n ∷ ns) (suc k) within =
    let later = some_raised ns k (omega arith) in grind (arith, later)

-- with a task posted and the flag on, a queue is legal whatever else it is
posted_and_on : (counted waits flushing forced : Bool) → legal_parts true counted waits flushing forced true ≡ true
posted_and_on counted waits flushing forced = grind arith

pub legal_posted : {E : Type 0} (class : E → Class) (waiting : List E) (count : ℕ) (on : Bool) (forced : ℕ) (flushing : Option Target) (posted : List ℕ) (data_target to : Target)
    → on ≡ true → target_number to < 18 → length posted ≡ 18 → IsTarget data_target → FlushHasTarget flushing → AllHaveTargets class waiting
    → LegalQueue class (record { waiting = waiting; count = count; suspended = on; forced = forced; flushing = flushing; posted = raised posted to; data_target = data_target })
legal_posted class waiting count on forced flushing posted data_target to is_on within targets delivers flusher classes = record {
  legal = rw (is_on, some_raised posted (target_number to) (omega arith)) (posted_and_on (nat_lt 0 count) (has_some waiting) (is_some flushing) (nat_lt 0 forced));
  targets = simp length-set targets;
  delivers = delivers;
  flusher = flusher;
  classes = classes;
}

on_where_counted : (suspended waits flushing forced posted : Bool) → legal_parts suspended true waits flushing forced posted ≡ true → suspended ≡ true
on_where_counted suspended waits flushing forced posted legal = grind arith

-- where the count is above 0 the flag is on
pub counted_is_on : {E : Type 0} (class : E → Class) (q : Queue E) → LegalQueue class q → 0 < q.count → q.suspended ≡ true
counted_is_on class q legal counted =
    let above : nat_lt 0 q.count ≡ true = grind (arith, nat_tests) in
    on_where_counted q.suspended (has_some q.waiting) (is_some q.flushing) (nat_lt 0 q.forced) (some_posted q.posted) (rw above at legal.legal)
