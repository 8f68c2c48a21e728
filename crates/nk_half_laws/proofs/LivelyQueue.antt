-- A queue that is not forgotten: where events wait, a flush is under way, or the count or forced is above 0, or a task is
-- posted. Each rule of the queue machine keeps it.
use Rattle.std.proofs.Common.{ℕ, ◌≡◌, ◌+◌, ◌≤◌, refl, ◌∙◌, ap, List, [], ◌∷◌, ◌++◌, length, Bool, true, false, not, ◌&&◌, ◌||◌, Option, Some, None, is_some, ◌⊎◌, inl, inr, if◌then◌else◌, nat_lt, slice_index, ◌==◌, arith, ◌<◌, ◌-◌, set}
use Rattle.nk_base.specs.declared.status.Target.{Target}
use Rattle.nk_base.specs.Status.{ok}
use Rattle.nk_base.specs.Queue.{Queue, same_target, is_target, target_in, is_busy, has_some, appended, suspended_once, resumed_once, completed, unforced, prepended, cleared, retargeted, flush_ended, handed_over, target_number, raised, lowered, posted_first, may_flush}
use Rattle.nk_plan.specs.Child.{ChildState}
use Rattle.nk_plan.specs.declared.event.ChildEvent.{ChildEvent}
use Rattle.nk_plan.specs.declared.event.ChildEvent.TheVariants.{Start, Bytes, Stop, Redirect1, Redirect3, Cancel}
use Rattle.nk_plan.specs.Event.{class_of}
use Rattle.std.proofs.lemmas.List.{length-set, get_or-set_same, get_or-set_other, get_or_past}
use borrow.Author.Tests.{ltb-true}
use Rattle.std.proofs.lemmas.Bool.{eqb-true, eq-eqb, lt-ltb}
use Rattle.std.proofs.lemmas.Bool.Decides.{eqb_tells}
use Rattle.nk_base.specs.declared.status.Target.TheVariants as target
use Rattle.nk_half_laws.specs.Settled.{forced_by, FlushedBy}
use Rattle.nk_half_laws.proofs.Targets.{same_is, worker_number}
use Rattle.nk_half_laws.proofs.Tools.{by_bool, under_or_over}

pub same_number : (t u : Target) → same_target t u ≡ true → target_number t ≡ target_number u
same_number t u e = ap target_number (same_is t u e)

-- A queue that is not forgotten: where events wait, something will take them

-- a task is posted to some target
abbrev pub Posted : List ℕ → Type 0
Posted posted = (t : Target) × (0 < slice_index posted (target_number t))

abbrev pub Awake : Queue ChildEvent → Type 0
Awake q = (is_some q.flushing ≡ true) ⊎ ((0 < q.count) ⊎ ((0 < q.forced) ⊎ Posted q.posted))

pub target_some : (f : Option Target) (t : Target) → is_target f t ≡ true → is_some f ≡ true
target_some None t e = cc
target_some (Some u) t e = refl

-- tasks are posted to targets that events have, and flushes run on them
abbrev pub PostedOk : List ℕ → Type 0
PostedOk posted = (k : ℕ) → 0 < slice_index posted k → k < 17

abbrev pub FlushOk : Option Target → Type 0
FlushOk None = Unit {0}
FlushOk (Some t) = target_number t < 17

-- the tasks that are posted, each to a target that events have, and the target of data, which is one too
pub record Tasks (posted : List ℕ) (data_target : Target) : Type 0 where
  pub targets : length posted ≡ 18
  pub only : PostedOk posted
  pub delivers : target_number data_target < 17

pub record Lively (q : Queue ChildEvent) (forced : ℕ) (running : Option (Target × ChildEvent)) (suspends : ℕ) : Type 0 where
  pub count_is : q.count ≡ suspends
  pub forced_is : q.forced ≡ forced
  pub flush_is : FlushedBy running q.flushing
  pub alive : (q.waiting ≡ []) ⊎ Awake q
  pub flagged : q.suspended ≡ true → (0 < q.count) ⊎ Posted q.posted
  pub tasks : Tasks q.posted q.data_target
  pub flush_ok : FlushOk q.flushing

abbrev pub IsLively : ChildState → Type 0
IsLively s = Lively s.queue (forced_by s.running) s.running s.suspends

pub class_ok : (data_target : Target) (e : ChildEvent) → target_number data_target < 17
    → target_number (target_in data_target (class_of e)) < 17
class_ok d (Start code st) l = omega arith
class_ok d (Bytes o p st) l = l
class_ok d (Stop st) l = omega arith
class_ok d (Redirect1 h) l = omega arith
class_ok d (Redirect3 h) l = omega arith
class_ok d (Cancel st) l = omega arith

pub posted_raised : (posted : List ℕ) (t : Target) → length posted ≡ 18 → target_number t < 17 → Posted (raised posted t)
posted_raised posted t l n =
    let b : target_number t < length posted = omega arith in
    (t, rw (get_or-set_same posted (target_number t) (slice_index posted (target_number t) + 1) 0 b) (omega arith))

pub raised_len : (posted : List ℕ) (t : Target) → length posted ≡ 18 → length (raised posted t) ≡ 18
raised_len posted t l = length-set posted (target_number t) (slice_index posted (target_number t) + 1) ∙ l

pub lowered_at : (posted : List ℕ) (n k : ℕ) → k ≡ n → length posted ≡ 18 → (0 < slice_index posted k → k < 17)
    → 0 < slice_index (set posted n (slice_index posted n - 1)) k → k < 17
lowered_at posted n k e l f h = elim (under_or_over k (length posted)) [
  | inl b ↦
      let b1 : n < length posted = omega arith in
      let h1 : 0 < slice_index (set posted n (slice_index posted n - 1)) n = rw e at h in
      let h2 : 0 < slice_index posted n - 1 = rw (get_or-set_same posted n (slice_index posted n - 1) 0 b1) at h1 in
      f (rw e (omega arith))
  | inr b ↦
      let b1 : length (set posted n (slice_index posted n - 1)) ≤ k = rw (length-set posted n (slice_index posted n - 1)) b in
      let h1 : slice_index (set posted n (slice_index posted n - 1)) k ≡ 0 = get_or_past (set posted n (slice_index posted n - 1)) k 0 b1 in
      omega arith
]

pub raised_ok : (posted : List ℕ) (t : Target) → target_number t < 17 → PostedOk posted → PostedOk (raised posted t)
raised_ok posted t n ok k h = elim (eqb_tells k (target_number t)) [
  | inl x ↦ let e : k ≡ target_number t = eqb-true k (target_number t) x.0 in omega arith
  | inr x ↦ ok k (rw (get_or-set_other posted (target_number t) k (slice_index posted (target_number t) + 1) 0 x.1) at h)
]

pub lowered_ok : (posted : List ℕ) (t : Target) → length posted ≡ 18 → PostedOk posted → PostedOk (lowered posted t)
lowered_ok posted t l ok k h = elim (eqb_tells k (target_number t)) [
  | inl x ↦
      let e : k ≡ target_number t = eqb-true k (target_number t) x.0 in
      lowered_at posted (target_number t) k e l (λ z. ok k z) h
  | inr x ↦ ok k (rw (get_or-set_other posted (target_number t) k (slice_index posted (target_number t) - 1) 0 x.1) at h)
]

raised_tasks : (posted : List ℕ) (d : Target) (e : ChildEvent) → Tasks posted d → Tasks (raised posted (target_in d (class_of e))) d
raised_tasks posted d e k = record {
  targets = raised_len posted (target_in d (class_of e)) k.targets;
  only = raised_ok posted (target_in d (class_of e)) (class_ok d e k.delivers) k.only;
  delivers = k.delivers;
}

lowered_tasks : (posted : List ℕ) (d t : Target) → Tasks posted d → Tasks (lowered posted t) d
lowered_tasks posted d t k = record {
  targets = length-set posted (target_number t) (slice_index posted (target_number t) - 1) ∙ k.targets;
  only = lowered_ok posted t k.targets k.only;
  delivers = k.delivers;
}

pub by_parts : {P : Type 0} (a b d e : Bool) → (a || (b || (d || e))) ≡ true → (a ≡ true → P) → (b ≡ true → P) → (d ≡ true → P)
    → (e ≡ true → P) → P
by_parts true b d e h p q r s = p refl
by_parts false true d e h p q r s = q refl
by_parts false false true e h p q r s = r refl
by_parts false false false true h p q r s = s refl
by_parts false false false false h p q r s = absurd (cc)

pub no_wait : (w : List ChildEvent) → w ≡ [] → has_some w ≡ true → ⊥
no_wait [] e h = cc
no_wait (x ∷ w) e h = cc

pub not_both : (b : Bool) → (b && false) ≡ true → ⊥
not_both true h = cc
not_both false h = cc

pub busy_awake : (f : ℕ) (q : Queue ChildEvent) (r : Option (Target × ChildEvent)) (n : ℕ) → is_busy q ≡ true → Lively q f r n → Awake q
busy_awake f q r n e l =
    by_parts (nat_lt 0 q.forced) q.suspended (is_some q.flushing) (has_some q.waiting) e
    (λ x. inr (inr (inl (ltb-true 0 q.forced x))))
    (λ x. elim (l.flagged x) [ inl c ↦ inr (inl c) | inr p ↦ inr (inr (inr p)) ])
    (λ x. inl x)
    (λ x. elim l.alive [ inl w ↦ absurd (no_wait q.waiting w x) | inr a ↦ a ])

-- an event joins those that wait
pub joined_by : Bool → Queue ChildEvent → ChildEvent → Queue ChildEvent
joined_by b q e = record q {
  waiting = q.waiting ++ e ∷ [];
  suspended = if b then q.suspended else true;
  posted = if b then q.posted else raised q.posted (target_in q.data_target (class_of e));
}

pub joined_lively : (b : Bool) (f : ℕ) (q : Queue ChildEvent) (e : ChildEvent) (r : Option (Target × ChildEvent)) (n : ℕ)
    → (b ≡ true → Awake q) → Lively q f r n → Lively (joined_by b q e) f r n
unfolding joined_by
joined_lively true f q e r n a l = record {
  count_is = l.count_is;
  forced_is = l.forced_is;
  flush_is = l.flush_is;
  alive = inr (a refl);
  flagged = l.flagged;
  tasks = l.tasks;
  flush_ok = l.flush_ok;
}
joined_lively false f q e r n a l =
    let u : Target = target_in q.data_target (class_of e) in
    let p : Posted (raised q.posted u) = posted_raised q.posted u l.tasks.targets (class_ok q.data_target e l.tasks.delivers) in
    record {
      count_is = l.count_is;
      forced_is = l.forced_is;
      flush_is = l.flush_is;
      alive = inr (inr (inr (inr p)));
      flagged = λ x. inr p;
      tasks = raised_tasks q.posted q.data_target e l.tasks;
      flush_ok = l.flush_ok;
    }

pub appended_lively : (f : ℕ) (q : Queue ChildEvent) (e : ChildEvent) (r : Option (Target × ChildEvent)) (n : ℕ) → Lively q f r n
    → Lively (appended class_of q e) f r n
unfolding joined_by
appended_lively f q e r n l = joined_lively (is_busy q) f q e r n (λ x. busy_awake f q r n x l) l

pub suspended_lively : (f : ℕ) (q : Queue ChildEvent) (r : Option (Target × ChildEvent)) (n : ℕ) → Lively q f r n
    → Lively (suspended_once q) f r (n + 1)
suspended_lively f q r n l = record {
  count_is = ap (λ t. t + 1) l.count_is;
  forced_is = l.forced_is;
  flush_is = l.flush_is;
  alive = inr (inr (inl (omega arith)));
  flagged = λ x. inl (omega arith);
  tasks = l.tasks;
  flush_ok = l.flush_ok;
}

-- the last or another resume: one says whether the count was 1, above and none whether forced is
pub resumed_by : Bool → Bool → Bool → Queue ChildEvent → List ChildEvent → Queue ChildEvent
resumed_by one above none q w = record q {
  count = q.count - 1;
  suspended = q.suspended && not (one && (not (has_some w) || above));
  posted = if one && (has_some w && none) then posted_first class_of q.data_target q.posted w else q.posted;
}

pub resumed_by_lively : (one above none : Bool) (f : ℕ) (q : Queue ChildEvent) (r : Option (Target × ChildEvent)) (n : ℕ)
    (w : List ChildEvent)
    → q.waiting ≡ w → (none ≡ false → (above ≡ true) × (0 < q.forced)) → (one ≡ false → 1 < q.count) → Lively q f r n
    → Lively (resumed_by one above none q w) f r (n - 1)
unfolding resumed_by
resumed_by_lively false above none f q r n w ew ef two l =
    let m : 1 < q.count = two refl in
    record {
      count_is = ap (λ t. t - 1) l.count_is;
      forced_is = l.forced_is;
      flush_is = l.flush_is;
      alive = inr (inr (inl (omega arith)));
      flagged = λ x. inl (omega arith);
      tasks = l.tasks;
      flush_ok = l.flush_ok;
    }
resumed_by_lively true above none f q r n [] ew ef two l = record {
  count_is = ap (λ t. t - 1) l.count_is;
  forced_is = l.forced_is;
  flush_is = l.flush_is;
  alive = inl ew;
  flagged = λ x. absurd (not_both q.suspended x);
  tasks = l.tasks;
  flush_ok = l.flush_ok;
}
resumed_by_lively true above true f q r n (e ∷ w) ew ef two l =
    let u : Target = target_in q.data_target (class_of e) in
    let p : Posted (raised q.posted u) = posted_raised q.posted u l.tasks.targets (class_ok q.data_target e l.tasks.delivers) in
    record {
      count_is = ap (λ t. t - 1) l.count_is;
      forced_is = l.forced_is;
      flush_is = l.flush_is;
      alive = inr (inr (inr (inr p)));
      flagged = λ x. inr p;
      tasks = raised_tasks q.posted q.data_target e l.tasks;
      flush_ok = l.flush_ok;
    }
resumed_by_lively true true false f q r n (e ∷ w) ew ef two l =
    let a : 0 < q.forced = (ef refl).1 in
    record {
      count_is = ap (λ t. t - 1) l.count_is;
      forced_is = l.forced_is;
      flush_is = l.flush_is;
      alive = inr (inr (inr (inl a)));
      flagged = λ x. absurd (not_both q.suspended x);
      tasks = l.tasks;
      flush_ok = l.flush_ok;
    }
resumed_by_lively true false false f q r n (e ∷ w) ew ef two l = let x : false ≡ true = (ef refl).0 in absurd (cc)

-- a number is 0 or not
pub none_or : (n : ℕ) → (n == 0) ≡ false → (nat_lt 0 n ≡ true) × (0 < n)
none_or n e = elim (eqb_tells n 0) [
  | inl x ↦ let y : (n == 0) ≡ true = x.0 in absurd (cc)
  | inr x ↦ let ne : n ≡ 0 → ⊥ = x.1 in let l : 0 < n = omega arith in (lt-ltb 0 n l, l)
]

pub more_than_one : (n : ℕ) → 0 < n → (n == 1) ≡ false → 1 < n
more_than_one n l e = elim (eqb_tells n 1) [
  | inl x ↦ let y : (n == 1) ≡ true = x.0 in absurd (cc)
  | inr x ↦ let ne : n ≡ 1 → ⊥ = x.1 in omega arith
]

pub resumed_lively : (f : ℕ) (q : Queue ChildEvent) (r : Option (Target × ChildEvent)) (n : ℕ) → 0 < n → Lively q f r n
    → Lively (resumed_once class_of q) f r (n - 1)
unfolding resumed_by
resumed_lively f q r n p l =
    let c : q.count ≡ n = l.count_is in
    resumed_by_lively (q.count == 1) (nat_lt 0 q.forced) (q.forced == 0) f q r n q.waiting refl (none_or q.forced)
    (more_than_one q.count (omega arith)) l

pub prepended_lively : (f : ℕ) (q : Queue ChildEvent) (e : ChildEvent) (r : Option (Target × ChildEvent)) (n : ℕ) → 0 < n → Lively q f r n
    → Lively (prepended q e) f r n
prepended_lively f q e r n p l =
    let c : q.count ≡ n = l.count_is in
    record {
      count_is = l.count_is;
      forced_is = l.forced_is;
      flush_is = l.flush_is;
      alive = inr (inr (inl (omega arith)));
      flagged = l.flagged;
      tasks = l.tasks;
      flush_ok = l.flush_ok;
    }

pub cleared_lively : (f : ℕ) (q : Queue ChildEvent) (r : Option (Target × ChildEvent)) (n : ℕ) → Lively q f r n → Lively (cleared q) f r n
cleared_lively f q r n l = record {
  count_is = l.count_is;
  forced_is = l.forced_is;
  flush_is = l.flush_is;
  alive = inl refl;
  flagged = l.flagged;
  tasks = l.tasks;
  flush_ok = l.flush_ok;
}

pub retargeted_lively : (f : ℕ) (q : Queue ChildEvent) (r : Option (Target × ChildEvent)) (n w : ℕ) → (1 ≤ w) × (w ≤ 16) → Lively q f r n
    → Lively (retargeted q (target.Worker w)) f r n
retargeted_lively f q r n w p l = record {
  count_is = l.count_is;
  forced_is = l.forced_is;
  flush_is = l.flush_is;
  alive = l.alive;
  flagged = l.flagged;
  tasks = record {
    targets = l.tasks.targets;
    only = l.tasks.only;
    delivers = (let e : target_number (target.Worker w) ≡ w = worker_number w p.0 p.1 in omega arith);
  };
  flush_ok = l.flush_ok;
}

pub idle_lively : (f : ℕ) (q : Queue ChildEvent) (r : Option (Target × ChildEvent)) (n : ℕ) → Lively q f r n → Lively q f None n
idle_lively f q r n l = record {
  count_is = l.count_is;
  forced_is = l.forced_is;
  flush_is = tt;
  alive = l.alive;
  flagged = l.flagged;
  tasks = l.tasks;
  flush_ok = l.flush_ok;
}

-- beginning a flush where events wait: the parts of the condition
pub flush_by : Bool → Option Target → Target → Option Target
flush_by b f here = if b then Some here else f

pub flush_some : (b : Bool) (f : Option Target) (here : Target) → b ≡ true → is_some (flush_by b f here) ≡ true
unfolding flush_by
flush_some true f here e = refl
flush_some false f here e = cc

pub flush_kept : (b : Bool) (f : Option Target) (here : Target) → is_some f ≡ true → is_some (flush_by b f here) ≡ true
unfolding flush_by
flush_kept true f here e = refl
flush_kept false f here e = e

pub flushed_kept : (b : Bool) (r : Option (Target × ChildEvent)) (f : Option Target) (here : Target) → (b ≡ true → is_some f ≡ false)
    → FlushedBy r f → FlushedBy r (flush_by b f here)
unfolding flush_by
flushed_kept b None f here n h = tt
flushed_kept true (Some x) f here n h = let y : is_some f ≡ false = n refl in let z : is_some f ≡ true = target_some f x.0 h in absurd (cc)
flushed_kept false (Some x) f here n h = h

pub flush_by_ok : (b : Bool) (f : Option Target) (here : Target) → target_number here < 17 → FlushOk f → FlushOk (flush_by b f here)
unfolding flush_by
flush_by_ok true f here n h = n
flush_by_ok false f here n h = h

pub flush_test : (none : Bool) (f : Option Target) (flag : Bool) (w : List ChildEvent)
    → (none && (not (is_some f) && (not flag && has_some w))) ≡ true → is_some f ≡ false
flush_test true None flag w e = refl
flush_test true (Some x) flag w e = cc
flush_test false f flag w e = cc

-- why no flush begins: forced is above 0, a flush is under way, the flag is on, or nothing waits
pub flush_not : {P : Type 0} (none : Bool) (f : Option Target) (flag : Bool) (w : List ChildEvent)
    → (none && (not (is_some f) && (not flag && has_some w))) ≡ false
    → (none ≡ false → P) → (is_some f ≡ true → P) → (flag ≡ true → P) → (w ≡ [] → P) → P
flush_not false f flag w e p q r s = p refl
flush_not true (Some x) flag w e p q r s = q refl
flush_not true None true w e p q r s = r refl
flush_not true None false [] e p q r s = s refl
flush_not true None false (x ∷ w) e p q r s = absurd (cc)

pub unforced_lively : (q : Queue ChildEvent) (r : Option (Target × ChildEvent)) (n : ℕ) (here : Target) → target_number here < 17
    → Lively q 1 r n → Lively (unforced q here) 0 r n
unfolding flush_by
unforced_lively q r n here ok l =
    let one : q.forced ≡ 1 = l.forced_is in
    let b : Bool = may_flush q q.suspended (q.forced - 1) in
    let zero_is : (q.forced - 1) ≡ 0 = omega arith in
    let none : (q.forced - 1 == 0) ≡ true = eq-eqb (q.forced - 1) 0 zero_is in
    let alive : (q.waiting ≡ []) ⊎ Awake (unforced q here) =
    by_bool b
    (λ e. inr (inl (flush_some b q.flushing here e)))
    (λ e. flush_not (q.forced - 1 == 0) q.flushing q.suspended q.waiting e
    (λ x. absurd (cc))
    (λ x. inr (inl (flush_kept b q.flushing here x)))
    (λ x. elim (l.flagged x) [ inl c ↦ inr (inr (inl c)) | inr p ↦ inr (inr (inr (inr p))) ])
    (λ x. inl x)) in
    record {
      count_is = l.count_is;
      forced_is = zero_is;
      flush_is = flushed_kept b r q.flushing here (λ e. flush_test (q.forced - 1 == 0) q.flushing q.suspended q.waiting e) l.flush_is;
      alive = alive;
      flagged = l.flagged;
      tasks = l.tasks;
      flush_ok = flush_by_ok b q.flushing here ok l.flush_ok;
    }

pub completed_by : Bool → Queue ChildEvent → Target → Queue ChildEvent
completed_by none q here = record q {
  posted = lowered q.posted here;
  suspended = if none then false else q.suspended;
  flushing = if none && may_flush q false q.forced then Some here else q.flushing;
}

pub above : (n : ℕ) → (n == 0) ≡ false → 0 < n
above n e = (none_or n e).1

pub completed_by_lively : (none : Bool) (f : ℕ) (q : Queue ChildEvent) (r : Option (Target × ChildEvent)) (n : ℕ) (here : Target)
    → target_number here < 17 → (none ≡ false → 0 < q.count) → Lively q f r n → Lively (completed_by none q here) f r n
unfolding completed_by flush_by
completed_by_lively false f q r n here ok a l = record {
  count_is = l.count_is;
  forced_is = l.forced_is;
  flush_is = l.flush_is;
  alive = inr (inr (inl (a refl)));
  flagged = λ x. inl (a refl);
  tasks = lowered_tasks q.posted q.data_target here l.tasks;
  flush_ok = l.flush_ok;
}
completed_by_lively true f q r n here ok a l =
    let b : Bool = may_flush q false q.forced in
    let alive : (q.waiting ≡ []) ⊎ Awake (completed_by true q here) =
    by_bool b
    (λ e. inr (inl (flush_some b q.flushing here e)))
    (λ e. flush_not (q.forced == 0) q.flushing false q.waiting e
    (λ x. inr (inr (inr (inl (above q.forced x)))))
    (λ x. inr (inl (flush_kept b q.flushing here x)))
    (λ x. absurd (cc))
    (λ x. inl x)) in
    record {
      count_is = l.count_is;
      forced_is = l.forced_is;
      flush_is = flushed_kept b r q.flushing here (λ e. flush_test (q.forced == 0) q.flushing false q.waiting e) l.flush_is;
      alive = alive;
      flagged = λ x. absurd (cc);
      tasks = lowered_tasks q.posted q.data_target here l.tasks;
      flush_ok = flush_by_ok b q.flushing here ok l.flush_ok;
    }

pub completed_lively : (f : ℕ) (q : Queue ChildEvent) (r : Option (Target × ChildEvent)) (n : ℕ) (here : Target) → target_number here < 17
    → Lively q f r n → Lively (completed q here) f r n
unfolding completed_by
completed_lively f q r n here ok l = completed_by_lively (q.count == 0) f q r n here ok (above q.count) l

pub by_or : {P : Type 0} (a b : Bool) → (a || b) ≡ true → (a ≡ true → P) → (b ≡ true → P) → P
by_or true b h p q = p refl
by_or false b h p q = q h

pub ended_lively : (f : ℕ) (q : Queue ChildEvent) (n : ℕ) → (q.waiting ≡ []) ⊎ ((q.suspended || nat_lt 0 q.forced) ≡ true)
    → Lively q f None n → Lively (flush_ended q) f None n
ended_lively f q n w l = record {
  count_is = l.count_is;
  forced_is = l.forced_is;
  flush_is = tt;
  flagged = l.flagged;
  tasks = l.tasks;
  flush_ok = tt;
  alive = elim w [
    | inl x ↦ inl x
    | inr x ↦ by_or q.suspended (nat_lt 0 q.forced) x
        (λ y. elim (l.flagged y) [ inl c ↦ inr (inr (inl c)) | inr p ↦ inr (inr (inr (inr p))) ])
        (λ y. inr (inr (inr (inl (ltb-true 0 q.forced y)))))
  ];
}

pub over_lively : (f : ℕ) (q : Queue ChildEvent) (n : ℕ) (e : ChildEvent) → Lively q f None n
    → Lively (handed_over q (target_in q.data_target (class_of e))) f None n
over_lively f q n e l =
    let u : Target = target_in q.data_target (class_of e) in
    let p : Posted (raised q.posted u) = posted_raised q.posted u l.tasks.targets (class_ok q.data_target e l.tasks.delivers) in
    record {
      count_is = l.count_is;
      forced_is = l.forced_is;
      flush_is = tt;
      alive = inr (inr (inr (inr p)));
      flagged = λ x. inr p;
      tasks = raised_tasks q.posted q.data_target e l.tasks;
      flush_ok = tt;
    }

pub flushing_lively : (f : ℕ) (q : Queue ChildEvent) (n : ℕ) (w : List ChildEvent) (t : Target) → target_number t < 17 → Lively q f None n
    → Lively (record q { waiting = w; flushing = Some t }) f None n
flushing_lively f q n w t ok l = record {
  count_is = l.count_is;
  forced_is = l.forced_is;
  flush_is = tt;
  alive = inr (inl refl);
  flagged = l.flagged;
  tasks = l.tasks;
  flush_ok = ok;
}
