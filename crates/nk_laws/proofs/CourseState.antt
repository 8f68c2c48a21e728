-- How the load of a calm plan goes on, seen by its child: quiet, going on, with a failure and its cause, or closing.
use Rattle.std.proofs.Common.{ℕ, suc, ◌≡◌, ◌+◌, ◌≤◌, refl, sym, ◌∙◌, ap, subst, List, [], ◌∷◌, ◌++◌, Bool, true, false, Option, Some, None, ◌⊎◌, inl, arith, zero-add}
use Rattle.nk_base.specs.declared.status.Status.{Status}
use Rattle.nk_base.specs.declared.status.Target.{Target}
use Rattle.nk_base.specs.declared.message.MainMsg.{MainMsg}
use Rattle.nk_base.specs.declared.message.BackMsg.{BackMsg}
use Rattle.nk_base.specs.declared.message.UpMsg.{UpMsg}
use Rattle.nk_base.specs.declared.message.Entry.{Entry}
use Rattle.nk_plan.specs.declared.plan.ChannelPlan.{ChannelPlan}
use Rattle.nk_plan.specs.declared.plan.Reaction.{Reaction}
use Rattle.nk_base.specs.Status.{is_failure, kept_status, merged}
use Rattle.nk_plan.specs.Plan.{hop_at}
use Rattle.nk_plan.specs.Child.{cancel_messages, ChildState, bytes_failure, hop_verdict}
use Rattle.nk_plan.specs.declared.event.ChildEvent.{ChildEvent}
use Rattle.nk_plan.specs.declared.event.ChildEvent.TheVariants.{Start, Bytes, Stop, Redirect1, Redirect3, Cancel}
use Rattle.nk_laws.proofs.Tools.{append_nil, by_bool}
use Rattle.nk_plan.specs.Calm.{start_reaction}
use Rattle.nk_laws.proofs.Order.{NoCancel, CancelsFirst}
use Rattle.nk_laws.proofs.Tally.{has_stop}
use Rattle.nk_base.specs.declared.message.MainMsg.TheVariants as main
use Rattle.nk_base.specs.declared.message.BackMsg.TheVariants as back
use Rattle.nk_base.specs.declared.message.UpMsg.TheVariants as up
use Rattle.nk_base.specs.declared.message.Entry.TheVariants as shown

-- How a load of a calm plan goes on, seen by its child

-- a trace that is none of one start, then data, then one stop
abbrev pub has_any : List Entry → Bool
has_any [] = false
has_any (e ∷ t) = true

abbrev pub odd_body : List Entry → Bool
odd_body [] = false
odd_body (shown.Start code s ∷ t) = true
odd_body (shown.Bytes o p ∷ t) = odd_body t
odd_body (shown.Stop s trailers ∷ t) = has_any t

abbrev pub odd : List Entry → Bool
odd [] = false
odd (shown.Start code s ∷ t) = odd_body t
odd (shown.Bytes o p ∷ t) = true
odd (shown.Stop s trailers ∷ t) = true

abbrev pub data_count : List Entry → ℕ
data_count [] = 0
data_count (shown.Start code s ∷ t) = data_count t
data_count (shown.Bytes o p ∷ t) = suc (data_count t)
data_count (shown.Stop s trailers ∷ t) = data_count t

-- the status of the start
abbrev pub HeadIs : Status → List Entry → Type 0
HeadIs E [] = Unit {0}
HeadIs E (shown.Start code s ∷ t) = s ≡ E
HeadIs E (shown.Bytes o p ∷ t) = Unit {0}
HeadIs E (shown.Stop s trailers ∷ t) = Unit {0}

pub any_more : (t : List Entry) (x : Entry) → has_any (t ++ x ∷ []) ≡ true
any_more [] x = refl
any_more (e ∷ t) x = refl

pub odd_body_more : (t : List Entry) (x : Entry) → odd_body t ≡ true → odd_body (t ++ x ∷ []) ≡ true
odd_body_more [] x e = cc
odd_body_more (shown.Start code s ∷ t) x e = refl
odd_body_more (shown.Bytes o p ∷ t) x e = odd_body_more t x e
odd_body_more (shown.Stop s trailers ∷ t) x e = any_more t x

pub odd_more : (t : List Entry) (x : Entry) → odd t ≡ true → odd (t ++ x ∷ []) ≡ true
odd_more [] x e = cc
odd_more (shown.Start code s ∷ t) x e = odd_body_more t x e
odd_more (shown.Bytes o p ∷ t) x e = refl
odd_more (shown.Stop s trailers ∷ t) x e = refl

pub odd_body_start : (t : List Entry) (code : ℕ) (s : Status) → odd_body (t ++ shown.Start code s ∷ []) ≡ true
odd_body_start [] code s = refl
odd_body_start (shown.Start code1 s1 ∷ t) code s = refl
odd_body_start (shown.Bytes o p ∷ t) code s = odd_body_start t code s
odd_body_start (shown.Stop s1 trailers ∷ t) code s = any_more t (shown.Start code s)

-- a start is shown first
pub odd_start : (t : List Entry) (code : ℕ) (s : Status) → odd (t ++ shown.Start code s ∷ []) ≡ false → t ≡ []
odd_start [] code s e = refl
odd_start (shown.Start code1 s1 ∷ t) code s e = let x : odd_body (t ++ shown.Start code s ∷ []) ≡ true = odd_body_start t code s in absurd (cc)
odd_start (shown.Bytes o p ∷ t) code s e = cc
odd_start (shown.Stop s1 trailers ∷ t) code s e = cc

pub odd_body_open : (t : List Entry) (x : Entry) → odd_body (t ++ x ∷ []) ≡ false → has_stop t ≡ false
odd_body_open [] x e = refl
odd_body_open (shown.Start code1 s1 ∷ t) x e = cc
odd_body_open (shown.Bytes o p ∷ t) x e = odd_body_open t x e
odd_body_open (shown.Stop s1 trailers ∷ t) x e = let y : has_any (t ++ x ∷ []) ≡ true = any_more t x in absurd (cc)

-- data and a stop are shown between the start and the stop
pub odd_bytes : (t : List Entry) (o : ℕ) (p : List ℕ) → odd (t ++ shown.Bytes o p ∷ []) ≡ false → (t ≡ [] → ⊥) × (has_stop t ≡ false)
odd_bytes [] o p e = cc
odd_bytes (shown.Start code1 s1 ∷ t) o p e = (λ x. cc, odd_body_open t (shown.Bytes o p) e)
odd_bytes (shown.Bytes o1 p1 ∷ t) o p e = cc
odd_bytes (shown.Stop s1 trailers ∷ t) o p e = cc

pub odd_stop : (t : List Entry) (s : Status) (l : List _) → odd (t ++ shown.Stop s l ∷ []) ≡ false → (t ≡ [] → ⊥) × (has_stop t ≡ false)
odd_stop [] s l e = cc
odd_stop (shown.Start code1 s1 ∷ t) s l e = (λ x. cc, odd_body_open t (shown.Stop s l) e)
odd_stop (shown.Bytes o1 p1 ∷ t) s l e = cc
odd_stop (shown.Stop s1 trailers ∷ t) s l e = cc

pub count_then : (t : List Entry) (x : Entry) → data_count (t ++ x ∷ []) ≡ data_count t + data_count (x ∷ [])
count_then [] x = sym (zero-add (data_count (x ∷ [])))
count_then (shown.Start code s ∷ t) x = count_then t x
count_then (shown.Bytes o p ∷ t) x = let h : data_count (t ++ x ∷ []) ≡ data_count t + data_count (x ∷ []) = count_then t x in omega arith
count_then (shown.Stop s trailers ∷ t) x = count_then t x

pub head_then : (E : Status) (t : List Entry) (x : Entry) → (t ≡ [] → HeadIs E (x ∷ [])) → HeadIs E t → HeadIs E (t ++ x ∷ [])
head_then E [] x f h = f refl
head_then E (shown.Start code s ∷ t) x f h = h
head_then E (shown.Bytes o p ∷ t) x f h = tt
head_then E (shown.Stop s trailers ∷ t) x f h = tt

pub not_empty : (t : List Entry) (x : Entry) → t ++ x ∷ [] ≡ [] → ⊥
not_empty [] x e = cc
not_empty (y ∷ t) x e = cc

-- What is to come

abbrev pub RightEvent : Status → (Status → Type 0) → Type 0 → ChildEvent → Type 0
RightEvent E T G (Start code st) = (st ≡ E) × G
RightEvent E T G (Bytes o p st) = is_failure st ≡ false
RightEvent E T G (Stop st) = T st
RightEvent E T G (Redirect1 h) = Unit {0}
RightEvent E T G (Redirect3 h) = Unit {0}
RightEvent E T G (Cancel st) = Unit {0}

abbrev pub RightEvents : Status → (Status → Type 0) → Type 0 → List ChildEvent → Type 0
RightEvents E T G [] = Unit {0}
RightEvents E T G (e ∷ es) = RightEvent E T G e × RightEvents E T G es

abbrev pub RightBack : Status → (Status → Type 0) → Type 0 → BackMsg → Type 0
RightBack E T G (back.Start h st head) = (st ≡ E) × G
RightBack E T G (back.StartSent h) = Unit {0}
RightBack E T G (back.Bytes h st o p) = is_failure st ≡ false
RightBack E T G (back.Stop h st trailers) = T st

abbrev pub RightBacks : Status → (Status → Type 0) → Type 0 → List BackMsg → Type 0
RightBacks E T G [] = Unit {0}
RightBacks E T G (m ∷ ms) = RightBack E T G m × RightBacks E T G ms

abbrev pub RightMain : Status → (Status → Type 0) → Type 0 → MainMsg → Type 0
RightMain E T G (main.Start h st head) = (st ≡ E) × G
RightMain E T G (main.FailedOpen h st) = (st ≡ E) × G × T st
RightMain E T G (main.Redirect1 h code) = Unit {0}
RightMain E T G (main.Redirect3 h) = Unit {0}

abbrev pub RightMains : Status → (Status → Type 0) → Type 0 → List MainMsg → Type 0
RightMains E T G [] = Unit {0}
RightMains E T G (m ∷ ms) = RightMain E T G m × RightMains E T G ms

-- what a child says before its start: verdicts of the plan and no cancel
abbrev pub RightUp : ChannelPlan → UpMsg → Type 0
RightUp c up.Open = Unit {0}
RightUp c up.Suspend = Unit {0}
RightUp c up.Resume = Unit {0}
RightUp c (up.Cancel st) = ⊥
RightUp c (up.Verify h st) = st ≡ hop_verdict (hop_at c h)
RightUp c (up.BytesRead n) = Unit {0}
RightUp c up.Deleting = Unit {0}

abbrev pub RightUps : ChannelPlan → List UpMsg → Type 0
RightUps c [] = Unit {0}
RightUps c (m ∷ u) = RightUp c m × RightUps c u

abbrev pub NoCancelUp : UpMsg → Type 0
NoCancelUp up.Open = Unit {0}
NoCancelUp up.Suspend = Unit {0}
NoCancelUp up.Resume = Unit {0}
NoCancelUp (up.Cancel st) = ⊥
NoCancelUp (up.Verify h st) = Unit {0}
NoCancelUp (up.BytesRead n) = Unit {0}
NoCancelUp up.Deleting = Unit {0}

abbrev pub Silent : List UpMsg → Type 0
Silent [] = Unit {0}
Silent (m ∷ u) = NoCancelUp m × Silent u

pub right_then : (c : ChannelPlan) (u : List UpMsg) (m : UpMsg) → RightUps c u → RightUp c m → RightUps c (u ++ m ∷ [])
right_then c [] m h r = (r, tt)
right_then c (x ∷ u) m h r = (h.0, right_then c u m h.1 r)

pub silent_then : (u : List UpMsg) (m : UpMsg) → Silent u → NoCancelUp m → Silent (u ++ m ∷ [])
silent_then [] m h r = (r, tt)
silent_then (x ∷ u) m h r = (h.0, silent_then u m h.1 r)

pub right_silent_one : (c : ChannelPlan) (m : UpMsg) → RightUp c m → NoCancelUp m
right_silent_one c up.Open r = tt
right_silent_one c up.Suspend r = tt
right_silent_one c up.Resume r = tt
right_silent_one c (up.Cancel st) r = r
right_silent_one c (up.Verify h st) r = tt
right_silent_one c (up.BytesRead n) r = tt
right_silent_one c up.Deleting r = tt

pub right_silent : (c : ChannelPlan) (u : List UpMsg) → RightUps c u → Silent u
right_silent c [] r = tt
right_silent c (m ∷ u) r = (right_silent_one c m r.0, right_silent c u r.1)

-- how many pieces these events and messages have
abbrev pub event_bytes : ChildEvent → ℕ
event_bytes (Start code st) = 0
event_bytes (Bytes o p st) = 1
event_bytes (Stop st) = 0
event_bytes (Redirect1 h) = 0
event_bytes (Redirect3 h) = 0
event_bytes (Cancel st) = 0

abbrev pub events_bytes : List ChildEvent → ℕ
events_bytes [] = 0
events_bytes (e ∷ es) = event_bytes e + events_bytes es

abbrev pub back_bytes : BackMsg → ℕ
back_bytes (back.Start h st head) = 0
back_bytes (back.StartSent h) = 0
back_bytes (back.Bytes h st o p) = 1
back_bytes (back.Stop h st trailers) = 0

abbrev pub backs_bytes : List BackMsg → ℕ
backs_bytes [] = 0
backs_bytes (m ∷ ms) = back_bytes m + backs_bytes ms

abbrev pub NoFail : List Reaction → ℕ → Type 0
NoFail rs n = (i : ℕ) → 1 ≤ i → i ≤ n → bytes_failure rs i ≡ None

-- what runs, after n pieces
abbrev pub RunOk : List Reaction → Option (Target × ChildEvent) → ℕ → Bool → Type 0
RunOk rs None n stopped = (start_reaction rs ≡ None) × NoFail rs n
RunOk rs (Some (t, Start code st)) n stopped = (n ≡ 0) × (stopped ≡ false)
RunOk rs (Some (t, Bytes o p st)) n stopped = (start_reaction rs ≡ None) × (stopped ≡ false) × (m : ℕ) × (n ≡ suc m) × NoFail rs m
RunOk rs (Some (t, Stop st)) n stopped = (start_reaction rs ≡ None) × NoFail rs n
RunOk rs (Some (t, Redirect1 h)) n stopped = ⊥
RunOk rs (Some (t, Redirect3 h)) n stopped = ⊥
RunOk rs (Some (t, Cancel st)) n stopped = ⊥

-- why q was kept, after n pieces
abbrev pub Caused : List Reaction → Status → Status → ℕ → Type 0
Caused rs E q n =
    ((is_failure E ≡ true) × (q ≡ E) × (n ≡ 0))
    ⊎ (((is_failure E ≡ false) × (start_reaction rs ≡ Some q) × (n ≡ 0))
    ⊎ ((is_failure E ≡ false) × (start_reaction rs ≡ None) × (m : ℕ) × (n ≡ suc m) × NoFail rs m × (bytes_failure rs n ≡ Some q)))

pub data Course (c : ChannelPlan) (E : Status) (T : Status → Type 0) (G : Type 0) (trace : List Entry) (kept : Option Status) (stopped : Bool) (r : Option (Target × ChildEvent)) (w : List ChildEvent) (n : ℕ) (u : List UpMsg) (S : Type 0) : Type 0 where
  Quiet : (empty : trace ≡ []) → (none : kept ≡ None) → (idle : r ≡ None) → (no_cancel : NoCancel w) → (zero_is : n ≡ 0) → (right : RightUps c u) → (sum : S) → Course c E T G trace kept stopped r w n u S
  Going : (gate : G) → (step_begin : trace ≡ [] → ⊥) → (none : kept ≡ None) → (good : is_failure E ≡ false) → (no_cancel : NoCancel w) → (runs : RunOk c.reactions r n stopped) → (silent : Silent u) → (sum : S) → Course c E T G trace kept stopped r w n u S
  Pending : (gate : G) → (step_begin : trace ≡ [] → ⊥) → (none : kept ≡ None) → (good : is_failure E ≡ false) → (open_is : stopped ≡ false) → (idle : r ≡ None) → (q : Status) → (rest : List ChildEvent) → (front : w ≡ Cancel q ∷ rest) → (fails : is_failure q ≡ true) → (why : Caused c.reactions E q n) → Course c E T G trace kept stopped r w n u S
  Kept : (gate : G) → (q : Status) → (step_begin : trace ≡ [] → ⊥) → (some : kept ≡ Some q) → (why : Caused c.reactions E q n) → Course c E T G trace kept stopped r w n u S
  Closing : (gate : G) → (q : Status) → (step_begin : trace ≡ [] → ⊥) → (some : kept ≡ Some q) → (fails : is_failure q ≡ true) → (good : is_failure E ≡ false) → (start_none : start_reaction c.reactions ≡ None) → (none_fails : NoFail c.reactions n) → (told : T q) → (silent : Silent u) → (stop_is : stopped ≡ true) → (sum : S) → Course c E T G trace kept stopped r w n u S
  Odd : (is_odd : odd trace ≡ true) → Course c E T G trace kept stopped r w n u S

pub record Calms (c : ChannelPlan) (E : Status) (T : Status → Type 0) (G : Type 0) (trace : List Entry) (kept : Option Status) (stopped broken : Bool) (suspends : ℕ) (r : Option (Target × ChildEvent)) (w : List ChildEvent) (held : List BackMsg) (n : ℕ) (u : List UpMsg) (pend : List ChildEvent) (total : ℕ) : Type 0 where
  pub right_waiting : RightEvents E T G w
  pub cancels_first : CancelsFirst w
  pub right_held : RightBacks E T G held
  pub right_pend : RightEvents E T G pend
  pub no_suspend : suspends ≡ 0
  pub unbroken : broken ≡ false
  pub head_is : HeadIs E trace
  pub data_is : data_count trace ≡ n
  pub stop_is : has_stop trace ≡ stopped
  pub course : Course c E T G trace kept stopped r w n u (n + (events_bytes w + (backs_bytes held + events_bytes pend)) ≡ total)

abbrev pub Calmly : ChannelPlan → Status → (Status → Type 0) → Type 0 → ChildState → List ChildEvent → ℕ → Type 0
Calmly c E T G s pend total = Calms c E T G s.trace s.kept s.stopped s.broken s.suspends s.running s.queue.waiting s.hold.kept s.data_begun s.sent pend total

-- the same course, with other events waiting, more said, another sum
pub course_map : (c : ChannelPlan) (E : Status) (T : Status → Type 0) (G : Type 0) (trace : List Entry) (kept : Option Status) (stopped : Bool) (r : Option (Target × ChildEvent)) (w w' : List ChildEvent) (n : ℕ) (u u' : List UpMsg) (S S' : Type 0)
    → (NoCancel w → NoCancel w') → ((q : Status) (rest : List ChildEvent) → w ≡ Cancel q ∷ rest → (rest' : List ChildEvent) × (w' ≡ Cancel q ∷ rest')) → (RightUps c u → kept ≡ None → RightUps c u') → (Silent u → Silent u') → (S → S')
    → Course c E T G trace kept stopped r w n u S → Course c E T G trace kept stopped r w' n u' S'
course_map c E T G trace kept stopped r w w' n u u' S S' f g h i j (Quiet a b d e z p s) = Quiet a b d (f e) z (h p b) (j s)
course_map c E T G trace kept stopped r w w' n u u' S S' f g h i j (Going y a b d e z p s) = Going y a b d (f e) z (i p) (j s)
course_map c E T G trace kept stopped r w w' n u u' S S' f g h i j (Pending y a b d e z q rest p x why) = let k = g q rest p in Pending y a b d e z q k.0 k.1 x why
course_map c E T G trace kept stopped r w w' n u u' S S' f g h i j (Kept y q bg a why) = Kept y q bg a why
course_map c E T G trace kept stopped r w w' n u u' S S' f g h i j (Closing y q bg a fl b d e z p x s) = Closing y q bg a fl b d e z (i p) x (j s)
course_map c E T G trace kept stopped r w w' n u u' S S' f g h i j (Odd a) = Odd a

pub same_front : (w : List ChildEvent) (q : Status) (rest : List ChildEvent) → w ≡ Cancel q ∷ rest → (rest' : List ChildEvent) × (w ≡ Cancel q ∷ rest')
same_front w q rest e = (rest, e)

-- another sum, and no more
pub course_sum : (c : ChannelPlan) (E : Status) (T : Status → Type 0) (G : Type 0) (trace : List Entry) (kept : Option Status) (stopped : Bool) (r : Option (Target × ChildEvent)) (w : List ChildEvent) (n : ℕ) (u : List UpMsg) (S S' : Type 0)
    → (S → S') → Course c E T G trace kept stopped r w n u S → Course c E T G trace kept stopped r w n u S'
course_sum c E T G trace kept stopped r w n u S S' j k = course_map c E T G trace kept stopped r w w n u u S S' (λ x. x) (same_front w) (λ x y. x) (λ x. x) j k

-- a message is said that is no cancel
pub course_says : (c : ChannelPlan) (E : Status) (T : Status → Type 0) (G : Type 0) (trace : List Entry) (kept : Option Status) (stopped : Bool) (r : Option (Target × ChildEvent)) (w : List ChildEvent) (n : ℕ) (u : List UpMsg) (m : UpMsg) (S : Type 0)
    → (kept ≡ None → RightUp c m) → NoCancelUp m → Course c E T G trace kept stopped r w n u S → Course c E T G trace kept stopped r w n (u ++ m ∷ []) S
course_says c E T G trace kept stopped r w n u m S a b k =
    course_map c E T G trace kept stopped r w w n u (u ++ m ∷ []) S S (λ x. x) (same_front w) (λ x y. right_then c u m x (a y)) (λ x. silent_then u m x b) (λ x. x) k

pub merged_fails : (st : Status) → is_failure st ≡ true → merged None st ≡ Some st
merged_fails st f = rw f refl

pub merged_good : (st : Status) → is_failure st ≡ false → merged None st ≡ None
merged_good st f = rw f refl

-- Running an event, nothing else running

pub start_shown : (c : ChannelPlan) (E : Status) (T : Status → Type 0) (G : Type 0) (trace : List Entry) (kept : Option Status) (stopped : Bool) (r : Option (Target × ChildEvent)) (w : List ChildEvent) (n : ℕ) (u : List UpMsg) (S : Type 0) (t : Target) (code : ℕ) (st : Status)
    → st ≡ E → G → has_stop trace ≡ stopped → trace ≡ [] → Course c E T G trace kept stopped r w n u S
    → Course c E T G (trace ++ shown.Start code (kept_status (merged kept st)) ∷ []) (merged kept st) stopped (Some (t, Start code st)) w n u S
start_shown c E T G trace kept stopped r w n u S t code st e g h z (Quiet a b d x y p s) =
    let stop0 : stopped ≡ false = sym h ∙ ap has_stop z in
    by_bool (is_failure E)
    (λ f. Kept g E (not_empty trace _) (ap (λ k. merged k st) b ∙ (merged_fails st (rw e f) ∙ ap (λ q. Some q) e)) (inl (f, refl, y)))
    (λ f. Going g (not_empty trace _) (ap (λ k. merged k st) b ∙ merged_good st (rw e f)) f x (y, stop0) (right_silent c u p) s)
start_shown c E T G trace kept stopped r w n u S t code st e g h z (Going y a b d x p q s) = absurd (a z)
start_shown c E T G trace kept stopped r w n u S t code st e g h z (Pending y a b d x i q rest p f why) = absurd (a z)
start_shown c E T G trace kept stopped r w n u S t code st e g h z (Kept y q bg a why) = absurd (bg z)
start_shown c E T G trace kept stopped r w n u S t code st e g h z (Closing y q bg a fl b d x i p f s) = absurd (bg z)
start_shown c E T G trace kept stopped r w n u S t code st e g h z (Odd a) = Odd (odd_more trace _ a)

pub start_calm : (c : ChannelPlan) (E : Status) (T : Status → Type 0) (G : Type 0) (trace : List Entry) (kept : Option Status) (stopped : Bool) (r : Option (Target × ChildEvent)) (w : List ChildEvent) (n : ℕ) (u : List UpMsg) (S : Type 0) (t : Target) (code : ℕ) (st : Status)
    → st ≡ E → G → has_stop trace ≡ stopped → Course c E T G trace kept stopped r w n u S
    → Course c E T G (trace ++ shown.Start code (kept_status (merged kept st)) ∷ []) (merged kept st) stopped (Some (t, Start code st)) w n u S
start_calm c E T G trace kept stopped r w n u S t code st e g h k =
    by_bool (odd (trace ++ shown.Start code (kept_status (merged kept st)) ∷ []))
    (λ o. Odd o)
    (λ o. start_shown c E T G trace kept stopped r w n u S t code st e g h (odd_start trace code (kept_status (merged kept st)) o) k)

pub stop_calm : (c : ChannelPlan) (E : Status) (T : Status → Type 0) (G : Type 0) (trace : List Entry) (kept : Option Status) (stopped : Bool) (w : List ChildEvent) (n : ℕ) (u : List UpMsg) (S : Type 0) (t : Target) (st : Status) (x : Entry)
    → (trace ≡ [] → ⊥) → T st → Course c E T G trace kept stopped None w n u S → (Pend : (q : Status) (rest : List ChildEvent) → w ≡ Cancel q ∷ rest → ⊥)
    → Course c E T G (trace ++ x ∷ []) (merged kept st) true (Some (t, Stop st)) w n u S
stop_calm c E T G trace kept stopped w n u S t st x ne told (Quiet a b d e y p s) pend = absurd (ne a)
stop_calm c E T G trace kept stopped w n u S t st x ne told (Going y a b d e p q s) pend =
    by_bool (is_failure st)
    (λ f. Closing y st (not_empty trace x) (ap (λ k. merged k st) b ∙ merged_fails st f) f d p.0 p.1 told q refl s)
    (λ f. Going y (not_empty trace x) (ap (λ k. merged k st) b ∙ merged_good st f) d e p q s)
stop_calm c E T G trace kept stopped w n u S t st x ne told (Pending y a b d e i q rest p f why) pend = absurd (pend q rest p)
stop_calm c E T G trace kept stopped w n u S t st x ne told (Kept y q bg a why) pend = Kept y q (not_empty trace x) (ap (λ k. merged k st) a) why
stop_calm c E T G trace kept stopped w n u S t st x ne told (Closing y q bg a fl b d e i p f s) pend = Closing y q (not_empty trace x) (ap (λ k. merged k st) a) fl b d e i p refl s
stop_calm c E T G trace kept stopped w n u S t st x ne told (Odd a) pend = Odd (odd_more trace x a)

-- a piece is shown
pub shown_calm : (c : ChannelPlan) (E : Status) (T : Status → Type 0) (G : Type 0) (trace : List Entry) (kept : Option Status) (stopped : Bool) (w : List ChildEvent) (n : ℕ) (u : List UpMsg) (S S' : Type 0) (t : Target) (at : ℕ) (p : List ℕ) (st : Status) (x : Entry)
    → (trace ≡ [] → ⊥) → stopped ≡ false → merged kept st ≡ None → (S → S') → Course c E T G trace kept stopped None w n u S → ((q : Status) (rest : List ChildEvent) → w ≡ Cancel q ∷ rest → ⊥)
    → Course c E T G (trace ++ x ∷ []) None stopped (Some (t, Bytes at p st)) w (suc n) u S'
shown_calm c E T G trace kept stopped w n u S S' t at p st x ne op m j (Quiet a b d e y z s) pend = absurd (ne a)
shown_calm c E T G trace kept stopped w n u S S' t at p st x ne op m j (Going y a b d e z q s) pend = Going y (not_empty trace x) refl d e (z.0, op, n, refl, z.1) q (j s)
shown_calm c E T G trace kept stopped w n u S S' t at p st x ne op m j (Pending y a b d e i q rest z f why) pend = absurd (pend q rest z)
shown_calm c E T G trace kept stopped w n u S S' t at p st x ne op m j (Kept y q bg a why) pend = let e : Some q ≡ None = ap (λ k. merged k st) (sym a) ∙ m in absurd (cc)
shown_calm c E T G trace kept stopped w n u S S' t at p st x ne op m j (Closing y q bg a fl b d e i z f s) pend = let g : Some q ≡ None = ap (λ k. merged k st) (sym a) ∙ m in absurd (cc)
shown_calm c E T G trace kept stopped w n u S S' t at p st x ne op m j (Odd a) pend = Odd (odd_more trace x a)

-- a piece is dropped
pub drop_calm : (c : ChannelPlan) (E : Status) (T : Status → Type 0) (G : Type 0) (trace : List Entry) (kept : Option Status) (stopped : Bool) (r : Option (Target × ChildEvent)) (w : List ChildEvent) (n : ℕ) (u : List UpMsg) (S S' : Type 0) (st q' : Status)
    → is_failure st ≡ false → merged kept st ≡ Some q' → (stopped ≡ true → ⊥) → Course c E T G trace kept stopped r w n u S → Course c E T G trace (Some q') stopped r w n u S'
drop_calm c E T G trace kept stopped r w n u S S' st q' f m ns (Quiet a b d e y z s) = let x : None ≡ Some q' = sym (merged_good st f) ∙ (ap (λ k. merged k st) (sym b) ∙ m) in absurd (cc)
drop_calm c E T G trace kept stopped r w n u S S' st q' f m ns (Going y a b d e z q s) = let x : None ≡ Some q' = sym (merged_good st f) ∙ (ap (λ k. merged k st) (sym b) ∙ m) in absurd (cc)
drop_calm c E T G trace kept stopped r w n u S S' st q' f m ns (Pending y a b d e i q rest z g why) = let x : None ≡ Some q' = sym (merged_good st f) ∙ (ap (λ k. merged k st) (sym b) ∙ m) in absurd (cc)
drop_calm c E T G trace kept stopped r w n u S S' st q' f m ns (Kept y q bg a why) = Kept y q bg (sym m ∙ ap (λ k. merged k st) a) why
drop_calm c E T G trace kept stopped r w n u S S' st q' f m ns (Closing y q bg a fl b d e i z g s) = absurd (ns g)
drop_calm c E T G trace kept stopped r w n u S S' st q' f m ns (Odd a) = Odd a

-- a cancel runs
pub cancel_calm : (c : ChannelPlan) (E : Status) (T : Status → Type 0) (G : Type 0) (trace : List Entry) (kept : Option Status) (stopped : Bool) (r : Option (Target × ChildEvent)) (w w' : List ChildEvent) (n : ℕ) (u : List UpMsg) (S S' : Type 0) (st : Status)
    → w ≡ Cancel st ∷ w' → (S → S') → Course c E T G trace kept stopped r w n u S → Course c E T G trace (merged kept st) stopped r w' n (u ++ cancel_messages kept st) S'
cancel_calm c E T G trace kept stopped r w w' n u S S' st e j (Quiet a b d x y z s) = let h : NoCancel (Cancel st ∷ w') = rw e at x in absurd h.0
cancel_calm c E T G trace kept stopped r w w' n u S S' st e j (Going y a b d x z q s) = let h : NoCancel (Cancel st ∷ w') = rw e at x in absurd h.0
cancel_calm c E T G trace kept stopped r w w' n u S S' st e j (Pending y a b d x i q rest z g why) =
    let h : Cancel q ∷ rest ≡ Cancel st ∷ w' = sym z ∙ e in
    let k : q ≡ st = cc in
    Kept y q a (ap (λ o. merged o st) b ∙ (ap (λ o. merged None o) (sym k) ∙ merged_fails q g)) why
cancel_calm c E T G trace kept stopped r w w' n u S S' st e j (Kept y q bg a why) = Kept y q bg (ap (λ o. merged o st) a) why
cancel_calm c E T G trace kept stopped r w w' n u S S' st e j (Closing y q bg a fl b d x i z g s) =
    let v : Silent (u ++ cancel_messages kept st) = subst (λ o. Silent (u ++ cancel_messages o st)) (sym a) (rw (append_nil u) z) in
    Closing y q bg (ap (λ o. merged o st) a) fl b d x i v g (j s)
cancel_calm c E T G trace kept stopped r w w' n u S S' st e j (Odd a) = Odd a
