-- The invariant of the merge: a place of the sequential channel, from which the events that wait and those to come may run.
use Rattle.std.proofs.Common.{ℕ, suc, ◌≡◌, ◌+◌, refl, sym, ◌∙◌, ap, List, [], ◌∷◌, ◌++◌, length, Bool, true, false, Option, Some, None, ◌⊎◌, if◌then◌else◌, arith, append_assoc, add_assoc, add-zero}
use Rattle.nk_base.specs.declared.status.Status.{Status}
use Rattle.nk_base.specs.declared.status.Target.{Target}
use Rattle.nk_base.specs.declared.message.MainMsg.{MainMsg}
use Rattle.nk_base.specs.declared.message.BackMsg.{BackMsg}
use Rattle.nk_base.specs.declared.message.Entry.{Entry}
use Rattle.nk_plan.specs.declared.plan.ChannelPlan.{ChannelPlan}
use Rattle.nk_plan.specs.declared.journal.ChildEntry.{ChildEntry}
use Rattle.nk_base.specs.Status.{ok, is_failure, kept_status, merged, failure, or_else}
use Rattle.nk_plan.specs.Plan.{hop_at, hop_code, hop_pieces, EndsWell}
use Rattle.nk_plan.specs.Trace.{SeqTrace, Follows}
use Rattle.nk_plan.specs.Parent.{size_of}
use Rattle.nk_plan.specs.Journal.{failure_in, first, is_redirect3, final, opening_in, opening, main_in, mains_taken, back_in, backs_taken}
use Rattle.nk_plan.specs.declared.event.ChildEvent.{ChildEvent}
use Rattle.nk_plan.specs.declared.event.ChildEvent.TheVariants.{Start, Bytes, Stop, Redirect1, Redirect3, Cancel}
use Rattle.nk_plan.specs.Child.{Hold, ChildState}
use Rattle.nk_laws.proofs.Tools.{append_nil, swap_if}
use Rattle.nk_base.specs.declared.message.Entry.TheVariants as shown
use Rattle.nk_plan.specs.declared.journal.ChildEntry.TheVariants as child

-- Where a sequential channel is: at a hop before the start, in the body with these pieces left at this offset, or at its end

pub data Place : Type 0 where
  AtHop : (hop : ℕ) → Place
  InBody : (offset : ℕ) → (left : List (List ℕ)) → Place
  AtEnd : Place

abbrev pub on_hop : Place → (ℕ → Type 0) → Type 0
on_hop (AtHop h) P = P h
on_hop (InBody o ps) P = ⊥
on_hop AtEnd P = ⊥

abbrev pub in_body : Place → (ℕ → List (List ℕ) → Type 0) → Type 0
in_body (AtHop h) P = ⊥
in_body (InBody o ps) P = P o ps
in_body AtEnd P = ⊥

abbrev pub next_piece : List (List ℕ) → List ℕ → (List (List ℕ) → Type 0) → Type 0
next_piece [] p P = ⊥
next_piece (q ∷ ps) p P = (p ≡ q) × P ps

-- what f is for a start: the final hop, or none where the load was cut
abbrev pub start_code : ChannelPlan → ℕ → Bool → ℕ
start_code c f x = if x then 0 else hop_code (hop_at c f)

-- these events may run from this place on, in this order
abbrev pub Legal : ChannelPlan → ℕ → Bool → Place → List ChildEvent → Type 0
Legal c f x pl [] = Unit {0}
Legal c f x pl (Redirect3 n ∷ es) = on_hop pl (λ h. Legal c f x (AtHop (suc h)) es)
Legal c f x pl (Start code st ∷ es) = on_hop pl (λ h. (h ≡ f) × (code ≡ start_code c f x) × Legal c f x (InBody 0 (hop_pieces (hop_at c f))) es)
Legal c f x pl (Bytes at p st ∷ es) = in_body pl (λ o ps. (at ≡ o) × next_piece ps p (λ rest. Legal c f x (InBody (o + length p) rest) es))
Legal c f x pl (Stop st ∷ es) = in_body pl (λ o ps. (is_failure st ≡ false → (ps ≡ []) × EndsWell (hop_at c f)) × Legal c f x AtEnd es)
Legal c f x pl (Redirect1 h ∷ es) = ⊥
Legal c f x pl (Cancel st ∷ es) = ⊥

-- the events that belong to the order: no question, no cancel
abbrev pub strip : List ChildEvent → List ChildEvent
strip [] = []
strip (Start code st ∷ es) = Start code st ∷ strip es
strip (Bytes o p st ∷ es) = Bytes o p st ∷ strip es
strip (Stop st ∷ es) = Stop st ∷ strip es
strip (Redirect1 h ∷ es) = strip es
strip (Redirect3 h ∷ es) = Redirect3 h ∷ strip es
strip (Cancel st ∷ es) = strip es

abbrev pub NotCancel : ChildEvent → Type 0
NotCancel (Start code st) = Unit {0}
NotCancel (Bytes o p st) = Unit {0}
NotCancel (Stop st) = Unit {0}
NotCancel (Redirect1 h) = Unit {0}
NotCancel (Redirect3 h) = Unit {0}
NotCancel (Cancel st) = ⊥

abbrev pub NoCancel : List ChildEvent → Type 0
NoCancel [] = Unit {0}
NoCancel (e ∷ es) = NotCancel e × NoCancel es

-- cancels wait in front of all others
abbrev pub CancelsFirst : List ChildEvent → Type 0
CancelsFirst [] = Unit {0}
CancelsFirst (Cancel st ∷ es) = CancelsFirst es
CancelsFirst (Start code st ∷ es) = NoCancel es
CancelsFirst (Bytes o p st ∷ es) = NoCancel es
CancelsFirst (Stop st ∷ es) = NoCancel es
CancelsFirst (Redirect1 h ∷ es) = NoCancel es
CancelsFirst (Redirect3 h ∷ es) = NoCancel es

abbrev pub NoBytes : Option (Target × ChildEvent) → Type 0
NoBytes None = Unit {0}
NoBytes (Some (t, Start code st)) = Unit {0}
NoBytes (Some (t, Bytes o p st)) = ⊥
NoBytes (Some (t, Stop st)) = Unit {0}
NoBytes (Some (t, Redirect1 h)) = Unit {0}
NoBytes (Some (t, Redirect3 h)) = Unit {0}
NoBytes (Some (t, Cancel st)) = Unit {0}

-- the data entries of these pieces from this offset on
abbrev pub data_entries : ℕ → List (List ℕ) → List Entry
data_entries o [] = []
data_entries o (p ∷ ps) = shown.Bytes o p ∷ data_entries (o + length p) ps

pub record BodyFits (c : ChannelPlan) (f : ℕ) (x : Bool) (o : ℕ) (ps : List (List ℕ)) (trace : List Entry) (kept : Option Status) (hop : ℕ) : Type 0 where
  pub code : ℕ
  pub status : Status
  pub seen : List (List ℕ)
  pub left : List (List ℕ)
  pub shows : trace ≡ shown.Start code status ∷ data_entries 0 seen
  pub code_is : code ≡ start_code c f x
  pub all : seen ++ left ≡ hop_pieces (hop_at c f)
  pub good : kept ≡ None → (left ≡ ps) × (size_of seen ≡ o)
  pub opening : ((status ≡ ok) × (x ≡ false)) ⊎ ((Some status ≡ kept) × (seen ≡ []))
  pub at_hop : hop ≡ f

abbrev pub Fits : ChannelPlan → ℕ → Bool → Place → List ChildEvent → List Entry → Option Status → ℕ → Bool → Option (Target × ChildEvent) → Type 0
Fits c f x (AtHop h) w trace kept hop stopped running = (trace ≡ []) × (hop ≡ h) × (stopped ≡ false) × (x ≡ true → kept ≡ None → ⊥)
Fits c f x (InBody o ps) w trace kept hop stopped running = BodyFits c f x o ps trace kept hop × (stopped ≡ false)
Fits c f x AtEnd w trace kept hop stopped running = SeqTrace c f kept x trace × (hop ≡ f) × (stopped ≡ true) × NoCancel w × NoBytes running

abbrev pub opening_at : Place → Bool → Option Bool
opening_at (AtHop h) true = Some true
opening_at (AtHop h) false = None
opening_at (InBody o ps) x = Some x
opening_at AtEnd x = Some x

-- what a journal says
pub record Says (j : List ChildEntry) (kept : Option Status) (hop : ℕ) (open_by : Option Bool) (mains : List MainMsg) (backs : List BackMsg) : Type 0 where
  pub first_is : first j ≡ kept
  pub final_is : final j ≡ hop
  pub opening_is : opening j ≡ open_by
  pub mains_are : mains_taken j ≡ mains
  pub backs_are : backs_taken j ≡ backs

-- whether the stop was shown, or is among these events
abbrev pub stops : List ChildEvent → Bool → Bool
stops [] b = b
stops (Start code st ∷ es) b = stops es b
stops (Bytes o p st ∷ es) b = stops es b
stops (Stop st ∷ es) b = stops es true
stops (Redirect1 h ∷ es) b = stops es b
stops (Redirect3 h ∷ es) b = stops es b
stops (Cancel st ∷ es) b = stops es b

-- what does not change while events run
pub record Around : Type 0 where
  pub final : ℕ
  pub cut : Bool
  pub hold : Hold
  pub broken : Bool
  pub ends : Bool
  pub mains : List MainMsg
  pub backs : List BackMsg

-- the child is at a place from which the waiting events w and then those to come may run
abbrev pub Holds : ChannelPlan → Around → List ChildEvent → List ChildEvent → ChildState → Type 0
Holds c a pend w s =
    (pl : Place) × Legal c a.final a.cut pl (strip (w ++ pend)) × CancelsFirst w
    × Fits c a.final a.cut pl w s.trace s.kept s.hop s.stopped s.running
    × Says s.journal s.kept s.hop (opening_at pl a.cut) a.mains a.backs
    × (s.hold ≡ a.hold) × (s.broken ≡ a.broken) × (stops (strip (w ++ pend)) s.stopped ≡ a.ends)

abbrev pub Keeps : ChannelPlan → Around → List ChildEvent → ChildState → Type 0
Keeps c a pend s = Holds c a pend s.queue.waiting s

-- Journals

pub or_else_none : {A : Type 0} (a : Option A) → or_else a None ≡ a
or_else_none None = refl
or_else_none (Some a) = refl

pub or_else_assoc : {A : Type 0} (a b d : Option A) → or_else (or_else a b) d ≡ or_else a (or_else b d)
or_else_assoc None b d = refl
or_else_assoc (Some a) b d = refl

pub first_then : (j : List ChildEntry) (e : ChildEntry) → first (j ++ e ∷ []) ≡ or_else (first j) (failure_in e)
first_then [] e = or_else_none (failure_in e)
first_then (d ∷ j) e = ap (λ t. or_else (failure_in d) t) (first_then j e) ∙ sym (or_else_assoc (failure_in d) (first j) (failure_in e))

pub opening_then : (j : List ChildEntry) (e : ChildEntry) → opening (j ++ e ∷ []) ≡ or_else (opening j) (opening_in e)
opening_then [] e = or_else_none (opening_in e)
opening_then (d ∷ j) e = ap (λ t. or_else (opening_in d) t) (opening_then j e) ∙ sym (or_else_assoc (opening_in d) (opening j) (opening_in e))

pub final_then : (j : List ChildEntry) (e : ChildEntry) → final (j ++ e ∷ []) ≡ (if is_redirect3 e then suc (final j) else final j)
final_then [] e = refl
final_then (d ∷ j) e = ap (λ t. if is_redirect3 d then suc t else t) (final_then j e) ∙ swap_if (is_redirect3 d) (is_redirect3 e) (final j)

pub mains_then : (j : List ChildEntry) (e : ChildEntry) → mains_taken (j ++ e ∷ []) ≡ mains_taken j ++ main_in e
mains_then [] e = append_nil (main_in e)
mains_then (d ∷ j) e = ap (λ t. main_in d ++ t) (mains_then j e) ∙ sym (append_assoc (main_in d) (mains_taken j) (main_in e))

pub backs_then : (j : List ChildEntry) (e : ChildEntry) → backs_taken (j ++ e ∷ []) ≡ backs_taken j ++ back_in e
backs_then [] e = append_nil (back_in e)
backs_then (d ∷ j) e = ap (λ t. back_in d ++ t) (backs_then j e) ∙ sym (append_assoc (back_in d) (backs_taken j) (back_in e))

pub says_new : (j : List ChildEntry) (e : ChildEntry) (k k' : Option Status) (h h' : ℕ) (o o' : Option Bool) (md md' : List MainMsg) (bd bd' : List BackMsg)
    → or_else k (failure_in e) ≡ k' → (if is_redirect3 e then suc h else h) ≡ h' → or_else o (opening_in e) ≡ o' → md ++ main_in e ≡ md' → bd ++ back_in e ≡ bd'
    → Says j k h o md bd → Says (j ++ e ∷ []) k' h' o' md' bd'
says_new j e k k' h h' o o' md md' bd bd' ek eh eo em eb s = record {
  first_is = first_then j e ∙ (ap (λ t. or_else t (failure_in e)) s.first_is ∙ ek);
  final_is = final_then j e ∙ (ap (λ t. if is_redirect3 e then suc t else t) s.final_is ∙ eh);
  opening_is = opening_then j e ∙ (ap (λ t. or_else t (opening_in e)) s.opening_is ∙ eo);
  mains_are = mains_then j e ∙ (ap (λ t. t ++ main_in e) s.mains_are ∙ em);
  backs_are = backs_then j e ∙ (ap (λ t. t ++ back_in e) s.backs_are ∙ eb);
}

-- an entry that brings a failure alone
pub says_failure : (j : List ChildEntry) (e : ChildEntry) (k k' : Option Status) (h : ℕ) (o : Option Bool) (md : List MainMsg) (bd : List BackMsg)
    → or_else k (failure_in e) ≡ k' → is_redirect3 e ≡ false → opening_in e ≡ None → main_in e ≡ [] → back_in e ≡ []
    → Says j k h o md bd → Says (j ++ e ∷ []) k' h o md bd
says_failure j e k k' h o md bd ek eh eo em eb s =
    says_new j e k k' h h o o md md bd bd ek (rw eh refl) (rw eo (or_else_none o)) (rw em (append_nil md)) (rw eb (append_nil bd)) s

-- an entry that brings nothing
pub says_same : (j : List ChildEntry) (e : ChildEntry) (k : Option Status) (h : ℕ) (o : Option Bool) (md : List MainMsg) (bd : List BackMsg)
    → failure_in e ≡ None → is_redirect3 e ≡ false → opening_in e ≡ None → main_in e ≡ [] → back_in e ≡ []
    → Says j k h o md bd → Says (j ++ e ∷ []) k h o md bd
says_same j e k h o md bd ek eh eo em eb s = says_failure j e k k h o md bd (rw ek (or_else_none k)) eh eo em eb s

-- What is kept is a failure

abbrev pub KeptFails : Option Status → Type 0
KeptFails None = Unit {0}
KeptFails (Some q) = is_failure q ≡ true

pub tested_fails : (b : Bool) (st : Status) → is_failure st ≡ b → KeptFails (if b then Some st else None)
tested_fails true st e = e
tested_fails false st e = tt

pub failure_fails : (st : Status) → KeptFails (failure st)
failure_fails st = tested_fails (is_failure st) st refl

pub failure_in_fails : (e : ChildEntry) → KeptFails (failure_in e)
failure_in_fails (child.Cancel st) = failure_fails st
failure_in_fails (child.Break st) = failure_fails st
failure_in_fails (child.RunStart t code st) = failure_fails st
failure_in_fails (child.RunDrop t o st) = failure_fails st
failure_in_fails (child.RunStop t st) = failure_fails st
failure_in_fails (child.RunCancel t st) = failure_fails st
failure_in_fails _ = tt

pub or_else_fails : (a b : Option Status) → KeptFails a → KeptFails b → KeptFails (or_else a b)
or_else_fails None b p q = q
or_else_fails (Some x) b p q = p

pub first_fails : (j : List ChildEntry) → KeptFails (first j)
first_fails [] = tt
first_fails (e ∷ j) = or_else_fails (failure_in e) (first j) (failure_in_fails e) (first_fails j)

pub merged_kept_fails : (k : Option Status) (st : Status) → KeptFails k → KeptFails (merged k st)
merged_kept_fails k st h = or_else_fails k (failure st) h (failure_fails st)

pub none_kept : (k : Option Status) → KeptFails k → kept_status k ≡ ok → k ≡ None
none_kept None h e = refl
none_kept (Some q) h e = let f : is_failure ok ≡ true = rw e at h in cc

-- Lists of events

pub strip-append : (xs ys : List ChildEvent) → strip (xs ++ ys) ≡ strip xs ++ strip ys
strip-append [] ys = refl
strip-append (Start code st ∷ xs) ys = ap (λ t. Start code st ∷ t) (strip-append xs ys)
strip-append (Bytes o p st ∷ xs) ys = ap (λ t. Bytes o p st ∷ t) (strip-append xs ys)
strip-append (Stop st ∷ xs) ys = ap (λ t. Stop st ∷ t) (strip-append xs ys)
strip-append (Redirect1 h ∷ xs) ys = strip-append xs ys
strip-append (Redirect3 h ∷ xs) ys = ap (λ t. Redirect3 h ∷ t) (strip-append xs ys)
strip-append (Cancel st ∷ xs) ys = strip-append xs ys

pub no_cancel_then : (w : List ChildEvent) (e : ChildEvent) → NoCancel w → NotCancel e → NoCancel (w ++ e ∷ [])
no_cancel_then [] e h n = (n, tt)
no_cancel_then (d ∷ w) e h n = (h.0, no_cancel_then w e h.1 n)

pub first_if_none : (w : List ChildEvent) → NoCancel w → CancelsFirst w
first_if_none [] h = tt
first_if_none (Start code st ∷ w) h = h.1
first_if_none (Bytes o p st ∷ w) h = h.1
first_if_none (Stop st ∷ w) h = h.1
first_if_none (Redirect1 n ∷ w) h = h.1
first_if_none (Redirect3 n ∷ w) h = h.1
first_if_none (Cancel st ∷ w) h = absurd h.0

pub first_then_event : (w : List ChildEvent) (e : ChildEvent) → CancelsFirst w → NotCancel e → CancelsFirst (w ++ e ∷ [])
first_then_event [] e h n = first_if_none (e ∷ []) (n, tt)
first_then_event (Start code st ∷ w) e h n = no_cancel_then w e h n
first_then_event (Bytes o p st ∷ w) e h n = no_cancel_then w e h n
first_then_event (Stop st ∷ w) e h n = no_cancel_then w e h n
first_then_event (Redirect1 i ∷ w) e h n = no_cancel_then w e h n
first_then_event (Redirect3 i ∷ w) e h n = no_cancel_then w e h n
first_then_event (Cancel st ∷ w) e h n = first_then_event w e h n

-- Statuses

pub failure_again : (b : Bool) (st : Status) → is_failure st ≡ b → failure (kept_status (if b then Some st else None)) ≡ (if b then Some st else None)
failure_again true st e = rw e refl
failure_again false st e = refl

pub merged_says : (kept : Option Status) (st : Status) (k : Option Status) → merged kept st ≡ k → or_else kept (failure (kept_status k)) ≡ k
merged_says None st k e = rw (← e) (failure_again (is_failure st) st refl)
merged_says (Some q) st k e = e

pub merged_none : (kept : Option Status) (st : Status) → merged kept st ≡ None → kept ≡ None
merged_none None st e = refl
merged_none (Some q) st e = e

pub good_of : (b : Bool) (st : Status) → (if b then Some st else None) ≡ None → b ≡ false
good_of true st e = cc
good_of false st e = refl

pub merged_good : (st : Status) → merged None st ≡ None → is_failure st ≡ false
merged_good st e = good_of (is_failure st) st e

pub merged_some : (kept : Option Status) (st s : Status) (k : Option Status) → merged kept st ≡ k → Some s ≡ kept → Some s ≡ k
merged_some None st s k e h = cc
merged_some (Some q) st s k e h = h ∙ e

-- Data

pub entries_then : (o : ℕ) (xs : List (List ℕ)) (p : List ℕ) → data_entries o (xs ++ p ∷ []) ≡ data_entries o xs ++ shown.Bytes (o + size_of xs) p ∷ []
entries_then o [] p = rw (add-zero o) refl
entries_then o (x ∷ xs) p = ap (λ t. shown.Bytes o x ∷ t) (rw (← add_assoc o (length x) (size_of xs)) (entries_then (o + length x) xs p))

pub size_then : (xs : List (List ℕ)) (p : List ℕ) → size_of (xs ++ p ∷ []) ≡ size_of xs + length p
size_then [] p = omega arith
size_then (x ∷ xs) p = omega (arith, size_then xs p)

pub follows_seen : (c : ChannelPlan) (f : ℕ) (q : Option Status) (o : ℕ) (seen left : List (List ℕ)) (tail : List Entry)
    → Follows c f q (o + size_of seen) left tail → Follows c f q o (seen ++ left) (data_entries o seen ++ tail)
follows_seen c f q o [] left tail h = rw (add-zero o) at h
follows_seen c f q o (x ∷ xs) left tail h =
    (refl, refl, follows_seen c f q (o + length x) xs left tail (rw add_assoc h))
