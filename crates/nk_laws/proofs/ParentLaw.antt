-- Each row of the parent's table keeps the lane law, whatever messages come from the page's side.
use Rattle.std.proofs.Common.{ℕ, suc, ◌≡◌, ◌+◌, ◌≤◌, refl, sym, ◌∙◌, ap, subst, List, [], ◌∷◌, ◌++◌, length, Bool, true, false, Option, Some, None, ◌⊎◌, inl, inr, if◌then◌else◌, slice_get, take, ◌==◌, arith, append_assoc, add_assoc, zero-add, add-zero, pos, int_lt}
use Rattle.std.proofs.lemmas.Bool.{eqb-true}
use Rattle.std.proofs.lemmas.Bool.Decides.{eqb_tells}
use Rattle.nk_base.specs.declared.status.Status.{Status}
use Rattle.nk_base.specs.declared.field.Head.{Head}
use Rattle.nk_base.specs.declared.message.MainMsg.{MainMsg}
use Rattle.nk_base.specs.declared.message.BackMsg.{BackMsg}
use Rattle.nk_base.specs.declared.message.UpMsg.{UpMsg}
use Rattle.nk_plan.specs.declared.plan.ChannelPlan.{ChannelPlan}
use Rattle.nk_plan.specs.declared.plan.StartLane.{StartLane}
use Rattle.nk_plan.specs.declared.plan.Hop.{Hop}
use Rattle.nk_plan.specs.declared.plan.Finish.{Finish}
use Rattle.nk_plan.specs.declared.journal.ParentEntry.{ParentEntry}
use Rattle.nk_plan.specs.declared.step.ParentStep.{ParentStep}
use Rattle.nk_base.specs.Status.{ok, is_failure, redirect_loop, kept_status, merged}
use Rattle.nk_plan.specs.Plan.{hop_at, hop_code, hop_pieces, stop_trailers}
use Rattle.nk_laws.proofs.Premises.{HopOk, FinishOk, PlanOk}
use Rattle.nk_plan.specs.Parent.{size_of, ParentState, opened_phase, kept_after_cancel, awaits_verdict, start_entries, give_start, bare_head, offset_of, fetch_finish, fetch_piece, fetch_body, fetch_redirect, fetch_hop, fetch_follow, fetch_in, parent_step, parent_after}
use Rattle.nk_plan.specs.declared.step.Phase.{Phase}
use Rattle.nk_plan.specs.declared.step.Phase.TheVariants.{Closed, Ready, Asking, Follow, Body, Done}
use Rattle.nk_plan.specs.Journal.{ups_taken, mains_sent, backs_sent}
use Rattle.nk_plan.specs.Lanes.{IsRedirect, redirects_to, RedirectsTo, IsHead, piece_messages, question, main_start, back_start, IsCancelled, IsVerified, StartCause, StopCause, StopCauseIf}
use Rattle.nk_laws.proofs.Sent.{Begun, SentLaw}
use Rattle.nk_laws.proofs.Tools.{keeps_if, append_nil, among_more, among_last, take_next, past_end, before_end}
use Rattle.nk_base.specs.declared.message.MainMsg.TheVariants as main
use Rattle.nk_base.specs.declared.message.BackMsg.TheVariants as back
use Rattle.nk_base.specs.declared.message.UpMsg.TheVariants as up
use Rattle.nk_plan.specs.declared.plan.StartLane.TheVariants as lane
use Rattle.nk_plan.specs.declared.plan.Hop.TheVariants as hop
use Rattle.nk_plan.specs.declared.plan.Finish.TheVariants as finish
use Rattle.nk_plan.specs.declared.journal.ParentEntry.TheVariants as entry
use Rattle.nk_plan.specs.declared.step.ParentStep.TheVariants as step

-- What a journal's lists are when an entry is added

pub ups-append : (p q : List ParentEntry) → ups_taken (p ++ q) ≡ ups_taken p ++ ups_taken q
ups-append [] q = refl
ups-append (entry.Took m ∷ p) q = ap (λ t. m ∷ t) (ups-append p q)
ups-append (entry.SentMain m ∷ p) q = ups-append p q
ups-append (entry.SentBack m ∷ p) q = ups-append p q

pub mains-append : (p q : List ParentEntry) → mains_sent (p ++ q) ≡ mains_sent p ++ mains_sent q
mains-append [] q = refl
mains-append (entry.Took m ∷ p) q = mains-append p q
mains-append (entry.SentMain m ∷ p) q = ap (λ t. m ∷ t) (mains-append p q)
mains-append (entry.SentBack m ∷ p) q = mains-append p q

pub backs-append : (p q : List ParentEntry) → backs_sent (p ++ q) ≡ backs_sent p ++ backs_sent q
backs-append [] q = refl
backs-append (entry.Took m ∷ p) q = backs-append p q
backs-append (entry.SentMain m ∷ p) q = backs-append p q
backs-append (entry.SentBack m ∷ p) q = ap (λ t. m ∷ t) (backs-append p q)

-- The invariant

abbrev pub KeptCause : List UpMsg → Option Status → Type 0
KeptCause u None = Unit {0}
KeptCause u (Some q) = (is_failure q ≡ true) × (IsCancelled u q ⊎ IsVerified u q)

abbrev pub KeptCancel : List UpMsg → Option Status → Type 0
KeptCancel u None = Unit {0}
KeptCancel u (Some q) = (is_failure q ≡ true) × IsCancelled u q

-- before the start of hop h
pub record Before (c : ChannelPlan) (h followed k : ℕ) (q : Option Status) (u : List UpMsg) : Type 0 where
  pub all : RedirectsTo c h
  pub count : followed ≡ h
  pub none : k ≡ 0
  pub kept : KeptCause u q

pub record InBody (c : ChannelPlan) (h k : ℕ) (q : Option Status) (u : List UpMsg) (md : List MainMsg) (bd : List BackMsg) : Type 0 where
  pub all : RedirectsTo c h
  pub started : Begun c u h md bd
  pub open_ended : started.stop ≡ None
  pub place : started.pieces ≡ k
  pub failed : is_failure started.status ≡ true → q ≡ Some started.status
  pub kept : started.status ≡ ok → KeptCancel u q

abbrev pub Law : ChannelPlan → Phase → ℕ → ℕ → ℕ → Option Status → List UpMsg → List MainMsg → List BackMsg → Type 0
Law c Closed h n k q u md bd = Before c h n k q u × (md ≡ redirects_to c h) × (bd ≡ [])
Law c Ready h n k q u md bd = Before c h n k q u × (md ≡ redirects_to c h) × (bd ≡ [])
Law c Asking h n k q u md bd = Before c h n k q u × (md ≡ redirects_to c h ++ question c h true) × (bd ≡ []) × IsRedirect (hop_at c h)
Law c Follow h n k q u md bd = Before c h n k q u × (md ≡ redirects_to c h ++ question c h true) × (bd ≡ []) × IsRedirect (hop_at c h)
Law c Body h n k q u md bd = InBody c h k q u md bd
Law c Done h n k q u md bd = SentLaw c u md bd

abbrev pub Keeps : ChannelPlan → ParentState → Type 0
Keeps c s = Law c s.phase s.hop s.followed s.piece s.kept (ups_taken s.journal) (mains_sent s.journal) (backs_sent s.journal)

law : (c : ChannelPlan) (ph : Phase) (h n k : ℕ) (q : Option Status) (u : List UpMsg) (md : List MainMsg) (bd : List BackMsg) → Law c ph h n k q u md bd → SentLaw c u md bd
law c Closed h n k q u md bd (b, m, e) = (h, b.all, inl (e, inl m))
law c Ready h n k q u md bd (b, m, e) = (h, b.all, inl (e, inl m))
law c Asking h n k q u md bd (b, m, e, r) = (h, b.all, inl (e, inr (inl (m, r))))
law c Follow h n k q u md bd (b, m, e, r) = (h, b.all, inl (e, inr (inl (m, r))))
law c Body h n k q u md bd b = (h, b.all, inr b.started)
law c Done h n k q u md bd l = l

-- More messages of the page's side

verified_more : (u v : List UpMsg) (s : Status) → IsVerified u s → IsVerified (u ++ v) s
verified_more u v s (h, a) = (h, among_more _ u v a)

cause_more : (u v : List UpMsg) (q : Option Status) → KeptCause u q → KeptCause (u ++ v) q
cause_more u v None h = tt
cause_more u v (Some q) (f, inl a) = (f, inl (among_more _ u v a))
cause_more u v (Some q) (f, inr a) = (f, inr (verified_more u v q a))

cancel_more : (u v : List UpMsg) (q : Option Status) → KeptCancel u q → KeptCancel (u ++ v) q
cancel_more u v None h = tt
cancel_more u v (Some q) (f, a) = (f, among_more _ u v a)

stop_cause_more : (c : ChannelPlan) (u v : List UpMsg) (f : ℕ) (s : Status) (k : ℕ) (e : Option Status) → StopCauseIf c u f s k e → StopCauseIf c (u ++ v) f s k e
stop_cause_more c u v f s k None h = tt
stop_cause_more c u v f s k (Some e) (inl a) = inl a
stop_cause_more c u v f s k (Some e) (inr (inl (a, b, d))) = inr (inl (a, b, among_more _ u v d))
stop_cause_more c u v f s k (Some e) (inr (inr a)) = inr (inr a)

start_cause_more : (u v : List UpMsg) (s : Status) (f : ℕ) → StartCause u f s → StartCause (u ++ v) f s
start_cause_more u v s f (inl a) = inl a
start_cause_more u v s f (inr (a, inl b)) = inr (a, inl (among_more _ u v b))
start_cause_more u v s f (inr (a, inr (inl b))) = inr (a, inr (inl (verified_more u v s b)))
start_cause_more u v s f (inr (a, inr (inr b))) = inr (a, inr (inr b))

started_more : (c : ChannelPlan) (u v : List UpMsg) (f : ℕ) (md : List MainMsg) (bd : List BackMsg) → Begun c u f md bd → Begun c (u ++ v) f md bd
started_more c u v f md bd s = record {
  asked = s.asked;
  status = s.status;
  head = s.head;
  pieces = s.pieces;
  stop = s.stop;
  is_head = s.is_head;
  asked_hop = s.asked_hop;
  mains = s.mains;
  backs = s.backs;
  within = s.within;
  failed = s.failed;
  cause = start_cause_more u v s.status f s.cause;
  stop_cause = stop_cause_more c u v f s.status s.pieces s.stop s.stop_cause;
}

law_more : (c : ChannelPlan) (u v : List UpMsg) (md : List MainMsg) (bd : List BackMsg) → SentLaw c u md bd → SentLaw c (u ++ v) md bd
law_more c u v md bd (f, a, inl x) = (f, a, inl x)
law_more c u v md bd (f, a, inr x) = (f, a, inr (started_more c u v f md bd x))

before_more : (c : ChannelPlan) (h n k : ℕ) (q : Option Status) (u v : List UpMsg) → Before c h n k q u → Before c h n k q (u ++ v)
before_more c h n k q u v b = record { all = b.all; count = b.count; none = b.none; kept = cause_more u v q b.kept }

more : (c : ChannelPlan) (ph : Phase) (h n k : ℕ) (q : Option Status) (u v : List UpMsg) (md : List MainMsg) (bd : List BackMsg) → Law c ph h n k q u md bd → Law c ph h n k q (u ++ v) md bd
unfolding started_more
more c Closed h n k q u v md bd (b, m, e) = (before_more c h n k q u v b, m, e)
more c Ready h n k q u v md bd (b, m, e) = (before_more c h n k q u v b, m, e)
more c Asking h n k q u v md bd (b, m, e, r) = (before_more c h n k q u v b, m, e, r)
more c Follow h n k q u v md bd (b, m, e, r) = (before_more c h n k q u v b, m, e, r)
more c Body h n k q u v md bd b = record {
  all = b.all;
  started = started_more c u v h md bd b.started;
  open_ended = b.open_ended;
  place = b.place;
  failed = b.failed;
  kept = λ e. cancel_more u v q (b.kept e);
}
more c Done h n k q u v md bd l = law_more c u v md bd l

moved : (c : ChannelPlan) (ph : Phase) (h n k : ℕ) (q : Option Status) (p x : List ParentEntry) (u : List UpMsg) (md : List MainMsg) (bd : List BackMsg)
    → ups_taken p ++ ups_taken x ≡ u → mains_sent p ++ mains_sent x ≡ md → backs_sent p ++ backs_sent x ≡ bd
    → Law c ph h n k q u md bd → Law c ph h n k q (ups_taken (p ++ x)) (mains_sent (p ++ x)) (backs_sent (p ++ x))
moved c ph h n k q p x u md bd eu em eb l = rw (ups-append p x, mains-append p x, backs-append p x, eu, em, eb) l

-- Messages of the page's side

open_law : (c : ChannelPlan) (ph : Phase) (h n k : ℕ) (q : Option Status) (u : List UpMsg) (md : List MainMsg) (bd : List BackMsg) → Law c ph h n k q u md bd → Law c (opened_phase ph) h n k q u md bd
open_law c Closed h n k q u md bd l = l
open_law c Ready h n k q u md bd l = l
open_law c Asking h n k q u md bd l = l
open_law c Follow h n k q u md bd l = l
open_law c Body h n k q u md bd l = l
open_law c Done h n k q u md bd l = l

merged_cause : (u : List UpMsg) (q : Option Status) (st : Status) → IsCancelled u st ⊎ IsVerified u st → KeptCause u q → KeptCause u (merged q st)
merged_cause u (Some q) st a h = h
merged_cause u None st a h = keeps_if (λ x. KeptCause u x) (is_failure st) (Some st) None (λ e. (e, a)) (λ e. tt)

merged_cancel : (u : List UpMsg) (q : Option Status) (st : Status) → IsCancelled u st → KeptCancel u q → KeptCancel u (merged q st)
merged_cancel u (Some q) st a h = h
merged_cancel u None st a h = keeps_if (λ x. KeptCancel u x) (is_failure st) (Some st) None (λ e. (e, a)) (λ e. tt)

merged_kept : (q : Option Status) (st s : Status) → q ≡ Some s → merged q st ≡ Some s
merged_kept q st s e = rw e refl

before_merged : (c : ChannelPlan) (h n k : ℕ) (q : Option Status) (u : List UpMsg) (st : Status) → IsCancelled u st ⊎ IsVerified u st → Before c h n k q u → Before c h n k (merged q st) u
before_merged c h n k q u st a b = record { all = b.all; count = b.count; none = b.none; kept = merged_cause u q st a b.kept }

cancel_law : (c : ChannelPlan) (ph : Phase) (h n k : ℕ) (q : Option Status) (u : List UpMsg) (md : List MainMsg) (bd : List BackMsg) (st : Status) → IsCancelled u st → Law c ph h n k q u md bd → Law c ph h n k (kept_after_cancel ph q st) u md bd
cancel_law c Closed h n k q u md bd st a (b, m, e) = (before_merged c h n k q u st (inl a) b, m, e)
cancel_law c Ready h n k q u md bd st a (b, m, e) = (before_merged c h n k q u st (inl a) b, m, e)
cancel_law c Asking h n k q u md bd st a (b, m, e, r) = (before_merged c h n k q u st (inl a) b, m, e, r)
cancel_law c Follow h n k q u md bd st a (b, m, e, r) = (before_merged c h n k q u st (inl a) b, m, e, r)
cancel_law c Body h n k q u md bd st a b = record {
  all = b.all;
  started = b.started;
  open_ended = b.open_ended;
  place = b.place;
  failed = λ e. merged_kept q st b.started.status (b.failed e);
  kept = λ e. merged_cancel u q st a (b.kept e);
}
cancel_law c Done h n k q u md bd st a l = l

answered_law : (c : ChannelPlan) (b : Bool) (h n k : ℕ) (q : Option Status) (u : List UpMsg) (md : List MainMsg) (bd : List BackMsg) (st : Status) → IsVerified u st → Law c Asking h n k q u md bd → Law c (if b then Follow else Asking) h n k (if b then merged q st else q) u md bd
answered_law c true h n k q u md bd st a (b, m, e, r) = (before_merged c h n k q u st (inr a) b, m, e, r)
answered_law c false h n k q u md bd st a l = l

verify_law : (c : ChannelPlan) (ph : Phase) (h n k : ℕ) (q : Option Status) (u : List UpMsg) (md : List MainMsg) (bd : List BackMsg) (asked : ℕ) (st : Status) → IsVerified u st → Law c ph h n k q u md bd → Law c (if awaits_verdict ph h asked then Follow else ph) h n k (if awaits_verdict ph h asked then merged q st else q) u md bd
verify_law c Closed h n k q u md bd asked st a l = l
verify_law c Ready h n k q u md bd asked st a l = l
verify_law c Asking h n k q u md bd asked st a l = answered_law c (h == asked) h n k q u md bd st a l
verify_law c Follow h n k q u md bd asked st a l = l
verify_law c Body h n k q u md bd asked st a l = l
verify_law c Done h n k q u md bd asked st a l = l

took : (c : ChannelPlan) (ph : Phase) (h n k : ℕ) (q : Option Status) (p : List ParentEntry) (m : UpMsg)
    → Law c ph h n k q (ups_taken p ++ m ∷ []) (mains_sent p) (backs_sent p)
    → Law c ph h n k q (ups_taken (p ++ entry.Took m ∷ [])) (mains_sent (p ++ entry.Took m ∷ [])) (backs_sent (p ++ entry.Took m ∷ []))
took c ph h n k q p m l = moved c ph h n k q p (entry.Took m ∷ []) _ _ _ refl (append_nil _) (append_nil _) l

sent_main : (c : ChannelPlan) (ph : Phase) (h n k : ℕ) (q : Option Status) (p : List ParentEntry) (m : MainMsg)
    → Law c ph h n k q (ups_taken p) (mains_sent p ++ m ∷ []) (backs_sent p)
    → Law c ph h n k q (ups_taken (p ++ entry.SentMain m ∷ [])) (mains_sent (p ++ entry.SentMain m ∷ [])) (backs_sent (p ++ entry.SentMain m ∷ []))
sent_main c ph h n k q p m l = moved c ph h n k q p (entry.SentMain m ∷ []) _ _ _ (append_nil _) refl (append_nil _) l

sent_back : (c : ChannelPlan) (ph : Phase) (h n k : ℕ) (q : Option Status) (p : List ParentEntry) (m : BackMsg)
    → Law c ph h n k q (ups_taken p) (mains_sent p) (backs_sent p ++ m ∷ [])
    → Law c ph h n k q (ups_taken (p ++ entry.SentBack m ∷ [])) (mains_sent (p ++ entry.SentBack m ∷ [])) (backs_sent (p ++ entry.SentBack m ∷ []))
sent_back c ph h n k q p m l = moved c ph h n k q p (entry.SentBack m ∷ []) _ _ _ (append_nil _) (append_nil _) refl l

with_more : (c : ChannelPlan) (s : ParentState) (m : UpMsg) → Keeps c s → Law c s.phase s.hop s.followed s.piece s.kept (ups_taken s.journal ++ m ∷ []) (mains_sent s.journal) (backs_sent s.journal)
with_more c s m l = more c s.phase s.hop s.followed s.piece s.kept (ups_taken s.journal) (m ∷ []) (mains_sent s.journal) (backs_sent s.journal) l

up_keeps : (c : ChannelPlan) (m : UpMsg) (s : ParentState) → Keeps c s → Keeps c (parent_step c (step.Up m) s)
up_keeps c up.Open s l = took c _ _ _ _ _ s.journal up.Open (open_law c s.phase _ _ _ _ _ _ _ (with_more c s up.Open l))
up_keeps c up.Suspend s l = took c _ _ _ _ _ s.journal up.Suspend (with_more c s up.Suspend l)
up_keeps c up.Resume s l = took c _ _ _ _ _ s.journal up.Resume (with_more c s up.Resume l)
up_keeps c (up.Cancel st) s l = took c _ _ _ _ _ s.journal (up.Cancel st) (cancel_law c s.phase _ _ _ _ _ _ _ st (among_last (up.Cancel st) (ups_taken s.journal)) (with_more c s (up.Cancel st) l))
up_keeps c (up.Verify h st) s l = took c _ _ _ _ _ s.journal (up.Verify h st) (verify_law c s.phase _ _ _ _ _ _ _ h st (h, among_last (up.Verify h st) (ups_taken s.journal)) (with_more c s (up.Verify h st) l))
up_keeps c (up.BytesRead n) s l = took c _ _ _ _ _ s.journal (up.BytesRead n) (with_more c s (up.BytesRead n) l)
up_keeps c up.Deleting s l = took c Done s.hop s.followed s.piece s.kept s.journal up.Deleting (law c s.phase _ _ _ _ _ _ _ (with_more c s up.Deleting l))

-- The rows of a fetch

ups_start : (l : StartLane) (h : ℕ) (st : Status) (head : Head) → ups_taken (start_entries l h st head) ≡ []
ups_start lane.Main h st head = refl
ups_start lane.Back h st head = refl

mains_start : (l : StartLane) (h : ℕ) (st : Status) (head : Head) → mains_sent (start_entries l h st head) ≡ main_start l h st head
mains_start lane.Main h st head = refl
mains_start lane.Back h st head = refl

backs_start : (l : StartLane) (h : ℕ) (st : Status) (head : Head) → backs_sent (start_entries l h st head) ≡ back_start l h st head
backs_start lane.Main h st head = refl
backs_start lane.Back h st head = refl

-- a kept failure is one
abbrev KeptFails : Option Status → Type 0
KeptFails None = Unit {0}
KeptFails (Some q) = is_failure q ≡ true

body_failed : (q : Option Status) → KeptFails q → is_failure (kept_status q) ≡ true → q ≡ Some (kept_status q)
body_failed None f e = cc
body_failed (Some q) f e = refl

body_kept : (u : List UpMsg) (q : Option Status) → KeptFails q → kept_status q ≡ ok → KeptCancel u q
body_kept u None f e = tt
body_kept u (Some q) f e = let g : is_failure ok ≡ true = rw e at f in cc

given_keeps : (c : ChannelPlan) (s : ParentState) (q : Option Status) (head : Head) (asked : Bool)
    → RedirectsTo c s.hop → s.piece ≡ 0 → mains_sent s.journal ≡ redirects_to c s.hop ++ question c s.hop asked
    → (asked ≡ true → IsRedirect (hop_at c s.hop)) → backs_sent s.journal ≡ []
    → IsHead (hop_at c s.hop) (kept_status q) head → StartCause (ups_taken s.journal) s.hop (kept_status q) → KeptFails q
    → Keeps c (give_start c s q head)
given_keeps c s q head asked all k m r b ih cause f =
    let st = kept_status q in
    moved c Body s.hop s.followed s.piece q s.journal (start_entries c.start s.hop st head)
    (ups_taken s.journal) (mains_sent s.journal ++ main_start c.start s.hop st head) (back_start c.start s.hop st head)
    (rw (ups_start c.start s.hop st head) (append_nil (ups_taken s.journal)))
    (rw (mains_start c.start s.hop st head) refl)
    (rw (backs_start c.start s.hop st head, b) refl)
    (record {
      all = all;
      started = record {
        asked = asked;
        status = st;
        head = head;
        pieces = 0;
        stop = None;
        is_head = ih;
        asked_hop = r;
        mains = ap (λ t. t ++ main_start c.start s.hop st head) m ∙ append_assoc (redirects_to c s.hop) (question c s.hop asked) (main_start c.start s.hop st head);
        backs = sym (append_nil (back_start c.start s.hop st head));
        within = omega arith;
        failed = λ e. refl;
        cause = cause;
        stop_cause = tt;
      };
      open_ended = refl;
      place = sym k;
      failed = body_failed q f;
      kept = body_kept (ups_taken s.journal) q f;
    })

kept_start_cause : (u : List UpMsg) (f : ℕ) (q : Option Status) → KeptCause u q → StartCause u f (kept_status q)
kept_start_cause u f None h = inl refl
kept_start_cause u f (Some q) (e, inl a) = inr (e, inl a)
kept_start_cause u f (Some q) (e, inr a) = inr (e, inr (inl a))

kept_fails : (u : List UpMsg) (q : Option Status) → KeptCause u q → KeptFails q
kept_fails u None h = tt
kept_fails u (Some q) h = h.0

redirect_hop : (o : Option Hop) (code : ℕ) (st : Status) → IsRedirect o → hop_code o ≡ code → is_failure st ≡ true → IsHead o st (bare_head code)
redirect_hop None code st h k e = absurd h
redirect_hop (Some (hop.Fail s)) code st h k e = absurd h
redirect_hop (Some (hop.Redirect own verdict)) code st h k e = (e, rw k refl)
redirect_hop (Some (hop.Response own pieces end trailers)) code st h k e = absurd h

redirect_keeps : (c : ChannelPlan) (s : ParentState) (code : ℕ) (q : Option Status)
    → IsRedirect (hop_at c s.hop) → hop_code (hop_at c s.hop) ≡ code
    → Before c s.hop s.followed s.piece q (ups_taken s.journal) → Before c s.hop s.followed s.piece s.kept (ups_taken s.journal)
    → mains_sent s.journal ≡ redirects_to c s.hop → backs_sent s.journal ≡ []
    → Keeps c (fetch_redirect c s code q)
redirect_keeps c s code (Some q) r e b b0 m k =
    given_keeps c s (Some q) (bare_head code) false b.all b.none (m ∙ sym (append_nil _)) (λ x. cc) k
    (redirect_hop (hop_at c s.hop) code q r e b.kept.0) (kept_start_cause (ups_taken s.journal) s.hop (Some q) b.kept) b.kept.0
redirect_keeps c s code None r e b b0 m k =
    keeps_if (Keeps c) (s.followed == 20) (give_start c s (Some redirect_loop) (bare_head code)) _
    (λ x. let n : s.followed ≡ 20 = eqb-true s.followed 20 x in
    given_keeps c s (Some redirect_loop) (bare_head code) false b.all b.none (m ∙ sym (append_nil _)) (λ y. cc) k
    (redirect_hop (hop_at c s.hop) code redirect_loop r e refl) (inr (refl, inr (inr (refl, sym b.count ∙ n)))) refl)
    (λ x. sent_main c Asking s.hop s.followed s.piece s.kept s.journal (main.Redirect1 s.hop code)
    (b0, (rw (m, e) refl), k, r))

ready_keeps : (c : ChannelPlan) (s : ParentState) (o : Option Hop) → hop_at c s.hop ≡ o → Keeps c s
    → Before c s.hop s.followed s.piece s.kept (ups_taken s.journal) → mains_sent s.journal ≡ redirects_to c s.hop → backs_sent s.journal ≡ []
    → Keeps c (fetch_hop c s o)
ready_keeps c s None e l b m k = l
ready_keeps c s (Some (hop.Fail st)) e l b m k =
    sent_main c Done s.hop s.followed s.piece s.kept s.journal (main.FailedOpen s.hop st)
    (s.hop, b.all, inl (k, inr (inr (st, ap (λ t. t ++ main.FailedOpen s.hop st ∷ []) m, e))))
ready_keeps c s (Some (hop.Redirect code verdict)) e l b m k =
    redirect_keeps c s code s.kept (rw e tt) (ap hop_code e) b b m k
ready_keeps c s (Some (hop.Response head pieces end trailers)) e l b m k =
    given_keeps c s s.kept head false b.all b.none (m ∙ sym (append_nil _)) (λ y. cc) k (rw e refl)
    (kept_start_cause (ups_taken s.journal) s.hop s.kept b.kept) (kept_fails (ups_taken s.journal) s.kept b.kept)

all_next : (c : ChannelPlan) (h : ℕ) → RedirectsTo c h → IsRedirect (hop_at c h) → RedirectsTo c (suc h)
all_next c h all r = λ i l. elim (eqb_tells i h) [
  | inl x ↦ subst (λ n. IsRedirect (hop_at c n)) (sym x.1) r
  | inr x ↦ let ne : i ≡ h → ⊥ = x.1 in all i (omega arith)
]

follow_keeps : (c : ChannelPlan) (s : ParentState) (q : Option Status) (o : Option Hop) → hop_at c s.hop ≡ o → Keeps c s
    → Before c s.hop s.followed s.piece q (ups_taken s.journal) → Before c s.hop s.followed s.piece s.kept (ups_taken s.journal)
    → mains_sent s.journal ≡ redirects_to c s.hop ++ question c s.hop true → backs_sent s.journal ≡ []
    → IsRedirect (hop_at c s.hop)
    → Keeps c (fetch_follow c s q o)
follow_keeps c s (Some q) None e l b b0 m k r = let no : ⊥ = rw e at r in absurd no
follow_keeps c s (Some q) (Some (hop.Fail st)) e l b b0 m k r = let no : ⊥ = rw e at r in absurd no
follow_keeps c s (Some q) (Some (hop.Response head pieces end trailers)) e l b b0 m k r = let no : ⊥ = rw e at r in absurd no
follow_keeps c s (Some q) (Some (hop.Redirect code verdict)) e l b b0 m k r =
    given_keeps c s (Some q) (bare_head code) true b.all b.none m (λ x. r) k
    (redirect_hop (hop_at c s.hop) code q r (ap hop_code e) b.kept.0) (kept_start_cause (ups_taken s.journal) s.hop (Some q) b.kept) b.kept.0
follow_keeps c s None o e l b b0 m k r =
    sent_main c Ready (suc s.hop) (suc s.followed) s.piece s.kept s.journal (main.Redirect3 s.hop) (
      record { all = all_next c s.hop b.all r; count = ap suc b.count; none = b.none; kept = b0.kept },
      (ap (λ t. t ++ main.Redirect3 s.hop ∷ []) m ∙ append_assoc (redirects_to c s.hop) (question c s.hop true) (main.Redirect3 s.hop ∷ [])),
      k,
    )

-- the body

pieces_then : (f o : ℕ) (xs : List (List ℕ)) (p : List ℕ) → piece_messages f o (xs ++ p ∷ []) ≡ piece_messages f o xs ++ back.Bytes f ok (o + size_of xs) p ∷ []
pieces_then f o [] p = rw (add-zero o) refl
pieces_then f o (x ∷ xs) p = ap (λ t. back.Bytes f ok o x ∷ t) (rw (← add_assoc o (length x) (size_of xs)) (pieces_then f (o + length x) xs p))

then_more : (bs pm x : List BackMsg) (bd : List BackMsg) → bd ≡ bs ++ (pm ++ []) → bd ++ x ≡ bs ++ (pm ++ x)
then_more bs pm x bd e = ap (λ t. t ++ x) (e ∙ ap (λ t. bs ++ t) (append_nil pm)) ∙ append_assoc bs pm x

-- what the lanes hold while no stop was sent
open_backs : (c : ChannelPlan) (h k : ℕ) (q : Option Status) (u : List UpMsg) (md : List MainMsg) (bd : List BackMsg) (b : InBody c h k q u md bd)
    → bd ≡ back_start c.start h b.started.status b.started.head ++ (piece_messages h 0 (take k (hop_pieces (hop_at c h))) ++ [])
open_backs c h k q u md bd b = rw b.place at (rw b.open_ended at b.started.backs)

stopped_law : (c : ChannelPlan) (h k : ℕ) (q : Option Status) (u : List UpMsg) (md : List MainMsg) (bd : List BackMsg) (b : InBody c h k q u md bd) (e : Status)
    → StopCause c u h b.started.status k e → SentLaw c u md (bd ++ back.Stop h e (stop_trailers c h e) ∷ [])
stopped_law c h k q u md bd b e cause = (
  h,
  b.all,
  inr (record {
    asked = b.started.asked;
    status = b.started.status;
    head = b.started.head;
    pieces = k;
    stop = Some e;
    is_head = b.started.is_head;
    asked_hop = b.started.asked_hop;
    mains = b.started.mains;
    backs = then_more _ _ (back.Stop h e (stop_trailers c h e) ∷ []) bd (open_backs c h k q u md bd b);
    within = rw b.place at b.started.within;
    failed = λ f. sym b.place ∙ b.started.failed f;
    cause = b.started.cause;
    stop_cause = cause;
  }),
)

-- a kept failure is the start's or a cancel's
kept_stops : (c : ChannelPlan) (h k : ℕ) (u : List UpMsg) (md : List MainMsg) (bd : List BackMsg) (e : Status) (b : InBody c h k (Some e) u md bd)
    → StartCause u h b.started.status → StopCause c u h b.started.status k e
kept_stops c h k u md bd e b (inl o) = let kc : (is_failure e ≡ true) × IsCancelled u e = b.kept o in inr (inl (o, kc.0, kc.1))
kept_stops c h k u md bd e b (inr (f, a)) = let x : Some e ≡ Some b.started.status = b.failed f in inl (f, cc)

-- with no failure kept, the start had none
is_ok : (c : ChannelPlan) (h k : ℕ) (u : List UpMsg) (md : List MainMsg) (bd : List BackMsg) (b : InBody c h k None u md bd) → StartCause u h b.started.status → b.started.status ≡ ok
is_ok c h k u md bd b (inl o) = o
is_ok c h k u md bd b (inr (f, a)) = let x : None ≡ Some b.started.status = b.failed f in cc

next_piece : (c : ChannelPlan) (h k : ℕ) (u : List UpMsg) (md : List MainMsg) (bd : List BackMsg) (p : List ℕ) (b : InBody c h k None u md bd)
    → slice_get (hop_pieces (hop_at c h)) k ≡ Some p
    → InBody c h (suc k) None u md (bd ++ back.Bytes h ok (size_of (take k (hop_pieces (hop_at c h)))) p ∷ [])
next_piece c h k u md bd p b e =
    let ps = hop_pieces (hop_at c h) in
    let o : b.started.status ≡ ok = is_ok c h k u md bd b b.started.cause in
    record {
      all = b.all;
      started = record {
        asked = b.started.asked;
        status = b.started.status;
        head = b.started.head;
        pieces = suc k;
        stop = None;
        is_head = b.started.is_head;
        asked_hop = b.started.asked_hop;
        mains = b.started.mains;
        backs =
            then_more _ _ (back.Bytes h ok (size_of (take k ps)) p ∷ []) bd (open_backs c h k None u md bd b)
            ∙ ap (λ t. back_start c.start h b.started.status b.started.head ++ t)
            (sym (ap (λ t. piece_messages h 0 t) (take_next ps k p e) ∙ (pieces_then h 0 (take k ps) p ∙ rw (zero-add (size_of (take k ps))) refl))
            ∙ sym (append_nil (piece_messages h 0 (take (suc k) ps))));
        within = before_end ps k p e;
        failed = λ f. let x : None ≡ Some b.started.status = b.failed f in cc;
        cause = b.started.cause;
        stop_cause = tt;
      };
      open_ended = refl;
      place = refl;
      failed = b.failed;
      kept = b.kept;
    }

is_whole : (c : ChannelPlan) (h k : ℕ) (q : Option Status) (u : List UpMsg) (md : List MainMsg) (bd : List BackMsg) (b : InBody c h k q u md bd)
    → slice_get (hop_pieces (hop_at c h)) k ≡ None → k ≡ length (hop_pieces (hop_at c h))
is_whole c h k q u md bd b e =
    let low : length (hop_pieces (hop_at c h)) ≤ k = past_end (hop_pieces (hop_at c h)) k e in
    let high : k ≤ length (hop_pieces (hop_at c h)) = rw b.place at b.started.within in
    omega arith

end_keeps : (c : ChannelPlan) (s : ParentState) (head : Head) (pieces : List (List ℕ)) (end : Finish) (trailers : List _)
    → hop_at c s.hop ≡ Some (hop.Response head pieces end trailers) → FinishOk end
    → InBody c s.hop s.piece None (ups_taken s.journal) (mains_sent s.journal) (backs_sent s.journal)
    → s.piece ≡ length (hop_pieces (hop_at c s.hop)) → Keeps c (fetch_finish c s end)
end_keeps c s head pieces finish.Good trailers e v b w =
    sent_back c Done s.hop s.followed s.piece s.kept s.journal (back.Stop s.hop ok (stop_trailers c s.hop ok))
    (stopped_law c s.hop s.piece None _ _ _ b ok (inr (inr (inr (is_ok c s.hop s.piece _ _ _ b b.started.cause, refl, w, rw e refl)))))
end_keeps c s head pieces (finish.Fail st) trailers e v b w =
    sent_back c Done s.hop s.followed s.piece (Some st) s.journal (back.Stop s.hop st (stop_trailers c s.hop st))
    (stopped_law c s.hop s.piece None _ _ _ b st (inr (inr (inl (is_ok c s.hop s.piece _ _ _ b b.started.cause, v, w, rw e refl)))))

piece_keeps : (c : ChannelPlan) (s : ParentState) (head : Head) (pieces : List (List ℕ)) (end : Finish) (trailers : List _) (o : Option (List ℕ))
    → hop_at c s.hop ≡ Some (hop.Response head pieces end trailers) → FinishOk end → Keeps c s → s.kept ≡ None
    → InBody c s.hop s.piece None (ups_taken s.journal) (mains_sent s.journal) (backs_sent s.journal)
    → slice_get pieces s.piece ≡ o → Keeps c (fetch_piece c s pieces end o)
piece_keeps c s head pieces end trailers None e v l n b g =
    end_keeps c s head pieces end trailers e v b (is_whole c s.hop s.piece None _ _ _ b (rw (ap hop_pieces e) g))
piece_keeps c s head pieces end trailers (Some p) e v l n b g =
    keeps_if (Keeps c) (int_lt (pos 0) s.credit) _ s
    (λ x. sent_back c Body s.hop s.followed (suc s.piece) s.kept s.journal (back.Bytes s.hop ok (offset_of pieces s.piece) p)
    (rw n (rw (ap hop_pieces e) at (next_piece c s.hop s.piece _ _ _ p b (rw (ap hop_pieces e) g)))))
    (λ x. l)

body_keeps : (c : ChannelPlan) (s : ParentState) (q : Option Status) (o : Option Hop) → hop_at c s.hop ≡ o → HopOk o → s.kept ≡ q → Keeps c s
    → InBody c s.hop s.piece q (ups_taken s.journal) (mains_sent s.journal) (backs_sent s.journal) → Keeps c (fetch_body c s q o)
body_keeps c s (Some q) o e v n l b =
    sent_back c Done s.hop s.followed s.piece s.kept s.journal (back.Stop s.hop q (stop_trailers c s.hop q))
    (stopped_law c s.hop s.piece (Some q) _ _ _ b q (kept_stops c s.hop s.piece _ _ _ q b b.started.cause))
body_keeps c s None None e v n l b = l
body_keeps c s None (Some (hop.Fail st)) e v n l b = l
body_keeps c s None (Some (hop.Redirect code verdict)) e v n l b = l
body_keeps c s None (Some (hop.Response head pieces end trailers)) e v n l b =
    piece_keeps c s head pieces end trailers (slice_get pieces s.piece) e v l n b refl

fetch_keeps : (c : ChannelPlan) (s : ParentState) (ph : Phase) → PlanOk c → Keeps c s
    → Law c ph s.hop s.followed s.piece s.kept (ups_taken s.journal) (mains_sent s.journal) (backs_sent s.journal) → Keeps c (fetch_in c s ph)
fetch_keeps c s Closed v l h = l
fetch_keeps c s Asking v l h = l
fetch_keeps c s Done v l h = l
fetch_keeps c s Ready v l (b, m, k) = ready_keeps c s (hop_at c s.hop) refl l b m k
fetch_keeps c s Follow v l (b, m, k, r) = follow_keeps c s s.kept (hop_at c s.hop) refl l b b m k r
fetch_keeps c s Body v l b = body_keeps c s s.kept (hop_at c s.hop) refl (v.0 s.hop) refl l b

pub parent_keeps : (c : ChannelPlan) (steps : List ParentStep) → PlanOk c → Keeps c (parent_after c steps)
parent_keeps c [] v = (record { all = λ i l. absurd (omega arith); count = refl; none = refl; kept = tt }, refl, refl)
parent_keeps c (step.Up m ∷ es) v = up_keeps c m (parent_after c es) (parent_keeps c es v)
parent_keeps c (step.Fetch ∷ es) v =
    let s = parent_after c es in
    keeps_if (Keeps c) s.suspended s (fetch_in c s s.phase) (λ x. parent_keeps c es v) (λ x. fetch_keeps c s s.phase v (parent_keeps c es v) (parent_keeps c es v))

-- whatever messages come, what a parent sends keeps the law of the lanes
pub lane_law : (c : ChannelPlan) (steps : List ParentStep) → PlanOk c
    → SentLaw c (ups_taken (parent_after c steps).journal) (mains_sent (parent_after c steps).journal) (backs_sent (parent_after c steps).journal)
lane_law c steps v = let s = parent_after c steps in law c s.phase s.hop s.followed s.piece s.kept _ _ _ (parent_keeps c steps v)
