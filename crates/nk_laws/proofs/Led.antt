-- A parent of a calm plan: the redirects that it followed are allowed ones, and its start is the one of the calm trace.
use Rattle.std.proofs.Common.{ℕ, zero, suc, ◌≡◌, ◌+◌, ◌≤◌, ◌<◌, refl, sym, ◌∙◌, ap, subst, List, [], ◌∷◌, ◌++◌, length, Bool, true, false, if◌then◌else◌, nat_lt, drop, arith, Option, Some, None, slice_get, ◌==◌, pos, int_lt, ◌⊎◌, inl, inr}
use Rattle.nk_base.specs.declared.message.MainMsg.{MainMsg}
use Rattle.nk_base.specs.declared.message.BackMsg.{BackMsg}
use Rattle.nk_base.specs.declared.message.UpMsg.{UpMsg}
use Rattle.nk_plan.specs.declared.plan.ChannelPlan.{ChannelPlan}
use Rattle.nk_plan.specs.declared.journal.ParentEntry.{ParentEntry}
use Rattle.nk_laws.proofs.Premises.{PlanOk, VerdictOk, HopOk, EndsByFailure, Known}
use Rattle.nk_plan.specs.Trace.{SeqTrace, Follows}
use Rattle.nk_plan.specs.Parent.{ParentState, parent_step, start_entries, give_start, bare_head, fetch_finish, fetch_piece, fetch_body, fetch_redirect, fetch_hop, fetch_follow, fetch_in, take_up, opened_phase, kept_after_cancel, awaits_verdict, offset_of}
use Rattle.nk_plan.specs.Journal.{mains_sent, backs_sent, ups_taken, first, final, cut}
use Rattle.nk_plan.specs.Child.{hop_verdict}
use Rattle.nk_plan.specs.Lanes.{redirects_to}
use Rattle.nk_plan.specs.Channel.{Channel, main_lane, back_lane, up_lane, up_step, main_step, back_step, channel_step, channel_after}
use Rattle.nk_plan.specs.declared.step.Step.{Step}
use Rattle.nk_plan.specs.declared.step.Step.TheVariants.{Act, Verdict, Fetch, Up, Forward, Main, Back, Release, Begin, Finish, Read}
use Rattle.nk_plan.specs.declared.plan.StartLane.{StartLane}
use Rattle.nk_plan.specs.declared.plan.Hop.{Hop}
use Rattle.nk_plan.specs.declared.plan.Finish.{Finish as End}
use Rattle.nk_base.specs.declared.status.Status.{Status}
use Rattle.nk_base.specs.declared.field.Head.{Head}
use Rattle.nk_base.specs.Status.{redirect_loop, is_failure, ok, merged, kept_status}
use Rattle.nk_plan.specs.Plan.{hop_at, hop_pieces}
use Rattle.nk_plan.specs.declared.step.Phase.{Phase}
use Rattle.nk_plan.specs.declared.step.Phase.TheVariants.{Closed, Ready, Asking, Follow, Body, Done}
use Rattle.nk_laws.proofs.ParentLaw.{mains-append, backs-append, Law, Keeps, parent_keeps}
use Rattle.nk_laws.proofs.Tools.{keeps_if}
use Rattle.nk_plan.specs.declared.event.ChildEvent.{ChildEvent}
use Rattle.nk_laws.specs.Moves.{Joined}
use Rattle.nk_laws.proofs.Joined.{up_journal, joined, run_trace}
use Rattle.std.proofs.lemmas.Bool.{eqb-true}
use Rattle.std.proofs.lemmas.Bool.Decides.{eqb_tells}
use Rattle.nk_plan.specs.declared.plan.Verdict.{Verdict as Answer}
use Rattle.nk_plan.specs.Calm.{IsCalm, allowed, last_hop, opening_failure, veto_of}
use Rattle.nk_laws.proofs.Course.{OkOrFails}
use Rattle.nk_laws.proofs.CourseState.{Course, Quiet, Going, Pending, Kept, Closing, Odd, RightMains, RightBacks, RightUp, RightUps, odd, odd_body, has_any}
use Rattle.nk_laws.proofs.CalmRun.{CalmRun, channel_calm}
use Rattle.nk_base.specs.declared.message.Entry.{Entry}
use Rattle.nk_base.specs.declared.message.UpMsg.TheVariants as up
use Rattle.nk_plan.specs.declared.step.ParentStep.TheVariants as parent
use Rattle.nk_plan.specs.declared.journal.ParentEntry.TheVariants as entry
use Rattle.nk_plan.specs.declared.plan.StartLane.TheVariants as lane
use Rattle.nk_plan.specs.declared.plan.Hop.TheVariants as hop
use Rattle.nk_plan.specs.declared.plan.Finish.TheVariants as finish
use Rattle.nk_base.specs.declared.message.MainMsg.TheVariants as main
use Rattle.nk_base.specs.declared.message.BackMsg.TheVariants as back
use Rattle.nk_plan.specs.declared.plan.Verdict.TheVariants as verdict
use Rattle.nk_base.specs.declared.message.Entry.TheVariants as shown

-- Where the parent of a calm plan is led

-- the status with which a calm load starts
abbrev pub calm_status : ChannelPlan → Status
calm_status c = kept_status (opening_failure (last_hop c) (hop_at c (last_hop c)))

abbrev pub IsAllowed : Option Hop → Type 0
IsAllowed None = ⊥
IsAllowed (Some (hop.Fail st)) = ⊥
IsAllowed (Some (hop.Redirect code verdict.Allow)) = Unit {0}
IsAllowed (Some (hop.Redirect code (verdict.Veto st))) = ⊥
IsAllowed (Some (hop.Response head pieces end trailers)) = ⊥

abbrev pub NotAllowed : Option Hop → Type 0
NotAllowed None = Unit {0}
NotAllowed (Some (hop.Fail st)) = Unit {0}
NotAllowed (Some (hop.Redirect code verdict.Allow)) = ⊥
NotAllowed (Some (hop.Redirect code (verdict.Veto st))) = Unit {0}
NotAllowed (Some (hop.Response head pieces end trailers)) = Unit {0}

abbrev pub AllAllowed : ChannelPlan → ℕ → Type 0
AllAllowed c h = (i : ℕ) → suc i ≤ h → IsAllowed (hop_at c i)

none_allowed : (n : ℕ) (x : Hop) (hops : List Hop) → NotAllowed (Some x) → allowed (suc n) (x ∷ hops) ≡ 0
none_allowed n (hop.Fail st) hops a = refl
none_allowed n (hop.Redirect code verdict.Allow) hops a = absurd a
none_allowed n (hop.Redirect code (verdict.Veto st)) hops a = refl
none_allowed n (hop.Response head pieces end trailers) hops a = refl

one_allowed : (n : ℕ) (x : Hop) (hops : List Hop) → IsAllowed (Some x) → allowed (suc n) (x ∷ hops) ≡ suc (allowed n hops)
one_allowed n (hop.Fail st) hops a = absurd a
one_allowed n (hop.Redirect code verdict.Allow) hops a = refl
one_allowed n (hop.Redirect code (verdict.Veto st)) hops a = absurd a
one_allowed n (hop.Response head pieces end trailers) hops a = absurd a

allowed_is : (n : ℕ) (hops : List Hop) (h : ℕ) → h ≤ n → ((i : ℕ) → suc i ≤ h → IsAllowed (slice_get hops i)) → (h ≡ n) ⊎ NotAllowed (slice_get hops h) → allowed n hops ≡ h
allowed_is zero hops h l f e = omega arith
allowed_is (suc n) [] zero l f e = refl
allowed_is (suc n) [] (suc h) l f e = absurd (f 0 (omega arith))
allowed_is (suc n) (x ∷ hops) zero l f (inl e) = absurd (omega arith)
allowed_is (suc n) (x ∷ hops) zero l f (inr a) = none_allowed n x hops a
allowed_is (suc n) (x ∷ hops) (suc h) l f e =
    one_allowed n x hops (f 0 (omega arith)) ∙ ap (λ t. suc t)
    (allowed_is n hops h (omega arith) (λ i p. f (suc i) (omega arith)) (elim e [ inl y ↦ inl (omega arith) | inr y ↦ inr y ]))

last_is : (c : ChannelPlan) (h : ℕ) → h ≤ 20 → AllAllowed c h → (h ≡ 20) ⊎ NotAllowed (hop_at c h) → last_hop c ≡ h
last_is c h l f e = allowed_is 20 c.hops h l f e

status_at : (c : ChannelPlan) (h : ℕ) (o : Option Hop) (s : Option Status) → last_hop c ≡ h → hop_at c h ≡ o → opening_failure h o ≡ s → kept_status s ≡ calm_status c
status_at c h o s a b e = sym (ap (λ n. kept_status (opening_failure n (hop_at c n))) a ∙ (ap (λ x. kept_status (opening_failure h x)) b ∙ ap kept_status e))

-- the answer of the page to a hop's question
abbrev pub Answered : Option Hop → Option Status → Type 0
Answered None q = ⊥
Answered (Some (hop.Fail st)) q = ⊥
Answered (Some (hop.Redirect code verdict.Allow)) q = q ≡ None
Answered (Some (hop.Redirect code (verdict.Veto st))) q = q ≡ Some st
Answered (Some (hop.Response head pieces end trailers)) q = ⊥

abbrev pub IsRed : Option Hop → Type 0
IsRed None = ⊥
IsRed (Some (hop.Fail st)) = ⊥
IsRed (Some (hop.Redirect code verdict)) = Unit {0}
IsRed (Some (hop.Response head pieces end trailers)) = ⊥

abbrev pub LedIn : ChannelPlan → Phase → ℕ → ℕ → Option Status → Type 0
LedIn c Closed h n q = AllAllowed c h × (n ≡ h) × (h ≤ 20) × (q ≡ None)
LedIn c Ready h n q = AllAllowed c h × (n ≡ h) × (h ≤ 20) × (q ≡ None)
LedIn c Asking h n q = AllAllowed c h × (n ≡ h) × (h < 20) × (q ≡ None) × IsRed (hop_at c h)
LedIn c Follow h n q = AllAllowed c h × (n ≡ h) × (h < 20) × Answered (hop_at c h) q
LedIn c Body h n q = Unit {0}
LedIn c Done h n q = Unit {0}

abbrev pub Free : Status → Type 0
Free st = Unit {0}

-- a start is one of the last hop
abbrev pub HopMains : ChannelPlan → List MainMsg → Type 0
HopMains c [] = Unit {0}
HopMains c (main.Start h st head ∷ ms) = (h ≡ last_hop c) × HopMains c ms
HopMains c (main.FailedOpen h st ∷ ms) = (h ≡ last_hop c) × HopMains c ms
HopMains c (main.Redirect1 h code ∷ ms) = HopMains c ms
HopMains c (main.Redirect3 h ∷ ms) = HopMains c ms

abbrev pub HopBacks : ChannelPlan → List BackMsg → Type 0
HopBacks c [] = Unit {0}
HopBacks c (back.Start h st head ∷ ms) = (h ≡ last_hop c) × HopBacks c ms
HopBacks c (back.StartSent h ∷ ms) = HopBacks c ms
HopBacks c (back.Bytes h st o p ∷ ms) = HopBacks c ms
HopBacks c (back.Stop h st trailers ∷ ms) = HopBacks c ms

abbrev pub Msgs : ChannelPlan → List ParentEntry → Type 0
Msgs c j = RightMains (calm_status c) Free (Unit {0}) (mains_sent j) × RightBacks (calm_status c) Free (Unit {0}) (backs_sent j) × HopMains c (mains_sent j) × HopBacks c (backs_sent j)

abbrev pub Led : ChannelPlan → ParentState → Type 0
Led c s = LedIn c s.phase s.hop s.followed s.kept × Msgs c s.journal

pub mains_join : (E : Status) (T : Status → Type 0) (G : Type 0) (xs ys : List MainMsg) → RightMains E T G xs → RightMains E T G ys → RightMains E T G (xs ++ ys)
mains_join E T G [] ys a b = b
mains_join E T G (m ∷ xs) ys a b = (a.0, mains_join E T G xs ys a.1 b)

backs_join : (E : Status) (T : Status → Type 0) (G : Type 0) (xs ys : List BackMsg) → RightBacks E T G xs → RightBacks E T G ys → RightBacks E T G (xs ++ ys)
backs_join E T G [] ys a b = b
backs_join E T G (m ∷ xs) ys a b = (a.0, backs_join E T G xs ys a.1 b)

hop_mains_join : (c : ChannelPlan) (xs ys : List MainMsg) → HopMains c xs → HopMains c ys → HopMains c (xs ++ ys)
hop_mains_join c [] ys a b = b
hop_mains_join c (main.Start h st head ∷ xs) ys a b = (a.0, hop_mains_join c xs ys a.1 b)
hop_mains_join c (main.FailedOpen h st ∷ xs) ys a b = (a.0, hop_mains_join c xs ys a.1 b)
hop_mains_join c (main.Redirect1 h code ∷ xs) ys a b = hop_mains_join c xs ys a b
hop_mains_join c (main.Redirect3 h ∷ xs) ys a b = hop_mains_join c xs ys a b

hop_backs_join : (c : ChannelPlan) (xs ys : List BackMsg) → HopBacks c xs → HopBacks c ys → HopBacks c (xs ++ ys)
hop_backs_join c [] ys a b = b
hop_backs_join c (back.Start h st head ∷ xs) ys a b = (a.0, hop_backs_join c xs ys a.1 b)
hop_backs_join c (back.StartSent h ∷ xs) ys a b = hop_backs_join c xs ys a b
hop_backs_join c (back.Bytes h st o p ∷ xs) ys a b = hop_backs_join c xs ys a b
hop_backs_join c (back.Stop h st trailers ∷ xs) ys a b = hop_backs_join c xs ys a b

msgs_more : (c : ChannelPlan) (j k : List ParentEntry) → Msgs c j → Msgs c k → Msgs c (j ++ k)
msgs_more c j k a b = (
  subst (λ t. RightMains (calm_status c) Free (Unit {0}) t) (sym (mains-append j k)) (mains_join (calm_status c) Free (Unit {0}) (mains_sent j) (mains_sent k) a.0 b.0),
  subst (λ t. RightBacks (calm_status c) Free (Unit {0}) t) (sym (backs-append j k)) (backs_join (calm_status c) Free (Unit {0}) (backs_sent j) (backs_sent k) a.1 b.1),
  subst (λ t. HopMains c t) (sym (mains-append j k)) (hop_mains_join c (mains_sent j) (mains_sent k) a.2 b.2),
  subst (λ t. HopBacks c t) (sym (backs-append j k)) (hop_backs_join c (backs_sent j) (backs_sent k) a.3 b.3),
)

given_msgs : (c : ChannelPlan) (l : StartLane) (j : List ParentEntry) (h : ℕ) (st : Status) (head : Head) → st ≡ calm_status c → h ≡ last_hop c → Msgs c j → Msgs c (j ++ start_entries l h st head)
given_msgs c lane.Main j h st head e l m = msgs_more c j (start_entries lane.Main h st head) m (((e, tt), tt), (tt, tt), (l, tt), tt)
given_msgs c lane.Back j h st head e l m = msgs_more c j (start_entries lane.Back h st head) m (tt, ((e, tt), tt), tt, (l, tt))

finished_led : (c : ChannelPlan) (s : ParentState) (end : End) → Led c s → Led c (fetch_finish c s end)
finished_led c s finish.Good l = (tt, msgs_more c s.journal _ l.1 (tt, (tt, tt), tt, tt))
finished_led c s (finish.Fail st) l = (tt, msgs_more c s.journal _ l.1 (tt, (tt, tt), tt, tt))

piece_led : (c : ChannelPlan) (s : ParentState) (pieces : List (List ℕ)) (end : End) (o : Option (List ℕ)) → Led c s → Led c (fetch_piece c s pieces end o)
piece_led c s pieces end None l = finished_led c s end l
piece_led c s pieces end (Some p) l = keeps_if (Led c) (int_lt (pos 0) s.credit) _ s (λ r. (tt, msgs_more c s.journal (entry.SentBack (back.Bytes s.hop ok (offset_of pieces s.piece) p) ∷ []) l.1 (tt, (refl, tt), tt, tt))) (λ r. l)

body_led : (c : ChannelPlan) (s : ParentState) (q : Option Status) (o : Option Hop) → Led c s → Led c (fetch_body c s q o)
body_led c s (Some q) o l = (tt, msgs_more c s.journal _ l.1 (tt, (tt, tt), tt, tt))
body_led c s None None l = l
body_led c s None (Some (hop.Fail st)) l = l
body_led c s None (Some (hop.Redirect code verdict)) l = l
body_led c s None (Some (hop.Response head pieces end trailers)) l = piece_led c s pieces end (slice_get pieces s.piece) l

loop_end : (h code : ℕ) (v : Answer) → h ≡ 20 → opening_failure h (Some (hop.Redirect code v)) ≡ Some redirect_loop
loop_end h code v e = rw e refl

below : (h : ℕ) → h ≤ 20 → (h == 20) ≡ false → h < 20
below h l e = elim (eqb_tells h 20) [
  | inl x ↦ let y : (h == 20) ≡ true = x.0 in absurd (cc)
  | inr x ↦ let ne : h ≡ 20 → ⊥ = x.1 in omega arith
]

redirect_led : (c : ChannelPlan) (s : ParentState) (code : ℕ) (v : Answer) (q : Option Status) → s.kept ≡ q → hop_at c s.hop ≡ Some (hop.Redirect code v) → AllAllowed c s.hop → s.followed ≡ s.hop → s.hop ≤ 20 → s.kept ≡ None → Msgs c s.journal → Led c (fetch_redirect c s code q)
redirect_led c s code v (Some q) e o a n l k m = let x : Some q ≡ None = sym e ∙ k in cc
redirect_led c s code v None e o a n l k m =
    keeps_if (Led c) (s.followed == 20) (give_start c s (Some redirect_loop) (bare_head code)) _
    (λ r.
    let h : s.hop ≡ 20 = sym n ∙ eqb-true s.followed 20 r in
    (tt, given_msgs c c.start s.journal s.hop redirect_loop (bare_head code) (status_at c s.hop (Some (hop.Redirect code v)) (Some redirect_loop) (last_is c s.hop l a (inl h)) o (loop_end s.hop code v h)) (sym (last_is c s.hop l a (inl h))) m))
    (λ r.
    let r1 : (s.hop == 20) ≡ false = ap (λ x. x == 20) (sym n) ∙ r in
    ((a, n, below s.hop l r1, k, subst IsRed (sym o) tt), msgs_more c s.journal (entry.SentMain (main.Redirect1 s.hop code) ∷ []) m ((tt, tt), tt, tt, tt)))

ready_in : (c : ChannelPlan) (s : ParentState) (o : Option Hop) → hop_at c s.hop ≡ o → LedIn c Ready s.hop s.followed s.kept → Led c s → Led c (fetch_hop c s o)
ready_in c s None e a l = l
ready_in c s (Some (hop.Fail st)) e a l = (
  tt,
  msgs_more c s.journal (entry.SentMain (main.FailedOpen s.hop st) ∷ []) l.1
      (((status_at c s.hop (Some (hop.Fail st)) (Some st) (last_is c s.hop a.2 a.0 (inr (subst NotAllowed (sym e) tt))) e refl, tt, tt), tt), tt, (sym (last_is c s.hop a.2 a.0 (inr (subst NotAllowed (sym e) tt))), tt), tt),
)
ready_in c s (Some (hop.Redirect code v)) e a l = redirect_led c s code v s.kept refl e a.0 a.1 a.2 a.3 l.1
ready_in c s (Some (hop.Response head pieces end trailers)) e a l = (
  tt,
  given_msgs c c.start s.journal s.hop (kept_status s.kept) head
      (ap kept_status a.3 ∙ status_at c s.hop (Some (hop.Response head pieces end trailers)) None (last_is c s.hop a.2 a.0 (inr (subst NotAllowed (sym e) tt))) e refl) (sym (last_is c s.hop a.2 a.0 (inr (subst NotAllowed (sym e) tt)))) l.1,
)

ready_led : (c : ChannelPlan) (s : ParentState) (o : Option Hop) → s.phase ≡ Ready → hop_at c s.hop ≡ o → Led c s → Led c (fetch_hop c s o)
ready_led c s o p e l = ready_in c s o e (subst (λ x. LedIn c x s.hop s.followed s.kept) p l.0) l

next_allowed : (c : ChannelPlan) (h : ℕ) → AllAllowed c h → IsAllowed (hop_at c h) → AllAllowed c (suc h)
next_allowed c h a b i p = elim (eqb_tells i h) [
  | inl x ↦ let e : i ≡ h = eqb-true i h x.0 in rw e b
  | inr x ↦ let ne : i ≡ h → ⊥ = x.1 in a i (omega arith)
]

answered_none : (o : Option Hop) → Answered o None → IsAllowed o
answered_none None a = a
answered_none (Some (hop.Fail st)) a = a
answered_none (Some (hop.Redirect code verdict.Allow)) a = tt
answered_none (Some (hop.Redirect code (verdict.Veto st))) a = cc
answered_none (Some (hop.Response head pieces end trailers)) a = a

veto_end : (h code : ℕ) (st : Status) → h < 20 → opening_failure h (Some (hop.Redirect code (verdict.Veto st))) ≡ Some st
veto_end h code st l = keeps_if (λ x. x ≡ Some st) (h == 20) (Some redirect_loop) (Some st) (λ r. let e : h ≡ 20 = eqb-true h 20 r in absurd (omega arith)) (λ r. refl)

follow_in : (c : ChannelPlan) (s : ParentState) (q : Option Status) (o : Option Hop) → s.kept ≡ q → hop_at c s.hop ≡ o → AllAllowed c s.hop × (s.followed ≡ s.hop) × (s.hop < 20) × Answered o q → Led c s → Led c (fetch_follow c s q o)
follow_in c s (Some q) None k e a l = absurd a.3
follow_in c s (Some q) (Some (hop.Fail st)) k e a l = absurd a.3
follow_in c s (Some q) (Some (hop.Redirect code verdict.Allow)) k e a l = let x : Some q ≡ None = a.3 in cc
follow_in c s (Some q) (Some (hop.Redirect code (verdict.Veto st))) k e a l =
    let x : Some q ≡ Some st = a.3 in
    let y : q ≡ st = cc in
    let b : s.hop < 20 = a.2 in (
      tt,
      given_msgs c c.start s.journal s.hop q (bare_head code)
          (y ∙ status_at c s.hop (Some (hop.Redirect code (verdict.Veto st))) (Some st) (last_is c s.hop (omega arith) a.0 (inr (subst NotAllowed (sym e) tt))) e (veto_end s.hop code st b)) (sym (last_is c s.hop (omega arith) a.0 (inr (subst NotAllowed (sym e) tt)))) l.1,
    )
follow_in c s (Some q) (Some (hop.Response head pieces end trailers)) k e a l = absurd a.3
follow_in c s None o k e a l =
    let b : s.hop < 20 = a.2 in
    ((next_allowed c s.hop a.0 (subst IsAllowed (sym e) (answered_none o a.3)), ap (λ n. suc n) a.1, omega arith, k), msgs_more c s.journal (entry.SentMain (main.Redirect3 s.hop) ∷ []) l.1 ((tt, tt), tt, tt, tt))

fetch_led : (c : ChannelPlan) (s : ParentState) (ph : Phase) → s.phase ≡ ph → Led c s → Led c (fetch_in c s ph)
fetch_led c s Closed e l = l
fetch_led c s Asking e l = l
fetch_led c s Done e l = l
fetch_led c s Ready e l = ready_led c s (hop_at c s.hop) e refl l
fetch_led c s Follow e l = let a : LedIn c Follow s.hop s.followed s.kept = subst (λ x. LedIn c x s.hop s.followed s.kept) e l.0 in follow_in c s s.kept (hop_at c s.hop) refl refl a l
fetch_led c s Body e l = body_led c s s.kept (hop_at c s.hop) l

fetch_step_led : (c : ChannelPlan) (s : ParentState) → Led c s → Led c (parent_step c parent.Fetch s)
fetch_step_led c s l = keeps_if (Led c) s.suspended s (fetch_in c s s.phase) (λ r. l) (λ r. fetch_led c s s.phase refl l)

-- a message of the page's side

abbrev pub IsEarly : Phase → Type 0
IsEarly Closed = Unit {0}
IsEarly Ready = Unit {0}
IsEarly Asking = Unit {0}
IsEarly Follow = Unit {0}
IsEarly Body = ⊥
IsEarly Done = ⊥

open_led : (c : ChannelPlan) (ph : Phase) (h n : ℕ) (q : Option Status) → LedIn c ph h n q → LedIn c (opened_phase ph) h n q
open_led c Closed h n q l = l
open_led c Ready h n q l = l
open_led c Asking h n q l = l
open_led c Follow h n q l = l
open_led c Body h n q l = l
open_led c Done h n q l = l

cancel_led : (c : ChannelPlan) (ph : Phase) (h n : ℕ) (q : Option Status) (st : Status) → (IsEarly ph → ⊥) → LedIn c ph h n q → LedIn c ph h n (kept_after_cancel ph q st)
cancel_led c Closed h n q st f l = absurd (f tt)
cancel_led c Ready h n q st f l = absurd (f tt)
cancel_led c Asking h n q st f l = absurd (f tt)
cancel_led c Follow h n q st f l = absurd (f tt)
cancel_led c Body h n q st f l = tt
cancel_led c Done h n q st f l = tt

merged_ok : merged None ok ≡ None
merged_ok = refl

answer_is : (o : Option Hop) → IsRed o → HopOk o → Answered o (merged None (hop_verdict o))
answer_is None r v = r
answer_is (Some (hop.Fail st)) r v = r
answer_is (Some (hop.Redirect code verdict.Allow)) r v = merged_ok
answer_is (Some (hop.Redirect code (verdict.Veto st))) r v = rw v refl
answer_is (Some (hop.Response head pieces end trailers)) r v = r

asking_led : (c : ChannelPlan) (b : Bool) (h n : ℕ) (q : Option Status) (st : Status) → PlanOk c → (b ≡ true → st ≡ hop_verdict (hop_at c h)) → LedIn c Asking h n q → LedIn c (if b then Follow else Asking) h n (if b then merged q st else q)
asking_led c true h n q st v f l =
    (l.0, l.1, l.2, subst (λ x. Answered (hop_at c h) x) (sym (ap (λ x. merged x st) l.3 ∙ ap (λ x. merged None x) (f refl))) (answer_is (hop_at c h) l.4 (v.0 h)))
asking_led c false h n q st v f l = l

verify_led : (c : ChannelPlan) (ph : Phase) (h n i : ℕ) (q : Option Status) (st : Status) → PlanOk c → (IsEarly ph → st ≡ hop_verdict (hop_at c i)) → LedIn c ph h n q → LedIn c (if awaits_verdict ph h i then Follow else ph) h n (if awaits_verdict ph h i then merged q st else q)
verify_led c Closed h n i q st v f l = l
verify_led c Ready h n i q st v f l = l
verify_led c Asking h n i q st v f l = asking_led c (h == i) h n q st v (λ e. f tt ∙ ap (λ x. hop_verdict (hop_at c x)) (sym (eqb-true h i e))) l
verify_led c Follow h n i q st v f l = l
verify_led c Body h n i q st v f l = l
verify_led c Done h n i q st v f l = l

up_in : (c : ChannelPlan) (m : UpMsg) (s : ParentState) → PlanOk c → (IsEarly s.phase → RightUp c m) → LedIn c s.phase s.hop s.followed s.kept → LedIn c (take_up c s m).phase (take_up c s m).hop (take_up c s m).followed (take_up c s m).kept
up_in c up.Open s v f l = open_led c s.phase s.hop s.followed s.kept l
up_in c up.Suspend s v f l = l
up_in c up.Resume s v f l = l
up_in c (up.Cancel st) s v f l = cancel_led c s.phase s.hop s.followed s.kept st f l
up_in c (up.Verify i st) s v f l = verify_led c s.phase s.hop s.followed i s.kept st v f l
up_in c (up.BytesRead n) s v f l = l
up_in c up.Deleting s v f l = tt

up_led : (c : ChannelPlan) (m : UpMsg) (s : ParentState) → PlanOk c → (IsEarly s.phase → RightUp c m) → Led c s → Led c (parent_step c (parent.Up m) s)
up_led c m s v f l = (up_in c m s v f l.0, msgs_more c (take_up c s m).journal (entry.Took m ∷ []) (subst (λ j. Msgs c j) (sym (up_journal c m s)) l.1) (tt, tt, tt, tt))

-- before the start a child has said what the plan says

pub closed_msgs : (c : ChannelPlan) (E : Status) (T : Status → Type 0) (f : ℕ) → RightMains E T ⊥ (redirects_to c f)
closed_msgs c E T zero = tt
closed_msgs c E T (suc f) = mains_join E T ⊥ (redirects_to c f) _ (closed_msgs c E T f) (tt, (tt, tt))

early_msgs : (c : ChannelPlan) (E : Status) (T : Status → Type 0) (ph : Phase) (h n k : ℕ) (q : Option Status) (u : List UpMsg) (md : List MainMsg) (bd : List BackMsg) → IsEarly ph → Law c ph h n k q u md bd → RightMains E T ⊥ md × RightBacks E T ⊥ bd
early_msgs c E T Closed h n k q u md bd e l = (subst (λ t. RightMains E T ⊥ t) (sym l.1) (closed_msgs c E T h), subst (λ t. RightBacks E T ⊥ t) (sym l.2) tt)
early_msgs c E T Ready h n k q u md bd e l = (subst (λ t. RightMains E T ⊥ t) (sym l.1) (closed_msgs c E T h), subst (λ t. RightBacks E T ⊥ t) (sym l.2) tt)
early_msgs c E T Asking h n k q u md bd e l = (subst (λ t. RightMains E T ⊥ t) (sym l.1) (mains_join E T ⊥ (redirects_to c h) _ (closed_msgs c E T h) (tt, tt)), subst (λ t. RightBacks E T ⊥ t) (sym l.2) tt)
early_msgs c E T Follow h n k q u md bd e l = (subst (λ t. RightMains E T ⊥ t) (sym l.1) (mains_join E T ⊥ (redirects_to c h) _ (closed_msgs c E T h) (tt, tt)), subst (λ t. RightBacks E T ⊥ t) (sym l.2) tt)
early_msgs c E T Body h n k q u md bd e l = absurd e
early_msgs c E T Done h n k q u md bd e l = absurd e

-- a trace of a sequential channel has its shape

follows_even : (c : ChannelPlan) (f : ℕ) (q : Option Status) (o : ℕ) (ps : List (List ℕ)) (t : List Entry) → Follows c f q o ps t → odd_body t ≡ false
follows_even c f q o ps [] h = refl
follows_even c f q o ps (shown.Start code s ∷ t) h = absurd h
follows_even c f q o [] (shown.Bytes at p ∷ t) h = absurd h
follows_even c f q o (y ∷ ps) (shown.Bytes at p ∷ t) h = follows_even c f q (o + length y) ps t h.2
follows_even c f q o ps (shown.Stop s trailers ∷ t) h = ap has_any h.0

pub even_trace : (c : ChannelPlan) (f : ℕ) (q : Option Status) (x : Bool) (t : List Entry) → SeqTrace c f q x t → odd t ≡ true → ⊥
even_trace c f q x [] h e = cc
even_trace c f q x (shown.Bytes o p ∷ t) h e = h
even_trace c f q x (shown.Stop s trailers ∷ t) h e = h
even_trace c f q x (shown.Start code s ∷ t) h e = let z : odd_body t ≡ false = follows_even c f q 0 (hop_pieces (hop_at c f)) t h.2 in cc

only_quiet : (c : ChannelPlan) (E : Status) (T : Status → Type 0) (trace : List Entry) (kept : Option Status) (stopped : Bool) (r : Option (_ × ChildEvent)) (w : List ChildEvent) (n : ℕ) (u : List UpMsg) (S : Type 0) → (odd trace ≡ true → ⊥) → Course c E T ⊥ trace kept stopped r w n u S → RightUps c u
only_quiet c E T trace kept stopped r w n u S f (Quiet a b d e z p s) = p
only_quiet c E T trace kept stopped r w n u S f (Going y a b d e q z s) = absurd y
only_quiet c E T trace kept stopped r w n u S f (Pending y a b d e i q rest z k why) = absurd y
only_quiet c E T trace kept stopped r w n u S f (Kept y q bg a why) = absurd y
only_quiet c E T trace kept stopped r w n u S f (Closing y q bg a fl b d e i z k s) = absurd y
only_quiet c E T trace kept stopped r w n u S f (Odd a) = absurd (f a)

dropped_right : (c : ChannelPlan) (k : ℕ) (u : List UpMsg) → RightUps c u → RightUps c (drop k u)
dropped_right c zero u r = r
dropped_right c (suc k) [] r = tt
dropped_right c (suc k) (m ∷ u) r = dropped_right c k u r.1

loop_fails : is_failure redirect_loop ≡ true
loop_fails = refl

veto_ok : (own : Answer) → VerdictOk own → OkOrFails (kept_status (veto_of own))
veto_ok verdict.Allow v = inl refl
veto_ok (verdict.Veto st) v = inr v

end_ok : (f : ℕ) (o : Option Hop) → HopOk o → OkOrFails (kept_status (opening_failure f o))
end_ok f None v = inl refl
end_ok f (Some (hop.Fail st)) v = inr v
end_ok f (Some (hop.Redirect code own)) v = keeps_if (λ x. OkOrFails (kept_status x)) (f == 20) (Some redirect_loop) (veto_of own) (λ r. inr loop_fails) (λ r. veto_ok own v)
end_ok f (Some (hop.Response head pieces end trailers)) v = inl refl

pub calm_ok : (c : ChannelPlan) → PlanOk c → OkOrFails (calm_status c)
calm_ok c v = end_ok (last_hop c) (hop_at c (last_hop c)) (v.0 (last_hop c))

early_right : (c : ChannelPlan) (steps : List Step) → PlanOk c → Known c → IsCalm c → EndsByFailure c.reactions → IsEarly (channel_after c steps).parent.phase → RightUps c (channel_after c steps).child.sent
early_right c steps v r cp ev e =
    let w = channel_after c steps in
    let j : Joined c w = joined c steps in
    let keeps : Keeps c w.parent = subst (λ (y : ParentState). Keeps c y) j.parent_is (parent_keeps c j.parent_steps v) in
    let m : RightMains (calm_status c) Free ⊥ (mains_sent w.parent.journal) × RightBacks (calm_status c) Free ⊥ (backs_sent w.parent.journal) = early_msgs c (calm_status c) Free w.parent.phase w.parent.hop w.parent.followed w.parent.piece w.parent.kept _ _ _ e keeps in
    let k : CalmRun c (calm_status c) Free ⊥ w.child = channel_calm c (calm_status c) Free ⊥ steps v r (calm_ok c v) cp ev m.0 m.1 in
    only_quiet c (calm_status c) Free w.child.trace w.child.kept w.child.stopped w.child.running w.child.queue.waiting w.child.data_begun w.child.sent _
    (even_trace c (final w.child.journal) (first w.child.journal) (cut w.child.journal) w.child.trace (run_trace c steps v)) k.course

up_done_led : (c : ChannelPlan) (l : List UpMsg) (w : Channel) → PlanOk c → (IsEarly w.parent.phase → RightUps c l) → Led c w.parent → Led c (up_step c l w).parent
up_done_led c [] w v f l = l
up_done_led c (m ∷ ms) w v f l = up_led c m w.parent v (λ e. let r : RightUps c (m ∷ ms) = f e in r.0) l

main_done_led : (c : ChannelPlan) (l : List MainMsg) (w : Channel) → Led c w.parent → Led c (main_step c l w).parent
main_done_led c [] w h = h
main_done_led c (m ∷ ms) w h = h

back_done_led : (c : ChannelPlan) (l : List BackMsg) (w : Channel) → Led c w.parent → Led c (back_step c l w).parent
back_done_led c [] w h = h
back_done_led c (m ∷ ms) w h = h

step_led : (c : ChannelPlan) (x : Step) (w : Channel) → PlanOk c → (IsEarly w.parent.phase → RightUps c w.child.sent) → Led c w.parent → Led c (channel_step c x w).parent
step_led c Act w v f l = l
step_led c Verdict w v f l = l
step_led c Fetch w v f l = fetch_step_led c w.parent l
step_led c Up w v f l = up_done_led c (up_lane w) w v (λ e. dropped_right c (length (ups_taken w.parent.journal)) w.child.sent (f e)) l
step_led c Forward w v f l = keeps_if (λ (y : Channel). Led c y.parent) (nat_lt w.forwarded (length (backs_sent w.parent.journal))) (record w { forwarded = suc w.forwarded }) w (λ q. l) (λ q. l)
step_led c Main w v f l = main_done_led c (main_lane w) w l
step_led c Back w v f l = back_done_led c (back_lane w) w l
step_led c Release w v f l = l
step_led c (Begin t) w v f l = l
step_led c (Finish t) w v f l = l
step_led c (Read reader) w v f l = l

pub channel_led : (c : ChannelPlan) (steps : List Step) → PlanOk c → Known c → IsCalm c → EndsByFailure c.reactions → Led c (channel_after c steps).parent
channel_led c [] v r cp ev = ((λ i p. absurd (omega arith), refl, omega arith, refl), (tt, tt, tt, tt))
channel_led c (x ∷ xs) v r cp ev = step_led c x (channel_after c xs) v (λ e. early_right c xs v r cp ev e) (channel_led c xs v r cp ev)
