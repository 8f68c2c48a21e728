-- What a calm load has shown once it has stopped is the calm trace of its plan.
use Rattle.std.proofs.Common.{ℕ, ◌≡◌, ◌+◌, ◌≤◌, ◌<◌, refl, sym, ◌∙◌, ap, subst, List, [], ◌∷◌, ◌++◌, length, Bool, true, false, if◌then◌else◌, nat_lt, take, arith, append_assoc, Option, Some, None, ◌==◌, zero-add, nat_le, ◌&&◌, ◌⊎◌, inl, inr}
use Rattle.std.proofs.lemmas.List.{take_all}
use Rattle.nk_base.specs.declared.message.MainMsg.{MainMsg}
use Rattle.nk_base.specs.declared.message.BackMsg.{BackMsg}
use Rattle.nk_base.specs.declared.message.UpMsg.{UpMsg}
use Rattle.nk_plan.specs.declared.plan.ChannelPlan.{ChannelPlan}
use Rattle.nk_laws.proofs.Tally.{journal_ending}
use Rattle.nk_laws.proofs.Premises.{PlanOk, VerdictOk, HopOk, EndsByFailure, Known}
use Rattle.nk_plan.specs.Trace.{SeqTrace, Follows}
use Rattle.nk_plan.specs.Parent.{ParentState}
use Rattle.nk_plan.specs.Journal.{mains_sent, backs_sent, ups_taken, backs_taken, first, final, cut}
use Rattle.nk_plan.specs.Child.{ChildState, bytes_failure}
use Rattle.nk_plan.specs.Lanes.{Among, question, redirects_to, StopCauseIf, StopCause, EndsWith, piece_messages, back_start, main_start, stop_message}
use Rattle.nk_laws.proofs.Sent.{SentLaw}
use Rattle.nk_plan.specs.Channel.{channel_after}
use Rattle.nk_plan.specs.declared.step.Step.{Step}
use Rattle.nk_plan.specs.declared.plan.StartLane.{StartLane}
use Rattle.nk_plan.specs.declared.plan.Hop.{Hop}
use Rattle.nk_base.specs.declared.status.Status.{Status}
use Rattle.nk_base.specs.declared.field.Head.{Head}
use Rattle.nk_base.specs.Status.{redirect_loop, is_failure, ok, kept_status}
use Rattle.nk_plan.specs.Plan.{hop_at, hop_pieces, EndsWell, stop_trailers, hop_code}
use Rattle.nk_laws.proofs.ParentLaw.{lane_law}
use borrow.Author.Tests.{ltb-true}
use Rattle.std.proofs.lemmas.Bool.{leb-true, le-leb, eqb-true, eq-eqb}
use Rattle.nk_laws.proofs.Tools.{keeps_if, among_more, le_or_more}
use Rattle.nk_plan.specs.declared.event.ChildEvent.{ChildEvent}
use Rattle.nk_plan.specs.declared.event.ChildEvent.TheVariants.{Start as StartEvent, Stop as StopEvent, Bytes as BytesEvent, Redirect1 as Redirect1Event, Redirect3 as Redirect3Event, Cancel as CancelEvent}
use Rattle.nk_laws.proofs.Order.{Around, Holds, AtHop, InBody, AtEnd}
use Rattle.nk_laws.proofs.Merge.{final_there, start_redirects}
use Rattle.nk_laws.proofs.Taking.{redirects, broken_is, backs_is}
use Rattle.nk_laws.specs.Moves.{Joined}
use Rattle.nk_laws.proofs.Joined.{joined, run_trace}
use Rattle.std.proofs.lemmas.Bool.Decides.{eqb_tells}
use Rattle.nk_plan.specs.declared.plan.Verdict.{Verdict as Answer}
use Rattle.nk_plan.specs.Calm.{IsCalm, last_hop, opening_failure, veto_of, data_of, stop_of, calm_body, calm_started, calm_from, calm_trace, start_reaction, data_reaction, finish_of, sooner}
use Rattle.nk_laws.proofs.CourseState.{Course, Quiet, Going, Pending, Kept, Closing, Odd, RightMain, RightMains, RightBacks, odd, Caused, RunOk, NoFail, Silent, NoCancelUp, data_count, HeadIs, events_bytes, backs_bytes}
use Rattle.nk_laws.proofs.CalmRun.{CalmRun, channel_calm, quiet_after, backs_bytes-append}
use Rattle.nk_base.specs.declared.message.Entry.{Entry}
use Rattle.nk_plan.specs.declared.plan.Reaction.{Reaction}
use Rattle.nk_plan.specs.declared.ends.Ending.TheVariants.{Stopped, Suspended, Unopened, Going as GoingOn}
use Rattle.nk_laws.proofs.Still.{channel_inv}
use Rattle.nk_laws.proofs.Settled.{ending_told}
use Rattle.nk_laws.proofs.Tally.{has_stop}
use Rattle.nk_laws.proofs.Led.{calm_status, channel_led, closed_msgs, mains_join, calm_ok, Led, Msgs, HopMains, HopBacks, Free, even_trace}
use Rattle.nk_base.specs.declared.message.UpMsg.TheVariants as up
use Rattle.nk_plan.specs.declared.plan.StartLane.TheVariants as lane
use Rattle.nk_plan.specs.declared.plan.Hop.TheVariants as hop
use Rattle.nk_plan.specs.declared.plan.Finish.TheVariants as finish
use Rattle.nk_base.specs.declared.message.MainMsg.TheVariants as main
use Rattle.nk_base.specs.declared.message.BackMsg.TheVariants as back
use Rattle.nk_plan.specs.declared.plan.Verdict.TheVariants as verdict
use Rattle.nk_base.specs.declared.message.Entry.TheVariants as shown
use Rattle.nk_plan.specs.declared.plan.Reaction.TheVariants as reaction

-- What a calm load has shown where it has stopped

record Shape (c : ChannelPlan) (f : ℕ) (q : Option Status) (o : ℕ) (ps : List (List ℕ)) (t : List Entry) : Type 0 where
  within : data_count t ≤ length ps
  shows : t ≡ data_of o (take (data_count t) ps) ++ stop_of c f (kept_status q)
  full : q ≡ None → (length ps ≤ data_count t) × EndsWell (hop_at c f)

stop_shape : (c : ChannelPlan) (f : ℕ) (q : Option Status) (o : ℕ) (ps : List (List ℕ)) (s : Status) (trailers : List _) (t : List Entry) → t ≡ [] → s ≡ kept_status q → (q ≡ None → (ps ≡ []) × EndsWell (hop_at c f)) → trailers ≡ stop_trailers c f s → Shape c f q o ps (shown.Stop s trailers ∷ t)
stop_shape c f q o ps s trailers [] e a g b = record {
  within = omega arith;
  shows = ap (λ x. shown.Stop s x ∷ []) b ∙ ap (λ x. shown.Stop x (stop_trailers c f x) ∷ []) a;
  full = λ n. let h = g n in let z : length ps ≡ 0 = ap (λ x. length x) h.0 in (omega arith, h.1);
}
stop_shape c f q o ps s trailers (y ∷ t) e a g b = cc

follows_shape : (c : ChannelPlan) (f : ℕ) (q : Option Status) (o : ℕ) (ps : List (List ℕ)) (t : List Entry) → Follows c f q o ps t → has_stop t ≡ true → Shape c f q o ps t
follows_shape c f q o ps [] h e = cc
follows_shape c f q o ps (shown.Start code s ∷ t) h e = absurd h
follows_shape c f q o [] (shown.Bytes at p ∷ t) h e = absurd h
follows_shape c f q o (y ∷ ps) (shown.Bytes at p ∷ t) h e =
    let r : Shape c f q (o + length y) ps t = follows_shape c f q (o + length y) ps t h.2 e in
    let z : data_count t ≤ length ps = r.within in
    record {
      within = omega arith;
      shows = ap (λ a. shown.Bytes a p ∷ t) h.0 ∙ (ap (λ a. shown.Bytes o a ∷ t) h.1 ∙ ap (λ a. shown.Bytes o y ∷ a) r.shows);
      full = λ n. let g = r.full n in let l : length ps ≤ data_count t = g.0 in (omega arith, g.1);
    }
follows_shape c f q o ps (shown.Stop s trailers ∷ t) h e = stop_shape c f q o ps s trailers t h.0 h.1 (λ n. h.2 (h.1 ∙ ap kept_status n)) h.3

veto_some : (own : Answer) (e : Status) → VerdictOk own → veto_of own ≡ Some e → is_failure e ≡ true
veto_some verdict.Allow e v h = cc
veto_some (verdict.Veto st) e v h = let x : st ≡ e = cc in rw (← x) v

allowed_some : (f : ℕ) (o : Option Hop) (e : Status) → HopOk o → opening_failure f o ≡ Some e → is_failure e ≡ true
allowed_some f None e v h = cc
allowed_some f (Some (hop.Fail st)) e v h = let x : st ≡ e = cc in rw (← x) v
allowed_some f (Some (hop.Redirect code own)) e v h =
    keeps_if (λ y. y ≡ Some e → is_failure e ≡ true) (f == 20) (Some redirect_loop) (veto_of own) (λ r y. let x : redirect_loop ≡ e = cc in rw (← x) refl) (λ r y. veto_some own e v y) h
allowed_some f (Some (hop.Response head pieces end trailers)) e v h = cc

-- where no callback up to the last piece fails, none is named
le_not : (k n : ℕ) → nat_le k n ≡ true → n < k → ⊥
le_not k n e l = let h : k ≤ n = leb-true k n e in omega arith

not_le : (k n : ℕ) → nat_le k n ≡ false → k ≤ n → ⊥
not_le k n e l = let h : nat_le k n ≡ true = le-leb k n l in cc

other_none : (k i : ℕ) (st : Status) (rs : List Reaction) → (k ≡ i → ⊥) → (if k == i then Some st else bytes_failure rs i) ≡ None → bytes_failure rs i ≡ None
other_none k i st rs n e = keeps_if (λ x. x ≡ None → bytes_failure rs i ≡ None) (k == i) (Some st) (bytes_failure rs i) (λ r y. cc) (λ r y. y) e

here_some : (k : ℕ) (st : Status) (rs : List Reaction) → (if k == k then Some st else bytes_failure rs k) ≡ None → ⊥
here_some k st rs e = let x : (k == k) ≡ true = eq-eqb k k refl in let y : Some st ≡ None = rw x at e in cc

beyond : (most k : ℕ) (st : Status) (rs : List Reaction) → 1 ≤ k → NoFail (reaction.BytesFail k st ∷ rs) most → most < k
beyond most k st rs p f = elim (le_or_more k most) [ inl x ↦ absurd (here_some k st rs (f k p x)) | inr x ↦ x ]

other_some : (k n : ℕ) (q st : Status) (rs : List Reaction) → (k ≡ n → ⊥) → (if k == n then Some st else bytes_failure rs n) ≡ Some q → bytes_failure rs n ≡ Some q
other_some k n q st rs ne e = keeps_if (λ x. x ≡ Some q → bytes_failure rs n ≡ Some q) (k == n) (Some st) (bytes_failure rs n) (λ r y. absurd (ne (eqb-true k n r))) (λ r y. y) e

-- what is named among callbacks of which none before n fails is n or later
late_one : (most n k : ℕ) (st : Status) (o : Option (ℕ × Status)) → o ≡ None → n ≤ k → (sooner most k st o ≡ None) ⊎ ((j : ℕ) × (t : Status) × (sooner most k st o ≡ Some (j, t)) × (n ≤ j))
late_one most n k st None e l = keeps_if (λ x. (x ≡ None) ⊎ ((j : ℕ) × (t : Status) × (x ≡ Some (j, t)) × (n ≤ j))) (nat_le k most) (Some (k, st)) None (λ r. inr (k, st, refl, l)) (λ r. inl refl)
late_one most n k st (Some x) e l = cc

late_two : (most n k j : ℕ) (st t : Status) (o : Option (ℕ × Status)) → o ≡ Some (j, t) → n ≤ k → n ≤ j → (sooner most k st o ≡ None) ⊎ ((i : ℕ) × (u : Status) × (sooner most k st o ≡ Some (i, u)) × (n ≤ i))
late_two most n k j st t o e l m =
    subst (λ (y : Option (ℕ × Status)). (sooner most k st y ≡ None) ⊎ ((i : ℕ) × (u : Status) × (sooner most k st y ≡ Some (i, u)) × (n ≤ i))) (sym e)
    (keeps_if (λ x. (x ≡ None) ⊎ ((i : ℕ) × (u : Status) × (x ≡ Some (i, u)) × (n ≤ i))) (nat_le k j) (Some (k, st)) (Some (j, t)) (λ r. inr (k, st, refl, l)) (λ r. inr (j, t, refl, m)))

named_late : (most n : ℕ) (rs : List Reaction) → EndsByFailure rs → ((i : ℕ) → 1 ≤ i → i < n → bytes_failure rs i ≡ None) → (data_reaction most rs ≡ None) ⊎ ((k : ℕ) × (t : Status) × (data_reaction most rs ≡ Some (k, t)) × (n ≤ k))
named_late most n [] v f = inl refl
named_late most n (reaction.StartRetarget w ∷ rs) v f = named_late most n rs v f
named_late most n (reaction.StartSuspend ∷ rs) v f = named_late most n rs v f
named_late most n (reaction.StartCancel st ∷ rs) v f = named_late most n rs v.1 f
named_late most n (reaction.StartFail st ∷ rs) v f = named_late most n rs v.1 f
named_late most n (reaction.BytesFail k st ∷ rs) v f =
    let later : n ≤ k = elim (le_or_more n k) [ inl l ↦ l | inr l ↦ absurd (here_some k st rs (f k v.1 l)) ] in
    elim (named_late most n rs v.2 (λ i p l. other_none k i st rs (omega arith) (f i p l))) [
      | inl e ↦ late_one most n k st (data_reaction most rs) e later
      | inr (j, t, e, l) ↦ late_two most n k j st t (data_reaction most rs) e later l
    ]

abbrev Pair : ℕ → Status → Option (ℕ × Status)
Pair k st = Some (k, st)

pair_is : (k n : ℕ) (st q : Status) → k ≡ n → st ≡ q → Pair k st ≡ Pair n q
pair_is k n st q a b = rw (a, b) refl

here_named : (most n k : ℕ) (q st : Status) (rs : List Reaction) → EndsByFailure rs → 1 ≤ n → n ≤ most → ((i : ℕ) → 1 ≤ i → i < n → bytes_failure rs i ≡ None) → k ≡ n → st ≡ q → sooner most k st (data_reaction most rs) ≡ Some (n, q)
here_named most n k q st rs v a b f kn z = elim (named_late most n rs v f) [
  | inl e ↦ ap (λ o. sooner most k st o) e ∙ keeps_if (λ (x : Option (ℕ × Status)). x ≡ Some (n, q)) (nat_le k most) (Some (k, st)) None (λ r. pair_is k n st q kn z) (λ r. absurd (not_le k most r (omega arith)))
  | inr (j, t, e, l) ↦ ap (λ o. sooner most k st o) e ∙ keeps_if (λ (x : Option (ℕ × Status)). x ≡ Some (n, q)) (nat_le k j) (Some (k, st)) (Some (j, t)) (λ r. pair_is k n st q kn z) (λ r. absurd (not_le k j r (omega arith)))
]

sooner_first : (most n k : ℕ) (q st : Status) → n < k → sooner most k st (Some (n, q)) ≡ Some (n, q)
sooner_first most n k q st l = keeps_if (λ x. x ≡ Some (n, q)) (nat_le k n) (Some (k, st)) (Some (n, q)) (λ r. absurd (le_not k n r l)) (λ r. refl)

none_named : (most : ℕ) (rs : List Reaction) → EndsByFailure rs → NoFail rs most → data_reaction most rs ≡ None
none_named most [] v f = refl
none_named most (reaction.StartRetarget w ∷ rs) v f = none_named most rs v f
none_named most (reaction.StartSuspend ∷ rs) v f = none_named most rs v f
none_named most (reaction.StartCancel st ∷ rs) v f = none_named most rs v.1 f
none_named most (reaction.StartFail st ∷ rs) v f = none_named most rs v.1 f
none_named most (reaction.BytesFail k st ∷ rs) v f =
    let out : most < k = beyond most k st rs v.1 f in
    ap (λ x. sooner most k st x) (none_named most rs v.2 (λ i p q. other_none k i st rs (omega arith) (f i p q))) ∙ keeps_if (λ x. x ≡ None) (nat_le k most) (Some (k, st)) None (λ r. absurd (le_not k most r out)) (λ r. refl)

-- the first callback that fails is the one that is named
one_named : (most n : ℕ) (q : Status) (rs : List Reaction) → EndsByFailure rs → 1 ≤ n → n ≤ most → ((i : ℕ) → 1 ≤ i → i < n → bytes_failure rs i ≡ None) → bytes_failure rs n ≡ Some q → data_reaction most rs ≡ Some (n, q)
one_named most n q [] v a b f e = cc
one_named most n q (reaction.StartRetarget w ∷ rs) v a b f e = one_named most n q rs v a b f e
one_named most n q (reaction.StartSuspend ∷ rs) v a b f e = one_named most n q rs v a b f e
one_named most n q (reaction.StartCancel st ∷ rs) v a b f e = one_named most n q rs v.1 a b f e
one_named most n q (reaction.StartFail st ∷ rs) v a b f e = one_named most n q rs v.1 a b f e
one_named most n q (reaction.BytesFail k st ∷ rs) v a b f e = elim (eqb_tells k n) [
  | inl x ↦
      let kn : k ≡ n = eqb-true k n x.0 in
      let y : Some st ≡ Some q = rw x.0 at e in
      let z : st ≡ q = cc in
      here_named most n k q st rs v.2 a b (λ i p l. other_none k i st rs (omega arith) (f i p l)) kn z
  | inr x ↦
      let ne : k ≡ n → ⊥ = x.1 in
      let later : n < k = elim (le_or_more k n) [ inl l ↦ absurd (here_some k st rs (f k v.1 (omega arith))) | inr l ↦ l ] in
      ap (λ o. sooner most k st o) (one_named most n q rs v.2 a b (λ i p l. other_none k i st rs (omega arith) (f i p l)) (other_some k n q st rs ne e)) ∙ sooner_first most n k q st later
]

-- The assembly

ends_seq : (c : ChannelPlan) (a : Around) (pend w : List ChildEvent) (s : ChildState) → Holds c a pend w s → s.stopped ≡ true → SeqTrace c a.final s.kept a.cut s.trace
ends_seq c a pend w s (AtHop i, l, n, f, j, h, b, z) e = let x : s.stopped ≡ false = f.2 in absurd (cc)
ends_seq c a pend w s (InBody o ps, l, n, f, j, h, b, z) e = let x : s.stopped ≡ false = f.1 in absurd (cc)
ends_seq c a pend w s (AtEnd, l, n, f, j, h, b, z) e = f.0

-- a trace that has stopped, its start first
record Stopt (c : ChannelPlan) (f : ℕ) (q : Option Status) (E : Status) (trace : List Entry) (n : ℕ) : Type 0 where
  body : List Entry
  shows : trace ≡ shown.Start (hop_code (hop_at c f)) E ∷ body
  shape : Shape c f q 0 (hop_pieces (hop_at c f)) body
  count : data_count body ≡ n

stopt : (c : ChannelPlan) (f : ℕ) (q : Option Status) (E : Status) (trace : List Entry) (n : ℕ) → SeqTrace c f q false trace → HeadIs E trace → data_count trace ≡ n → has_stop trace ≡ true → Stopt c f q E trace n
stopt c f q E [] n s h d e = cc
stopt c f q E (shown.Bytes o p ∷ t) n s h d e = absurd s
stopt c f q E (shown.Stop st trailers ∷ t) n s h d e = absurd s
stopt c f q E (shown.Start code st ∷ t) n s h d e = record {
  body = t;
  shows = ap (λ x. shown.Start x st ∷ t) s.0 ∙ ap (λ x. shown.Start (hop_code (hop_at c f)) x ∷ t) h;
  shape = follows_shape c f q 0 (hop_pieces (hop_at c f)) t s.2 e;
  count = d;
}

-- what is shown, after n pieces
shown_is : (c : ChannelPlan) (f : ℕ) (q : Option Status) (E : Status) (trace : List Entry) (n : ℕ) → Stopt c f q E trace n
    → trace ≡ shown.Start (hop_code (hop_at c f)) E ∷ (data_of 0 (take n (hop_pieces (hop_at c f))) ++ stop_of c f (kept_status q))
shown_is c f q E trace n s =
    s.shows ∙ ap (λ x. shown.Start (hop_code (hop_at c f)) E ∷ x) (s.shape.shows ∙ ap (λ k. data_of 0 (take k (hop_pieces (hop_at c f))) ++ stop_of c f (kept_status q)) s.count)

good_none : (f : ℕ) (o : Option Hop) (x : Option Status) → HopOk o → opening_failure f o ≡ x → is_failure (kept_status x) ≡ false → x ≡ None
good_none f o None v e g = refl
good_none f o (Some y) v e g = let z : is_failure y ≡ true = allowed_some f o y v e in absurd (cc)

bad_some : (x : Option Status) → is_failure (kept_status x) ≡ true → x ≡ Some (kept_status x)
bad_some None g = cc
bad_some (Some y) g = refl

-- a calm trace by what comes before the body
from_failed : (c : ChannelPlan) (f : ℕ) (e : Status) (x : Option Status) → x ≡ Some e → calm_from c f x ≡ shown.Start (hop_code (hop_at c f)) e ∷ stop_of c f e
from_failed c f e x h = ap (λ y. calm_from c f y) h

from_good : (c : ChannelPlan) (f : ℕ) (x y : Option Status) → x ≡ None → start_reaction c.reactions ≡ y → calm_from c f x ≡ shown.Start (hop_code (hop_at c f)) ok ∷ calm_started c f y
from_good c f x y h e = ap (λ z. calm_from c f z) h ∙ ap (λ z. shown.Start (hop_code (hop_at c f)) ok ∷ calm_started c f z) e

good_finish : (o : Option Hop) → EndsWell o → finish_of o ≡ ok
good_finish None g = absurd g
good_finish (Some (hop.Fail st)) g = absurd g
good_finish (Some (hop.Redirect code verdict)) g = absurd g
good_finish (Some (hop.Response head pieces finish.Good trailers)) g = refl
good_finish (Some (hop.Response head pieces (finish.Fail st) trailers)) g = cc

fail_finish : (o : Option Hop) (q : Status) → EndsWith o q → finish_of o ≡ q
fail_finish None q g = absurd g
fail_finish (Some (hop.Fail st)) q g = absurd g
fail_finish (Some (hop.Redirect code verdict)) q g = absurd g
fail_finish (Some (hop.Response head pieces finish.Good trailers)) q g = absurd g
fail_finish (Some (hop.Response head pieces (finish.Fail st) trailers)) q g = g

-- the trace, where nothing but the finish ended the body
whole_body : (c : ChannelPlan) (f n : ℕ) (q : Option Status) (E : Status) (trace : List Entry) → Stopt c f q E trace n → E ≡ ok → (length (hop_pieces (hop_at c f)) ≤ n) → start_reaction c.reactions ≡ None → EndsByFailure c.reactions → NoFail c.reactions n → kept_status q ≡ finish_of (hop_at c f) → opening_failure f (hop_at c f) ≡ None
    → trace ≡ calm_from c f (opening_failure f (hop_at c f))
whole_body c f n q E trace s e l sf ev nf k b =
    let ps = hop_pieces (hop_at c f) in
    shown_is c f q E trace n s ∙ (ap (λ x. shown.Start (hop_code (hop_at c f)) x ∷ (data_of 0 (take n ps) ++ stop_of c f (kept_status q))) e
    ∙ (ap (λ x. shown.Start (hop_code (hop_at c f)) ok ∷ (data_of 0 x ++ stop_of c f (kept_status q))) (take_all n ps l)
    ∙ (ap (λ x. shown.Start (hop_code (hop_at c f)) ok ∷ (data_of 0 ps ++ stop_of c f x)) k
    ∙ (ap (λ x. shown.Start (hop_code (hop_at c f)) ok ∷ calm_body c f x) (sym (none_named (length ps) c.reactions ev (λ i p r. nf i p (omega arith))))
    ∙ sym (from_good c f (opening_failure f (hop_at c f)) None b sf)))))

-- the trace, where q was kept for one of the first reasons
caused_body : (c : ChannelPlan) (f n : ℕ) (q : Status) (E : Status) (trace : List Entry) → PlanOk c → EndsByFailure c.reactions → Stopt c f (Some q) E trace n → E ≡ kept_status (opening_failure f (hop_at c f)) → Caused c.reactions E q n
    → trace ≡ calm_from c f (opening_failure f (hop_at c f))
caused_body c f n q E trace v ev s e (inl (fe, qe, z)) =
    let ps = hop_pieces (hop_at c f) in
    let b : opening_failure f (hop_at c f) ≡ Some E = bad_some (opening_failure f (hop_at c f)) (rw (← e) fe) ∙ ap (λ x. Some x) (sym e) in
    shown_is c f (Some q) E trace n s ∙ (ap (λ k. shown.Start (hop_code (hop_at c f)) E ∷ (data_of 0 (take k ps) ++ stop_of c f q)) z
    ∙ (ap (λ x. shown.Start (hop_code (hop_at c f)) E ∷ stop_of c f x) qe ∙ sym (from_failed c f E (opening_failure f (hop_at c f)) b)))
caused_body c f n q E trace v ev s e (inr (inl (ge, sf, z))) =
    let ps = hop_pieces (hop_at c f) in
    let b : opening_failure f (hop_at c f) ≡ None = good_none f (hop_at c f) (opening_failure f (hop_at c f)) (v.0 f) refl (rw (← e) ge) in
    let eok : E ≡ ok = e ∙ ap kept_status b in
    shown_is c f (Some q) E trace n s ∙ (ap (λ k. shown.Start (hop_code (hop_at c f)) E ∷ (data_of 0 (take k ps) ++ stop_of c f q)) z
    ∙ (ap (λ x. shown.Start (hop_code (hop_at c f)) x ∷ stop_of c f q) eok ∙ sym (from_good c f (opening_failure f (hop_at c f)) (Some q) b sf)))
caused_body c f n q E trace v ev s e (inr (inr (ge, sf, m, nm, nf, bf))) =
    let ps = hop_pieces (hop_at c f) in
    let b : opening_failure f (hop_at c f) ≡ None = good_none f (hop_at c f) (opening_failure f (hop_at c f)) (v.0 f) refl (rw (← e) ge) in
    let eok : E ≡ ok = e ∙ ap kept_status b in
    let w0 : data_count s.body ≤ length ps = s.shape.within in
    let cn : data_count s.body ≡ n = s.count in
    let named : data_reaction (length ps) c.reactions ≡ Some (n, q) = one_named (length ps) n q c.reactions ev (omega arith) (omega arith) (λ i p l. nf i p (omega arith)) bf in
    shown_is c f (Some q) E trace n s ∙ (ap (λ x. shown.Start (hop_code (hop_at c f)) x ∷ (data_of 0 (take n ps) ++ stop_of c f q)) eok
    ∙ (ap (λ x. shown.Start (hop_code (hop_at c f)) ok ∷ calm_body c f x) (sym named) ∙ sym (from_good c f (opening_failure f (hop_at c f)) None b sf)))

-- what still runs where it has stopped
run_over : (rs : List Reaction) (r : Option (_ × ChildEvent)) (n : ℕ) (stopped : Bool) → stopped ≡ true → RunOk rs r n stopped → (start_reaction rs ≡ None) × NoFail rs n
run_over rs None n stopped e r = r
run_over rs (Some (t, StartEvent code st)) n stopped e r = let x : stopped ≡ false = r.1 in absurd (cc)
run_over rs (Some (t, BytesEvent o p st)) n stopped e r = let x : stopped ≡ false = r.1 in absurd (cc)
run_over rs (Some (t, StopEvent st)) n stopped e r = r
run_over rs (Some (t, Redirect1Event h)) n stopped e r = absurd r
run_over rs (Some (t, Redirect3Event h)) n stopped e r = absurd r
run_over rs (Some (t, CancelEvent st)) n stopped e r = absurd r

-- the trace, by the course; told says what a stop of status q means
course_trace : (c : ChannelPlan) (T : Status → Type 0) (G : Type 0) (f : ℕ) (E : Status) (trace : List Entry) (kept : Option Status) (r : Option (_ × ChildEvent)) (w : List ChildEvent) (n : ℕ) (u : List UpMsg) (S : Type 0)
    → PlanOk c → EndsByFailure c.reactions → SeqTrace c f kept false trace → HeadIs E trace → data_count trace ≡ n → has_stop trace ≡ true → E ≡ kept_status (opening_failure f (hop_at c f))
    → ((q : Status) → T q → is_failure q ≡ true → is_failure E ≡ false → Silent u → S → (length (hop_pieces (hop_at c f)) ≤ n) × (finish_of (hop_at c f) ≡ q))
    → Course c E T G trace kept true r w n u S → trace ≡ calm_from c f (opening_failure f (hop_at c f))
course_trace c T G f E trace kept r w n u S v ev s h d e eq told (Quiet a b i x y p z) = let y1 : false ≡ true = ap has_stop (sym a) ∙ e in cc
course_trace c T G f E trace kept r w n u S v ev s h d e eq told (Going y a k g x run p z) =
    let b : opening_failure f (hop_at c f) ≡ None = good_none f (hop_at c f) (opening_failure f (hop_at c f)) (v.0 f) refl (rw (← eq) g) in
    let st : Stopt c f kept E trace n = stopt c f kept E trace n s h d e in
    let full = st.shape.full k in
    let l : length (hop_pieces (hop_at c f)) ≤ data_count st.body = full.0 in
    let cn : data_count st.body ≡ n = st.count in
    let over = run_over c.reactions r n true refl run in
    whole_body c f n kept E trace st (eq ∙ ap kept_status b) (omega arith) over.0 ev over.1 (ap kept_status k ∙ sym (good_finish (hop_at c f) full.1)) b
course_trace c T G f E trace kept r w n u S v ev s h d e eq told (Pending y a k g o i q rest z k2 why) = cc
course_trace c T G f E trace kept r w n u S v ev s h d e eq told (Kept y q bg a why) =
    caused_body c f n q E trace v ev (stopt c f (Some q) E trace n (subst (λ x. SeqTrace c f x false trace) a s) h d e) eq why
course_trace c T G f E trace kept r w n u S v ev s h d e eq told (Closing y q bg a fl g sf nf tq sil o z) =
    let b : opening_failure f (hop_at c f) ≡ None = good_none f (hop_at c f) (opening_failure f (hop_at c f)) (v.0 f) refl (rw (← eq) g) in
    let t = told q tq fl g sil z in
    whole_body c f n (Some q) E trace (stopt c f (Some q) E trace n (subst (λ x. SeqTrace c f x false trace) a s) h d e) (eq ∙ ap kept_status b) t.0 sf ev nf (sym t.1) b
course_trace c T G f E trace kept r w n u S v ev s h d e eq told (Odd a) = absurd (even_trace c f kept false trace s a)

-- Which hop it was

last_main : (c : ChannelPlan) (f : ℕ) (st : Status) (head : Head) (xs : List MainMsg) → HopMains c (xs ++ main.Start f st head ∷ []) → f ≡ last_hop c
last_main c f st head [] a = a.0
last_main c f st head (main.Start h s1 h1 ∷ xs) a = last_main c f st head xs a.1
last_main c f st head (main.FailedOpen h s1 ∷ xs) a = last_main c f st head xs a.1
last_main c f st head (main.Redirect1 h code ∷ xs) a = last_main c f st head xs a
last_main c f st head (main.Redirect3 h ∷ xs) a = last_main c f st head xs a

started_hop : (c : ChannelPlan) (f : ℕ) (l : StartLane) (st : Status) (head : Head) (xs : List MainMsg) (ys : List BackMsg) → HopMains c (xs ++ main_start l f st head) → HopBacks c (back_start l f st head ++ ys) → f ≡ last_hop c
started_hop c f lane.Main st head xs ys a b = last_main c f st head xs a
started_hop c f lane.Back st head xs ys a b = b.0

last_open : (c : ChannelPlan) (f : ℕ) (st : Status) (xs : List MainMsg) → HopMains c (xs ++ main.FailedOpen f st ∷ []) → f ≡ last_hop c
last_open c f st [] a = a.0
last_open c f st (main.Start h s1 h1 ∷ xs) a = last_open c f st xs a.1
last_open c f st (main.FailedOpen h s1 ∷ xs) a = last_open c f st xs a.1
last_open c f st (main.Redirect1 h code ∷ xs) a = last_open c f st xs a
last_open c f st (main.Redirect3 h ∷ xs) a = last_open c f st xs a

-- the status of its start
start_status : (E : Status) (T : Status → Type 0) (G : Type 0) (f : ℕ) (l : StartLane) (st : Status) (head : Head) (xs : List MainMsg) (ys : List BackMsg) → RightMains E T G (xs ++ main_start l f st head) → RightBacks E T G (back_start l f st head ++ ys) → st ≡ E
start_status E T G f lane.Main st head [] ys a b = a.0.0
start_status E T G f lane.Main st head (x ∷ xs) ys a b = start_status E T G f lane.Main st head xs ys a.1 b
start_status E T G f lane.Back st head xs ys a b = b.0.0

-- a stop is one of these messages
abbrev StopIn : List MainMsg → List BackMsg → Status → Type 0
StopIn md bd st = ((h : ℕ) × Among (main.FailedOpen h st) md) ⊎ ((h : ℕ) × (trailers : List _) × Among (back.Stop h st trailers) bd)

mains_up : (E : Status) (G : Type 0) (md : List MainMsg) (bd : List BackMsg) (xs : List MainMsg) → ((m : MainMsg) → Among m xs → Among m md) → RightMains E Free G xs → RightMains E (StopIn md bd) G xs
mains_up E G md bd [] f r = tt
mains_up E G md bd (main.Start h st head ∷ xs) f r = (r.0, mains_up E G md bd xs (λ m a. f m (inr a)) r.1)
mains_up E G md bd (main.FailedOpen h st ∷ xs) f r = ((r.0.0, r.0.1, inl (h, f (main.FailedOpen h st) (inl refl))), mains_up E G md bd xs (λ m a. f m (inr a)) r.1)
mains_up E G md bd (main.Redirect1 h code ∷ xs) f r = (tt, mains_up E G md bd xs (λ m a. f m (inr a)) r.1)
mains_up E G md bd (main.Redirect3 h ∷ xs) f r = (tt, mains_up E G md bd xs (λ m a. f m (inr a)) r.1)

backs_up : (E : Status) (G : Type 0) (md : List MainMsg) (bd : List BackMsg) (xs : List BackMsg) → ((m : BackMsg) → Among m xs → Among m bd) → RightBacks E Free G xs → RightBacks E (StopIn md bd) G xs
backs_up E G md bd [] f r = tt
backs_up E G md bd (back.Start h st head ∷ xs) f r = (r.0, backs_up E G md bd xs (λ m a. f m (inr a)) r.1)
backs_up E G md bd (back.StartSent h ∷ xs) f r = (tt, backs_up E G md bd xs (λ m a. f m (inr a)) r.1)
backs_up E G md bd (back.Bytes h st o p ∷ xs) f r = (r.0, backs_up E G md bd xs (λ m a. f m (inr a)) r.1)
backs_up E G md bd (back.Stop h st trailers ∷ xs) f r = (inr (h, trailers, f (back.Stop h st trailers) (inl refl)), backs_up E G md bd xs (λ m a. f m (inr a)) r.1)

-- a failed opening among the messages has the status of the start
open_status : (E : Status) (T : Status → Type 0) (G : Type 0) (md : List MainMsg) (h : ℕ) (st : Status) → Among (main.FailedOpen h st) md → RightMains E T G md → st ≡ E
open_status E T G [] h st a r = absurd a
open_status E T G (x ∷ md) h st (inl e) r = let y : RightMain E T G (main.FailedOpen h st) = rw e at r.0 in y.0
open_status E T G (x ∷ md) h st (inr a) r = open_status E T G md h st a r.1

-- the stop among the messages of a hop
stop_among : (c : ChannelPlan) (f h o : ℕ) (st : Status) (trailers : List _) (ps : List (List ℕ)) (stop : Option Status) → Among (back.Stop h st trailers) (piece_messages f o ps ++ stop_message c f stop) → stop ≡ Some st
stop_among c f h o st trailers [] None a = absurd a
stop_among c f h o st trailers [] (Some s) (inl e) = let x : s ≡ st = cc in ap (λ y. Some y) x
stop_among c f h o st trailers [] (Some s) (inr a) = absurd a
stop_among c f h o st trailers (p ∷ ps) stop (inl e) = cc
stop_among c f h o st trailers (p ∷ ps) stop (inr a) = stop_among c f h (o + length p) st trailers ps stop a

stop_there : (c : ChannelPlan) (f h : ℕ) (l : StartLane) (s : Status) (head : Head) (st : Status) (trailers : List _) (ps : List (List ℕ)) (stop : Option Status) → Among (back.Stop h st trailers) (back_start l f s head ++ (piece_messages f 0 ps ++ stop_message c f stop)) → stop ≡ Some st
stop_there c f h lane.Main s head st trailers ps stop (inl e) = cc
stop_there c f h lane.Main s head st trailers ps stop (inr a) = stop_among c f h 0 st trailers ps stop a
stop_there c f h lane.Back s head st trailers ps stop (inl e) = cc
stop_there c f h lane.Back s head st trailers ps stop (inr a) = stop_among c f h 0 st trailers ps stop a

-- the pieces among the messages
stop_bytes : (c : ChannelPlan) (f : ℕ) (stop : Option Status) → backs_bytes (stop_message c f stop) ≡ 0
stop_bytes c f None = refl
stop_bytes c f (Some s) = refl

piece_bytes : (f o : ℕ) (ps : List (List ℕ)) (rest : List BackMsg) → backs_bytes rest ≡ 0 → backs_bytes (piece_messages f o ps ++ rest) ≡ length ps
piece_bytes f o [] rest z = z
piece_bytes f o (p ∷ ps) rest z = let h : backs_bytes (piece_messages f (o + length p) ps ++ rest) ≡ length ps = piece_bytes f (o + length p) ps rest z in omega arith

start_bytes : (l : StartLane) (f : ℕ) (s : Status) (head : Head) (rest : List BackMsg) → backs_bytes (back_start l f s head ++ rest) ≡ backs_bytes rest
start_bytes lane.Main f s head rest = zero-add (backs_bytes rest)
start_bytes lane.Back f s head rest = zero-add (backs_bytes rest)

-- no cancel was heard where none was said
silent_among : (u : List UpMsg) (q : Status) → Silent u → Among (up.Cancel q) u → ⊥
silent_among [] q s a = a
silent_among (x ∷ u) q s (inl e) = let y : NoCancelUp (up.Cancel q) = rw e at s.0 in y
silent_among (x ∷ u) q s (inr a) = silent_among u q s.1 a

no_start_hop : (c : ChannelPlan) (md : List MainMsg) (bd : List BackMsg) (u : List UpMsg) (E : Status) → SentLaw c u md bd → HopMains c md → HopBacks c bd → (redirects md ≡ last_hop c) ⊎ (RightMains E Free ⊥ md × RightBacks E Free ⊥ bd)
no_start_hop c md bd u E (f, a, inl (b, inl m)) hm hb = inr (subst (λ t. RightMains E Free ⊥ t) (sym m) (closed_msgs c E Free f), subst (λ t. RightBacks E Free ⊥ t) (sym b) tt)
no_start_hop c md bd u E (f, a, inl (b, inr (inl (m, r)))) hm hb =
    inr (subst (λ t. RightMains E Free ⊥ t) (sym m) (mains_join E Free ⊥ (redirects_to c f) (question c f true) (closed_msgs c E Free f) (tt, tt)), subst (λ t. RightBacks E Free ⊥ t) (sym b) tt)
no_start_hop c md bd u E (f, a, inl (b, inr (inr (s, m, e)))) hm hb =
    inl (sym (final_there c f md (main.FailedOpen f s ∷ []) m refl) ∙ last_open c f s (redirects_to c f) (subst (λ t. HopMains c t) m hm))
no_start_hop c md bd u E (f, a, inr x) hm hb =
    inl (sym (final_there c f md _ x.mains (start_redirects c f x.asked c.start x.status x.head))
    ∙ started_hop c f c.start x.status x.head (redirects_to c f ++ question c f x.asked) _
    (subst (λ t. HopMains c t) (x.mains ∙ sym (append_assoc (redirects_to c f) (question c f x.asked) (main_start c.start f x.status x.head))) hm) (subst (λ t. HopBacks c t) x.backs hb))

-- what a stop of a failure means, where no cancel was said and the start was good
stop_means : (c : ChannelPlan) (u : List UpMsg) (md : List MainMsg) (bd : List BackMsg) (E q : Status) (n f : ℕ) → SentLaw c u md bd → redirects md ≡ f → RightMains E Free (Unit {0}) md → RightBacks E Free (Unit {0}) bd
    → StopIn md bd q → is_failure q ≡ true → is_failure E ≡ false → (Among (up.Cancel q) u → ⊥) → n ≡ backs_bytes bd → (length (hop_pieces (hop_at c f)) ≤ n) × (finish_of (hop_at c f) ≡ q)
stop_means c u md bd E q n f law rf rm rb (inl (h, a)) fq ge nc cn = let x : q ≡ E = open_status E Free (Unit {0}) md h q a rm in let y : is_failure E ≡ true = rw (← x) fq in absurd (cc)
stop_means c u md bd E q n f (g, al, inl (b, y)) rf rm rb (inr (h, trailers, a)) fq ge nc cn = let x : Among (back.Stop h q trailers) [] = rw b at a in absurd x
stop_means c u md bd E q n f (g, al, inr x) rf rm rb (inr (h, trailers, a)) fq ge nc cn =
    let ps = hop_pieces (hop_at c g) in
    let gf : g ≡ f = final_there c g md _ x.mains (start_redirects c g x.asked c.start x.status x.head) ∙ rf in
    let st : x.stop ≡ Some q = stop_there c g h c.start x.status x.head q trailers (take x.pieces ps) x.stop (subst (λ t. Among (back.Stop h q trailers) t) x.backs a) in
    let cause : StopCause c u g x.status x.pieces q = subst (λ o. StopCauseIf c u g x.status x.pieces o) st x.stop_cause in
    let se : x.status ≡ E = start_status E Free (Unit {0}) g c.start x.status x.head (redirects_to c g ++ question c g x.asked) _
    (subst (λ t. RightMains E Free (Unit {0}) t) (x.mains ∙ sym (append_assoc (redirects_to c g) (question c g x.asked) (main_start c.start g x.status x.head))) rm) (subst (λ t. RightBacks E Free (Unit {0}) t) x.backs rb) in
    let bb : backs_bytes bd ≡ length (take x.pieces ps) = ap backs_bytes x.backs ∙ (start_bytes c.start g x.status x.head _ ∙ piece_bytes g 0 (take x.pieces ps) (stop_message c g x.stop) (stop_bytes c g x.stop)) in
    elim cause [
      | inl y ↦ let z : is_failure E ≡ true = rw (← se) y.0 in absurd (cc)
      | inr y ↦ elim y [
        | inl z ↦ absurd (nc z.2)
        | inr z ↦ elim z [
          | inl k ↦
              let t : take x.pieces ps ≡ ps = take_all x.pieces ps (omega (arith, k.2)) in
              let l : length ps ≤ n = rw (cn, bb, t) (omega arith) in
              (subst (λ i. length (hop_pieces (hop_at c i)) ≤ n) gf l, subst (λ i. finish_of (hop_at c i) ≡ q) gf (fail_finish (hop_at c g) q k.3))
          | inr k ↦ let y1 : false ≡ true = sym (ap (λ x. is_failure x) k.1) ∙ fq in absurd (cc)
        ]
      ]
    ]

-- The law

stopped_of : (a b d : Bool) → a ≡ false → (if a then Unopened else (if b then Stopped else (if d then Suspended else GoingOn))) ≡ Stopped → b ≡ true
stopped_of true b d n e = cc
stopped_of false true d n e = refl
stopped_of false false true n e = cc
stopped_of false false false n e = cc

suspended_of : (a b d : Bool) → (if a then Unopened else (if b then Stopped else (if d then Suspended else GoingOn))) ≡ Suspended → d ≡ true
suspended_of true b d e = cc
suspended_of false true d e = cc
suspended_of false false true e = refl
suspended_of false false false e = cc

and_middle : (a b d : Bool) → (a && (b && d)) ≡ true → b ≡ true
and_middle true true d h = refl
and_middle true false d h = cc
and_middle false b d h = cc

quiet_trace : (c : ChannelPlan) (E : Status) (T : Status → Type 0) (trace : List Entry) (kept : Option Status) (stopped : Bool) (r : Option (_ × ChildEvent)) (w : List ChildEvent) (n : ℕ) (u : List UpMsg) (S : Type 0) → (odd trace ≡ true → ⊥) → Course c E T ⊥ trace kept stopped r w n u S → trace ≡ []
quiet_trace c E T trace kept stopped r w n u S f (Quiet a b d e z p s) = a
quiet_trace c E T trace kept stopped r w n u S f (Going y a b d e q z s) = absurd y
quiet_trace c E T trace kept stopped r w n u S f (Pending y a b d e i q rest z k why) = absurd y
quiet_trace c E T trace kept stopped r w n u S f (Kept y q bg a why) = absurd y
quiet_trace c E T trace kept stopped r w n u S f (Closing y q bg a fl b d e i z k s) = absurd y
quiet_trace c E T trace kept stopped r w n u S f (Odd a) = absurd (f a)

sum_up : (n w h t u b : ℕ) → n + (w + (h + 0)) ≡ t → w ≡ 0 → h ≡ 0 → u ≡ 0 → b ≡ t + u → n ≡ b
sum_up n w h t u b s a d e f = omega arith

open_by : (b : Bool) (t : List Entry) → b ≡ false → t ≡ (if b then [] else t)
open_by true t e = cc
open_by false t e = refl

open_calm : (c : ChannelPlan) → c.closed ≡ false → calm_from c (last_hop c) (opening_failure (last_hop c) (hop_at c (last_hop c))) ≡ calm_trace c
open_calm c e = open_by c.closed (calm_from c (last_hop c) (opening_failure (last_hop c) (hop_at c (last_hop c)))) e

not_suspended : (n : ℕ) → n ≡ 0 → nat_lt 0 n ≡ true → ⊥
not_suspended n z e = let l : 0 < n = ltb-true 0 n e in omega arith

calm_run_of : (c : ChannelPlan) (steps : List Step) → PlanOk c → Known c → IsCalm c → EndsByFailure c.reactions → Led c (channel_after c steps).parent
    → CalmRun c (calm_status c) (StopIn (mains_sent (channel_after c steps).parent.journal) (backs_sent (channel_after c steps).parent.journal)) (Unit {0}) (channel_after c steps).child
calm_run_of c steps v r cp ev led =
    let w = channel_after c steps in
    let md : List MainMsg = mains_sent w.parent.journal in
    let bd : List BackMsg = backs_sent w.parent.journal in
    let m : Msgs c w.parent.journal = led.1 in
    channel_calm c (calm_status c) (StopIn md bd) (Unit {0}) steps v r (calm_ok c v) cp ev (mains_up (calm_status c) (Unit {0}) md bd md (λ x a. a) m.0) (backs_up (calm_status c) (Unit {0}) md bd bd (λ x a. a) m.1)

calm_stopped : (c : ChannelPlan) (steps : List Step) → PlanOk c → Known c → IsCalm c → EndsByFailure c.reactions → c.closed ≡ false → (channel_after c steps).child.stopped ≡ true → (channel_after c steps).child.trace ≡ calm_trace c
calm_stopped c steps v r cp ev closed stop =
    let w = channel_after c steps in
    let s = w.child in
    let md : List MainMsg = mains_sent w.parent.journal in
    let bd : List BackMsg = backs_sent w.parent.journal in
    let u : List UpMsg = ups_taken w.parent.journal in
    let j : Joined c w = joined c steps in
    let led : Led c w.parent = channel_led c steps v r cp ev in
    let m : Msgs c w.parent.journal = led.1 in
    let k : CalmRun c (calm_status c) (StopIn md bd) (Unit {0}) s = calm_run_of c steps v r cp ev led in
    let law : SentLaw c u md bd = subst (λ (x : ParentState). SentLaw c (ups_taken x.journal) (mains_sent x.journal) (backs_sent x.journal)) j.parent_is (lane_law c j.parent_steps v) in
    let has : has_stop s.trace ≡ true = k.stop_is ∙ stop in
    let even : odd s.trace ≡ true → ⊥ = even_trace c (final s.journal) (first s.journal) (cut s.journal) s.trace (run_trace c steps v) in
    let P : Type 0 = s.trace ≡ calm_from c (last_hop c) (opening_failure (last_hop c) (hop_at c (last_hop c))) in
    let p : P = elim (no_start_hop c md bd u (calm_status c) law m.2 m.3) [
      | inr x ↦
          let k0 : CalmRun c (calm_status c) Free ⊥ s = channel_calm c (calm_status c) Free ⊥ steps v r (calm_ok c v) cp ev x.0 x.1 in
          let z : s.trace ≡ [] = quiet_trace c (calm_status c) Free s.trace s.kept s.stopped s.running s.queue.waiting s.data_begun s.sent _ even k0.course in
          let y : false ≡ true = ap has_stop (sym z) ∙ has in absurd (cc)
      | inl h ↦ elim (channel_inv c steps v) [
        | inr i ↦ let x : s.broken ≡ true = broken_is c i.around _ _ s i.keeps ∙ i.broken in let y : s.broken ≡ false = k.unbroken in absurd (cc)
        | inl i ↦
            let f0 : i.around.final ≡ last_hop c = i.final_at ∙ h in
            let seq : SeqTrace c i.around.final s.kept i.around.cut s.trace = ends_seq c i.around _ _ s i.keeps stop in
            let seq1 : SeqTrace c (last_hop c) s.kept false s.trace = subst (λ f. SeqTrace c f s.kept false s.trace) f0 (subst (λ x. SeqTrace c i.around.final s.kept x s.trace) i.not_cut seq) in
            let q : (events_bytes s.queue.waiting ≡ 0) × (backs_bytes s.hold.kept ≡ 0) × (backs_bytes i.ub ≡ 0) = quiet_after c md bd s i stop in
            let tb : backs_taken s.journal ≡ i.around.backs = backs_is c i.around _ _ s i.keeps in
            let all : backs_bytes bd ≡ backs_bytes (backs_taken s.journal) + backs_bytes i.ub = ap backs_bytes (sym i.backs) ∙ (backs_bytes-append i.around.backs i.ub ∙ ap (λ t. backs_bytes t + backs_bytes i.ub) (sym tb)) in
            course_trace c (StopIn md bd) (Unit {0}) (last_hop c) (calm_status c) s.trace s.kept s.running s.queue.waiting s.data_begun s.sent (s.data_begun + (events_bytes s.queue.waiting + (backs_bytes s.hold.kept + 0)) ≡ backs_bytes (backs_taken s.journal))
            v ev seq1 k.head_is k.data_is has refl
            (λ x t fx ge sil sum. stop_means c u md bd (calm_status c) x s.data_begun (last_hop c) law h m.0 m.1 t fx ge
            (λ a. silent_among s.sent x sil (subst (λ y. Among (up.Cancel x) y) j.ups.1 (among_more (up.Cancel x) u j.ups.0 a)))
            (sum_up s.data_begun (events_bytes s.queue.waiting) (backs_bytes s.hold.kept) (backs_bytes (backs_taken s.journal)) (backs_bytes i.ub) (backs_bytes bd) sum q.0 q.1 q.2 all))
            (subst (λ b. Course c (calm_status c) (StopIn md bd) (Unit {0}) s.trace s.kept b s.running s.queue.waiting s.data_begun s.sent (s.data_begun + (events_bytes s.queue.waiting + (backs_bytes s.hold.kept + 0)) ≡ backs_bytes (backs_taken s.journal))) stop k.course)
      ]
    ] in
    p ∙ open_calm c closed

pub calm_law_holds : (c : ChannelPlan) (steps : List Step) → PlanOk c → Known c → IsCalm c → EndsByFailure c.reactions → c.closed ≡ false →
    (journal_ending c (channel_after c steps).child ≡ Stopped → (channel_after c steps).child.trace ≡ calm_trace c)
    × (journal_ending c (channel_after c steps).child ≡ Suspended → ⊥)
calm_law_holds c steps v r cp ev closed =
    let s = (channel_after c steps).child in
    let told = ending_told c steps v in
    let k = calm_run_of c steps v r cp ev (channel_led c steps v r cp ev) in (
      λ e. calm_stopped c steps v r cp ev closed (stopped_of c.closed s.stopped _ closed (sym told.0 ∙ e)),
      λ e. let x : nat_lt 0 s.suspends ≡ true = and_middle s.opened (nat_lt 0 s.suspends) _ (suspended_of c.closed s.stopped _ (sym told.0 ∙ e)) in not_suspended s.suspends k.no_suspend x,
    )
