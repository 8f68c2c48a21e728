-- Where a parent waits for a verdict and no step is enabled, the page has suspended the load or the stop was shown.
use Rattle.std.proofs.Common.{ℕ, zero, suc, ◌≡◌, ◌<◌, refl, sym, ◌∙◌, ap, subst, List, [], ◌∷◌, ◌++◌, length, true, false, if◌then◌else◌, nat_lt, arith, Option, Some, None, slice_get, ◌==◌, pos, int_lt, ◌⊎◌, inl, inr, is_some}
use Rattle.nk_base.specs.declared.message.MainMsg.{MainMsg}
use Rattle.nk_base.specs.declared.message.BackMsg.{BackMsg}
use Rattle.nk_base.specs.declared.message.UpMsg.{UpMsg}
use Rattle.nk_plan.specs.declared.plan.ChannelPlan.{ChannelPlan}
use Rattle.nk_laws.proofs.Premises.{PlanOk, Known, WantsCredit}
use Rattle.nk_plan.specs.Parent.{ParentState, parent_step, give_start, bare_head, fetch_finish, fetch_piece, fetch_body, fetch_redirect, fetch_hop, fetch_follow, fetch_in, take_up, opened_phase, awaits_verdict}
use Rattle.nk_plan.specs.Journal.{mains_sent, backs_sent, ups_taken, mains_taken}
use Rattle.nk_plan.specs.Child.{ChildState}
use Rattle.nk_plan.specs.Lanes.{Among, redirects_to, question}
use Rattle.nk_plan.specs.Channel.{Channel, main_lane, back_lane, up_lane, up_step, main_step, back_step, channel_step, channel_after}
use Rattle.nk_plan.specs.Enabled.{IsSettled}
use Rattle.nk_plan.specs.declared.step.Step.{Step}
use Rattle.nk_plan.specs.declared.step.Step.TheVariants.{Act, Verdict, Fetch, Up, Forward, Main, Back, Release, Begin, Finish, Read}
use Rattle.nk_plan.specs.declared.plan.Hop.{Hop}
use Rattle.nk_plan.specs.declared.plan.Finish.{Finish as End}
use Rattle.nk_base.specs.declared.status.Status.{Status}
use Rattle.nk_base.specs.Status.{redirect_loop}
use Rattle.nk_plan.specs.Plan.{hop_at, hop_code}
use Rattle.nk_plan.specs.declared.step.Phase.{Phase}
use Rattle.nk_plan.specs.declared.step.Phase.TheVariants.{Closed, Ready, Asking, Follow, Body, Done}
use Rattle.nk_laws.proofs.ParentLaw.{ups-append, Law, Keeps, parent_keeps}
use Rattle.nk_laws.proofs.Tools.{keeps_if, append_nil, among_more, among_split, none_has}
use Rattle.nk_plan.specs.declared.event.ChildEvent.TheVariants.{Redirect1 as Redirect1Event}
use Rattle.nk_laws.proofs.Merge.{main_events-append}
use Rattle.nk_laws.proofs.Taking.{main_events, whole_unbroken}
use Rattle.nk_laws.specs.Moves.{Joined}
use Rattle.nk_laws.proofs.Joined.{Adds, fetch_step_adds, up_journal, joined}
use Rattle.nk_laws.proofs.Questions.{asked, asked-append, Asks, asks_more, IsQuizzed, child_quizzed}
use Rattle.nk_laws.proofs.Still.{zero_or, unless, prefix_all, cut_stopped, channel_inv, at_rest, channel_still}
use Rattle.nk_base.specs.Queue.{has_some}
use Rattle.std.proofs.lemmas.Bool.{eq-eqb}
use Rattle.nk_base.specs.declared.message.UpMsg.TheVariants as up
use Rattle.nk_plan.specs.declared.step.ParentStep.TheVariants as parent
use Rattle.nk_plan.specs.declared.journal.ParentEntry.TheVariants as entry
use Rattle.nk_plan.specs.declared.plan.Hop.TheVariants as hop
use Rattle.nk_plan.specs.declared.plan.Finish.TheVariants as finish
use Rattle.nk_base.specs.declared.message.MainMsg.TheVariants as main

-- A parent that asked is answered

abbrev FromReady : ParentState → ParentState → Type 0
FromReady s s' = s'.phase ≡ Asking → (s' ≡ s) ⊎ ((s.phase ≡ Ready) × (s'.hop ≡ s.hop))

finished_from : (c : ChannelPlan) (s : ParentState) (end : End) → FromReady s (fetch_finish c s end)
finished_from c s finish.Good e = cc
finished_from c s (finish.Fail st) e = cc

piece_from : (c : ChannelPlan) (s : ParentState) (pieces : List (List ℕ)) (end : End) (o : Option (List ℕ)) → FromReady s (fetch_piece c s pieces end o)
piece_from c s pieces end None = finished_from c s end
piece_from c s pieces end (Some p) = keeps_if (FromReady s) (int_lt (pos 0) s.credit) _ s (λ r e. cc) (λ r e. inl refl)

body_from : (c : ChannelPlan) (s : ParentState) (q : Option Status) (o : Option Hop) → FromReady s (fetch_body c s q o)
body_from c s (Some q) o e = cc
body_from c s None None e = inl refl
body_from c s None (Some (hop.Fail st)) e = inl refl
body_from c s None (Some (hop.Redirect code verdict)) e = inl refl
body_from c s None (Some (hop.Response head pieces end trailers)) e = piece_from c s pieces end (slice_get pieces s.piece) e

redirect_from : (c : ChannelPlan) (s : ParentState) (code : ℕ) (q : Option Status) → s.phase ≡ Ready → FromReady s (fetch_redirect c s code q)
redirect_from c s code (Some q) n e = cc
redirect_from c s code None n e = keeps_if (FromReady s) (s.followed == 20) (give_start c s (Some redirect_loop) (bare_head code)) _ (λ r x. cc) (λ r x. inr (n, refl)) e

ready_from : (c : ChannelPlan) (s : ParentState) (o : Option Hop) → s.phase ≡ Ready → FromReady s (fetch_hop c s o)
ready_from c s None n e = inl refl
ready_from c s (Some (hop.Fail st)) n e = cc
ready_from c s (Some (hop.Redirect code verdict)) n e = redirect_from c s code s.kept n e
ready_from c s (Some (hop.Response head pieces end trailers)) n e = cc

follow_from : (c : ChannelPlan) (s : ParentState) (q : Option Status) (o : Option Hop) → FromReady s (fetch_follow c s q o)
follow_from c s (Some q) (Some (hop.Redirect code verdict)) e = cc
follow_from c s _ o e = cc

fetch_from : (c : ChannelPlan) (s : ParentState) (ph : Phase) → s.phase ≡ ph → FromReady s (fetch_in c s ph)
fetch_from c s Closed n e = inl refl
fetch_from c s Asking n e = inl refl
fetch_from c s Done n e = inl refl
fetch_from c s Ready n e = ready_from c s (hop_at c s.hop) n e
fetch_from c s Follow n e = follow_from c s s.kept (hop_at c s.hop) e
fetch_from c s Body n e = body_from c s s.kept (hop_at c s.hop) e

fetch_step_from : (c : ChannelPlan) (s : ParentState) → FromReady s (parent_step c parent.Fetch s)
fetch_step_from c s = keeps_if (FromReady s) s.suspended s (fetch_in c s s.phase) (λ r e. inl refl) (λ r. fetch_from c s s.phase refl)

asks_parts : (i : ℕ) (xs ys : List MainMsg) → Asks i (xs ++ ys) → Asks i xs ⊎ Asks i ys
asks_parts i [] ys a = inr a
asks_parts i (main.Start h st head ∷ xs) ys a = asks_parts i xs ys a
asks_parts i (main.FailedOpen h st ∷ xs) ys a = asks_parts i xs ys a
asks_parts i (main.Redirect1 h code ∷ xs) ys (inl e) = inl (inl e)
asks_parts i (main.Redirect1 h code ∷ xs) ys (inr a) = elim (asks_parts i xs ys a) [ inl x ↦ inl (inr x) | inr x ↦ inr x ]
asks_parts i (main.Redirect3 h ∷ xs) ys a = asks_parts i xs ys a

asks_below : (c : ChannelPlan) (i n : ℕ) → Asks i (redirects_to c n) → i < n
asks_below c i zero a = absurd a
asks_below c i (suc n) a = elim (asks_parts i (redirects_to c n) (main.Redirect1 n (hop_code (hop_at c n)) ∷ main.Redirect3 n ∷ []) a) [
  | inl x ↦ let y : i < n = asks_below c i n x in omega arith
  | inr x ↦ elim x [ inl e ↦ omega arith | inr e ↦ absurd e ]
]

ready_mains : (c : ChannelPlan) (s : ParentState) (ph : Phase) → ph ≡ Ready → Law c ph s.hop s.followed s.piece s.kept (ups_taken s.journal) (mains_sent s.journal) (backs_sent s.journal) → mains_sent s.journal ≡ redirects_to c s.hop
ready_mains c s Closed e l = cc
ready_mains c s Ready e (b, m, k) = m
ready_mains c s Asking e l = cc
ready_mains c s Follow e l = cc
ready_mains c s Body e l = cc
ready_mains c s Done e l = cc

asking_mains : (c : ChannelPlan) (s : ParentState) (ph : Phase) → ph ≡ Asking → Law c ph s.hop s.followed s.piece s.kept (ups_taken s.journal) (mains_sent s.journal) (backs_sent s.journal)
    → asked (main_events (mains_sent s.journal)) None ≡ Some s.hop
asking_mains c s Closed e l = cc
asking_mains c s Ready e l = cc
asking_mains c s Asking e (b, m, k, r) =
    rw (m, main_events-append (redirects_to c s.hop) (question c s.hop true)) (asked-append (main_events (redirects_to c s.hop)) (Redirect1Event s.hop ∷ []) None)
asking_mains c s Follow e l = cc
asking_mains c s Body e l = cc
asking_mains c s Done e l = cc

-- while a parent asks, it has taken no verdict on its hop
abbrev Unanswered : ParentState → Type 0
Unanswered p = p.phase ≡ Asking → (st : Status) → Among (up.Verify p.hop st) (ups_taken p.journal) → ⊥

open_asks : (ph : Phase) → opened_phase ph ≡ Asking → ph ≡ Asking
open_asks Closed e = cc
open_asks Ready e = cc
open_asks Asking e = e
open_asks Follow e = cc
open_asks Body e = cc
open_asks Done e = cc

answer_asks : (ph : Phase) (h i : ℕ) → (if awaits_verdict ph h i then Follow else ph) ≡ Asking → (ph ≡ Asking) × (i ≡ h → ⊥)
answer_asks Closed h i e = cc
answer_asks Ready h i e = cc
answer_asks Asking h i e =
    keeps_if (λ x. x ≡ Asking → (Asking ≡ Asking) × (i ≡ h → ⊥)) (h == i) Follow Asking (λ r y. cc) (λ r y. (refl, λ z. let t : (h == i) ≡ true = eq-eqb h i (sym z) in cc)) e
answer_asks Follow h i e = cc
answer_asks Body h i e = cc
answer_asks Done h i e = cc

up_asks : (c : ChannelPlan) (m : UpMsg) (s : ParentState) → (take_up c s m).phase ≡ Asking → (s.phase ≡ Asking) × ((st : Status) → m ≡ up.Verify s.hop st → ⊥)
up_asks c up.Open s e = (open_asks s.phase e, λ st x. cc)
up_asks c up.Suspend s e = (e, λ st x. cc)
up_asks c up.Resume s e = (e, λ st x. cc)
up_asks c (up.Cancel k) s e = (e, λ st x. cc)
up_asks c (up.Verify i k) s e = let r = answer_asks s.phase s.hop i e in (r.0, λ st x. let y : i ≡ s.hop = cc in r.1 y)
up_asks c (up.BytesRead n) s e = (e, λ st x. cc)
up_asks c up.Deleting s e = cc

up_hop : (c : ChannelPlan) (m : UpMsg) (s : ParentState) → (take_up c s m).hop ≡ s.hop
up_hop c up.Open s = refl
up_hop c up.Suspend s = refl
up_hop c up.Resume s = refl
up_hop c (up.Cancel k) s = refl
up_hop c (up.Verify i k) s = refl
up_hop c (up.BytesRead n) s = refl
up_hop c up.Deleting s = refl

up_unanswered : (c : ChannelPlan) (m : UpMsg) (s : ParentState) → Unanswered s → Unanswered (parent_step c (parent.Up m) s)
up_unanswered c m s n e st a =
    let eu : ups_taken ((take_up c s m).journal ++ entry.Took m ∷ []) ≡ ups_taken s.journal ++ m ∷ [] = rw (up_journal c m s) (ups-append s.journal (entry.Took m ∷ [])) in
    let r = up_asks c m s e in
    let b : Among (up.Verify s.hop st) (ups_taken s.journal ++ m ∷ []) = rw (eu, up_hop c m s) at a in
    elim (among_split (up.Verify s.hop st) m (ups_taken s.journal) b) [ inl x ↦ n r.0 st x | inr x ↦ r.1 st x ]

fetch_unanswered : (c : ChannelPlan) (w : Channel) (j : Joined c w) → PlanOk c → Unanswered w.parent → Unanswered (parent_step c parent.Fetch w.parent)
fetch_unanswered c w j v n e st a =
    let s = w.parent in
    let s' = parent_step c parent.Fetch s in
    let d : Adds s.journal s'.journal = fetch_step_adds c s in
    let eu : ups_taken s'.journal ≡ ups_taken s.journal = ap ups_taken d.journal_is ∙ (ups-append s.journal d.entries ∙ (ap (λ t. ups_taken s.journal ++ t) d.no_up ∙ append_nil (ups_taken s.journal))) in
    let a1 : Among (up.Verify s'.hop st) (ups_taken s.journal) = subst (λ (u : List UpMsg). Among (up.Verify s'.hop st) u) eu a in
    elim (fetch_step_from c s e) [
      | inl x ↦
          let e1 : s.phase ≡ Asking = ap (λ (p : ParentState). p.phase) (sym x) ∙ e in
          n e1 st (subst (λ (k : ℕ). Among (up.Verify k st) (ups_taken s.journal)) (ap (λ (p : ParentState). p.hop) x) a1)
      | inr x ↦
          let a2 : Among (up.Verify s.hop st) (ups_taken s.journal) = subst (λ (k : ℕ). Among (up.Verify k st) (ups_taken s.journal)) x.1 a1 in
          let a3 : Among (up.Verify s.hop st) w.child.sent = subst (λ (u : List UpMsg). Among (up.Verify s.hop st) u) j.ups.1 (among_more (up.Verify s.hop st) (ups_taken s.journal) j.ups.0 a2) in
          let z : IsQuizzed w.child = subst (λ (y : ChildState). IsQuizzed y) j.child_is (child_quizzed c j.child_steps) in
          let k : Asks s.hop (mains_sent s.journal) = subst (λ (md : List MainMsg). Asks s.hop md) j.mains.1 (asks_more s.hop (mains_taken w.child.journal) j.mains.0 (z.known_v s.hop st a3)) in
          let keeps : Keeps c s = subst (λ (p : ParentState). Keeps c p) j.parent_is (parent_keeps c j.parent_steps v) in
          let m : mains_sent s.journal ≡ redirects_to c s.hop = ready_mains c s s.phase x.0 keeps in
          let below : s.hop < s.hop = asks_below c s.hop s.hop (subst (λ (md : List MainMsg). Asks s.hop md) m k) in
          omega arith
    ]

up_channel : (c : ChannelPlan) (l : List UpMsg) (w : Channel) → Unanswered w.parent → Unanswered (up_step c l w).parent
up_channel c [] w n = n
up_channel c (m ∷ ms) w n = up_unanswered c m w.parent n

main_channel : (c : ChannelPlan) (l : List MainMsg) (w : Channel) → Unanswered w.parent → Unanswered (main_step c l w).parent
main_channel c [] w n = n
main_channel c (m ∷ ms) w n = n

back_channel : (c : ChannelPlan) (l : List BackMsg) (w : Channel) → Unanswered w.parent → Unanswered (back_step c l w).parent
back_channel c [] w n = n
back_channel c (m ∷ ms) w n = n

step_unanswered : (c : ChannelPlan) (x : Step) (w : Channel) (j : Joined c w) → PlanOk c → Unanswered w.parent → Unanswered (channel_step c x w).parent
step_unanswered c Act w j v n = n
step_unanswered c Verdict w j v n = n
step_unanswered c Fetch w j v n = fetch_unanswered c w j v n
step_unanswered c Up w j v n = up_channel c (up_lane w) w n
step_unanswered c Forward w j v n = keeps_if (λ (y : Channel). Unanswered y.parent) (nat_lt w.forwarded (length (backs_sent w.parent.journal))) _ w (λ r. n) (λ r. n)
step_unanswered c Main w j v n = main_channel c (main_lane w) w n
step_unanswered c Back w j v n = back_channel c (back_lane w) w n
step_unanswered c Release w j v n = n
step_unanswered c (Begin t) w j v n = n
step_unanswered c (Finish t) w j v n = n
step_unanswered c (Read reader) w j v n = n

unanswered : (c : ChannelPlan) (steps : List Step) → PlanOk c → Unanswered (channel_after c steps).parent
unanswered c [] v = λ e. cc
unanswered c (x ∷ xs) v = step_unanswered c x (channel_after c xs) (joined c xs) v (unanswered c xs v)

is_some_of : (q : Option ℕ) (h : ℕ) → q ≡ Some h → is_some q ≡ false → ⊥
is_some_of None h e f = cc
is_some_of (Some x) h e f = cc

-- a still parent that asks has a child that stopped or is suspended
pub asking_still : (c : ChannelPlan) (steps : List Step) → PlanOk c → Known c → IsSettled c (channel_after c steps) → (channel_after c steps).parent.phase ≡ Asking
    → ((channel_after c steps).child.stopped ≡ true) ⊎ (0 < (channel_after c steps).child.suspends)
asking_still c steps v r still ask =
    let w = channel_after c steps in
    let s = w.child in
    let p = w.parent in
    let j : Joined c w = joined c steps in
    elim (zero_or s.suspends) [
      | inr x ↦ inr x
      | inl x ↦
          let e : s.queue.waiting ≡ [] = (at_rest c steps r still).1 x in
          elim (channel_inv c steps v) [
            | inr i ↦ inl (cut_stopped c _ s i e)
            | inl i ↦
                let nb : s.broken ≡ false = whole_unbroken c _ _ s i in
                let all : mains_taken s.journal ≡ mains_sent p.journal = prefix_all (mains_taken s.journal) (mains_sent p.journal) j.mains (none_has (main_lane w) (unless s.broken (has_some (main_lane w)) nb (still Main tt))) in
                let ups : ups_taken p.journal ≡ s.sent = prefix_all (ups_taken p.journal) s.sent j.ups (none_has (up_lane w) (still Up tt)) in
                let keeps : Keeps c p = subst (λ (y : ParentState). Keeps c y) j.parent_is (parent_keeps c j.parent_steps v) in
                let last : asked (main_events (mains_taken s.journal)) None ≡ Some p.hop = rw all (asking_mains c p p.phase ask keeps) in
                let z : IsQuizzed s = subst (λ (y : ChildState). IsQuizzed y) j.child_is (child_quizzed c j.child_steps) in
                elim (z.answered nb p.hop last) [
                  | inl y ↦
                      let q : s.question ≡ Some p.hop = rw e at y in
                      absurd (is_some_of s.question p.hop q (unless s.broken (is_some s.question) nb (still Verdict tt)))
                  | inr y ↦ absurd (unanswered c steps v ask y.0 (rw ups y.1))
                ]
          ]
    ]

pub still : (c : ChannelPlan) (steps : List Step) → PlanOk c → Known c → c.closed ≡ false → IsSettled c (channel_after c steps)
    → ((channel_after c steps).child.stopped ≡ true) ⊎ ((0 < (channel_after c steps).child.suspends) ⊎ WantsCredit c (channel_after c steps).parent)
still c steps v r n q = elim (channel_still c steps v r n q) [
  | inl x ↦ inl x
  | inr x ↦ elim x [
    | inl y ↦ inr (inl y)
    | inr y ↦ elim y [
      | inl a ↦ elim (asking_still c steps v r q a) [ inl z ↦ inl z | inr z ↦ inr (inl z) ]
      | inr a ↦ inr (inr a)
    ]
  ]
]
