-- Where no step that a drain tries is enabled, a channel is not going on.
use Rattle.std.proofs.Common.{ℕ, ◌≡◌, ◌+◌, ◌<◌, ◌≤◌, refl, sym, ◌∙◌, ap, subst, List, [], ◌++◌, length, Bool, true, false, not, ◌&&◌, ◌||◌, Option, Some, None, is_some, ◌⊎◌, inl, inr, if◌then◌else◌, nat_lt, nat_le, take, arith, slice_get, ℤ, pos, int_lt, ◌+ℤ◌, ◌≤ℤ◌}
use Rattle.std.proofs.lemmas.Int.{ints}
use Rattle.std.proofs.lemmas.List.{take_all}
use Rattle.std.proofs.lemmas.Bool.{lt-ltb}
use borrow.Author.Tests.{ltb-true}
use Rattle.nk_base.specs.declared.message.MainMsg.{MainMsg}
use Rattle.nk_base.specs.declared.message.BackMsg.{BackMsg}
use Rattle.nk_plan.specs.declared.plan.ChannelPlan.{ChannelPlan}
use Rattle.nk_plan.specs.declared.plan.Control.{Control}
use Rattle.nk_laws.proofs.Tally.{journal_ending}
use Rattle.nk_laws.proofs.Premises.{PlanOk, Known, WantsCredit}
use Rattle.nk_plan.specs.Plan.{pieces_at}
use Rattle.nk_plan.specs.Trace.{SeqTrace}
use Rattle.nk_plan.specs.Journal.{first, final, cut, mains_taken, backs_taken, mains_sent, backs_sent, ups_taken, is_suspend, is_resume, is_finish, count_of, has_open}
use Rattle.nk_base.specs.Queue.{has_some}
use Rattle.nk_plan.specs.Parent.{ParentState}
use Rattle.nk_plan.specs.declared.step.Phase.TheVariants.{Body, Done}
use Rattle.nk_plan.specs.Child.{ChildState, is_due, Hold}
use Rattle.nk_plan.specs.Channel.{Channel, main_lane, back_lane, up_lane, channel_after}
use Rattle.nk_plan.specs.declared.step.Step.{Step}
use Rattle.nk_plan.specs.declared.step.Step.TheVariants.{Act, Up, Forward, Main, Back, Release}
use Rattle.nk_plan.specs.Enabled.{IsSettled}
use Rattle.nk_plan.specs.declared.ends.Ending.{Ending}
use Rattle.nk_plan.specs.declared.ends.Ending.TheVariants.{Stopped, Suspended, Unopened, Going}
use Rattle.nk_plan.specs.Ending.{state_ending, ends_in_stop, comes_at}
use Rattle.nk_laws.proofs.ParentLaw.{Keeps, InBody, parent_keeps}
use Rattle.nk_laws.proofs.Taking.{Whole, hold_is, mains_is, whole_unbroken}
use Rattle.nk_half_laws.specs.Settled.{IsIdle}
use Rattle.nk_laws.specs.Moves.{Joined}
use Rattle.nk_laws.proofs.Joined.{joined, rest_after, run_trace}
use Rattle.nk_laws.proofs.Heard.{Hears, parent_hears}
use Rattle.nk_laws.proofs.Still.{zero_or, unless, prefix_all, cut_stopped, channel_inv, at_rest, due_none, reports_none, all_moved}
use Rattle.nk_laws.proofs.Asking.{still}
use Rattle.nk_laws.proofs.Tally.{Tallied, child_tally, stop_last}
use Rattle.nk_laws.proofs.Credit.{read_of, backs_size, shown_size, run_size, GoodMains, GoodBacks, Owed, TookGood, child_owes, read_all}
use Rattle.nk_laws.proofs.Paid.{covered, body_good, keeps_body, body_waits}
use Rattle.nk_laws.proofs.Tools.{by_bool, none_has}

-- A parent does not wait for credit for ever

-- with nothing left on the lanes, nothing is kept in the hold
hold_empty : (c : ChannelPlan) (w : Channel) (j : Joined c w) → IsSettled c w → (i : Whole c (mains_sent w.parent.journal) (backs_sent w.parent.journal) w.child) → w.child.hold.kept ≡ []
hold_empty c w j q i =
    let s = w.child in
    let md : List MainMsg = mains_sent w.parent.journal in
    let bd : List BackMsg = backs_sent w.parent.journal in
    let a = i.around in
    let nb : s.broken ≡ false = whole_unbroken c md bd s i in
    let hold : s.hold ≡ a.hold = hold_is c a _ _ s i.keeps in
    let tm : mains_taken s.journal ≡ a.mains = mains_is c a _ _ s i.keeps in
    let lane0 : main_lane w ≡ [] = none_has (main_lane w) (unless s.broken (has_some (main_lane w)) nb (q Main tt)) in
    let um0 : i.um ≡ [] = sym (rest_after (mains_taken s.journal) i.um md (ap (λ t. t ++ i.um) tm ∙ i.mains)) ∙ lane0 in
    let no_report : is_some s.hold.report ≡ false = unless s.broken (is_some s.hold.report) nb (q Release tt) in
    ap (λ (h : Hold). h.kept) hold
    ∙ by_bool i.some
    (λ x. due_none c i.hop a.hold i.um um0 (λ y. reports_none s.hold.report i.hop no_report (ap (λ (h : Hold). h.report) hold ∙ y)) (λ y. (i.waits.released y).1) (i.due x))
    (λ x. (i.none x).0)

no_credit : (w r b : ℕ) (cr : ℤ) → 1 ≤ w → pos (w + r) ≤ℤ (cr +ℤ pos b) → r ≡ b → int_lt (pos 0) cr ≡ false → ⊥
no_credit w r b cr l h e n = grind (arith, ints)

credit_still : (c : ChannelPlan) (steps : List Step) → PlanOk c → Known c → IsSettled c (channel_after c steps) → (channel_after c steps).child.suspends ≡ 0
    → WantsCredit c (channel_after c steps).parent → (channel_after c steps).child.stopped ≡ true
credit_still c steps v r q z (body, wants) =
    let w = channel_after c steps in
    let s = w.child in
    let p = w.parent in
    let j : Joined c w = joined c steps in
    let rest : IsIdle s × (s.suspends ≡ 0 → s.queue.waiting ≡ []) = at_rest c steps r q in
    let e : s.queue.waiting ≡ [] = rest.1 z in
    elim (channel_inv c steps v) [
      | inr i ↦ cut_stopped c _ s i e
      | inl i ↦
          let nb : s.broken ≡ false = whole_unbroken c _ _ s i in
          let idle : s.running ≡ None = rest.0.running in
          let held : s.hold.kept ≡ [] = hold_empty c w j q i in
          let am : mains_taken s.journal ≡ mains_sent p.journal = prefix_all (mains_taken s.journal) (mains_sent p.journal) j.mains (none_has (main_lane w) (unless s.broken (has_some (main_lane w)) nb (q Main tt))) in
          let moved : take w.forwarded (backs_sent p.journal) ≡ backs_sent p.journal = take_all w.forwarded (backs_sent p.journal) (all_moved w.forwarded (length (backs_sent p.journal)) (q Forward tt)) in
          let ab : backs_taken s.journal ≡ backs_sent p.journal = prefix_all (backs_taken s.journal) (take w.forwarded (backs_sent p.journal)) j.backs (none_has (back_lane w) (unless s.broken (has_some (back_lane w)) nb (q Back tt))) ∙ moved in
          let au : ups_taken p.journal ≡ s.sent = prefix_all (ups_taken p.journal) s.sent j.ups (none_has (up_lane w) (q Up tt)) in
          let keeps : Keeps c p = subst (λ (y : ParentState). Keeps c y) j.parent_is (parent_keeps c j.parent_steps v) in
          let b : InBody c p.hop p.piece p.kept (ups_taken p.journal) (mains_sent p.journal) (backs_sent p.journal) = keeps_body c p p.phase refl body keeps in
          let waits : (p.kept ≡ None) × (int_lt (pos 0) p.credit ≡ false) = body_waits p p.kept (pieces_at c p.hop) wants in
          let none : p.kept ≡ None = waits.0 in
          let good : GoodMains (mains_sent p.journal) × GoodBacks (backs_sent p.journal) = body_good c p.hop p.piece p.kept _ _ _ none b in
          let o : Owed false [] s = subst (λ (x : ChildState). Owed false [] x) j.child_is (child_owes false c j.child_steps r (subst (λ (x : ChildState). TookGood false x.journal) (sym j.child_is) (λ d. rw am good.0, λ d. rw ab good.1))) in
          let heard : Hears p = subst (λ (x : ParentState). Hears x) j.parent_is (parent_hears c j.parent_steps) in
          let clean : s.kept ≡ None = elim o.excuse [
            | inl k ↦ k.0
            | inr x ↦ elim x [
              | inl y ↦ absurd (cc)
              | inr y ↦ elim y [
                | inl d ↦ absurd (cc)
                | inr d ↦ elim (heard.kept_heard d.0 d.1 (rw au d.2)) [ inl g ↦ let h : Body ≡ Done = sym body ∙ g in absurd (cc) | inr g ↦ absurd (g none) ]
              ]
            ]
          ] in
          let P : ChildState → Type 0 = λ y.
          y.broken ≡ false → y.kept ≡ None → y.running ≡ None → y.queue.waiting ≡ [] → y.hold.kept ≡ [] → read_of y.sent + run_size y.running ≡ shown_size y.trace
          → read_of y.sent ≡ backs_size (backs_taken y.journal) in
          let all : read_of s.sent ≡ backs_size (backs_taken s.journal) = subst P j.child_is (read_all c j.child_steps r) nb clean idle e held o.read in
          let read : read_of (ups_taken p.journal) ≡ backs_size (backs_sent p.journal) = rw (au, ← ab) all in
          absurd (no_credit c.window (read_of (ups_taken p.journal)) (backs_size (backs_sent p.journal)) p.credit r.accepted.window.0 (covered c steps r) read waits.1)
    ]

-- A channel that is still has stopped or is suspended

stopped_or_not : (c : ChannelPlan) (steps : List Step) → PlanOk c → Known c → c.closed ≡ false → IsSettled c (channel_after c steps)
    → ((channel_after c steps).child.stopped ≡ true) ⊎ (0 < (channel_after c steps).child.suspends)
stopped_or_not c steps v r n q = elim (zero_or (channel_after c steps).child.suspends) [
  | inr x ↦ inr x
  | inl z ↦ elim (still c steps v r n q) [
    | inl x ↦ inl x
    | inr x ↦ elim x [ inl y ↦ inr y | inr y ↦ inl (credit_still c steps v r q z y) ]
  ]
]

-- the words of an ending, by its parts
ending_parts : Bool → Bool → Bool → Bool → Bool → Bool → Ending
ending_parts closed stopped opened suspended runs due =
    if closed then Unopened else (if stopped then Stopped else (if opened && (suspended && (not runs && not due)) then Suspended else Going))

stopped_ends : (closed stopped opened suspended runs due : Bool) → closed ≡ false → stopped ≡ true → ending_parts closed stopped opened suspended runs due ≡ Going → ⊥
unfolding ending_parts
stopped_ends true b d e f g n h x = cc
stopped_ends false true d e f g n h x = cc
stopped_ends false false d e f g n h x = cc

suspended_ends : (closed stopped opened suspended runs due : Bool) → opened ≡ true → suspended ≡ true → runs ≡ false → due ≡ false → ending_parts closed stopped opened suspended runs due ≡ Going → ⊥
unfolding ending_parts
suspended_ends true b o s r d eo es er ed x = cc
suspended_ends false true o s r d eo es er ed x = cc
suspended_ends false false o s r d eo es er ed x = let y : Suspended ≡ Going = rw (eo, es, er, ed) at x in cc

is_ending : (c : ChannelPlan) (s : ChildState) → state_ending c s ≡ ending_parts c.closed s.stopped s.opened (nat_lt 0 s.suspends) (is_some s.running) (is_due s (slice_get c.controls s.next))
unfolding ending_parts
is_ending c s = refl

opened_now : (closed opened due : Bool) → closed ≡ false → (not closed && (not opened || due)) ≡ false → (opened ≡ true) × (due ≡ false)
opened_now true opened due e h = cc
opened_now false true due e h = (refl, h)
opened_now false false due e h = cc

not_going : (c : ChannelPlan) (steps : List Step) → PlanOk c → Known c → c.closed ≡ false → IsSettled c (channel_after c steps) → state_ending c (channel_after c steps).child ≡ Going → ⊥
not_going c steps v r n q g =
    let s = (channel_after c steps).child in
    let g1 : ending_parts c.closed s.stopped s.opened (nat_lt 0 s.suspends) (is_some s.running) (is_due s (slice_get c.controls s.next)) ≡ Going = sym (is_ending c s) ∙ g in
    elim (stopped_or_not c steps v r n q) [
      | inl x ↦ stopped_ends c.closed s.stopped s.opened _ _ _ n x g1
      | inr x ↦
          let o : (s.opened ≡ true) × (is_due s (slice_get c.controls s.next) ≡ false) = opened_now c.closed s.opened (is_due s (slice_get c.controls s.next)) n (q Act tt) in
          suspended_ends c.closed s.stopped s.opened (nat_lt 0 s.suspends) (is_some s.running) _ o.0 (lt-ltb 0 s.suspends x) (ap is_some (at_rest c steps r q).0.running) o.1 g1
    ]

-- the journal tells the ending

due_same : (s : ChildState) (n : ℕ) (o : Option Control) → n ≡ s.finished → comes_at n o ≡ is_due s o
due_same s n None e = refl
due_same s n (Some control) e = ap (λ x. nat_le control.after x) e

more_than : (a b n : ℕ) → n + a ≡ b → nat_lt a b ≡ nat_lt 0 n
more_than a b n e = elim (zero_or n) [
  | inl z ↦ by_bool (nat_lt a b) (λ x. let y : a < b = ltb-true a b x in absurd (omega arith)) (λ x. by_bool (nat_lt 0 n) (λ y. let h : 0 < n = ltb-true 0 n y in absurd (omega arith)) (λ y. x ∙ sym y))
  | inr z ↦ lt-ltb a b (omega arith) ∙ sym (lt-ltb 0 n z)
]

told_by : (c : ChannelPlan) (s : ChildState) → Tallied s → ends_in_stop s.trace ≡ s.stopped → journal_ending c s ≡ state_ending c s
unfolding ending_parts
told_by c s k e =
    let a : nat_lt (count_of is_resume s.journal) (count_of is_suspend s.journal) ≡ nat_lt 0 s.suspends = more_than (count_of is_resume s.journal) (count_of is_suspend s.journal) s.suspends k.suspends_is in
    let b : comes_at (count_of is_finish s.journal) (slice_get c.controls s.next) ≡ is_due s (slice_get c.controls s.next) = due_same s (count_of is_finish s.journal) (slice_get c.controls s.next) k.finished_is in
    let P : Bool → Bool → Bool → Bool → Ending = λ x y z d. ending_parts c.closed x y z (is_some s.running) d in
    ap (λ x. ending_parts c.closed x (has_open s.journal) (nat_lt (count_of is_resume s.journal) (count_of is_suspend s.journal)) (is_some s.running) (comes_at (count_of is_finish s.journal) (slice_get c.controls s.next))) e
    ∙ (ap (λ x. ending_parts c.closed s.stopped x (nat_lt (count_of is_resume s.journal) (count_of is_suspend s.journal)) (is_some s.running) (comes_at (count_of is_finish s.journal) (slice_get c.controls s.next))) k.open_is
    ∙ (ap (λ x. ending_parts c.closed s.stopped s.opened x (is_some s.running) (comes_at (count_of is_finish s.journal) (slice_get c.controls s.next))) a
    ∙ ap (λ x. ending_parts c.closed s.stopped s.opened (nat_lt 0 s.suspends) (is_some s.running) x) b))

pub ending_told : (c : ChannelPlan) (steps : List Step) → PlanOk c →
    (journal_ending c (channel_after c steps).child ≡ state_ending c (channel_after c steps).child)
    × ((channel_after c steps).child.stopped ≡ ends_in_stop (channel_after c steps).child.trace)
    × (Known c → c.closed ≡ false → IsSettled c (channel_after c steps) → journal_ending c (channel_after c steps).child ≡ Going → ⊥)
ending_told c steps v =
    let w = channel_after c steps in
    let s = w.child in
    let j : Joined c w = joined c steps in
    let k : Tallied s = subst (λ (x : ChildState). Tallied x) j.child_is (child_tally c j.child_steps) in
    let t : SeqTrace c (final s.journal) (first s.journal) (cut s.journal) s.trace = run_trace c steps v in
    let e : s.stopped ≡ ends_in_stop s.trace = sym k.stop_is ∙ stop_last c (final s.journal) (first s.journal) (cut s.journal) s.trace t in
    let same : journal_ending c s ≡ state_ending c s = told_by c s k (sym e) in (
      same,
      e,
      λ r n q g. not_going c steps v r n q (sym same ∙ g),
    )
