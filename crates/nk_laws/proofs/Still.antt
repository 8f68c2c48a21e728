-- Where no step of a channel is enabled, all lanes are empty, and its parent has done all or waits.
use Rattle.std.proofs.Common.{ℕ, zero, suc, ◌≡◌, ◌<◌, ◌≤◌, refl, sym, ◌∙◌, ap, subst, List, [], ◌∷◌, ◌++◌, length, Bool, true, false, not, ◌&&◌, ◌||◌, Option, Some, None, is_some, ◌⊎◌, ◌↔◌, inl, inr, nat_lt, take, drop, arith, slice_get}
use Rattle.std.proofs.lemmas.List.{take_all}
use Rattle.std.proofs.lemmas.Bool.{lt-ltb}
use Rattle.nk_base.specs.declared.message.MainMsg.{MainMsg}
use Rattle.nk_base.specs.declared.message.BackMsg.{BackMsg}
use Rattle.nk_plan.specs.declared.plan.ChannelPlan.{ChannelPlan}
use Rattle.nk_laws.proofs.Premises.{PlanOk, Known}
use Rattle.nk_base.specs.Queue.{has_some}
use Rattle.nk_plan.specs.Parent.{ParentState, parent_after}
use Rattle.nk_plan.specs.Journal.{mains_sent, backs_sent, ups_taken, mains_taken, backs_taken}
use Rattle.nk_laws.proofs.Sent.{SentLaw}
use Rattle.nk_plan.specs.Lanes.{IsPrefix, Among}
use Rattle.nk_plan.specs.Child.{ChildState, back_events, is_among, Hold, is_due}
use Rattle.nk_plan.specs.declared.event.ChildEvent.{ChildEvent}
use Rattle.nk_plan.specs.Channel.{Channel, main_lane, back_lane, up_lane, channel_after}
use Rattle.nk_plan.specs.declared.step.Step.{Step}
use Rattle.nk_plan.specs.declared.step.Step.TheVariants.{Act, Verdict, Fetch, Up, Forward, Main, Back, Release, Begin, Finish}
use Rattle.nk_plan.specs.Enabled.{phase_enabled, body_enabled, IsSettled}
use Rattle.nk_laws.proofs.Tools.{append_nil, by_bool, none_has, le_or_more}
use Rattle.nk_laws.proofs.ParentLaw.{lane_law}
use Rattle.nk_laws.proofs.Order.{Around, Holds, strip, stops}
use Rattle.nk_laws.proofs.Merge.{run_inv, start_inv, fed, prefix_of_take}
use Rattle.nk_laws.proofs.Taking.{Within, main_events, Due, Whole, Cut, Inv, hold_is, mains_is, backs_is, whole_unbroken}
use Rattle.nk_laws.specs.Moves.{Joined}
use Rattle.nk_laws.proofs.Joined.{joined, rest_after}
use Rattle.nk_half_laws.specs.Settled.{IsSettledChild, IsIdle, has_end}
use Rattle.nk_laws.proofs.Told.{IsTold, child_told}
use Rattle.nk_laws.proofs.Heard.{Hears, parent_hears, end_heard}
use Rattle.nk_plan.specs.Plan.{pieces_at}
use Rattle.nk_plan.specs.declared.step.Phase.{Phase}
use Rattle.nk_plan.specs.declared.step.Phase.TheVariants.{Closed, Ready, Asking, Follow, Body, Done}
use Rattle.nk_base.specs.declared.message.UpMsg.TheVariants as up
use Rattle.nk_plan.specs.declared.step.ChildStep.TheVariants as child

pub unless : (a b : Bool) → a ≡ false → (not a && b) ≡ false → b ≡ false
unless true b e h = cc
unless false b e h = h

-- the invariant of a channel's child, with all that its parent has sent
pub channel_inv : (c : ChannelPlan) (steps : List Step) → PlanOk c →
    Inv c (mains_sent (channel_after c steps).parent.journal) (backs_sent (channel_after c steps).parent.journal) (channel_after c steps).child
channel_inv c steps v =
    let w = channel_after c steps in
    let j : Joined c w = joined c steps in
    let md : List MainMsg = mains_sent w.parent.journal in
    let bd : List BackMsg = backs_sent w.parent.journal in
    let l : SentLaw c (ups_taken w.parent.journal) md bd =
    subst (λ (x : ParentState). SentLaw c (ups_taken x.journal) (mains_sent x.journal) (backs_sent x.journal)) j.parent_is (lane_law c j.parent_steps v) in
    subst (λ (x : ChildState). Inv c md bd x) j.child_is
    (run_inv c md bd j.child_steps v (start_inv c md bd (fed c (ups_taken w.parent.journal) md bd v l))
    (subst (λ (x : ChildState). Within md bd x.journal) (sym j.child_is) (j.mains, prefix_of_take w.forwarded (backs_taken w.child.journal) bd j.backs)))

pub ends_at : (c : ChannelPlan) (a : Around) (pend w : List ChildEvent) (s : ChildState) → Holds c a pend w s → stops (strip (w ++ pend)) s.stopped ≡ a.ends
ends_at c a pend w s (pl, l, n, f, j, h, b, z) = z

-- whether a stop or a failed opening is among all that was sent
abbrev pub sent_all : Channel → Bool
sent_all w = stops (strip (main_events (mains_sent w.parent.journal) ++ back_events (backs_sent w.parent.journal))) false

pub zero_or : (n : ℕ) → (n ≡ 0) ⊎ (0 < n)
zero_or zero = inl refl
zero_or (suc n) = inr (omega arith)

-- with no main message left, hop g was released, since no report is noted
pub due_none : (c : ChannelPlan) (g : ℕ) (hold : Hold) (um : List MainMsg) → um ≡ [] → (hold.report ≡ Some g → ⊥) → (is_among hold.released g ≡ true → hold.kept ≡ []) → Due c g hold um → hold.kept ≡ []
due_none c g hold [] e n r (inl x) = absurd x
due_none c g hold (m ∷ um) e n r (inl x) = cc
due_none c g hold um e n r (inr (inl x)) = r x
due_none c g hold um e n r (inr (inr x)) = absurd (n x)

over_none : (w : List ChildEvent) (um : List MainMsg) (kept ub : List BackMsg) (stopped ends : Bool) → w ≡ [] → um ≡ [] → kept ≡ [] → ub ≡ []
    → stops (strip (w ++ (main_events um ++ (back_events kept ++ back_events ub)))) stopped ≡ ends → stopped ≡ ends
over_none w um kept ub stopped ends ew eu ek eb z = rw (ew, eu, ek, eb) at z

pub cut_stopped : (c : ChannelPlan) (md : List MainMsg) (s : ChildState) (i : Cut c md s) → s.queue.waiting ≡ [] → s.stopped ≡ true
cut_stopped c md s i e =
    let z : stops (strip (s.queue.waiting ++ [])) s.stopped ≡ i.around.ends = ends_at c i.around [] _ s i.keeps in
    over_none s.queue.waiting [] [] [] s.stopped i.around.ends e refl refl refl z ∙ i.ends_is

pub reports_none : (o : Option ℕ) (g : ℕ) → is_some o ≡ false → o ≡ Some g → ⊥
reports_none None g e h = cc
reports_none (Some x) g e h = cc

pub all_moved : (n m : ℕ) → nat_lt n m ≡ false → m ≤ n
all_moved n m e = elim (le_or_more m n) [ inl x ↦ x | inr x ↦ let y : nat_lt n m ≡ true = lt-ltb n m x in absurd (cc) ]

-- a channel that is still and not suspended, whose child is not broken, has shown its stop exactly where its parent has sent it
whole_still : (c : ChannelPlan) (w : Channel) (j : Joined c w) → IsSettled c w → w.child.queue.waiting ≡ []
    → (i : Whole c (mains_sent w.parent.journal) (backs_sent w.parent.journal) w.child) → w.child.stopped ≡ sent_all w
whole_still c w j still e i =
    let s = w.child in
    let md : List MainMsg = mains_sent w.parent.journal in
    let bd : List BackMsg = backs_sent w.parent.journal in
    let a = i.around in
    let nb : s.broken ≡ false = whole_unbroken c md bd s i in
    let hold : s.hold ≡ a.hold = hold_is c a _ _ s i.keeps in
    let tm : mains_taken s.journal ≡ a.mains = mains_is c a _ _ s i.keeps in
    let tb : backs_taken s.journal ≡ a.backs = backs_is c a _ _ s i.keeps in
    let lane0 : main_lane w ≡ [] = none_has (main_lane w) (unless s.broken (has_some (main_lane w)) nb (still Main tt)) in
    let um0 : i.um ≡ [] = sym (rest_after (mains_taken s.journal) i.um md (ap (λ t. t ++ i.um) tm ∙ i.mains)) ∙ lane0 in
    let lane1 : back_lane w ≡ [] = none_has (back_lane w) (unless s.broken (has_some (back_lane w)) nb (still Back tt)) in
    let moved : take w.forwarded bd ≡ bd = take_all w.forwarded bd (all_moved w.forwarded (length bd) (still Forward tt)) in
    let ub0 : i.ub ≡ [] = sym (rest_after (backs_taken s.journal) i.ub (take w.forwarded bd) (ap (λ t. t ++ i.ub) tb ∙ (i.backs ∙ sym moved))) ∙ lane1 in
    let no_report : is_some s.hold.report ≡ false = unless s.broken (is_some s.hold.report) nb (still Release tt) in
    let kept0 : a.hold.kept ≡ [] =
    by_bool i.some
    (λ x. due_none c i.hop a.hold i.um um0 (λ y. reports_none s.hold.report i.hop no_report (ap (λ (h : Hold). h.report) hold ∙ y)) (λ y. (i.waits.released y).1) (i.due x))
    (λ x. (i.none x).0) in
    let z : stops (strip (s.queue.waiting ++ (main_events i.um ++ (back_events a.hold.kept ++ back_events i.ub)))) s.stopped ≡ a.ends = ends_at c a _ _ s i.keeps in
    over_none s.queue.waiting i.um a.hold.kept i.ub s.stopped a.ends e um0 kept0 ub0 z ∙ i.ends_is

-- where nothing of a channel is enabled its child is idle; and where that is not suspended, no event waits
child_settled : (c : ChannelPlan) (w : Channel) → IsSettled c w → IsSettledChild c w.child
child_settled c w still child.Act o = absurd o
child_settled c w still child.Verdict o = still Verdict tt
child_settled c w still (child.Main m) o = absurd o
child_settled c w still (child.Back m) o = absurd o
child_settled c w still child.Release o = still Release tt
child_settled c w still (child.Begin t) o = still (Begin t) o
child_settled c w still (child.Finish t) o = still (Finish t) o

pub at_rest : (c : ChannelPlan) (steps : List Step) → Known c → IsSettled c (channel_after c steps)
    → IsIdle (channel_after c steps).child × ((channel_after c steps).child.suspends ≡ 0 → (channel_after c steps).child.queue.waiting ≡ [])
at_rest c steps r still =
    let w = channel_after c steps in
    let j : Joined c w = joined c steps in
    let P : ChildState → Type 0 = λ s. (IsSettledChild c s ↔ IsIdle s) × (IsIdle s → s.suspends ≡ 0 → s.queue.waiting ≡ []) in
    let known : P w.child = subst P j.child_is (r.rest c j.child_steps r.accepted) in
    let idle : IsIdle w.child = known.0.0 (child_settled c w still) in
    (idle, known.1 idle)

-- the child's part: where nothing is enabled, an opened child has shown its stop, or is suspended, or its parent has not sent all
pub child_still : (c : ChannelPlan) (steps : List Step) → PlanOk c → Known c → IsSettled c (channel_after c steps)
    → ((channel_after c steps).child.stopped ≡ true) ⊎ ((0 < (channel_after c steps).child.suspends) ⊎ (sent_all (channel_after c steps) ≡ false))
child_still c steps v r still =
    let w = channel_after c steps in
    let j : Joined c w = joined c steps in
    elim (zero_or w.child.suspends) [
      | inr x ↦ inr (inl x)
      | inl x ↦
          let e : w.child.queue.waiting ≡ [] = (at_rest c steps r still).1 x in
          elim (channel_inv c steps v) [
            | inl i ↦ by_bool (sent_all w) (λ y. inl (whole_still c w j still e i ∙ y)) (λ y. inr (inr y))
            | inr i ↦ inl (cut_stopped c _ w.child i e)
          ]
    ]

pub prefix_all : {A : Type 0} (xs ys : List A) → IsPrefix xs ys → drop (length xs) ys ≡ [] → xs ≡ ys
prefix_all xs ys (r, e) d =
    let f : r ≡ [] = sym (rest_after xs r ys e) ∙ d in
    sym (append_nil xs) ∙ (ap (λ t. xs ++ t) (sym f) ∙ e)

-- where it may still be stuck: waiting for a verdict, or for credit
abbrev pub Stuck : ChannelPlan → ParentState → Type 0
Stuck c p = (p.phase ≡ Asking) ⊎ ((p.phase ≡ Body) × (body_enabled p p.kept (pieces_at c p.hop) ≡ false))

opened_now : (closed opened due : Bool) → closed ≡ false → (not closed && (not opened || due)) ≡ false → opened ≡ true
opened_now true opened due e h = cc
opened_now false true due e h = refl
opened_now false false due e h = cc

phase_still : (c : ChannelPlan) (p : ParentState) (ph : Phase) (stopped : Bool) (sent : Bool) → p.phase ≡ ph → phase_enabled c p ph ≡ false → (ph ≡ Closed → ⊥) → (ph ≡ Done → (stopped ≡ true) ⊎ (sent ≡ true)) → sent ≡ false → (stopped ≡ true) ⊎ Stuck c p
phase_still c p Closed stopped sent e n a b d = absurd (a refl)
phase_still c p Ready stopped sent e n a b d = cc
phase_still c p Asking stopped sent e n a b d = inr (inl e)
phase_still c p Follow stopped sent e n a b d = cc
phase_still c p Body stopped sent e n a b d = inr (inr (e, n))
phase_still c p Done stopped sent e n a b d = elim (b refl) [ inl x ↦ inl x | inr x ↦ absurd (cc) ]

-- where nothing is enabled, an opened channel has stopped, is suspended, or its parent waits for a verdict or for credit
pub channel_still : (c : ChannelPlan) (steps : List Step) → PlanOk c → Known c → c.closed ≡ false → IsSettled c (channel_after c steps)
    → ((channel_after c steps).child.stopped ≡ true) ⊎ ((0 < (channel_after c steps).child.suspends) ⊎ Stuck c (channel_after c steps).parent)
channel_still c steps v r not_closed still =
    let w = channel_after c steps in
    let s = w.child in
    let p = w.parent in
    let j : Joined c w = joined c steps in
    let told : IsTold s = subst (λ (x : ChildState). IsTold x) j.child_is (child_told r.growth r.told c j.child_steps) in
    let heard : Hears p = subst (λ (x : ParentState). Hears x) j.parent_is (parent_hears c j.parent_steps) in
    let Agree : ParentState → ChildState → Type 0 = λ y x. ups_taken y.journal ≡ x.sent → (y.suspended ≡ true) ↔ (0 < x.suspends) in
    let agree : Agree p s =
    subst (λ y. Agree y s) j.parent_is (subst (λ x. Agree (parent_after c j.parent_steps) x) j.child_is (r.suspends c j.parent_steps j.child_steps)) in
    let over : p.phase ≡ Done → has_end p.journal ≡ true = subst (λ (y : ParentState). y.phase ≡ Done → has_end y.journal ≡ true) j.parent_is (r.ended c j.parent_steps).0 in
    let none : up_lane w ≡ [] = none_has (up_lane w) (still Up tt) in
    let all : ups_taken p.journal ≡ s.sent = prefix_all (ups_taken p.journal) s.sent j.ups none in
    let opened : s.opened ≡ true = opened_now c.closed s.opened (is_due s (slice_get c.controls s.next)) not_closed (still Act tt) in
    let open_heard : Among up.Open (ups_taken p.journal) = rw all (told.open_said opened) in
    elim (child_still c steps v r still) [
      | inl x ↦ inl x
      | inr y ↦ elim y [
        | inl x ↦ inr (inl x)
        | inr x ↦
            elim (zero_or s.suspends) [
              | inr z ↦ inr (inl z)
              | inl z ↦
                  let flag : p.suspended ≡ false = by_bool p.suspended (λ y. let l : 0 < s.suspends = (agree all).0 y in absurd (omega arith)) (λ y. y) in
                  let phase : phase_enabled c p p.phase ≡ false = unless p.suspended (phase_enabled c p p.phase) flag (still Fetch tt) in
                  elim (phase_still c p p.phase s.stopped (sent_all w) refl phase (λ e. heard.closed_heard e open_heard)
                  (λ e. elim (end_heard p.journal (over e)) [ inl q ↦ inr q | inr q ↦ inl (told.deleting_said (rw all at q)) ]) x) [
                    | inl q ↦ inl q
                    | inr q ↦ inr (inr q)
                  ]
            ]
      ]
    ]
