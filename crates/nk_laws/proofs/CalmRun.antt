-- The course of a calm load holds along every run of its child.
use Rattle.std.proofs.Common.{ℕ, ◌≡◌, ◌+◌, refl, sym, ◌∙◌, ap, subst, List, [], ◌∷◌, ◌++◌, Bool, true, false, inl, inr, arith, add-zero, zero-add, append_assoc}
use Rattle.nk_base.specs.declared.message.MainMsg.{MainMsg}
use Rattle.nk_base.specs.declared.message.BackMsg.{BackMsg}
use Rattle.nk_plan.specs.declared.plan.ChannelPlan.{ChannelPlan}
use Rattle.nk_plan.specs.declared.step.ChildStep.{ChildStep}
use Rattle.nk_laws.proofs.Premises.{PlanOk, Known, EndsByFailure}
use Rattle.nk_plan.specs.Parent.{ParentState}
use Rattle.nk_plan.specs.Journal.{mains_sent, backs_sent, ups_taken, mains_taken, backs_taken}
use Rattle.nk_laws.proofs.Sent.{SentLaw}
use Rattle.nk_plan.specs.Lanes.{IsPrefix}
use Rattle.nk_plan.specs.Child.{ChildState, child_after, new_child, back_events, Hold, child_step, step_main, step_back, with_entry, back_events_of, step_release, step_verdict, new_hold}
use Rattle.nk_plan.specs.declared.event.ChildEvent.{ChildEvent}
use Rattle.nk_plan.specs.Channel.{channel_after}
use Rattle.nk_plan.specs.declared.step.Step.{Step}
use Rattle.nk_laws.proofs.Tools.{append_nil, keeps_if}
use Rattle.nk_laws.proofs.ParentLaw.{lane_law}
use Rattle.nk_laws.proofs.Order.{Around, Holds, strip, AtHop, InBody, AtEnd, Legal}
use Rattle.nk_laws.proofs.Merge.{run_inv, start_inv, fed, prefix_of_take, within_before, no_kept}
use Rattle.nk_laws.proofs.Taking.{Within, main_events, Whole, Cut, Inv, hold_is, backs_is, broken_is}
use Rattle.nk_laws.specs.Moves.{Joined}
use Rattle.nk_laws.proofs.Joined.{joined, rest_after, main_says, back_says}
use Rattle.nk_laws.proofs.Flushes.{Flushes}
use Rattle.nk_base.specs.declared.status.Status.{Status}
use Rattle.nk_plan.specs.declared.event.ChildEvent.TheVariants.{Start as StartEvent, Bytes as BytesEvent, Stop as StopEvent, Redirect1 as Redirect1Event, Redirect3 as Redirect3Event, Cancel as CancelEvent}
use Rattle.nk_plan.specs.Calm.{IsCalm}
use Rattle.nk_laws.proofs.Course.{OkOrFails, append_bytes, acted_calm, verdict_calm, finished_calm, begun_calm, release_calm, main_calm, back_calm}
use Rattle.nk_laws.proofs.CourseState.{Quiet, Calmly, RightMain, RightMains, RightBack, RightBacks, events_bytes, backs_bytes, back_bytes}
use Rattle.nk_laws.proofs.Grows.{Grows, NoLane, plain_grows, main_grows, back_grows, noted_grows, step_grows, Extends, backs-append}
use Rattle.nk_plan.specs.declared.step.ChildStep.TheVariants as child
use Rattle.nk_base.specs.declared.message.BackMsg.TheVariants as back
use Rattle.nk_plan.specs.declared.journal.ChildEntry.TheVariants as entry

-- A calm child along its run: after the stop no piece is left anywhere

legal_end : (c : ChannelPlan) (f : ℕ) (x : Bool) (es : List ChildEvent) → Legal c f x AtEnd es → es ≡ []
legal_end c f x [] l = refl
legal_end c f x (StartEvent code st ∷ es) l = absurd l
legal_end c f x (BytesEvent o p st ∷ es) l = absurd l
legal_end c f x (StopEvent st ∷ es) l = absurd l
legal_end c f x (Redirect1Event h ∷ es) l = absurd l
legal_end c f x (Redirect3Event h ∷ es) l = absurd l
legal_end c f x (CancelEvent st ∷ es) l = absurd l

strip_bytes : (es : List ChildEvent) → events_bytes (strip es) ≡ events_bytes es
strip_bytes [] = refl
strip_bytes (StartEvent code st ∷ es) = ap (λ n. 0 + n) (strip_bytes es)
strip_bytes (BytesEvent o p st ∷ es) = ap (λ n. 1 + n) (strip_bytes es)
strip_bytes (StopEvent st ∷ es) = ap (λ n. 0 + n) (strip_bytes es)
strip_bytes (Redirect1Event h ∷ es) = strip_bytes es ∙ sym (zero-add (events_bytes es))
strip_bytes (Redirect3Event h ∷ es) = ap (λ n. 0 + n) (strip_bytes es)
strip_bytes (CancelEvent st ∷ es) = strip_bytes es ∙ sym (zero-add (events_bytes es))

back_one : (m : BackMsg) → events_bytes (back_events_of m) ≡ back_bytes m
back_one (back.Start h st head) = refl
back_one (back.StartSent h) = refl
back_one (back.Bytes h st o p) = refl
back_one (back.Stop h st trailers) = refl

back_all : (ms : List BackMsg) → events_bytes (back_events ms) ≡ backs_bytes ms
back_all [] = refl
back_all (m ∷ ms) = append_bytes (back_events_of m) (back_events ms) ∙ (ap (λ n. n + events_bytes (back_events ms)) (back_one m) ∙ ap (λ n. back_bytes m + n) (back_all ms))

pub backs_bytes-append : (xs ys : List BackMsg) → backs_bytes (xs ++ ys) ≡ backs_bytes xs + backs_bytes ys
backs_bytes-append [] ys = sym (zero-add (backs_bytes ys))
backs_bytes-append (m ∷ xs) ys = let h : backs_bytes (xs ++ ys) ≡ backs_bytes xs + backs_bytes ys = backs_bytes-append xs ys in omega arith

after_stop : (c : ChannelPlan) (a : Around) (pend w : List ChildEvent) (s : ChildState) → Holds c a pend w s → s.stopped ≡ true → events_bytes (w ++ pend) ≡ 0
after_stop c a pend w s (AtHop i, l, n, f, j, h, b, z) e = let x : s.stopped ≡ false = f.2 in absurd (cc)
after_stop c a pend w s (InBody o ps, l, n, f, j, h, b, z) e = let x : s.stopped ≡ false = f.1 in absurd (cc)
after_stop c a pend w s (AtEnd, l, n, f, j, h, b, z) e = sym (strip_bytes (w ++ pend)) ∙ ap events_bytes (legal_end c a.final a.cut (strip (w ++ pend)) l)

pub quiet_after : (c : ChannelPlan) (md : List MainMsg) (bd : List BackMsg) (s : ChildState) (i : Whole c md bd s) → s.stopped ≡ true → (events_bytes s.queue.waiting ≡ 0) × (backs_bytes s.hold.kept ≡ 0) × (backs_bytes i.ub ≡ 0)
quiet_after c md bd s i e =
    let a = i.around in
    let w = s.queue.waiting in
    let x1 : List ChildEvent = back_events a.hold.kept in
    let x2 : List ChildEvent = back_events i.ub in
    let hold : s.hold ≡ a.hold = hold_is c a _ _ s i.keeps in
    let z : events_bytes (w ++ (main_events i.um ++ (x1 ++ x2))) ≡ 0 = after_stop c a _ w s i.keeps e in
    let a1 : events_bytes (w ++ (main_events i.um ++ (x1 ++ x2))) ≡ events_bytes w + events_bytes (main_events i.um ++ (x1 ++ x2)) = append_bytes w (main_events i.um ++ (x1 ++ x2)) in
    let a2 : events_bytes (main_events i.um ++ (x1 ++ x2)) ≡ events_bytes (main_events i.um) + events_bytes (x1 ++ x2) = append_bytes (main_events i.um) (x1 ++ x2) in
    let a3 : events_bytes (x1 ++ x2) ≡ events_bytes x1 + events_bytes x2 = append_bytes x1 x2 in
    let b1 : events_bytes x1 ≡ backs_bytes a.hold.kept = back_all a.hold.kept in
    let b2 : events_bytes x2 ≡ backs_bytes i.ub = back_all i.ub in
    let b3 : backs_bytes s.hold.kept ≡ backs_bytes a.hold.kept = ap (λ (h : Hold). backs_bytes h.kept) hold in
    (omega arith, omega arith, omega arith)

abbrev pub CalmRun : ChannelPlan → Status → (Status → Type 0) → Type 0 → ChildState → Type 0
CalmRun c E T G s = Calmly c E T G s [] (backs_bytes (backs_taken s.journal))

main_at : (E : Status) (T : Status → Type 0) (G : Type 0) (xs : List MainMsg) (m : MainMsg) (r : List MainMsg) → RightMains E T G ((xs ++ m ∷ []) ++ r) → RightMain E T G m
main_at E T G [] m r h = h.0
main_at E T G (x ∷ xs) m r h = main_at E T G xs m r h.1

right_main_in : (E : Status) (T : Status → Type 0) (G : Type 0) (xs : List MainMsg) (m : MainMsg) (md : List MainMsg) → IsPrefix (xs ++ m ∷ []) md → RightMains E T G md → RightMain E T G m
right_main_in E T G xs m md (r, e) h = let h1 : RightMains E T G ((xs ++ m ∷ []) ++ r) = subst (λ y. RightMains E T G y) (sym e) h in main_at E T G xs m r h1

back_at : (E : Status) (T : Status → Type 0) (G : Type 0) (xs : List BackMsg) (m : BackMsg) (r : List BackMsg) → RightBacks E T G ((xs ++ m ∷ []) ++ r) → RightBack E T G m
back_at E T G [] m r h = h.0
back_at E T G (x ∷ xs) m r h = back_at E T G xs m r h.1

right_back_in : (E : Status) (T : Status → Type 0) (G : Type 0) (xs : List BackMsg) (m : BackMsg) (bd : List BackMsg) → IsPrefix (xs ++ m ∷ []) bd → RightBacks E T G bd → RightBack E T G m
right_back_in E T G xs m bd (r, e) h = let h1 : RightBacks E T G ((xs ++ m ∷ []) ++ r) = subst (λ y. RightBacks E T G y) (sym e) h in back_at E T G xs m r h1

plain_step : (c : ChannelPlan) (E : Status) (T : Status → Type 0) (G : Type 0) (md : List MainMsg) (bd : List BackMsg) (x : ChildStep) (s : ChildState) → OkOrFails E → IsCalm c → EndsByFailure c.reactions → Flushes s → Whole c md bd s → NoLane x → (total : ℕ) → Calmly c E T G s [] total → Calmly c E T G (child_step c x s) [] total
plain_step c E T G md bd child.Act s ef cp ev l i n total k = acted_calm c E T G s total cp.0 k
plain_step c E T G md bd child.Verdict s ef cp ev l i n total k = keeps_if (λ (y : ChildState). Calmly c E T G y [] total) s.broken s (step_verdict c s.question s) (λ r. k) (λ r. verdict_calm c E T G s.question s total k)
plain_step c E T G md bd (child.Main m) s ef cp ev l i n total k = absurd n
plain_step c E T G md bd (child.Back m) s ef cp ev l i n total k = absurd n
plain_step c E T G md bd child.Release s ef cp ev l i n total k =
    keeps_if (λ (y : ChildState). Calmly c E T G y [] total) s.broken s (step_release c s.hold.report s) (λ r. k) (λ r. release_calm c E T G s.hold.report s total ef l (λ y. (quiet_after c md bd s i y).1) k)
plain_step c E T G md bd (child.Begin t) s ef cp ev l i n total k = begun_calm c E T G t s total ef l (λ y. (quiet_after c md bd s i y).0) k
plain_step c E T G md bd (child.Finish t) s ef cp ev l i n total k = finished_calm c E T G t s.running s total cp.1 ev refl k

calm_plain : (c : ChannelPlan) (E : Status) (T : Status → Type 0) (G : Type 0) (md : List MainMsg) (bd : List BackMsg) (x : ChildStep) (s : ChildState) → OkOrFails E → IsCalm c → EndsByFailure c.reactions → Flushes s → Whole c md bd s → NoLane x → CalmRun c E T G s → CalmRun c E T G (child_step c x s)
calm_plain c E T G md bd x s ef cp ev l i n k =
    let g : Grows s.journal s.sent (child_step c x s) = plain_grows c x s n in
    let e : backs_taken (child_step c x s).journal ≡ backs_taken s.journal = rw (g.journal_is, backs-append s.journal g.entries, g.no_back, append_nil (backs_taken s.journal)) refl in
    rw e (plain_step c E T G md bd x s ef cp ev l i n (backs_bytes (backs_taken s.journal)) k)

calm_main : (c : ChannelPlan) (E : Status) (T : Status → Type 0) (G : Type 0) (md : List MainMsg) (m : MainMsg) (s : ChildState) → OkOrFails E → RightMains E T G md → Flushes s → IsPrefix (mains_taken (child_step c (child.Main m) s).journal) md → CalmRun c E T G s → CalmRun c E T G (child_step c (child.Main m) s)
calm_main c E T G md m s ef rm l w k =
    let s' = step_main c m (with_entry (entry.TookMain m) s) in
    keeps_if (λ (x : ChildState). IsPrefix (mains_taken x.journal) md → CalmRun c E T G x) s.broken s s' (λ r y. k)
    (λ r y.
    let says = main_says c m s (main_grows c (s.journal ++ entry.TookMain m ∷ []) s.sent m (with_entry (entry.TookMain m) s) (noted_grows (entry.TookMain m) s)) in
    let good : RightMain E T G m = right_main_in E T G (mains_taken s.journal) m md (subst (λ t. IsPrefix t md) says.0 y) rm in
    rw (says.1, ← add-zero (backs_bytes (backs_taken s.journal))) (main_calm c E T G m (with_entry (entry.TookMain m) s) (backs_bytes (backs_taken s.journal)) ef good l k)) w

-- the next message of the background lane is the first of those still to come
next_is : (xs ub bd : List BackMsg) (m : BackMsg) → xs ++ ub ≡ bd → IsPrefix (xs ++ m ∷ []) bd → backs_bytes ub ≡ 0 → back_bytes m ≡ 0
next_is xs ub bd m e (r, h) z =
    let a : ub ≡ m ∷ r = sym (rest_after xs ub bd e) ∙ rest_after xs (m ∷ r) bd (sym (append_assoc xs (m ∷ []) r) ∙ h) in
    let b : back_bytes m + backs_bytes r ≡ 0 = rw a at z in
    omega arith

calm_back : (c : ChannelPlan) (E : Status) (T : Status → Type 0) (G : Type 0) (md : List MainMsg) (bd : List BackMsg) (m : BackMsg) (s : ChildState) → OkOrFails E → RightBacks E T G bd → Flushes s → Whole c md bd s → IsPrefix (backs_taken (child_step c (child.Back m) s).journal) bd → CalmRun c E T G s → CalmRun c E T G (child_step c (child.Back m) s)
calm_back c E T G md bd m s ef rb l i w k =
    let s' = step_back c m (with_entry (entry.TookBack m) s) in
    keeps_if (λ (x : ChildState). IsPrefix (backs_taken x.journal) bd → CalmRun c E T G x) s.broken s s' (λ r y. k)
    (λ r y.
    let says = back_says c m s (back_grows c (s.journal ++ entry.TookBack m ∷ []) s.sent m (with_entry (entry.TookBack m) s) (noted_grows (entry.TookBack m) s)) in
    let y1 : IsPrefix (backs_taken s.journal ++ m ∷ []) bd = subst (λ t. IsPrefix t bd) says.1 y in
    let good : RightBack E T G m = right_back_in E T G (backs_taken s.journal) m bd y1 rb in
    let tb : backs_taken s.journal ≡ i.around.backs = backs_is c i.around _ _ s i.keeps in
    let e : backs_bytes (backs_taken s.journal ++ m ∷ []) ≡ backs_bytes (backs_taken s.journal) + back_bytes m = backs_bytes-append (backs_taken s.journal) (m ∷ []) ∙ ap (λ t. backs_bytes (backs_taken s.journal) + t) (add-zero (back_bytes m)) in
    rw (says.1, e) (back_calm c E T G m (with_entry (entry.TookBack m) s) (backs_bytes (backs_taken s.journal)) ef good l
    (λ q. next_is (backs_taken s.journal) i.ub bd m (ap (λ t. t ++ i.ub) tb ∙ i.backs) y1 (quiet_after c md bd s i q).2) k)) w

calm_step : (c : ChannelPlan) (E : Status) (T : Status → Type 0) (G : Type 0) (md : List MainMsg) (bd : List BackMsg) (x : ChildStep) (s : ChildState) → OkOrFails E → IsCalm c → EndsByFailure c.reactions → RightMains E T G md → RightBacks E T G bd → Flushes s → Whole c md bd s → Within md bd (child_step c x s).journal → CalmRun c E T G s → CalmRun c E T G (child_step c x s)
calm_step c E T G md bd child.Act s ef cp ev rm rb l i w k = calm_plain c E T G md bd child.Act s ef cp ev l i tt k
calm_step c E T G md bd child.Verdict s ef cp ev rm rb l i w k = calm_plain c E T G md bd child.Verdict s ef cp ev l i tt k
calm_step c E T G md bd (child.Main m) s ef cp ev rm rb l i w k = calm_main c E T G md m s ef rm l w.0 k
calm_step c E T G md bd (child.Back m) s ef cp ev rm rb l i w k = calm_back c E T G md bd m s ef rb l i w.1 k
calm_step c E T G md bd child.Release s ef cp ev rm rb l i w k = calm_plain c E T G md bd child.Release s ef cp ev l i tt k
calm_step c E T G md bd (child.Begin t) s ef cp ev rm rb l i w k = calm_plain c E T G md bd (child.Begin t) s ef cp ev l i tt k
calm_step c E T G md bd (child.Finish t) s ef cp ev rm rb l i w k = calm_plain c E T G md bd (child.Finish t) s ef cp ev l i tt k

not_cut : (c : ChannelPlan) (md : List MainMsg) (s : ChildState) → s.broken ≡ false → Cut c md s → ⊥
not_cut c md s e i = let x : s.broken ≡ true = broken_is c i.around _ _ s i.keeps ∙ i.broken in cc

start_calm_run : (c : ChannelPlan) (E : Status) (T : Status → Type 0) (G : Type 0) → CalmRun c E T G (new_child c)
start_calm_run c E T G =
    let e : (new_hold c.start).kept ≡ [] = no_kept c.start in
    record {
      right_waiting = tt;
      cancels_first = tt;
      right_held = subst (λ y. RightBacks E T G y) (sym e) tt;
      right_pend = tt;
      no_suspend = refl;
      unbroken = refl;
      head_is = tt;
      data_is = refl;
      stop_is = refl;
      course = Quiet refl refl refl tt refl tt (let z : backs_bytes (new_hold c.start).kept ≡ 0 = ap backs_bytes e in let y : 0 + (0 + (backs_bytes (new_hold c.start).kept + 0)) ≡ 0 = omega arith in y);
    }

pub calm_steps : (c : ChannelPlan) (E : Status) (T : Status → Type 0) (G : Type 0) (md : List MainMsg) (bd : List BackMsg) (steps : List ChildStep) → PlanOk c → Known c → OkOrFails E → IsCalm c → EndsByFailure c.reactions → RightMains E T G md → RightBacks E T G bd → Inv c md bd (new_child c)
    → Within md bd (child_after c steps).journal → CalmRun c E T G (child_after c steps)
calm_steps c E T G md bd [] v r ef cp ev rm rb i w = start_calm_run c E T G
calm_steps c E T G md bd (x ∷ xs) v r ef cp ev rm rb i w =
    let s = child_after c xs in
    let g : Extends s (child_step c x s) = step_grows c x s in
    let w0 : Within md bd s.journal = within_before md bd s.journal g.0.0 (rw g.0.1 at w) in
    let k : CalmRun c E T G s = calm_steps c E T G md bd xs v r ef cp ev rm rb i w0 in
    elim (run_inv c md bd xs v i w0) [
      | inl j ↦ calm_step c E T G md bd x s ef cp ev rm rb (r.queue c xs r.accepted).2 j w k
      | inr j ↦ absurd (not_cut c _ s k.unbroken j)
    ]

pub channel_calm : (c : ChannelPlan) (E : Status) (T : Status → Type 0) (G : Type 0) (steps : List Step) → PlanOk c → Known c → OkOrFails E → IsCalm c → EndsByFailure c.reactions
    → RightMains E T G (mains_sent (channel_after c steps).parent.journal) → RightBacks E T G (backs_sent (channel_after c steps).parent.journal) → CalmRun c E T G (channel_after c steps).child
channel_calm c E T G steps v r ef cp ev rm rb =
    let w = channel_after c steps in
    let j : Joined c w = joined c steps in
    let md : List MainMsg = mains_sent w.parent.journal in
    let bd : List BackMsg = backs_sent w.parent.journal in
    let l : SentLaw c (ups_taken w.parent.journal) md bd =
    subst (λ (x : ParentState). SentLaw c (ups_taken x.journal) (mains_sent x.journal) (backs_sent x.journal)) j.parent_is (lane_law c j.parent_steps v) in
    subst (λ (x : ChildState). CalmRun c E T G x) j.child_is
    (calm_steps c E T G md bd j.child_steps v r ef cp ev rm rb (start_inv c md bd (fed c (ups_taken w.parent.journal) md bd v l))
    (subst (λ (x : ChildState). Within md bd x.journal) (sym j.child_is) (j.mains, prefix_of_take w.forwarded (backs_taken w.child.journal) bd j.backs)))
