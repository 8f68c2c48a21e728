-- The merge: what a child has shown, of what it took of a parent's two lanes, is the trace of one sequential channel.
use Rattle.std.proofs.Common.{ℕ, zero, suc, ◌≡◌, ◌+◌, ◌≤◌, refl, sym, ◌∙◌, ap, subst, List, [], ◌∷◌, ◌++◌, length, Bool, true, false, ◌||◌, Option, Some, None, inl, inr, if◌then◌else◌, take, ◌==◌, arith, append_assoc, add_assoc, zero-add, add-zero, drop}
use Rattle.std.proofs.lemmas.Bool.{cond_both, eqb-true, eq-eqb}
use Rattle.std.proofs.Math.Bool.{or-true, or-false}
use Rattle.nk_base.specs.declared.status.Status.{Status}
use Rattle.nk_base.specs.declared.field.Head.{Head}
use Rattle.nk_base.specs.declared.message.MainMsg.{MainMsg}
use Rattle.nk_base.specs.declared.message.BackMsg.{BackMsg}
use Rattle.nk_base.specs.declared.message.UpMsg.{UpMsg}
use Rattle.nk_base.specs.Hold.{with_hop}
use Rattle.nk_plan.specs.declared.plan.ChannelPlan.{ChannelPlan}
use Rattle.nk_plan.specs.declared.plan.StartLane.{StartLane}
use Rattle.nk_plan.specs.declared.plan.Hop.{Hop}
use Rattle.nk_plan.specs.declared.journal.ParentEntry.{ParentEntry}
use Rattle.nk_plan.specs.declared.journal.ChildEntry.{ChildEntry}
use Rattle.nk_plan.specs.declared.step.ChildStep.{ChildStep}
use Rattle.nk_base.specs.Status.{is_failure}
use Rattle.nk_plan.specs.Plan.{hop_at, hop_code, hop_pieces}
use Rattle.nk_laws.proofs.Premises.{PlanOk}
use Rattle.nk_plan.specs.Trace.{SeqTrace}
use Rattle.nk_plan.specs.Run.{IsParentRun, IsChildState}
use Rattle.nk_plan.specs.Parent.{size_of}
use Rattle.nk_plan.specs.Journal.{ups_taken, mains_sent, backs_sent, first, final, cut, mains_taken, backs_taken}
use Rattle.nk_plan.specs.Lanes.{redirects_to, IsHead, piece_messages, question, main_start, back_start, stop_message, StopCauseIf, Unstarted, IsPrefix}
use Rattle.nk_laws.proofs.Sent.{Begun, SentLaw}
use Rattle.nk_plan.specs.declared.event.ChildEvent.{ChildEvent}
use Rattle.nk_plan.specs.Child.{Hold, ChildState, with_entry, main_events_of, step_main, back_hop, back_events, is_among, step_back, of_hop, not_of_hop, released_hold, step_release, new_hold, new_child, child_step, child_after, step_verdict}
use Rattle.nk_laws.proofs.Tools.{keeps_if, append_nil}
use Rattle.std.proofs.lemmas.List.{take-append-drop}
use Rattle.std.proofs.Math.Seq.{drop-length}
use Rattle.nk_laws.proofs.Grows.{Grows, Extends, step_grows, main_grows, back_grows, noted_grows, mains-append, backs-append}
use Rattle.nk_laws.proofs.ParentLaw.{lane_law}
use Rattle.nk_laws.proofs.ChildLaw.{offered_all_keeps, same_entry, begun_keeps, finished_keeps, verdict_keeps, trace_of}
use Rattle.nk_laws.proofs.Order.{AtHop, InBody, Legal, strip, stops, Around, Keeps, strip-append}
use Rattle.nk_base.specs.declared.status.Target.TheVariants as target
use Rattle.nk_base.specs.declared.message.MainMsg.TheVariants as main
use Rattle.nk_plan.specs.declared.plan.StartLane.TheVariants as lane
use Rattle.nk_plan.specs.declared.plan.Hop.TheVariants as hop
use Rattle.nk_plan.specs.declared.journal.ChildEntry.TheVariants as child
use Rattle.nk_plan.specs.declared.step.ChildStep.TheVariants as step
use Rattle.nk_laws.proofs.Taking.{main_events, redirects, AllOf, Over, ReportsLast, ReportIs, Will, Due, Waits, Whole, Inv, hold_is, mains_is, backs_is, cut_broken, same_order, with_hold, whole_by, inv_by, acted_inv, holds_with, cancel_left, Within, main_taken_inv, main_events-over, no_cancel_backs, back_taken_inv}

-- Releasing a hop

of_own : (g : ℕ) (ms : List BackMsg) → AllOf g ms → of_hop g ms ≡ ms
of_own g [] a = refl
of_own g (m ∷ ms) a =
    let e : (g == back_hop m) ≡ true = eq-eqb g (back_hop m) (sym a.0) in
    rw e (ap (λ t. m ∷ t) (of_own g ms a.1))

none_own : (g : ℕ) (ms : List BackMsg) → AllOf g ms → not_of_hop g ms ≡ []
none_own g [] a = refl
none_own g (m ∷ ms) a =
    let e : (g == back_hop m) ≡ true = eq-eqb g (back_hop m) (sym a.0) in
    rw e (none_own g ms a.1)

none_other : (r g : ℕ) (ms : List BackMsg) → (r == g) ≡ false → AllOf g ms → of_hop r ms ≡ []
none_other r g [] n a = refl
none_other r g (m ∷ ms) n a =
    let e : (r == back_hop m) ≡ false = rw a.0 n in
    rw e (none_other r g ms n a.1)

all_other : (r g : ℕ) (ms : List BackMsg) → (r == g) ≡ false → AllOf g ms → not_of_hop r ms ≡ ms
all_other r g [] n a = refl
all_other r g (m ∷ ms) n a =
    let e : (r == back_hop m) ≡ false = rw a.0 n in
    rw e (ap (λ t. m ∷ t) (all_other r g ms n a.1))

-- a hop is among more hops where it is among either
is_among-append : (hops more : List ℕ) (g : ℕ) → is_among (hops ++ more) g ≡ (is_among hops g || is_among more g)
is_among-append [] more g = refl
is_among-append (x ∷ xs) more g = grind (arith, is_among-append xs more g)

-- a hop that is released is among the released ones
own_released : (r : ℕ) (hops : List ℕ) (g : ℕ) → (r == g) ≡ true → is_among (with_hop r hops) g ≡ true
own_released r hops g t =
    cond_both (is_among hops r) hops (hops ++ r ∷ []) (λ after. is_among after g ≡ true)
    (λ e. subst (λ (h : ℕ). is_among hops h ≡ true) (eqb-true r g t) e)
    (λ e. is_among-append hops (r ∷ []) g ∙ rw t (or-true (is_among hops g)))

-- and of all others nothing changes
other_released : (r : ℕ) (hops : List ℕ) (g : ℕ) → (r == g) ≡ false → is_among (with_hop r hops) g ≡ is_among hops g
other_released r hops g t =
    cond_both (is_among hops r) hops (hops ++ r ∷ []) (λ after. is_among after g ≡ is_among hops g)
    (λ e. refl) (λ e. is_among-append hops (r ∷ []) g ∙ rw t (or-false (is_among hops g)))

released_own : (c : ChannelPlan) (r : ℕ) (md : List MainMsg) (bd : List BackMsg) (s : ChildState) (i : Whole c md bd s)
    → s.hold.report ≡ Some r → (r == i.hop) ≡ true → Whole c md bd (step_release c (Some r) s)
unfolding with_hold
released_own c r md bd s i o t =
    let a = i.around in
    let h : s.hold ≡ a.hold = hold_is c a _ _ s i.keeps in
    let same : r ≡ i.hop = eqb-true r i.hop t in
    let rep : a.hold.report ≡ Some r = rw h at o in
    let all : AllOf r s.hold.kept = rw (h, same) i.waits.kept_of in
    let ofs : of_hop r s.hold.kept ≡ s.hold.kept = of_own r s.hold.kept all in
    let none : not_of_hop r s.hold.kept ≡ [] = none_own r s.hold.kept all in
    let over : Over i.um = let x : ReportIs (Some r) i.hop i.um = rw rep at i.waits.report in x same in
    let s1 : ChildState = record s { hold = released_hold r s.hold; journal = s.journal ++ child.Release (length (of_hop r s.hold.kept)) ∷ [] } in
    let a1 : Around = with_hold a (released_hold r s.hold) in
    let order : strip (main_events i.um ++ (back_events a.hold.kept ++ back_events i.ub))
    ≡ strip (back_events (of_hop r s.hold.kept) ++ (main_events i.um ++ (back_events (not_of_hop r s.hold.kept) ++ back_events i.ub))) =
    rw (
      ofs,
      none,
      h,
      main_events-over i.um (back_events a.hold.kept ++ back_events i.ub) over,
      strip-append (back_events a.hold.kept) (main_events i.um ++ back_events i.ub),
      main_events-over i.um (back_events i.ub) over,
      strip-append (back_events a.hold.kept) (back_events i.ub),
    ) refl in
    let k1 : Keeps c a1 (back_events (of_hop r s.hold.kept) ++ (main_events i.um ++ (back_events (not_of_hop r s.hold.kept) ++ back_events i.ub))) s1 =
    same_entry c a1 _ _ (record s { hold = released_hold r s.hold }) (child.Release (length (of_hop r s.hold.kept))) refl refl refl refl refl
    (holds_with c a _ _ s (released_hold r s.hold) (same_order c a _ _ _ s order i.keeps)) in
    record {
      around = a1;
      hop = i.hop;
      um = i.um;
      ub = i.ub;
      keeps = offered_all_keeps c a1 _ target.Back (back_events (of_hop r s.hold.kept)) s1 (no_cancel_backs (of_hop r s.hold.kept)) k1;
      not_cut = i.not_cut;
      not_broken = i.not_broken;
      ends_is = i.ends_is;
      final_at = i.final_at;
      some = i.some;
      due = λ e. inr (inl (own_released r s.hold.released i.hop t));
      none = λ e. (none, (i.none e).1);
      mains = i.mains;
      backs = i.backs;
      waits = record { last = i.waits.last; report = tt; released = λ e. (over, none); kept_of = rw none tt; back_of = i.waits.back_of };
    }

released_other : (c : ChannelPlan) (r : ℕ) (md : List MainMsg) (bd : List BackMsg) (s : ChildState) (i : Whole c md bd s)
    → s.hold.report ≡ Some r → (r == i.hop) ≡ false → Whole c md bd (step_release c (Some r) s)
unfolding with_hold
released_other c r md bd s i o t =
    let a = i.around in
    let h : s.hold ≡ a.hold = hold_is c a _ _ s i.keeps in
    let all : AllOf i.hop s.hold.kept = rw h i.waits.kept_of in
    let ofs : of_hop r s.hold.kept ≡ [] = none_other r i.hop s.hold.kept t all in
    let rest : not_of_hop r s.hold.kept ≡ s.hold.kept = all_other r i.hop s.hold.kept t all in
    let s1 : ChildState = record s { hold = released_hold r s.hold; journal = s.journal ++ child.Release (length (of_hop r s.hold.kept)) ∷ [] } in
    let a1 : Around = with_hold a (released_hold r s.hold) in
    let order : strip (main_events i.um ++ (back_events a.hold.kept ++ back_events i.ub))
    ≡ strip (back_events (of_hop r s.hold.kept) ++ (main_events i.um ++ (back_events (not_of_hop r s.hold.kept) ++ back_events i.ub))) =
    rw (ofs, rest, h) refl in
    let k1 : Keeps c a1 (back_events (of_hop r s.hold.kept) ++ (main_events i.um ++ (back_events (not_of_hop r s.hold.kept) ++ back_events i.ub))) s1 =
    same_entry c a1 _ _ (record s { hold = released_hold r s.hold }) (child.Release (length (of_hop r s.hold.kept))) refl refl refl refl refl
    (holds_with c a _ _ s (released_hold r s.hold) (same_order c a _ _ _ s order i.keeps)) in
    record {
      around = a1;
      hop = i.hop;
      um = i.um;
      ub = i.ub;
      keeps = offered_all_keeps c a1 _ target.Back (back_events (of_hop r s.hold.kept)) s1 (no_cancel_backs (of_hop r s.hold.kept)) k1;
      not_cut = i.not_cut;
      not_broken = i.not_broken;
      ends_is = i.ends_is;
      final_at = i.final_at;
      some = i.some;
      due = λ e. elim (i.due e) [
        | inl w ↦ inl w
        | inr y ↦ elim y [
          | inl q ↦ inr (inl (other_released r s.hold.released i.hop t ∙ rw h q))
          | inr q ↦
              let q1 : Some i.hop ≡ Some r = sym q ∙ (sym (ap (λ (x : Hold). x.report) h) ∙ o) in
              let q2 : i.hop ≡ r = cc in
              let q3 : (r == i.hop) ≡ true = eq-eqb r i.hop (sym q2) in absurd (cc)
        ]
      ];
      none = λ e. (rest ∙ (ap (λ (x : Hold). x.kept) h ∙ (i.none e).0), (i.none e).1);
      mains = i.mains;
      backs = i.backs;
      waits = record {
        last = i.waits.last;
        report = tt;
        released = λ e.
            let g : is_among a.hold.released i.hop ≡ true = rw h at (sym (other_released r s.hold.released i.hop t) ∙ e) in
            let x : Over i.um × (a.hold.kept ≡ []) = i.waits.released g in (x.0, rest ∙ (ap (λ (y : Hold). y.kept) h ∙ x.1));
        kept_of = rw rest all;
        back_of = i.waits.back_of;
      };
    }

release_inv : (c : ChannelPlan) (o : Option ℕ) (md : List MainMsg) (bd : List BackMsg) (s : ChildState) (i : Whole c md bd s)
    → s.hold.report ≡ o → Whole c md bd (step_release c o s)
release_inv c None md bd s i e = i
release_inv c (Some r) md bd s i e =
    let both : (b : Bool) → (r == i.hop) ≡ b → Whole c md bd (step_release c (Some r) s) = λ b t.
    elim b as (λ v. (r == i.hop) ≡ v → Whole c md bd (step_release c (Some r) s)) [ true ↦ λ u. released_own c r md bd s i e u | false ↦ λ u. released_other c r md bd s i e u ] t in
    both (r == i.hop) refl

-- One step of the child, of which the lanes allow what it took

prefix_before : {A : Type 0} (xs ys zs : List A) → IsPrefix (xs ++ ys) zs → IsPrefix xs zs
prefix_before xs ys zs (rest, e) = (ys ++ rest, sym (append_assoc xs ys rest) ∙ e)

pub within_before : (md : List MainMsg) (bd : List BackMsg) (j k : List ChildEntry) → Within md bd (j ++ k) → Within md bd j
within_before md bd j k w =
    (prefix_before (mains_taken j) (mains_taken k) md (rw mains-append at w.0), prefix_before (backs_taken j) (backs_taken k) bd (rw backs-append at w.1))

-- what comes next on a lane is what was taken
next_taken : {A : Type 0} (so_far to_come all rest more : List A) (m : A) → so_far ++ to_come ≡ all → ((so_far ++ m ∷ []) ++ more) ++ rest ≡ all → to_come ≡ m ∷ (more ++ rest)
next_taken so_far to_come all rest more m e f =
    cancel_left so_far to_come (m ∷ (more ++ rest))
    (e ∙ (sym f ∙ (append_assoc (so_far ++ m ∷ []) more rest ∙ append_assoc so_far (m ∷ []) (more ++ rest))))

main_step : (c : ChannelPlan) (m : MainMsg) (md : List MainMsg) (bd : List BackMsg) (s : ChildState) (i : Whole c md bd s)
    → Within md bd (step_main c m (with_entry (child.TookMain m) s)).journal → Whole c md bd (step_main c m (with_entry (child.TookMain m) s))
main_step c m md bd s i w =
    let j : List ChildEntry = s.journal ++ child.TookMain m ∷ [] in
    let g : Grows j s.sent (step_main c m (with_entry (child.TookMain m) s)) = main_grows c j s.sent m (with_entry (child.TookMain m) s) (noted_grows (child.TookMain m) s) in
    let p : IsPrefix (mains_taken (j ++ g.entries)) md = rw g.journal_is at w.0 in
    let q : IsPrefix ((i.around.mains ++ m ∷ []) ++ mains_taken g.entries) md =
    rw (mains-append j g.entries, mains-append s.journal (child.TookMain m ∷ []), mains_is c i.around _ _ s i.keeps) at p in
    main_taken_inv c m md bd s i (mains_taken g.entries ++ q.0) (next_taken i.around.mains i.um md q.0 (mains_taken g.entries) m i.mains q.1)

back_step : (c : ChannelPlan) (m : BackMsg) (md : List MainMsg) (bd : List BackMsg) (s : ChildState) (i : Whole c md bd s)
    → Within md bd (step_back c m (with_entry (child.TookBack m) s)).journal → Whole c md bd (step_back c m (with_entry (child.TookBack m) s))
back_step c m md bd s i w =
    let j : List ChildEntry = s.journal ++ child.TookBack m ∷ [] in
    let g : Grows j s.sent (step_back c m (with_entry (child.TookBack m) s)) = back_grows c j s.sent m (with_entry (child.TookBack m) s) (noted_grows (child.TookBack m) s) in
    let p : IsPrefix (backs_taken (j ++ g.entries)) bd = rw g.journal_is at w.1 in
    let q : IsPrefix ((i.around.backs ++ m ∷ []) ++ backs_taken g.entries) bd =
    rw (backs-append j g.entries, backs-append s.journal (child.TookBack m ∷ []), backs_is c i.around _ _ s i.keeps) at p in
    back_taken_inv c m md bd s i (backs_taken g.entries ++ q.0) (next_taken i.around.backs i.ub bd q.0 (backs_taken g.entries) m i.backs q.1)

-- a step that a broken child does not take
unless_broken : (c : ChannelPlan) (md : List MainMsg) (bd : List BackMsg) (s s' : ChildState)
    → (Whole c md bd s → s.broken ≡ false → Whole c md bd s') → Inv c md bd s → Inv c md bd (if s.broken then s else s')
unless_broken c md bd s s' f (inl i) = keeps_if (Inv c md bd) s.broken s s' (λ r. inl i) (λ r. inl (f i r))
unless_broken c md bd s s' f (inr i) = keeps_if (Inv c md bd) s.broken s s' (λ r. inr i) (λ r. let e : s.broken ≡ true = cut_broken c md s i in absurd (cc))

if_false : {A : Type 0} (b : Bool) (x y : A) → b ≡ false → (if b then x else y) ≡ y
if_false true x y e = cc
if_false false x y e = refl

-- what was allowed of the step is allowed of its effect
pub within_step : (md : List MainMsg) (bd : List BackMsg) (s s' : ChildState) → s.broken ≡ false → Within md bd (if s.broken then s else s').journal → Within md bd s'.journal
within_step md bd s s' e w = subst (λ (x : ChildState). Within md bd x.journal) (if_false s.broken s s' e) w

step_inv : (c : ChannelPlan) (md : List MainMsg) (bd : List BackMsg) (x : ChildStep) (s : ChildState) → PlanOk c
    → Within md bd (child_step c x s).journal → Inv c md bd s → Inv c md bd (child_step c x s)
step_inv c md bd step.Act s v w i = acted_inv c md bd s v i
step_inv c md bd step.Verdict s v w i = unless_broken c md bd s (step_verdict c s.question s) (λ x e. whole_by c md bd s _ x (λ a pend k. verdict_keeps c a pend s.question s k)) i
step_inv c md bd (step.Main m) s v w i =
    unless_broken c md bd s (step_main c m (with_entry (child.TookMain m) s)) (λ x e. main_step c m md bd s x (within_step md bd s _ e w)) i
step_inv c md bd (step.Back m) s v w i =
    unless_broken c md bd s (step_back c m (with_entry (child.TookBack m) s)) (λ x e. back_step c m md bd s x (within_step md bd s _ e w)) i
step_inv c md bd step.Release s v w i = unless_broken c md bd s (step_release c s.hold.report s) (λ x e. release_inv c s.hold.report md bd s x refl) i
step_inv c md bd (step.Begin t) s v w i = inv_by c md bd s _ (λ a pend k. begun_keeps c a pend t s k) i
step_inv c md bd (step.Finish t) s v w i = inv_by c md bd s _ (λ a pend k. finished_keeps c a pend t s.running s refl k) i

pub run_inv : (c : ChannelPlan) (md : List MainMsg) (bd : List BackMsg) (steps : List ChildStep) → PlanOk c → Inv c md bd (new_child c)
    → Within md bd (child_after c steps).journal → Inv c md bd (child_after c steps)
run_inv c md bd [] v i w = i
run_inv c md bd (x ∷ steps) v i w =
    let s = child_after c steps in
    let g : Extends s (child_step c x s) = step_grows c x s in
    step_inv c md bd x s v w (run_inv c md bd steps v i (within_before md bd s.journal g.0.0 (rw g.0.1 at w)))

-- What the law of the lanes says of the order of events

pub record Fed (c : ChannelPlan) (md : List MainMsg) (bd : List BackMsg) : Type 0 where
  pub final : ℕ
  pub hop : ℕ
  pub legal : Legal c final false (AtHop 0) (strip (main_events md ++ back_events bd))
  pub last : ReportsLast c hop md
  pub back_of : AllOf hop bd
  pub at_first : c.start ≡ lane.Back → 0 ≡ hop → Over md
  pub some : Bool
  pub due : some ≡ true → Due c hop (new_hold c.start) md
  pub none : some ≡ false → bd ≡ []
  pub final_at : final ≡ redirects md

will_after : (c : ChannelPlan) (g : ℕ) (xs ys : List MainMsg) → Will c g ys → Will c g (xs ++ ys)
will_after c g [] ys w = w
will_after c g (x ∷ xs) ys w = inr (will_after c g xs ys w)

will_before : (c : ChannelPlan) (g : ℕ) (xs ys : List MainMsg) → Will c g xs → Will c g (xs ++ ys)
will_before c g [] ys w = absurd w
will_before c g (x ∷ xs) ys (inl w) = inl w
will_before c g (x ∷ xs) ys (inr w) = inr (will_before c g xs ys w)

due_start : (c : ChannelPlan) (l : StartLane) (f : ℕ) (b : Bool) (s : Status) (head : Head) → c.start ≡ l → Due c f (new_hold l) (redirects_to c f ++ (question c f b ++ main_start l f s head))
due_start c lane.Main f b s head e = inl (will_after c f (redirects_to c f) _ (will_after c f (question c f b) _ (inl refl)))
due_start c lane.Back zero b s head e = inr (inl refl)
due_start c lane.Back (suc n) b s head e =
    inl (will_before c (suc n) (redirects_to c (suc n)) _ (will_after c (suc n) (redirects_to c n) _ (inr (inl (e, refl)))))

pub main_events-append : (xs ys : List MainMsg) → main_events (xs ++ ys) ≡ main_events xs ++ main_events ys
main_events-append [] ys = refl
main_events-append (x ∷ xs) ys = ap (λ t. main_events_of x ++ t) (main_events-append xs ys) ∙ sym (append_assoc (main_events_of x) (main_events xs) (main_events ys))

legal_followed : (c : ChannelPlan) (f n : ℕ) (md : List MainMsg) (es : List ChildEvent) → Legal c f false (AtHop n) (strip (main_events md ++ es))
    → Legal c f false (AtHop 0) (strip (main_events (redirects_to c n ++ md) ++ es))
legal_followed c f zero md es l = l
legal_followed c f (suc n) md es l =
    rw (append_assoc (redirects_to c n) (main.Redirect1 n (hop_code (hop_at c n)) ∷ main.Redirect3 n ∷ []) md)
    (legal_followed c f n (main.Redirect1 n (hop_code (hop_at c n)) ∷ main.Redirect3 n ∷ md) es l)

last_followed : (c : ChannelPlan) (g n : ℕ) (md : List MainMsg) → (c.start ≡ lane.Back → n ≡ g → Over md) → n ≤ g → ReportsLast c g md → ReportsLast c g (redirects_to c n ++ md)
last_followed c g zero md o le r = r
last_followed c g (suc n) md o le r =
    rw (append_assoc (redirects_to c n) (main.Redirect1 n (hop_code (hop_at c n)) ∷ main.Redirect3 n ∷ []) md)
    (last_followed c g n (main.Redirect1 n (hop_code (hop_at c n)) ∷ main.Redirect3 n ∷ md) (λ b e. absurd (omega arith)) (omega arith) (o, r))

legal_pieces : (c : ChannelPlan) (f g : ℕ) (x : Bool) (o : ℕ) (xs left : List (List ℕ)) (bd : List BackMsg)
    → Legal c f x (InBody (o + size_of xs) left) (strip (back_events bd)) → Legal c f x (InBody o (xs ++ left)) (strip (back_events (piece_messages g o xs ++ bd)))
legal_pieces c f g x o [] left bd l = rw (add-zero o) at l
legal_pieces c f g x o (p ∷ xs) left bd l =
    (refl, (refl, legal_pieces c f g x (o + length p) xs left bd (rw (add_assoc o (length p) (size_of xs)) l)))

all_append : (g : ℕ) (xs ys : List BackMsg) → AllOf g xs → AllOf g ys → AllOf g (xs ++ ys)
all_append g [] ys a b = b
all_append g (x ∷ xs) ys a b = (a.0, all_append g xs ys a.1 b)

all_pieces : (g o : ℕ) (xs : List (List ℕ)) → AllOf g (piece_messages g o xs)
all_pieces g o [] = tt
all_pieces g o (p ∷ xs) = (refl, all_pieces g (o + length p) xs)

all_stop : (c : ChannelPlan) (g : ℕ) (o : Option Status) → AllOf g (stop_message c g o)
all_stop c g None = tt
all_stop c g (Some s) = (refl, tt)

all_start : (l : StartLane) (g : ℕ) (s : Status) (head : Head) → AllOf g (back_start l g s head)
all_start lane.Main g s head = (refl, tt)
all_start lane.Back g s head = (refl, tt)

refuted : {P : Type 0} (b : Bool) → b ≡ true → b ≡ false → P
refuted b e f = let no : true ≡ false = sym e ∙ f in cc

stop_legal : (c : ChannelPlan) (u : List UpMsg) (f k o : ℕ) (s : Status) (stop : Option Status) (left : List (List ℕ)) → StopCauseIf c u f s k stop
    → (k ≡ length (hop_pieces (hop_at c f)) → left ≡ []) → Legal c f false (InBody o left) (strip (back_events (stop_message c f stop)))
stop_legal c u f k o s None left w d = tt
stop_legal c u f k o s (Some e) left (inl (a, b)) d = (λ n. refuted (is_failure e) (rw b a) n, tt)
stop_legal c u f k o s (Some e) left (inr (inl (a, b, w))) d = (λ n. refuted (is_failure e) b n, tt)
stop_legal c u f k o s (Some e) left (inr (inr (inl (a, b, w, z)))) d = (λ n. refuted (is_failure e) b n, tt)
stop_legal c u f k o s (Some e) left (inr (inr (inr (a, b, w, z)))) d = (λ n. (d w, z), tt)

head_code : (o : Option Hop) (s : Status) (head : Head) → IsHead o s head → head.code ≡ hop_code o
head_code None s head h = absurd h
head_code (Some (hop.Fail st)) s head h = absurd h
head_code (Some (hop.Redirect code verdict)) s head h = rw h.1 refl
head_code (Some (hop.Response own pieces end trailers)) s head h = rw h refl

last_question : (c : ChannelPlan) (g f : ℕ) (b : Bool) (md : List MainMsg) → ReportsLast c g md → ReportsLast c g (question c f b ++ md)
last_question c g f false md r = r
last_question c g f true md r = r

last_start : (c : ChannelPlan) (l : StartLane) (g f : ℕ) (s : Status) (head : Head) → ReportsLast c g (main_start l f s head)
last_start c lane.Main g f s head = (λ e. refl, tt)
last_start c lane.Back g f s head = tt

-- with the start on the background lane nothing but a question is left on the main lane
over_back : (c : ChannelPlan) (l : StartLane) (f : ℕ) (b : Bool) (s : Status) (head : Head) → l ≡ lane.Back → Over (question c f b ++ main_start l f s head)
over_back c lane.Main f b s head e = cc
over_back c lane.Back f false s head e = refl
over_back c lane.Back f true s head e = refl

-- the start stands between the question and the pieces, whichever lane it takes
legal_start : (c : ChannelPlan) (l : StartLane) (f n : ℕ) (b : Bool) (s : Status) (head : Head) (bd : List BackMsg)
    → n ≡ f → head.code ≡ hop_code (hop_at c f) → Legal c f false (InBody 0 (hop_pieces (hop_at c f))) (strip (back_events bd))
    → Legal c f false (AtHop n) (strip (main_events (question c f b ++ main_start l f s head) ++ back_events (back_start l f s head ++ bd)))
legal_start c lane.Main f n true s head bd e h l = (e, h, l)
legal_start c lane.Main f n false s head bd e h l = (e, h, l)
legal_start c lane.Back f n true s head bd e h l = (e, h, l)
legal_start c lane.Back f n false s head bd e h l = (e, h, l)

redirects-append : (xs ys : List MainMsg) → redirects (xs ++ ys) ≡ redirects xs + redirects ys
redirects-append [] ys = sym (zero-add (redirects ys))
redirects-append (main.Start h st head ∷ xs) ys = redirects-append xs ys
redirects-append (main.FailedOpen h st ∷ xs) ys = redirects-append xs ys
redirects-append (main.Redirect1 h code ∷ xs) ys = redirects-append xs ys
redirects-append (main.Redirect3 h ∷ xs) ys = let e : redirects (xs ++ ys) ≡ redirects xs + redirects ys = redirects-append xs ys in omega arith

redirects_followed : (c : ChannelPlan) (f : ℕ) → redirects (redirects_to c f) ≡ f
redirects_followed c zero = refl
redirects_followed c (suc f) =
    let a : redirects (redirects_to c f ++ main.Redirect1 f (hop_code (hop_at c f)) ∷ main.Redirect3 f ∷ []) ≡ redirects (redirects_to c f) + 1 = redirects-append (redirects_to c f) (main.Redirect1 f (hop_code (hop_at c f)) ∷ main.Redirect3 f ∷ []) in
    let b : redirects (redirects_to c f) ≡ f = redirects_followed c f in
    omega arith

pub final_there : (c : ChannelPlan) (f : ℕ) (md tail : List MainMsg) → md ≡ redirects_to c f ++ tail → redirects tail ≡ 0 → f ≡ redirects md
final_there c f md tail e z =
    let a : redirects md ≡ redirects (redirects_to c f) + redirects tail = ap redirects e ∙ redirects-append (redirects_to c f) tail in
    let b : redirects (redirects_to c f) ≡ f = redirects_followed c f in
    omega arith

pub start_redirects : (c : ChannelPlan) (f : ℕ) (b : Bool) (l : StartLane) (st : Status) (head : Head) → redirects (question c f b ++ main_start l f st head) ≡ 0
start_redirects c f true lane.Main st head = refl
start_redirects c f true lane.Back st head = refl
start_redirects c f false lane.Main st head = refl
start_redirects c f false lane.Back st head = refl

fed_started : (c : ChannelPlan) (u : List UpMsg) (f : ℕ) (md : List MainMsg) (bd : List BackMsg) → Begun c u f md bd → Fed c md bd
fed_started c u f md bd s =
    let ps = hop_pieces (hop_at c f) in
    let tail : List BackMsg = piece_messages f 0 (take s.pieces ps) ++ stop_message c f s.stop in
    let body : Legal c f false (InBody 0 (take s.pieces ps ++ drop s.pieces ps)) (strip (back_events tail)) =
    legal_pieces c f f false 0 (take s.pieces ps) (drop s.pieces ps) (stop_message c f s.stop)
    (stop_legal c u f s.pieces _ s.status s.stop (drop s.pieces ps) s.stop_cause (λ e. rw e (drop-length ps))) in
    let whole : Legal c f false (InBody 0 ps) (strip (back_events tail)) = rw (take-append-drop s.pieces ps) at body in
    record {
      final = f;
      final_at = final_there c f md _ s.mains (start_redirects c f s.asked c.start s.status s.head);
      hop = f;
      legal = rw (s.mains, s.backs)
          (legal_followed c f f (question c f s.asked ++ main_start c.start f s.status s.head) (back_events (back_start c.start f s.status s.head ++ tail))
          (legal_start c c.start f f s.asked s.status s.head tail refl (head_code (hop_at c f) s.status s.head s.is_head) whole));
      last = rw s.mains
          (last_followed c f f _ (λ b e. over_back c c.start f s.asked s.status s.head b) (omega arith)
          (last_question c f f s.asked _ (last_start c c.start f f s.status s.head)));
      back_of = rw s.backs (all_append f _ _ (all_start c.start f s.status s.head) (all_append f _ _ (all_pieces f 0 (take s.pieces ps)) (all_stop c f s.stop)));
      at_first = λ b e. rw (s.mains, sym e) (over_back c c.start 0 s.asked s.status s.head b);
      some = true;
      due = λ p. rw s.mains (due_start c c.start f s.asked s.status s.head refl);
      none = λ p. cc;
    }

fed_unstarted : (c : ChannelPlan) (f : ℕ) (md : List MainMsg) (bd : List BackMsg) → PlanOk c → Unstarted c f md bd → Fed c md bd
fed_unstarted c f md bd v (b, inl m) =
    let m1 : md ≡ redirects_to c f ++ [] = m ∙ sym (append_nil (redirects_to c f)) in
    record {
      final = f;
      final_at = final_there c f md [] m1 refl;
      hop = suc f;
      legal = rw (m1, b) (legal_followed c f f [] [] tt);
      last = rw m1 (last_followed c (suc f) f [] (λ x e. absurd (omega arith)) (omega arith) tt);
      back_of = rw b tt;
      at_first = λ x e. absurd (omega arith);
      some = false;
      due = λ p. cc;
      none = λ p. b;
    }
fed_unstarted c f md bd v (b, inr (inl (m, r))) =
    record {
      final = f;
      final_at = final_there c f md (question c f true) m refl;
      hop = suc f;
      legal = rw (m, b) (legal_followed c f f (question c f true) [] tt);
      last = rw m (last_followed c (suc f) f (question c f true) (λ x e. absurd (omega arith)) (omega arith) tt);
      back_of = rw b tt;
      at_first = λ x e. absurd (omega arith);
      some = false;
      due = λ p. cc;
      none = λ p. b;
    }
fed_unstarted c f md bd v (b, inr (inr (s, m, e))) =
    let sf : is_failure s ≡ true = rw e at (v.0 f) in
    record {
      final = f;
      final_at = final_there c f md (main.FailedOpen f s ∷ []) m refl;
      hop = suc f;
      legal = rw (m, b) (legal_followed c f f (main.FailedOpen f s ∷ []) [] (refl, rw e refl, (λ n. refuted (is_failure s) sf n, tt)));
      last = rw m (last_followed c (suc f) f (main.FailedOpen f s ∷ []) (λ x y. absurd (omega arith)) (omega arith) tt);
      back_of = rw b tt;
      at_first = λ x y. absurd (omega arith);
      some = false;
      due = λ p. cc;
      none = λ p. b;
    }

pub fed : (c : ChannelPlan) (u : List UpMsg) (md : List MainMsg) (bd : List BackMsg) → PlanOk c → SentLaw c u md bd → Fed c md bd
fed c u md bd v (f, a, inl x) = fed_unstarted c f md bd v x
fed c u md bd v (f, a, inr x) = fed_started c u f md bd x

-- The start, and the law

first_released : {P : Type 0} {Q : Type 0} (b : Bool) → (Q → P) → (b ≡ true → Q) → (b || false) ≡ true → P
first_released true f g e = f (g refl)
first_released false f g e = cc

start_waits : (c : ChannelPlan) (l : StartLane) (md : List MainMsg) (bd : List BackMsg) (x : Fed c md bd) → c.start ≡ l → Waits c x.hop (new_hold l) md bd
start_waits c lane.Main md bd x e = record { last = x.last; report = tt; released = λ r. cc; kept_of = tt; back_of = x.back_of }
start_waits c lane.Back md bd x e = record {
  last = x.last;
  report = tt;
  released = λ r. (first_released (0 == x.hop) (x.at_first e) (λ t. eqb-true 0 x.hop t) r, refl);
  kept_of = tt;
  back_of = x.back_of;
}

pub no_kept : (l : StartLane) → (new_hold l).kept ≡ []
no_kept lane.Main = refl
no_kept lane.Back = refl

pub start_inv : (c : ChannelPlan) (md : List MainMsg) (bd : List BackMsg) → Fed c md bd → Inv c md bd (new_child c)
start_inv c md bd x = inl (record {
  around = record { final = x.final; cut = false; hold = new_hold c.start; broken = false; ends = stops (strip (main_events md ++ back_events bd)) false; mains = []; backs = [] };
  hop = x.hop;
  um = md;
  ub = bd;
  keeps = (AtHop 0, rw (no_kept c.start) x.legal, tt, (refl, refl, refl, λ e. cc), record { first_is = refl; final_is = refl; opening_is = refl; mains_are = refl; backs_are = refl }, refl, refl, rw (no_kept c.start) refl);
  not_cut = refl;
  not_broken = refl;
  ends_is = refl;
  final_at = x.final_at;
  some = x.some;
  due = x.due;
  none = λ e. (no_kept c.start, x.none e);
  mains = refl;
  backs = refl;
  waits = start_waits c c.start md bd x refl;
})

inv_trace : (c : ChannelPlan) (md : List MainMsg) (bd : List BackMsg) (s : ChildState) → Inv c md bd s → SeqTrace c (final s.journal) (first s.journal) (cut s.journal) s.trace
inv_trace c md bd s (inl i) = trace_of c i.around _ _ s i.keeps
inv_trace c md bd s (inr i) = trace_of c i.around _ _ s i.keeps

pub prefix_of_take : {A : Type 0} (n : ℕ) (xs ys : List A) → IsPrefix xs (take n ys) → IsPrefix xs ys
prefix_of_take n xs ys (rest, e) = (rest ++ drop n ys, sym (append_assoc xs rest (drop n ys)) ∙ (ap (λ t. t ++ drop n ys) e ∙ take-append-drop n ys))

-- what was taken of the two lanes
abbrev pub TakesDown : List ParentEntry → List ChildEntry → ℕ → Type 0
TakesDown p j n = IsPrefix (mains_taken j) (mains_sent p) × (n ≤ length (backs_sent p)) × IsPrefix (backs_taken j) (take n (backs_sent p))

-- whatever a child took of what a parent sent, it has shown a trace of one sequential channel
pub merge : (c : ChannelPlan) (p : List ParentEntry) (n : ℕ) (steps : List ChildStep) → PlanOk c → IsParentRun c p → TakesDown p (child_after c steps).journal n
    → SeqTrace c (final (child_after c steps).journal) (first (child_after c steps).journal) (cut (child_after c steps).journal) (child_after c steps).trace
merge c p n steps v (es, e) (m, le, b) =
    let l : SentLaw c (ups_taken p) (mains_sent p) (backs_sent p) = rw e at (lane_law c es v) in
    let i : Inv c (mains_sent p) (backs_sent p) (new_child c) = start_inv c (mains_sent p) (backs_sent p) (fed c (ups_taken p) (mains_sent p) (backs_sent p) v l) in
    inv_trace c (mains_sent p) (backs_sent p) (child_after c steps)
    (run_inv c (mains_sent p) (backs_sent p) steps v i (m, prefix_of_take n (backs_taken (child_after c steps).journal) (backs_sent p) b))

pub merge_state : (c : ChannelPlan) (p : List ParentEntry) (s : ChildState) (n : ℕ) → PlanOk c → IsParentRun c p → IsChildState c s → TakesDown p s.journal n
    → SeqTrace c (final s.journal) (first s.journal) (cut s.journal) s.trace
merge_state c p s n v r (steps, e) d =
    subst (λ (x : ChildState). SeqTrace c (final x.journal) (first x.journal) (cut x.journal) x.trace) e
    (merge c p n steps v r (subst (λ (x : ChildState). TakesDown p x.journal n) (sym e) d))
