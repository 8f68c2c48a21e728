-- Taking the messages of the two lanes: what is still to come, behind what waits and what the hold keeps, stays in order.
use Rattle.std.proofs.Common.{ℕ, suc, ◌≡◌, refl, sym, ◌∙◌, ap, List, [], ◌∷◌, ◌++◌, Bool, true, false, ◌||◌, Option, Some, None, ◌⊎◌, inl, inr, nat_le, slice_get, append_assoc}
use Rattle.nk_base.specs.declared.status.Status.{Status}
use Rattle.nk_base.specs.declared.message.MainMsg.{MainMsg}
use Rattle.nk_base.specs.declared.message.BackMsg.{BackMsg}
use Rattle.nk_plan.specs.declared.plan.ChannelPlan.{ChannelPlan}
use Rattle.nk_plan.specs.declared.plan.StartLane.{StartLane}
use Rattle.nk_plan.specs.declared.plan.Act.{Act}
use Rattle.nk_plan.specs.declared.plan.Control.{Control}
use Rattle.nk_plan.specs.declared.journal.ChildEntry.{ChildEntry}
use Rattle.nk_base.specs.Status.{is_failure}
use Rattle.nk_laws.proofs.Premises.{PlanOk, ActOk}
use Rattle.nk_plan.specs.Journal.{mains_taken, backs_taken}
use Rattle.nk_plan.specs.Lanes.{IsPrefix}
use Rattle.nk_plan.specs.declared.event.ChildEvent.{ChildEvent}
use Rattle.nk_plan.specs.Child.{Hold, ChildState, offer_all, with_entry, perform_control, step_act, perform_call, call_break, main_events_of, note_main, step_main, note_report, note_redirect, back_hop, back_events_of, back_events, is_among, keep_back, hold_back, step_back}
use Rattle.nk_laws.proofs.Tools.{keeps_if, append_nil, or_zero}
use Rattle.nk_laws.proofs.ChildLaw.{Broken, offered_all_keeps, same_entry, performed_keeps, broken_keeps, or_false}
use Rattle.nk_laws.proofs.Order.{strip, NoCancel, stops, Around, Holds, Keeps, strip-append, says_new, or_else_none}
use Rattle.nk_base.specs.declared.status.Target.TheVariants as target
use Rattle.nk_base.specs.declared.message.MainMsg.TheVariants as main
use Rattle.nk_base.specs.declared.message.BackMsg.TheVariants as back
use Rattle.nk_plan.specs.declared.plan.StartLane.TheVariants as lane
use Rattle.nk_plan.specs.declared.plan.Act.TheVariants as act
use Rattle.nk_plan.specs.declared.journal.ChildEntry.TheVariants as child

abbrev pub main_events : List MainMsg → List ChildEvent
main_events [] = []
main_events (m ∷ ms) = main_events_of m ++ main_events ms

-- how many redirects were completed, by the messages
abbrev pub redirects : List MainMsg → ℕ
redirects [] = 0
redirects (main.Start h st head ∷ ms) = redirects ms
redirects (main.FailedOpen h st ∷ ms) = redirects ms
redirects (main.Redirect1 h code ∷ ms) = redirects ms
redirects (main.Redirect3 h ∷ ms) = suc (redirects ms)

-- every message belongs to hop g
abbrev pub AllOf : ℕ → List BackMsg → Type 0
AllOf g [] = Unit {0}
AllOf g (m ∷ ms) = (back_hop m ≡ g) × AllOf g ms

-- no event of the order is left among these
abbrev pub Over : List MainMsg → Type 0
Over um = strip (main_events um) ≡ []

-- once hop g is reported, no event is left on the main lane
abbrev pub ReportsLast : ChannelPlan → ℕ → List MainMsg → Type 0
ReportsLast c g [] = Unit {0}
ReportsLast c g (main.Start h st head ∷ um) = (h ≡ g → Over um) × ReportsLast c g um
ReportsLast c g (main.FailedOpen h st ∷ um) = ReportsLast c g um
ReportsLast c g (main.Redirect1 h code ∷ um) = ReportsLast c g um
ReportsLast c g (main.Redirect3 h ∷ um) = (c.start ≡ lane.Back → suc h ≡ g → Over um) × ReportsLast c g um

abbrev pub ReportIs : Option ℕ → ℕ → List MainMsg → Type 0
ReportIs None g um = Unit {0}
ReportIs (Some r) g um = r ≡ g → Over um

-- m reports hop g to the hold
abbrev pub Reporter : ChannelPlan → ℕ → MainMsg → Type 0
Reporter c g (main.Start h st head) = h ≡ g
Reporter c g (main.FailedOpen h st) = ⊥
Reporter c g (main.Redirect1 h code) = ⊥
Reporter c g (main.Redirect3 h) = (c.start ≡ lane.Back) × (suc h ≡ g)

abbrev pub Will : ChannelPlan → ℕ → List MainMsg → Type 0
Will c g [] = ⊥
Will c g (m ∷ um) = Reporter c g m ⊎ Will c g um

-- hop g will be reported, was released, or is reported
abbrev pub Due : ChannelPlan → ℕ → Hold → List MainMsg → Type 0
Due c g hold um = Will c g um ⊎ ((is_among hold.released g ≡ true) ⊎ (hold.report ≡ Some g))

-- the hold, with what is still to be taken from the two lanes
pub record Waits (c : ChannelPlan) (g : ℕ) (hold : Hold) (um : List MainMsg) (ub : List BackMsg) : Type 0 where
  pub last : ReportsLast c g um
  pub report : ReportIs hold.report g um
  pub released : is_among hold.released g ≡ true → Over um × (hold.kept ≡ [])
  pub kept_of : AllOf g hold.kept
  pub back_of : AllOf g ub

pub record Whole (c : ChannelPlan) (md : List MainMsg) (bd : List BackMsg) (s : ChildState) : Type 0 where
  pub around : Around
  pub hop : ℕ
  pub um : List MainMsg
  pub ub : List BackMsg
  pub keeps : Keeps c around (main_events um ++ (back_events around.hold.kept ++ back_events ub)) s
  pub not_cut : around.cut ≡ false
  pub not_broken : around.broken ≡ false
  pub ends_is : around.ends ≡ stops (strip (main_events md ++ back_events bd)) false
  pub final_at : around.final ≡ redirects md
  pub mains : around.mains ++ um ≡ md
  pub backs : around.backs ++ ub ≡ bd
  pub waits : Waits c hop around.hold um ub
  pub some : Bool
  pub due : some ≡ true → Due c hop around.hold um
  pub none : some ≡ false → (around.hold.kept ≡ []) × (ub ≡ [])

pub record Cut (c : ChannelPlan) (md : List MainMsg) (s : ChildState) : Type 0 where
  pub around : Around
  pub keeps : Keeps c around [] s
  pub final_at : around.cut ≡ false → around.final ≡ redirects md
  pub broken : around.broken ≡ true
  pub ends_is : around.ends ≡ true

abbrev pub Inv : ChannelPlan → List MainMsg → List BackMsg → ChildState → Type 0
Inv c md bd s = Whole c md bd s ⊎ Cut c md s

-- The fields of an invariant that steps look at

pub broken_is : (c : ChannelPlan) (a : Around) (pend w : List ChildEvent) (s : ChildState) → Holds c a pend w s → s.broken ≡ a.broken
broken_is c a pend w s (pl, l, n, f, j, h, b, z) = b

pub hold_is : (c : ChannelPlan) (a : Around) (pend w : List ChildEvent) (s : ChildState) → Holds c a pend w s → s.hold ≡ a.hold
hold_is c a pend w s (pl, l, n, f, j, h, b, z) = h

pub mains_is : (c : ChannelPlan) (a : Around) (pend w : List ChildEvent) (s : ChildState) → Holds c a pend w s → mains_taken s.journal ≡ a.mains
mains_is c a pend w s (pl, l, n, f, j, h, b, z) = j.mains_are

pub backs_is : (c : ChannelPlan) (a : Around) (pend w : List ChildEvent) (s : ChildState) → Holds c a pend w s → backs_taken s.journal ≡ a.backs
backs_is c a pend w s (pl, l, n, f, j, h, b, z) = j.backs_are

pub whole_unbroken : (c : ChannelPlan) (md : List MainMsg) (bd : List BackMsg) (s : ChildState) → Whole c md bd s → s.broken ≡ false
whole_unbroken c md bd s i = broken_is c i.around _ _ s i.keeps ∙ i.not_broken

pub cut_broken : (c : ChannelPlan) (md : List MainMsg) (s : ChildState) → Cut c md s → s.broken ≡ true
cut_broken c md s i = broken_is c i.around _ _ s i.keeps ∙ i.broken

-- another list of events to come, with the same order
pub same_order : (c : ChannelPlan) (a : Around) (pend pend' w : List ChildEvent) (s : ChildState) → strip pend ≡ strip pend' → Holds c a pend w s → Holds c a pend' w s
same_order c a pend pend' w s e (pl, l, n, f, j, h, b, z) =
    (pl, rw (strip-append w pend', ← e, ← strip-append w pend) l, n, f, j, h, b, rw (strip-append w pend', ← e, ← strip-append w pend) z)

unfoldable pub with_hold : Around → Hold → Around
with_hold a hold = record { final = a.final; cut = a.cut; hold = hold; broken = a.broken; ends = a.ends; mains = a.mains; backs = a.backs }

-- steps that touch neither lane nor hold
pub whole_by : (c : ChannelPlan) (md : List MainMsg) (bd : List BackMsg) (s s' : ChildState) (i : Whole c md bd s)
    → ((a : Around) (pend : List ChildEvent) → Keeps c a pend s → Keeps c a pend s') → Whole c md bd s'
whole_by c md bd s s' i f = record {
  around = i.around;
  hop = i.hop;
  um = i.um;
  ub = i.ub;
  keeps = f i.around _ i.keeps;
  not_cut = i.not_cut;
  not_broken = i.not_broken;
  ends_is = i.ends_is;
  final_at = i.final_at;
  some = i.some;
  due = i.due;
  none = i.none;
  mains = i.mains;
  backs = i.backs;
  waits = i.waits;
}

pub inv_by : (c : ChannelPlan) (md : List MainMsg) (bd : List BackMsg) (s s' : ChildState)
    → ((a : Around) (pend : List ChildEvent) → Keeps c a pend s → Keeps c a pend s') → Inv c md bd s → Inv c md bd s'
inv_by c md bd s s' f (inl i) = inl (whole_by c md bd s s' i f)
inv_by c md bd s s' f (inr i) = inr (record { around = i.around; keeps = f i.around [] i.keeps; final_at = i.final_at; broken = i.broken; ends_is = i.ends_is })

-- The step of the page

pub break_inv : (c : ChannelPlan) (md : List MainMsg) (bd : List BackMsg) (s : ChildState) (st : Status) → is_failure st ≡ true → Inv c md bd s → Inv c md bd (perform_call c (act.Break st) s)
break_inv c md bd s st sf i =
    keeps_if (Inv c md bd) (s.stopped || s.broken) (with_entry child.NoEffect s) (call_break c st s)
    (λ r. inv_by c md bd s (with_entry child.NoEffect s) (λ a pend k. same_entry c a pend _ s child.NoEffect refl refl refl refl refl k) i)
    (λ r. elim i [
      | inl x ↦
          let b : Broken c x.around (call_break c st s) = broken_keeps c x.around _ _ st s x.not_cut (or_false s.stopped s.broken r) sf x.keeps in
          inr (record { around = record { final = b.0; cut = b.1; hold = x.around.hold; broken = true; ends = true; mains = x.around.mains; backs = x.around.backs }; keeps = b.2; final_at = (λ e. b.3 e ∙ x.final_at); broken = refl; ends_is = refl })
      | inr x ↦ let y : s.broken ≡ true = cut_broken c md s x in let z : s.broken ≡ false = or_zero s.stopped s.broken r in absurd (cc)
    ])

pub act_inv : (c : ChannelPlan) (md : List MainMsg) (bd : List BackMsg) (s : ChildState) (x : Act) → ((st : Status) → x ≡ act.Break st → is_failure st ≡ true) → Inv c md bd s → Inv c md bd (perform_call c x s)
act_inv c md bd s act.Suspend v i = inv_by c md bd s _ (λ a pend k. performed_keeps c a pend act.Suspend s tt k) i
act_inv c md bd s act.Resume v i = inv_by c md bd s _ (λ a pend k. performed_keeps c a pend act.Resume s tt k) i
act_inv c md bd s (act.Cancel st) v i = inv_by c md bd s _ (λ a pend k. performed_keeps c a pend (act.Cancel st) s tt k) i
act_inv c md bd s (act.Retarget n) v i = inv_by c md bd s _ (λ a pend k. performed_keeps c a pend (act.Retarget n) s tt k) i
act_inv c md bd s (act.Break st) v i = break_inv c md bd s st (v st refl) i

pub control_inv : (c : ChannelPlan) (md : List MainMsg) (bd : List BackMsg) (s : ChildState) (o : Option Control) → ActOk o → Inv c md bd s → Inv c md bd (perform_control c o s)
control_inv c md bd s None v i = i
control_inv c md bd s (Some control) v i =
    let s1 : ChildState = record s { next = suc s.next } in
    keeps_if (Inv c md bd) (nat_le control.after s.finished) (perform_call c control.act s1) s
    (λ r. act_inv c md bd s1 control.act v (inv_by c md bd s s1 (λ a pend k. k) i)) (λ r. i)

pub acted_inv : (c : ChannelPlan) (md : List MainMsg) (bd : List BackMsg) (s : ChildState) → PlanOk c → Inv c md bd s → Inv c md bd (step_act c s)
acted_inv c md bd s v i =
    keeps_if (Inv c md bd) c.closed s _ (λ r. i)
    (λ r. keeps_if (Inv c md bd) s.opened (perform_control c (slice_get c.controls s.next) s) _
    (λ q. control_inv c md bd s (slice_get c.controls s.next) (v.1 s.next) i)
    (λ q. inv_by c md bd s _ (λ a pend k. same_entry c a pend _ s child.Open refl refl refl refl refl k) i))

-- Taking a message of the main lane

pub no_cancel_main : (m : MainMsg) → NoCancel (main_events_of m)
no_cancel_main (main.Start h st head) = (tt, tt)
no_cancel_main (main.FailedOpen h st) = (tt, (tt, tt))
no_cancel_main (main.Redirect1 h code) = (tt, tt)
no_cancel_main (main.Redirect3 h) = (tt, tt)

pub took_main : (c : ChannelPlan) (a : Around) (pend w : List ChildEvent) (s : ChildState) (m : MainMsg) → Holds c a pend w s
    → Holds c (record { final = a.final; cut = a.cut; hold = a.hold; broken = a.broken; ends = a.ends; mains = a.mains ++ m ∷ []; backs = a.backs }) pend w (with_entry (child.TookMain m) s)
took_main c a pend w s m (pl, l, n, f, j, h, b, z) = (
  pl,
  l,
  n,
  f,
  says_new s.journal (child.TookMain m) s.kept s.kept s.hop s.hop _ _ a.mains (a.mains ++ m ∷ []) a.backs a.backs
      (or_else_none s.kept) refl (or_else_none _) refl (append_nil a.backs) j,
  h,
  b,
  z,
)

pub took_back : (c : ChannelPlan) (a : Around) (pend w : List ChildEvent) (s : ChildState) (m : BackMsg) → Holds c a pend w s
    → Holds c (record { final = a.final; cut = a.cut; hold = a.hold; broken = a.broken; ends = a.ends; mains = a.mains; backs = a.backs ++ m ∷ [] }) pend w (with_entry (child.TookBack m) s)
took_back c a pend w s m (pl, l, n, f, j, h, b, z) = (
  pl,
  l,
  n,
  f,
  says_new s.journal (child.TookBack m) s.kept s.kept s.hop s.hop _ _ a.mains a.mains a.backs (a.backs ++ m ∷ [])
      (or_else_none s.kept) refl (or_else_none _) (append_nil a.mains) refl j,
  h,
  b,
  z,
)

-- the hold becomes another
pub holds_with : (c : ChannelPlan) (a : Around) (pend w : List ChildEvent) (s : ChildState) (hold : Hold) → Holds c a pend w s
    → Holds c (with_hold a hold) pend w (record s { hold = hold })
unfolding with_hold
holds_with c a pend w s hold (pl, l, n, f, j, h, b, z) = (pl, l, n, f, j, refl, b, z)

pub reported_keeps : (c : ChannelPlan) (a : Around) (pend : List ChildEvent) (s : ChildState) (h : ℕ) → Keeps c a pend s
    → Keeps c (with_hold a (record a.hold { report = Some h })) pend (note_report h s)
unfolding with_hold
reported_keeps c a pend s h (pl, l, n, f, j, e, b, z) = (pl, l, n, f, j, ap (λ (x : Hold). record x { report = Some h }) e, b, z)

-- what is over stays over
pub over_tail : (m : MainMsg) (um : List MainMsg) → Over (m ∷ um) → Over um
over_tail (main.Start h st head) um e = cc
over_tail (main.FailedOpen h st) um e = cc
over_tail (main.Redirect1 h code) um e = e
over_tail (main.Redirect3 h) um e = cc

pub last_tail : (c : ChannelPlan) (g : ℕ) (m : MainMsg) (um : List MainMsg) → ReportsLast c g (m ∷ um) → ReportsLast c g um
last_tail c g (main.Start h st head) um e = e.1
last_tail c g (main.FailedOpen h st) um e = e
last_tail c g (main.Redirect1 h code) um e = e
last_tail c g (main.Redirect3 h) um e = e.1

pub report_tail : (o : Option ℕ) (g : ℕ) (m : MainMsg) (um : List MainMsg) → ReportIs o g (m ∷ um) → ReportIs o g um
report_tail None g m um r = tt
report_tail (Some x) g m um r = λ e. over_tail m um (r e)

pub waits_tail : (c : ChannelPlan) (g : ℕ) (hold : Hold) (m : MainMsg) (um : List MainMsg) (ub : List BackMsg) → Waits c g hold (m ∷ um) ub → Waits c g hold um ub
waits_tail c g hold m um ub w = record {
  last = last_tail c g m um w.last;
  report = report_tail hold.report g m um w.report;
  released = λ e. let x : Over (m ∷ um) × (hold.kept ≡ []) = w.released e in (over_tail m um x.0, x.1);
  kept_of = w.kept_of;
  back_of = w.back_of;
}

pub waits_report : (c : ChannelPlan) (g : ℕ) (hold : Hold) (um : List MainMsg) (ub : List BackMsg) (h : ℕ) → (h ≡ g → Over um) → Waits c g hold um ub → Waits c g (record hold { report = Some h }) um ub
waits_report c g hold um ub h r w = record { last = w.last; report = r; released = w.released; kept_of = w.kept_of; back_of = w.back_of }

-- the state after a message of the main lane was taken, before its report
pub record Taken (c : ChannelPlan) (m : MainMsg) (md : List MainMsg) (bd : List BackMsg) (s : ChildState) : Type 0 where
  pub around : Around
  pub hop : ℕ
  pub um : List MainMsg
  pub ub : List BackMsg
  pub keeps : Keeps c around (main_events um ++ (back_events around.hold.kept ++ back_events ub)) s
  pub not_cut : around.cut ≡ false
  pub not_broken : around.broken ≡ false
  pub ends_is : around.ends ≡ stops (strip (main_events md ++ back_events bd)) false
  pub final_at : around.final ≡ redirects md
  pub mains : around.mains ++ um ≡ md
  pub backs : around.backs ++ ub ≡ bd
  pub waits : Waits c hop around.hold um ub
  pub next : ReportsLast c hop (m ∷ um)
  pub some : Bool
  pub due : some ≡ true → Due c hop around.hold (m ∷ um)
  pub was : ReportIs around.hold.report hop (m ∷ um)
  pub none : some ≡ false → (around.hold.kept ≡ []) × (ub ≡ [])

pub plain_due : (c : ChannelPlan) (m : MainMsg) (g : ℕ) (hold : Hold) (um : List MainMsg) → (Reporter c g m → ⊥) → Due c g hold (m ∷ um) → Due c g hold um
plain_due c m g hold um n (inl (inl x)) = absurd (n x)
plain_due c m g hold um n (inl (inr w)) = inl w
plain_due c m g hold um n (inr y) = inr y

pub reported_due : (c : ChannelPlan) (m : MainMsg) (g h : ℕ) (hold : Hold) (um : List MainMsg) → (Reporter c g m → h ≡ g) → (Over (m ∷ um) → ⊥) → ReportIs hold.report g (m ∷ um)
    → Due c g hold (m ∷ um) → Due c g (record hold { report = Some h }) um
reported_due c m g h hold um r o w (inl (inl x)) = inr (inr (ap (λ (t : ℕ). Some t) (r x)))
reported_due c m g h hold um r o w (inl (inr x)) = inl x
reported_due c m g h hold um r o w (inr (inl x)) = inr (inl x)
reported_due c m g h hold um r o w (inr (inr x)) = let y : ReportIs (Some g) g (m ∷ um) = rw x at w in absurd (o (y refl))

pub taken_plain : (c : ChannelPlan) (m : MainMsg) (md : List MainMsg) (bd : List BackMsg) (s : ChildState) (t : Taken c m md bd s) → (t.some ≡ true → Due c t.hop t.around.hold t.um) → Whole c md bd s
taken_plain c m md bd s t d = record {
  around = t.around;
  hop = t.hop;
  um = t.um;
  ub = t.ub;
  keeps = t.keeps;
  not_cut = t.not_cut;
  not_broken = t.not_broken;
  ends_is = t.ends_is;
  final_at = t.final_at;
  some = t.some;
  due = d;
  none = t.none;
  mains = t.mains;
  backs = t.backs;
  waits = t.waits;
}

pub taken_reported : (c : ChannelPlan) (m : MainMsg) (md : List MainMsg) (bd : List BackMsg) (s : ChildState) (h : ℕ) (t : Taken c m md bd s) → (h ≡ t.hop → Over t.um)
    → (t.some ≡ true → Due c t.hop (record t.around.hold { report = Some h }) t.um) → Whole c md bd (note_report h s)
unfolding with_hold
taken_reported c m md bd s h t r d = record {
  around = with_hold t.around (record t.around.hold { report = Some h });
  hop = t.hop;
  um = t.um;
  ub = t.ub;
  keeps = reported_keeps c t.around _ s h t.keeps;
  not_cut = t.not_cut;
  not_broken = t.not_broken;
  ends_is = t.ends_is;
  final_at = t.final_at;
  some = t.some;
  due = d;
  none = t.none;
  mains = t.mains;
  backs = t.backs;
  waits = waits_report c t.hop t.around.hold t.um t.ub h r t.waits;
}

pub reported_back_inv : (c : ChannelPlan) (md : List MainMsg) (bd : List BackMsg) (s : ChildState) (h : ℕ) (l : StartLane) (t : Taken c (main.Redirect3 h) md bd s)
    → c.start ≡ l → (l ≡ lane.Back → suc h ≡ t.hop → Over t.um) → Whole c md bd (note_redirect l (suc h) s)
reported_back_inv c md bd s h lane.Main t e r = taken_plain c (main.Redirect3 h) md bd s t (λ x. plain_due c (main.Redirect3 h) t.hop t.around.hold t.um (λ y. let z : lane.Main ≡ lane.Back = sym e ∙ y.0 in cc) (t.due x))
reported_back_inv c md bd s h lane.Back t e r =
    taken_reported c (main.Redirect3 h) md bd s (suc h) t (r refl) (λ x. reported_due c (main.Redirect3 h) t.hop (suc h) t.around.hold t.um (λ y. y.1) (λ y. cc) t.was (t.due x))

pub main_reported_inv : (c : ChannelPlan) (m : MainMsg) (md : List MainMsg) (bd : List BackMsg) (s : ChildState) → Taken c m md bd s → Whole c md bd (note_main c.start m s)
main_reported_inv c (main.Start h st head) md bd s t =
    taken_reported c (main.Start h st head) md bd s h t t.next.0 (λ x. reported_due c (main.Start h st head) t.hop h t.around.hold t.um (λ y. y) (λ y. cc) t.was (t.due x))
main_reported_inv c (main.FailedOpen h st) md bd s t = taken_plain c (main.FailedOpen h st) md bd s t (λ x. plain_due c (main.FailedOpen h st) t.hop t.around.hold t.um (λ y. y) (t.due x))
main_reported_inv c (main.Redirect1 h code) md bd s t = taken_plain c (main.Redirect1 h code) md bd s t (λ x. plain_due c (main.Redirect1 h code) t.hop t.around.hold t.um (λ y. y) (t.due x))
main_reported_inv c (main.Redirect3 h) md bd s t = reported_back_inv c md bd s h c.start t refl t.next.0

-- the rest of a list after a common beginning
pub cancel_left : {A : Type 0} (xs ys zs : List A) → xs ++ ys ≡ xs ++ zs → ys ≡ zs
cancel_left [] ys zs e = e
cancel_left (x ∷ xs) ys zs e = let t : xs ++ ys ≡ xs ++ zs = cc in cancel_left xs ys zs t

-- what the journals after the step allow
abbrev pub Within : List MainMsg → List BackMsg → List ChildEntry → Type 0
Within md bd j = IsPrefix (mains_taken j) md × IsPrefix (backs_taken j) bd

pub main_taken_inv : (c : ChannelPlan) (m : MainMsg) (md : List MainMsg) (bd : List BackMsg) (s : ChildState) (i : Whole c md bd s) (um : List MainMsg)
    → i.um ≡ m ∷ um → Whole c md bd (step_main c m (with_entry (child.TookMain m) s))
main_taken_inv c m md bd s i um e =
    let a = i.around in
    let a1 : Around = record { final = a.final; cut = a.cut; hold = a.hold; broken = a.broken; ends = a.ends; mains = a.mains ++ m ∷ []; backs = a.backs } in
    let rest : List ChildEvent = back_events a.hold.kept ++ back_events i.ub in
    let k0 : Keeps c a (main_events (m ∷ um) ++ rest) s = rw e at i.keeps in
    let k1 : Keeps c a (main_events_of m ++ (main_events um ++ rest)) s = rw (append_assoc (main_events_of m) (main_events um) rest) at k0 in
    let w0 : Waits c i.hop a.hold (m ∷ um) i.ub = rw e at i.waits in
    main_reported_inv c m md bd (offer_all c target.Main (main_events_of m) (with_entry (child.TookMain m) s)) (record {
      around = a1;
      hop = i.hop;
      um = um;
      ub = i.ub;
      keeps = offered_all_keeps c a1 (main_events um ++ rest) target.Main (main_events_of m) (with_entry (child.TookMain m) s) (no_cancel_main m) (took_main c a _ _ s m k1);
      not_cut = i.not_cut;
      not_broken = i.not_broken;
      ends_is = i.ends_is;
      final_at = i.final_at;
      some = i.some;
      due = rw e at i.due;
      was = w0.report;
      none = i.none;
      mains = append_assoc a.mains (m ∷ []) um ∙ (ap (λ t. a.mains ++ t) (sym e) ∙ i.mains);
      backs = i.backs;
      waits = waits_tail c i.hop a.hold m um i.ub w0;
      next = w0.last;
    })

-- Taking a message of the background lane

pub main_events-over : (um : List MainMsg) (rest : List ChildEvent) → Over um → strip (main_events um ++ rest) ≡ strip rest
main_events-over um rest o = strip-append (main_events um) rest ∙ ap (λ t. t ++ strip rest) o

pub back_events-append : (xs ys : List BackMsg) → back_events (xs ++ ys) ≡ back_events xs ++ back_events ys
back_events-append [] ys = refl
back_events-append (x ∷ xs) ys = ap (λ t. back_events_of x ++ t) (back_events-append xs ys) ∙ sym (append_assoc (back_events_of x) (back_events xs) (back_events ys))

pub no_cancel_back : (m : BackMsg) → NoCancel (back_events_of m)
no_cancel_back (back.StartSent h) = tt
no_cancel_back (back.Start h st head) = (tt, tt)
no_cancel_back (back.Bytes h st o p) = (tt, tt)
no_cancel_back (back.Stop h st trailers) = (tt, tt)

pub no_cancel_append : (xs ys : List ChildEvent) → NoCancel xs → NoCancel ys → NoCancel (xs ++ ys)
no_cancel_append [] ys a b = b
no_cancel_append (x ∷ xs) ys a b = (a.0, no_cancel_append xs ys a.1 b)

pub no_cancel_backs : (ms : List BackMsg) → NoCancel (back_events ms)
no_cancel_backs [] = tt
no_cancel_backs (m ∷ ms) = no_cancel_append (back_events_of m) (back_events ms) (no_cancel_back m) (no_cancel_backs ms)

pub all_then : (g : ℕ) (ms : List BackMsg) (m : BackMsg) → AllOf g ms → back_hop m ≡ g → AllOf g (ms ++ m ∷ [])
all_then g [] m a e = (e, tt)
all_then g (x ∷ ms) m a e = (a.0, all_then g ms m a.1 e)

-- the state after a message of the background lane was entered, with what is to come, and before it passes or is kept
pub record Noted (c : ChannelPlan) (m : BackMsg) (md : List MainMsg) (bd : List BackMsg) (s : ChildState) : Type 0 where
  pub around : Around
  pub hop : ℕ
  pub um : List MainMsg
  pub ub : List BackMsg
  pub keeps : Keeps c around (main_events um ++ (back_events around.hold.kept ++ (back_events_of m ++ back_events ub))) s
  pub not_cut : around.cut ≡ false
  pub not_broken : around.broken ≡ false
  pub ends_is : around.ends ≡ stops (strip (main_events md ++ back_events bd)) false
  pub final_at : around.final ≡ redirects md
  pub mains : around.mains ++ um ≡ md
  pub backs : around.backs ++ ub ≡ bd
  pub waits : Waits c hop around.hold um ub
  pub own : back_hop m ≡ hop
  pub some : Bool
  pub due : some ≡ true → Due c hop around.hold um
  pub none : some ≡ false → ⊥

pub passed_now : (c : ChannelPlan) (m : BackMsg) (md : List MainMsg) (bd : List BackMsg) (s : ChildState) (i : Noted c m md bd s)
    → is_among s.hold.released (back_hop m) ≡ true → Whole c md bd (offer_all c target.Back (back_events_of m) s)
passed_now c m md bd s i r =
    let a = i.around in
    let h : s.hold ≡ a.hold = hold_is c a _ _ s i.keeps in
    let g : is_among a.hold.released i.hop ≡ true = rw (h, i.own) at r in
    let x : Over i.um × (a.hold.kept ≡ []) = i.waits.released g in
    let order : strip (main_events i.um ++ (back_events a.hold.kept ++ (back_events_of m ++ back_events i.ub)))
    ≡ strip (back_events_of m ++ (main_events i.um ++ (back_events a.hold.kept ++ back_events i.ub))) =
    rw (
      x.1,
      main_events-over i.um (back_events_of m ++ back_events i.ub) x.0,
      strip-append (back_events_of m) (main_events i.um ++ back_events i.ub),
      main_events-over i.um (back_events i.ub) x.0,
      strip-append (back_events_of m) (back_events i.ub),
    ) refl in
    record {
      around = a;
      hop = i.hop;
      um = i.um;
      ub = i.ub;
      keeps = offered_all_keeps c a _ target.Back (back_events_of m) s (no_cancel_back m) (same_order c a _ _ _ s order i.keeps);
      not_cut = i.not_cut;
      not_broken = i.not_broken;
      ends_is = i.ends_is;
      final_at = i.final_at;
      some = i.some;
      due = i.due;
      none = λ e. absurd (i.none e);
      mains = i.mains;
      backs = i.backs;
      waits = i.waits;
    }

pub held_now : (c : ChannelPlan) (m : BackMsg) (md : List MainMsg) (bd : List BackMsg) (s : ChildState) (i : Noted c m md bd s)
    → is_among s.hold.released (back_hop m) ≡ false → Whole c md bd (keep_back m s)
unfolding with_hold
held_now c m md bd s i r =
    let a = i.around in
    let h : s.hold ≡ a.hold = hold_is c a _ _ s i.keeps in
    let g : is_among a.hold.released i.hop ≡ false = rw (h, i.own) at r in
    let hold : Hold = record s.hold { kept = s.hold.kept ++ m ∷ [] } in
    let order : strip (main_events i.um ++ (back_events a.hold.kept ++ (back_events_of m ++ back_events i.ub)))
    ≡ strip (main_events i.um ++ (back_events (s.hold.kept ++ m ∷ []) ++ back_events i.ub)) =
    rw (h, back_events-append a.hold.kept (m ∷ []), append_nil (back_events_of m), append_assoc (back_events a.hold.kept) (back_events_of m) (back_events i.ub)) refl in
    record {
      around = with_hold a hold;
      hop = i.hop;
      um = i.um;
      ub = i.ub;
      keeps = holds_with c a _ _ s hold (same_order c a _ _ _ s order i.keeps);
      not_cut = i.not_cut;
      not_broken = i.not_broken;
      ends_is = i.ends_is;
      final_at = i.final_at;
      some = i.some;
      due = λ e. rw h (i.due e);
      none = λ e. absurd (i.none e);
      mains = i.mains;
      backs = i.backs;
      waits = record {
        last = i.waits.last;
        report = rw h i.waits.report;
        released = λ e. let no : is_among a.hold.released i.hop ≡ true = rw h at e in absurd (cc);
        kept_of = rw h (all_then i.hop a.hold.kept m i.waits.kept_of i.own);
        back_of = i.waits.back_of;
      };
    }

pub passed_inv : (c : ChannelPlan) (m : BackMsg) (md : List MainMsg) (bd : List BackMsg) (s : ChildState) → Noted c m md bd s → Whole c md bd (hold_back c m s)
passed_inv c m md bd s i =
    keeps_if (Whole c md bd) (is_among s.hold.released (back_hop m)) (offer_all c target.Back (back_events_of m) s) (keep_back m s)
    (λ r. passed_now c m md bd s i r) (λ r. held_now c m md bd s i r)

pub sent_only : (c : ChannelPlan) (h : ℕ) (md : List MainMsg) (bd : List BackMsg) (s : ChildState) → Noted c (back.StartSent h) md bd s → Whole c md bd s
sent_only c h md bd s i = record {
  around = i.around;
  hop = i.hop;
  um = i.um;
  ub = i.ub;
  keeps = i.keeps;
  not_cut = i.not_cut;
  not_broken = i.not_broken;
  ends_is = i.ends_is;
  final_at = i.final_at;
  some = i.some;
  due = i.due;
  none = λ e. absurd (i.none e);
  mains = i.mains;
  backs = i.backs;
  waits = i.waits;
}

pub back_taken_noted : (c : ChannelPlan) (m : BackMsg) (md : List MainMsg) (bd : List BackMsg) (s : ChildState) → Noted c m md bd s → Whole c md bd (step_back c m s)
back_taken_noted c (back.StartSent h) md bd s i = sent_only c h md bd s i
back_taken_noted c (back.Start h st head) md bd s i = passed_inv c (back.Start h st head) md bd s i
back_taken_noted c (back.Bytes h st o p) md bd s i = passed_inv c (back.Bytes h st o p) md bd s i
back_taken_noted c (back.Stop h st trailers) md bd s i = passed_inv c (back.Stop h st trailers) md bd s i

pub back_taken_inv : (c : ChannelPlan) (m : BackMsg) (md : List MainMsg) (bd : List BackMsg) (s : ChildState) (i : Whole c md bd s) (ub : List BackMsg)
    → i.ub ≡ m ∷ ub → Whole c md bd (step_back c m (with_entry (child.TookBack m) s))
back_taken_inv c m md bd s i ub e =
    let a = i.around in
    let w0 : Waits c i.hop a.hold i.um (m ∷ ub) = rw e at i.waits in
    let k0 : Keeps c a (main_events i.um ++ (back_events a.hold.kept ++ back_events (m ∷ ub))) s = rw e at i.keeps in
    back_taken_noted c m md bd (with_entry (child.TookBack m) s) (record {
      around = record { final = a.final; cut = a.cut; hold = a.hold; broken = a.broken; ends = a.ends; mains = a.mains; backs = a.backs ++ m ∷ [] };
      hop = i.hop;
      um = i.um;
      ub = ub;
      keeps = took_back c a _ _ s m k0;
      not_cut = i.not_cut;
      not_broken = i.not_broken;
      ends_is = i.ends_is;
      final_at = i.final_at;
      some = i.some;
      due = i.due;
      none = λ n. let x : i.ub ≡ [] = (i.none n).1 in let y : m ∷ ub ≡ [] = sym e ∙ x in absurd (cc);
      mains = i.mains;
      backs = append_assoc a.backs (m ∷ []) ub ∙ (ap (λ t. a.backs ++ t) (sym e) ∙ i.backs);
      waits = record { last = w0.last; report = w0.report; released = w0.released; kept_of = w0.kept_of; back_of = w0.back_of.1 };
      own = w0.back_of.0;
    })
