-- The rows of the child's table keep the order of events, and so does a break.
use Rattle.std.proofs.Common.{ℕ, suc, ◌≡◌, ◌+◌, refl, sym, ◌∙◌, ap, subst, List, [], ◌∷◌, ◌++◌, length, Bool, true, false, not, ◌&&◌, ◌||◌, Option, Some, None, is_some, ◌⊎◌, inl, inr, if◌then◌else◌, nat_lt, ◌==◌, append_assoc, zero-add}
use Rattle.nk_base.specs.declared.status.Status.{Status}
use Rattle.nk_base.specs.declared.status.Target.{Target}
use Rattle.nk_base.specs.declared.status.RetargetError.{RetargetError}
use Rattle.nk_base.specs.declared.message.MainMsg.{MainMsg}
use Rattle.nk_base.specs.declared.message.BackMsg.{BackMsg}
use Rattle.nk_base.specs.declared.message.UpMsg.{UpMsg}
use Rattle.nk_base.specs.declared.message.Entry.{Entry}
use Rattle.nk_plan.specs.declared.plan.ChannelPlan.{ChannelPlan}
use Rattle.nk_plan.specs.declared.plan.Reaction.{Reaction}
use Rattle.nk_plan.specs.declared.plan.Act.{Act}
use Rattle.nk_plan.specs.declared.journal.ChildEntry.{ChildEntry}
use Rattle.nk_base.specs.Status.{ok, is_failure, kept_status, merged, failure, or_else}
use Rattle.nk_plan.specs.Plan.{hop_at, hop_pieces, EndsWell, stop_trailers}
use Rattle.nk_plan.specs.Trace.{SeqTrace}
use Rattle.nk_plan.specs.Parent.{size_of}
use Rattle.nk_base.specs.Queue.{Taken, Event, Over, Ended, same_target, is_target, target_in, runs_now, has_some, running_now, appended, completed, cleared, taken}
use Rattle.nk_plan.specs.Journal.{failure_in, first, is_redirect3, final, opening_in, is_true, cut, main_in, back_in}
use Rattle.nk_plan.specs.declared.event.ChildEvent.{ChildEvent}
use Rattle.nk_plan.specs.declared.event.ChildEvent.TheVariants.{Start, Bytes, Stop, Redirect1, Redirect3, Cancel}
use Rattle.nk_plan.specs.Event.{class_of}
use Rattle.nk_plan.specs.Child.{ChildState, run_bytes, run_event, offer_event, offer_all, with_entry, call_suspend, call_resume, call_cancel, refusal, call_retarget, is_empty, call_break, perform_call, step_verdict, flush_with, step_begin, runs_on, react, react_all, bytes_failure, prepend_cancel, fail_data, finish_event, step_finish}
use Rattle.nk_laws.proofs.Tools.{keeps_if, append_nil, none_has}
use Rattle.nk_base.specs.declared.status.Target.TheVariants as target
use Rattle.nk_base.specs.declared.message.Entry.TheVariants as shown
use Rattle.nk_plan.specs.declared.plan.Reaction.TheVariants as reaction
use Rattle.nk_plan.specs.declared.plan.Act.TheVariants as act
use Rattle.nk_plan.specs.declared.journal.ChildEntry.TheVariants as child
use Rattle.nk_laws.proofs.Order.{Place, AtHop, InBody, AtEnd, Legal, strip, NotCancel, NoCancel, data_entries, BodyFits, Fits, opening_at, Says, stops, Around, Holds, Keeps, or_else_none, says_new, says_failure, says_same, KeptFails, first_fails, merged_kept_fails, none_kept, no_cancel_then, first_if_none, first_then_event, merged_says, merged_none, merged_good, merged_some, entries_then, size_then, follows_seen}

-- Running an event

opened_says : (kept : Option Status) (x : Bool) → (x ≡ true → kept ≡ None → ⊥) → ((kept_status kept ≡ ok) × (x ≡ false)) ⊎ (Some (kept_status kept) ≡ kept)
opened_says None true h = absurd (h refl refl)
opened_says None false h = inl (refl, refl)
opened_says (Some q) x h = inr refl

opened_by : (h : ℕ) (x : Bool) → or_else (opening_at (AtHop h) x) (Some false) ≡ Some x
opened_by h true = refl
opened_by h false = refl

merged_stays : (x : Bool) (kept : Option Status) (st : Status) → (x ≡ true → kept ≡ None → ⊥) → x ≡ true → merged kept st ≡ None → ⊥
merged_stays x kept st h e n = h e (merged_none kept st n)

start_runs : (c : ChannelPlan) (a : Around) (pend w : List ChildEvent) (t : Target) (code : ℕ) (st : Status) (s : ChildState)
    → Holds c a pend (Start code st ∷ w) s → Holds c a pend w (run_event c t (Start code st) s)
start_runs c a pend w t code st s (InBody o ps, l, n, f, j, h, b, z) = absurd l
start_runs c a pend w t code st s (AtEnd, l, n, f, j, h, b, z) = absurd l
start_runs c a pend w t code st s (AtHop i, l, n, f, j, h, b, z) =
    let k = merged s.kept st in (
      InBody 0 (hop_pieces (hop_at c a.final)),
      l.2,
      first_if_none w n,
      (
        record {
          code = code;
          status = kept_status k;
          seen = [];
          left = hop_pieces (hop_at c a.final);
          shows = ap (λ u. u ++ shown.Start code (kept_status k) ∷ []) f.0;
          code_is = l.1;
          all = refl;
          good = λ e. (refl, refl);
          opening = elim (opened_says k a.cut (merged_stays a.cut s.kept st f.3)) [ inl e ↦ inl e | inr e ↦ inr (e, refl) ];
          at_hop = f.1 ∙ l.0;
        },
        f.2,
      ),
      says_new s.journal (child.RunStart t code (kept_status k)) s.kept k s.hop s.hop _ (Some a.cut) a.mains a.mains a.backs a.backs
          (merged_says s.kept st k refl) refl (opened_by i a.cut) (append_nil a.mains) (append_nil a.backs) j,
      h,
      b,
      z,
    )

body_merge : (c : ChannelPlan) (f : ℕ) (x : Bool) (o : ℕ) (ps : List (List ℕ)) (trace : List Entry) (kept : Option Status) (hop : ℕ) (st : Status) (k : Option Status)
    → merged kept st ≡ k → BodyFits c f x o ps trace kept hop → BodyFits c f x o ps trace k hop
body_merge c f x o ps trace kept hop st k e b = record {
  code = b.code;
  status = b.status;
  seen = b.seen;
  left = b.left;
  shows = b.shows;
  code_is = b.code_is;
  all = b.all;
  at_hop = b.at_hop;
  good = λ n. b.good (merged_none kept st (e ∙ n));
  opening = elim b.opening [ inl y ↦ inl y | inr y ↦ inr (merged_some kept st b.status k e y.0, y.1) ];
}

body_drop : (c : ChannelPlan) (f : ℕ) (x : Bool) (o o' : ℕ) (ps ps' : List (List ℕ)) (trace : List Entry) (q : Status) (hop : ℕ)
    → BodyFits c f x o ps trace (Some q) hop → BodyFits c f x o' ps' trace (Some q) hop
body_drop c f x o o' ps ps' trace q hop b = record {
  code = b.code;
  status = b.status;
  seen = b.seen;
  left = b.left;
  shows = b.shows;
  code_is = b.code_is;
  all = b.all;
  at_hop = b.at_hop;
  good = λ n. cc;
  opening = b.opening;
}

body_more : (c : ChannelPlan) (f : ℕ) (x : Bool) (o at : ℕ) (p q : List ℕ) (ps : List (List ℕ)) (trace : List Entry) (hop : ℕ)
    → at ≡ o → p ≡ q → BodyFits c f x o (q ∷ ps) trace None hop → BodyFits c f x (o + length p) ps (trace ++ shown.Bytes at p ∷ []) None hop
body_more c f x o at p q ps trace hop ea ep b =
    let g : (b.left ≡ q ∷ ps) × (size_of b.seen ≡ o) = b.good refl in
    record {
      code = b.code;
      status = b.status;
      seen = b.seen ++ p ∷ [];
      left = ps;
      shows = ap (λ u. u ++ shown.Bytes at p ∷ []) b.shows
          ∙ ap (λ u. shown.Start b.code b.status ∷ u)
          (ap (λ u. data_entries 0 b.seen ++ shown.Bytes u p ∷ []) (ea ∙ (sym g.1 ∙ sym (zero-add (size_of b.seen)))) ∙ sym (entries_then 0 b.seen p));
      code_is = b.code_is;
      all = append_assoc b.seen (p ∷ []) ps ∙ (ap (λ u. b.seen ++ u) (ap (λ u. u ∷ ps) ep ∙ sym g.0) ∙ b.all);
      good = λ n. (refl, size_then b.seen p ∙ ap (λ u. u + length p) g.1);
      opening = elim b.opening [ inl y ↦ inl y | inr y ↦ let z : Some b.status ≡ None = y.0 in absurd (cc) ];
      at_hop = b.at_hop;
    }

bytes_after : (c : ChannelPlan) (a : Around) (pend w : List ChildEvent) (t : Target) (at o : ℕ) (p q : List ℕ) (ps : List (List ℕ)) (st : Status) (s : ChildState) (k : Option Status)
    → merged s.kept st ≡ k → at ≡ o → p ≡ q → Legal c a.final a.cut (InBody (o + length p) ps) (strip (w ++ pend)) → NoCancel w
    → BodyFits c a.final a.cut o (q ∷ ps) s.trace s.kept s.hop → s.stopped ≡ false → Says s.journal s.kept s.hop (Some a.cut) a.mains a.backs
    → s.hold ≡ a.hold → s.broken ≡ a.broken → stops (strip (w ++ pend)) s.stopped ≡ a.ends → Holds c a pend w (run_bytes s t at p k st)
bytes_after c a pend w t at o p q ps st s None e ea ep l n f g j h b z =
    let none : s.kept ≡ None = merged_none s.kept st e in (
      InBody (o + length p) ps,
      l,
      first_if_none w n,
      (body_more c a.final a.cut o at p q ps s.trace s.hop ea ep (rw none at f), g),
      says_same s.journal (child.RunBytes t at (length p)) None s.hop (Some a.cut) a.mains a.backs refl refl refl refl refl (rw none at j),
      h,
      b,
      z,
    )
bytes_after c a pend w t at o p q ps st s (Some d) e ea ep l n f g j h b z = (
  InBody (o + length p) ps,
  l,
  first_if_none w n,
  (body_drop c a.final a.cut o (o + length p) (q ∷ ps) ps s.trace d s.hop (body_merge c a.final a.cut o (q ∷ ps) s.trace s.kept s.hop st (Some d) e f), g),
  says_failure s.journal (child.RunDrop t at d) s.kept (Some d) s.hop (Some a.cut) a.mains a.backs (merged_says s.kept st (Some d) e) refl refl refl refl j,
  h,
  b,
  z,
)

bytes_runs : (c : ChannelPlan) (a : Around) (pend w : List ChildEvent) (t : Target) (at : ℕ) (p : List ℕ) (st : Status) (s : ChildState)
    → Holds c a pend (Bytes at p st ∷ w) s → Holds c a pend w (run_event c t (Bytes at p st) s)
bytes_runs c a pend w t at p st s (AtHop i, l, n, f, j, h, b, z) = absurd l
bytes_runs c a pend w t at p st s (AtEnd, l, n, f, j, h, b, z) = absurd l
bytes_runs c a pend w t at p st s (InBody o [], l, n, f, j, h, b, z) = absurd l.1
bytes_runs c a pend w t at p st s (InBody o (q ∷ ps), l, n, f, j, h, b, z) =
    bytes_after c a pend w t at o p q ps st s (merged s.kept st) refl l.0 l.1.0 l.1.1 n f.0 f.1 j h b z

-- a body that ends is a whole trace
stop_shows : (c : ChannelPlan) (f : ℕ) (x : Bool) (o : ℕ) (ps : List (List ℕ)) (trace : List Entry) (k : Option Status) (hop : ℕ) (b : BodyFits c f x o ps trace k hop)
    → KeptFails k → (k ≡ None → (ps ≡ []) × EndsWell (hop_at c f)) → hop ≡ f
    → SeqTrace c f k x (trace ++ shown.Stop (kept_status k) (stop_trailers c hop (kept_status k)) ∷ [])
stop_shows c f x o ps trace k hop b kf g eh =
    rw b.shows (
      b.code_is,
      elim b.opening [
        | inl y ↦ inl y
        | inr y ↦ inr (y.0, rw y.1 tt)
      ],
      rw (← b.all)
          (follows_seen c f k 0 b.seen b.left (shown.Stop (kept_status k) (stop_trailers c hop (kept_status k)) ∷ [])
          (refl, refl, (λ o. let n = none_kept k kf o in ((b.good n).0 ∙ (g n).0, (g n).1)), rw eh refl)),
    )

stop_runs : (c : ChannelPlan) (a : Around) (pend w : List ChildEvent) (t : Target) (st : Status) (s : ChildState)
    → Holds c a pend (Stop st ∷ w) s → Holds c a pend w (run_event c t (Stop st) s)
stop_runs c a pend w t st s (AtHop i, l, n, f, j, h, b, z) = absurd l
stop_runs c a pend w t st s (AtEnd, l, n, f, j, h, b, z) = absurd l
stop_runs c a pend w t st s (InBody o ps, l, n, f, j, h, b, z) =
    let k = merged s.kept st in (
      AtEnd,
      l.1,
      first_if_none w n,
      (
        stop_shows c a.final a.cut o ps s.trace k s.hop (body_merge c a.final a.cut o ps s.trace s.kept s.hop st k refl f.0)
            (merged_kept_fails s.kept st (subst KeptFails j.first_is (first_fails s.journal)))
            (λ e. let none : s.kept ≡ None = merged_none s.kept st e in l.0 (merged_good st (rw none at e))) f.0.at_hop,
        f.0.at_hop,
        refl,
        n,
        tt,
      ),
      says_failure s.journal (child.RunStop t (kept_status k)) s.kept k s.hop (Some a.cut) a.mains a.backs (merged_says s.kept st k refl) refl refl refl refl j,
      h,
      b,
      z,
    )

redirect1_runs : (c : ChannelPlan) (a : Around) (pend w : List ChildEvent) (t : Target) (i : ℕ) (s : ChildState)
    → Holds c a pend (Redirect1 i ∷ w) s → Holds c a pend w (run_event c t (Redirect1 i) s)
redirect1_runs c a pend w t i s (AtHop o, l, n, f, j, h, b, z) =
    (AtHop o, l, first_if_none w n, f, says_same s.journal (child.RunRedirect1 t i) s.kept s.hop _ a.mains a.backs refl refl refl refl refl j, h, b, z)
redirect1_runs c a pend w t i s (InBody o ps, l, n, f, j, h, b, z) =
    (InBody o ps, l, first_if_none w n, f, says_same s.journal (child.RunRedirect1 t i) s.kept s.hop _ a.mains a.backs refl refl refl refl refl j, h, b, z)
redirect1_runs c a pend w t i s (AtEnd, l, n, (f, g, d, m, r), j, h, b, z) =
    (AtEnd, l, first_if_none w n, (f, g, d, m.1, r), says_same s.journal (child.RunRedirect1 t i) s.kept s.hop _ a.mains a.backs refl refl refl refl refl j, h, b, z)

opening_next : (i : ℕ) (x : Bool) → opening_at (AtHop i) x ≡ opening_at (AtHop (suc i)) x
opening_next i true = refl
opening_next i false = refl

redirect3_runs : (c : ChannelPlan) (a : Around) (pend w : List ChildEvent) (t : Target) (i : ℕ) (s : ChildState)
    → Holds c a pend (Redirect3 i ∷ w) s → Holds c a pend w (run_event c t (Redirect3 i) s)
redirect3_runs c a pend w t i s (InBody o ps, l, n, f, j, h, b, z) = absurd l
redirect3_runs c a pend w t i s (AtEnd, l, n, f, j, h, b, z) = absurd l
redirect3_runs c a pend w t i s (AtHop o, l, n, (f, g, d, m), j, h, b, z) = (
  AtHop (suc o),
  l,
  first_if_none w n,
  (f, ap suc g, d, m),
  says_new s.journal (child.RunRedirect3 t i) s.kept s.kept s.hop (suc s.hop) _ _ a.mains a.mains a.backs a.backs
      (or_else_none s.kept) refl (or_else_none (opening_at (AtHop o) a.cut) ∙ opening_next o a.cut) (append_nil a.mains) (append_nil a.backs) j,
  h,
  b,
  z,
)

pub cancel_says : (kept : Option Status) (st : Status) → or_else kept (failure st) ≡ merged kept st
cancel_says None st = refl
cancel_says (Some q) st = refl

cancel_runs : (c : ChannelPlan) (a : Around) (pend w : List ChildEvent) (t : Target) (st : Status) (s : ChildState)
    → Holds c a pend (Cancel st ∷ w) s → Holds c a pend w (run_event c t (Cancel st) s)
cancel_runs c a pend w t st s (AtHop o, l, n, (f, g, d, m), j, h, b, z) = (
  AtHop o,
  l,
  n,
  (f, g, d, merged_stays a.cut s.kept st m),
  says_failure s.journal (child.RunCancel t st) s.kept (merged s.kept st) s.hop _ a.mains a.backs (cancel_says s.kept st) refl refl refl refl j,
  h,
  b,
  z,
)
cancel_runs c a pend w t st s (InBody o ps, l, n, (f, g), j, h, b, z) = (
  InBody o ps,
  l,
  n,
  (body_merge c a.final a.cut o ps s.trace s.kept s.hop st (merged s.kept st) refl f, g),
  says_failure s.journal (child.RunCancel t st) s.kept (merged s.kept st) s.hop _ a.mains a.backs (cancel_says s.kept st) refl refl refl refl j,
  h,
  b,
  z,
)
cancel_runs c a pend w t st s (AtEnd, l, n, (f, g, d, m, r), j, h, b, z) = absurd m.0

run_keeps : (c : ChannelPlan) (a : Around) (pend w : List ChildEvent) (t : Target) (e : ChildEvent) (s : ChildState)
    → Holds c a pend (e ∷ w) s → Holds c a pend w (run_event c t e s)
run_keeps c a pend w t (Start code st) s k = start_runs c a pend w t code st s k
run_keeps c a pend w t (Bytes at p st) s k = bytes_runs c a pend w t at p st s k
run_keeps c a pend w t (Stop st) s k = stop_runs c a pend w t st s k
run_keeps c a pend w t (Redirect1 i) s k = redirect1_runs c a pend w t i s k
run_keeps c a pend w t (Redirect3 i) s k = redirect3_runs c a pend w t i s k
run_keeps c a pend w t (Cancel st) s k = cancel_runs c a pend w t st s k

bytes_waiting : (s : ChildState) (t : Target) (at : ℕ) (p : List ℕ) (k : Option Status) (st : Status) → (run_bytes s t at p k st).queue.waiting ≡ s.queue.waiting
bytes_waiting s t at p None st = refl
bytes_waiting s t at p (Some q) st = refl

pub run_waiting : (c : ChannelPlan) (t : Target) (e : ChildEvent) (s : ChildState) → (run_event c t e s).queue.waiting ≡ s.queue.waiting
run_waiting c t (Start code st) s = refl
run_waiting c t (Bytes at p st) s = bytes_waiting s t at p (merged s.kept st) st
run_waiting c t (Stop st) s = refl
run_waiting c t (Redirect1 i) s = refl
run_waiting c t (Redirect3 i) s = refl
run_waiting c t (Cancel st) s = refl

-- Offering events

pub idle_empty : (a b d e g : Bool) → (not (a || (b || (d || e))) && g) ≡ true → e ≡ false
idle_empty true b d e g h = cc
idle_empty false true d e g h = cc
idle_empty false false true e g h = cc
idle_empty false false false true g h = cc
idle_empty false false false false g h = refl

fits_then : (c : ChannelPlan) (f : ℕ) (x : Bool) (pl : Place) (w : List ChildEvent) (e : ChildEvent) (trace : List Entry) (kept : Option Status) (hop : ℕ) (stopped : Bool) (running : Option (Target × ChildEvent))
    → NotCancel e → Fits c f x pl w trace kept hop stopped running → Fits c f x pl (w ++ e ∷ []) trace kept hop stopped running
fits_then c f x (AtHop h) w e trace kept hop stopped running n k = k
fits_then c f x (InBody o ps) w e trace kept hop stopped running n k = k
fits_then c f x AtEnd w e trace kept hop stopped running n (a, b, d, m, r) = (a, b, d, no_cancel_then w e m n, r)

-- an event to come may wait behind the others
queued : (c : ChannelPlan) (a : Around) (pend w : List ChildEvent) (e : ChildEvent) (s : ChildState)
    → NotCancel e → Holds c a (e ∷ pend) w s → Holds c a pend (w ++ e ∷ []) s
queued c a pend w e s n (pl, l, m, f, j, h, b, z) = (
  pl,
  rw (append_assoc w (e ∷ []) pend) l,
  first_then_event w e m n,
  fits_then c a.final a.cut pl w e s.trace s.kept s.hop s.stopped s.running n f,
  j,
  h,
  b,
  rw (append_assoc w (e ∷ []) pend) z,
)

offered_keeps : (c : ChannelPlan) (a : Around) (pend : List ChildEvent) (here : Target) (e : ChildEvent) (s : ChildState)
    → NotCancel e → Keeps c a (e ∷ pend) s → Keeps c a pend (offer_event c here e s)
offered_keeps c a pend here e s n k =
    keeps_if (Keeps c a pend) (runs_now class_of s.queue e here) (run_event c here e (record s { queue = running_now s.queue here })) (record s { queue = appended class_of s.queue e })
    (λ r.
    let w0 : s.queue.waiting ≡ [] = none_has s.queue.waiting
    (idle_empty (nat_lt 0 s.queue.forced) s.queue.suspended (is_some s.queue.flushing) (has_some s.queue.waiting) (same_target (target_in s.queue.data_target (class_of e)) here) r) in
    let s1 : ChildState = record s { queue = running_now s.queue here } in
    let first : Holds c a (e ∷ pend) [] s = subst (λ w. Holds c a (e ∷ pend) w s) w0 k in
    let ran : Holds c a pend [] (run_event c here e s1) = run_keeps c a pend [] here e s1 (queued c a pend [] e s n first) in
    subst (λ w. Holds c a pend w (run_event c here e s1)) (sym (run_waiting c here e s1 ∙ w0)) ran)
    (λ r. queued c a pend s.queue.waiting e s n k)

pub offered_all_keeps : (c : ChannelPlan) (a : Around) (pend : List ChildEvent) (here : Target) (es : List ChildEvent) (s : ChildState)
    → NoCancel es → Keeps c a (es ++ pend) s → Keeps c a pend (offer_all c here es s)
offered_all_keeps c a pend here [] s n k = k
offered_all_keeps c a pend here (e ∷ es) s n k =
    offered_all_keeps c a pend here es (offer_event c here e s) n.1 (offered_keeps c a (es ++ pend) here e s n.0 k)

-- The calls of the page

-- an entry that says nothing to the law
pub same_entry : (c : ChannelPlan) (a : Around) (pend w : List ChildEvent) (s : ChildState) (e : ChildEntry)
    → failure_in e ≡ None → is_redirect3 e ≡ false → opening_in e ≡ None → main_in e ≡ [] → back_in e ≡ []
    → Holds c a pend w s → Holds c a pend w (with_entry e s)
same_entry c a pend w s e r1 r2 r3 r4 r5 (pl, l, m, f, j, h, b, z) =
    (pl, l, m, f, says_same s.journal e s.kept s.hop (opening_at pl a.cut) a.mains a.backs r1 r2 r3 r4 r5 j, h, b, z)

cancelled_keeps : (c : ChannelPlan) (a : Around) (pend w : List ChildEvent) (s : ChildState) (st : Status)
    → s.stopped ≡ false → Holds c a pend w s → Holds c a pend w (call_cancel st s)
cancelled_keeps c a pend w s st e (AtHop o, l, n, (f, g, d, m), j, h, b, z) = (
  AtHop o,
  l,
  n,
  (f, g, d, merged_stays a.cut s.kept st m),
  says_failure s.journal (child.Cancel st) s.kept (merged s.kept st) s.hop _ a.mains a.backs (cancel_says s.kept st) refl refl refl refl j,
  h,
  b,
  z,
)
cancelled_keeps c a pend w s st e (InBody o ps, l, n, (f, g), j, h, b, z) = (
  InBody o ps,
  l,
  n,
  (body_merge c a.final a.cut o ps s.trace s.kept s.hop st (merged s.kept st) refl f, g),
  says_failure s.journal (child.Cancel st) s.kept (merged s.kept st) s.hop _ a.mains a.backs (cancel_says s.kept st) refl refl refl refl j,
  h,
  b,
  z,
)
cancelled_keeps c a pend w s st e (AtEnd, l, n, (f, g, d, m, r), j, h, b, z) = let no : s.stopped ≡ true = d in cc

pub or_false : (a b : Bool) → (a || b) ≡ false → a ≡ false
or_false true b h = h
or_false false b h = refl

retarget_keeps : (c : ChannelPlan) (a : Around) (pend : List ChildEvent) (o : Option RetargetError) (n : ℕ) (s : ChildState) → Keeps c a pend s → Keeps c a pend (call_retarget o n s)
retarget_keeps c a pend (Some e) n s k = same_entry c a pend _ s (child.NoRetarget e) refl refl refl refl refl k
retarget_keeps c a pend None n s k = same_entry c a pend _ s (child.Retarget n) refl refl refl refl refl k

abbrev pub NotBreak : Act → Type 0
NotBreak act.Suspend = Unit {0}
NotBreak act.Resume = Unit {0}
NotBreak (act.Cancel st) = Unit {0}
NotBreak (act.Retarget n) = Unit {0}
NotBreak (act.Break st) = ⊥

pub performed_keeps : (c : ChannelPlan) (a : Around) (pend : List ChildEvent) (x : Act) (s : ChildState) → NotBreak x → Keeps c a pend s → Keeps c a pend (perform_call c x s)
performed_keeps c a pend act.Suspend s n k =
    keeps_if (Keeps c a pend) s.stopped (with_entry child.NoEffect s) (call_suspend s)
    (λ r. same_entry c a pend _ s child.NoEffect refl refl refl refl refl k)
    (λ r. same_entry c a pend _ s child.Suspend refl refl refl refl refl k)
performed_keeps c a pend act.Resume s n k =
    keeps_if (Keeps c a pend) (s.stopped || (s.suspends == 0)) (with_entry child.NoEffect s) (call_resume s)
    (λ r. same_entry c a pend _ s child.NoEffect refl refl refl refl refl k)
    (λ r. same_entry c a pend _ s child.Resume refl refl refl refl refl k)
performed_keeps c a pend (act.Cancel st) s n k =
    keeps_if (Keeps c a pend) (s.stopped || is_some s.kept) (with_entry child.NoEffect s) (call_cancel st s)
    (λ r. same_entry c a pend _ s child.NoEffect refl refl refl refl refl k)
    (λ r. cancelled_keeps c a pend _ s st (or_false s.stopped (is_some s.kept) r) k)
performed_keeps c a pend (act.Retarget i) s n k = retarget_keeps c a pend (refusal c s) i s k
performed_keeps c a pend (act.Break st) s n k = absurd n

-- Beginning and finishing

taken_keeps : (c : ChannelPlan) (a : Around) (pend w : List ChildEvent) (t : Target) (s : ChildState)
    → Holds c a pend w s → Keeps c a pend s → Keeps c a pend (flush_with c t (taken class_of s.queue t w) s)
taken_keeps c a pend [] t s h k = same_entry c a pend _ s (child.Ended t) refl refl refl refl refl k
taken_keeps c a pend (e ∷ es) t s h k =
    let P : Taken ChildEvent → Type 0 = λ x. Keeps c a pend (flush_with c t x s) in
    let u : Target = target_in s.queue.data_target (class_of e) in
    keeps_if P (s.queue.suspended || nat_lt 0 s.queue.forced) Ended (if same_target u t then Event e es else Over u)
    (λ r. same_entry c a pend _ s (child.Ended t) refl refl refl refl refl k)
    (λ r. keeps_if P (same_target u t) (Event e es) (Over u)
    (λ q.
    let s1 : ChildState = record s { queue = record s.queue { waiting = es } } in
    subst (λ x. Holds c a pend x (run_event c t e s1)) (sym (run_waiting c t e s1)) (run_keeps c a pend es t e s1 h))
    (λ q. same_entry c a pend _ s (child.HandOver t u) refl refl refl refl refl k))

pub begun_keeps : (c : ChannelPlan) (a : Around) (pend : List ChildEvent) (t : Target) (s : ChildState) → Keeps c a pend s → Keeps c a pend (step_begin c t s)
begun_keeps c a pend t s k =
    keeps_if (Keeps c a pend) (runs_on s.running t) s _ (λ r. k)
    (λ r. keeps_if (Keeps c a pend) (is_target s.queue.flushing t) (flush_with c t (taken class_of s.queue t s.queue.waiting) s) _
    (λ q. taken_keeps c a pend s.queue.waiting t s k k)
    (λ q. keeps_if (Keeps c a pend) _ (record s { queue = completed s.queue t; journal = s.journal ++ child.Complete t ∷ [] }) s
    (λ p. same_entry c a pend _ s (child.Complete t) refl refl refl refl refl k) (λ p. k)))

reacted_keeps : (c : ChannelPlan) (a : Around) (pend : List ChildEvent) (r : Reaction) (s : ChildState) → Keeps c a pend s → Keeps c a pend (react c r s)
reacted_keeps c a pend (reaction.StartRetarget n) s k = performed_keeps c a pend (act.Retarget n) s tt k
reacted_keeps c a pend reaction.StartSuspend s k = performed_keeps c a pend act.Suspend s tt k
reacted_keeps c a pend (reaction.StartCancel st) s k = performed_keeps c a pend (act.Cancel st) s tt k
reacted_keeps c a pend (reaction.StartFail st) s k = performed_keeps c a pend (act.Cancel st) s tt k
reacted_keeps c a pend (reaction.BytesFail n st) s k = k

reacted_all_keeps : (c : ChannelPlan) (a : Around) (pend : List ChildEvent) (rs : List Reaction) (s : ChildState) → Keeps c a pend s → Keeps c a pend (react_all c rs s)
reacted_all_keeps c a pend [] s k = k
reacted_all_keeps c a pend (r ∷ rs) s k = reacted_all_keeps c a pend rs (react c r s) (reacted_keeps c a pend r s k)

-- nothing runs any more
idle_keeps : (c : ChannelPlan) (a : Around) (pend w : List ChildEvent) (s : ChildState) → Holds c a pend w s → Holds c a pend w (record s { running = None })
idle_keeps c a pend w s (AtHop o, l, n, f, j, h, b, z) = (AtHop o, l, n, f, j, h, b, z)
idle_keeps c a pend w s (InBody o ps, l, n, f, j, h, b, z) = (InBody o ps, l, n, f, j, h, b, z)
idle_keeps c a pend w s (AtEnd, l, n, (f, g, d, m, r), j, h, b, z) = (AtEnd, l, n, (f, g, d, m, tt), j, h, b, z)

-- while data run the trace has no stop, so a cancel may be put in front
cancel_in_front : (c : ChannelPlan) (a : Around) (pend w : List ChildEvent) (s : ChildState) (u : Target) (at : ℕ) (p : List ℕ) (st st' : Status)
    → s.running ≡ Some (u, Bytes at p st) → Holds c a pend w s → Holds c a pend (Cancel st' ∷ w) s
cancel_in_front c a pend w s u at p st st' e (AtHop o, l, n, f, j, h, b, z) = (AtHop o, l, n, f, j, h, b, z)
cancel_in_front c a pend w s u at p st st' e (InBody o ps, l, n, f, j, h, b, z) = (InBody o ps, l, n, f, j, h, b, z)
cancel_in_front c a pend w s u at p st st' e (AtEnd, l, n, (f, g, d, m, r), j, h, b, z) = absurd (rw e at r)

finish_entry : (c : ChannelPlan) (a : Around) (pend w : List ChildEvent) (t : Target) (s : ChildState) → Holds c a pend w s
    → Holds c a pend w (record s { running = None; finished = suc s.finished; journal = s.journal ++ child.Finish t ∷ [] })
finish_entry c a pend w t s k = same_entry c a pend w (record s { running = None }) (child.Finish t) refl refl refl refl refl (idle_keeps c a pend w s k)

failed_keeps : (c : ChannelPlan) (a : Around) (pend : List ChildEvent) (t u : Target) (at : ℕ) (p : List ℕ) (st : Status) (o : Option Status) (s : ChildState) (m : List UpMsg)
    → s.running ≡ Some (u, Bytes at p st) → Keeps c a pend s
    → Keeps c a pend (fail_data c t o (record s { running = None; finished = suc s.finished; journal = s.journal ++ child.Finish t ∷ []; sent = m }))
failed_keeps c a pend t u at p st None s m e k = finish_entry c a pend _ t s k
failed_keeps c a pend t u at p st (Some d) s m e k =
    let s1 : ChildState = record s { running = None; finished = suc s.finished; journal = s.journal ++ child.Finish t ∷ []; sent = m } in
    keeps_if (Keeps c a pend) (same_target t target.Main) (perform_call c (act.Cancel d) s1) (prepend_cancel d s1)
    (λ r. performed_keeps c a pend (act.Cancel d) s1 tt (finish_entry c a pend _ t s k))
    (λ r. same_entry c a pend _ s1 (child.Prepend d) refl refl refl refl refl
    (finish_entry c a pend _ t s (cancel_in_front c a pend _ s u at p st d e k)))

pub finished_keeps : (c : ChannelPlan) (a : Around) (pend : List ChildEvent) (t : Target) (o : Option (Target × ChildEvent)) (s : ChildState)
    → s.running ≡ o → Keeps c a pend s → Keeps c a pend (step_finish c t o s)
finished_keeps c a pend t None s e k = k
finished_keeps c a pend t (Some (u, Start code st)) s e k =
    let s1 : ChildState = record s { running = None; finished = suc s.finished; journal = s.journal ++ child.Finish t ∷ [] } in
    keeps_if (Keeps c a pend) (same_target u t) (finish_event c t (Start code st) s1) s
    (λ r. reacted_all_keeps c a pend c.reactions s1 (finish_entry c a pend _ t s k)) (λ r. k)
finished_keeps c a pend t (Some (u, Bytes at p st)) s e k =
    let s1 : ChildState = record s { running = None; finished = suc s.finished; journal = s.journal ++ child.Finish t ∷ [] } in
    keeps_if (Keeps c a pend) (same_target u t) (finish_event c t (Bytes at p st) s1) s
    (λ r. failed_keeps c a pend t u at p st (bytes_failure c.reactions s.data_begun) s _ e k) (λ r. k)
finished_keeps c a pend t (Some (u, Stop st)) s e k =
    keeps_if (Keeps c a pend) (same_target u t) _ s (λ r. finish_entry c a pend _ t s k) (λ r. k)
finished_keeps c a pend t (Some (u, Redirect1 i)) s e k =
    keeps_if (Keeps c a pend) (same_target u t) _ s (λ r. finish_entry c a pend _ t s k) (λ r. k)
finished_keeps c a pend t (Some (u, Redirect3 i)) s e k =
    keeps_if (Keeps c a pend) (same_target u t) _ s (λ r. finish_entry c a pend _ t s k) (λ r. k)
finished_keeps c a pend t (Some (u, Cancel st)) s e k =
    keeps_if (Keeps c a pend) (same_target u t) _ s (λ r. finish_entry c a pend _ t s k) (λ r. k)

pub verdict_keeps : (c : ChannelPlan) (a : Around) (pend : List ChildEvent) (o : Option ℕ) (s : ChildState) → Keeps c a pend s → Keeps c a pend (step_verdict c o s)
verdict_keeps c a pend None s k = k
verdict_keeps c a pend (Some i) s k = same_entry c a pend _ s (child.Verdict i _) refl refl refl refl refl k

-- A break: what waits is dropped, and a start, where none was shown, and a stop come in its place

abbrev pub Broken : ChannelPlan → Around → ChildState → Type 0
Broken c a s = (f : ℕ) × (x : Bool) × Keeps c (record { final = f; cut = x; hold = a.hold; broken = true; ends = true; mains = a.mains; backs = a.backs }) [] s × (x ≡ false → f ≡ a.final)

fails : (st : Status) → is_failure st ≡ true → (P : Type 0) → is_failure st ≡ false → P
fails st e P n = let no : true ≡ false = sym e ∙ n in cc

pub merged_fails : (kept : Option Status) (st : Status) → is_failure st ≡ true → merged kept st ≡ None → ⊥
merged_fails None st e n = fails st e ⊥ (merged_good st n)
merged_fails (Some q) st e n = cc

broken_says : (j : List ChildEntry) (st : Status) (kept : Option Status) (hop : ℕ) (o o' : Option Bool) (md : List MainMsg) (bd : List BackMsg)
    → or_else o (Some true) ≡ o' → Says j kept hop o md bd → Says (j ++ child.Break st ∷ []) (merged kept st) hop o' md bd
broken_says j st kept hop o o' md bd e s = says_new j (child.Break st) kept (merged kept st) hop hop o o' md md bd bd (cancel_says kept st) refl e (append_nil md) (append_nil bd) s

pub broken_keeps : (c : ChannelPlan) (a : Around) (pend w : List ChildEvent) (st : Status) (s : ChildState)
    → a.cut ≡ false → s.stopped ≡ false → is_failure st ≡ true → Holds c a pend w s → Broken c a (call_break c st s)
broken_keeps c a pend w st s nc ns sf (AtEnd, l, n, (f, g, d, m, r), j, h, b, z) = let no : s.stopped ≡ true = d in cc
broken_keeps c a pend w st s nc ns sf (AtHop i, l, n, (f, g, d, m), j, h, b, z) =
    let s1 : ChildState = record s { broken = true; kept = merged s.kept st; queue = cleared s.queue; journal = s.journal ++ child.Break st ∷ [] } in
    let a1 : Around = record { final = i; cut = true; hold = a.hold; broken = true; ends = true; mains = a.mains; backs = a.backs } in
    let j0 : Says s.journal s.kept s.hop (opening_at (AtHop i) false) a.mains a.backs = rw nc at j in
    let k1 : Keeps c a1 ((Start 0 st ∷ Stop st ∷ []) ++ []) s1 = (
      AtHop i,
      (refl, refl, (fails st sf _, tt)),
      tt,
      (f, g, d, λ x. merged_fails s.kept st sf),
      broken_says s.journal st s.kept s.hop None (Some true) a.mains a.backs refl j0,
      h,
      refl,
      refl,
    ) in
    let e : is_empty s.trace ≡ true = rw f refl in
    (i, true, rw e (offered_all_keeps c a1 [] target.Main (Start 0 st ∷ Stop st ∷ []) s1 (tt, (tt, tt)) k1), λ x. cc)
broken_keeps c a pend w st s nc ns sf (InBody o ps, l, n, (f, g), j, h, b, z) =
    let s1 : ChildState = record s { broken = true; kept = merged s.kept st; queue = cleared s.queue; journal = s.journal ++ child.Break st ∷ [] } in
    let a1 : Around = record { final = a.final; cut = a.cut; hold = a.hold; broken = true; ends = true; mains = a.mains; backs = a.backs } in
    let k1 : Keeps c a1 ((Stop st ∷ []) ++ []) s1 = (
      InBody o ps,
      (fails st sf _, tt),
      tt,
      (body_merge c a.final a.cut o ps s.trace s.kept s.hop st (merged s.kept st) refl f, g),
      broken_says s.journal st s.kept s.hop (Some a.cut) (Some a.cut) a.mains a.backs refl j,
      h,
      refl,
      refl,
    ) in
    let e : is_empty s.trace ≡ false = rw f.shows refl in
    (a.final, a.cut, rw e (offered_all_keeps c a1 [] target.Main (Stop st ∷ []) s1 (tt, tt) k1), λ x. refl)

-- What a child has shown is a trace of one sequential channel

pub trace_of : (c : ChannelPlan) (a : Around) (pend w : List ChildEvent) (s : ChildState) → Holds c a pend w s
    → SeqTrace c (final s.journal) (first s.journal) (cut s.journal) s.trace
trace_of c a pend w s (AtHop i, l, n, (f, g, d, m), j, h, b, z) = rw f tt
trace_of c a pend w s (AtEnd, l, n, (f, g, d, m, r), j, h, b, z) =
    rw (j.final_is, j.first_is, g, ap is_true j.opening_is) f
trace_of c a pend w s (InBody o ps, l, n, (f, g), j, h, b, z) =
    rw (j.final_is, j.first_is, f.at_hop, ap is_true j.opening_is, f.shows) (
      f.code_is,
      elim f.opening [ inl y ↦ inl y | inr y ↦ inr (y.0, rw y.1 tt) ],
      rw (← f.all)
          (rw append_nil at (follows_seen c a.final s.kept 0 f.seen f.left [] tt)),
    )
