-- What a parent's journal says of its phase and of its flag, and where it waits.
use Rattle.std.proofs.Common.{ℕ, suc, ◌≡◌, ◌<◌, ◌↔◌, ◌∙◌, refl, sym, ap, List, [], ◌∷◌, ◌++◌, length, Bool, true, false, not, ◌&&◌, ◌||◌, if◌then◌else◌, Option, Some, None, is_some, ◌==◌, slice_get, pos, int_lt, ◌≤ℤ◌, ◌-ℤ◌, ℤ, arith}
use Rattle.std.proofs.lemmas.Int.{ints}
use Rattle.nk_base.specs.declared.status.Status.{Status}
use Rattle.nk_base.specs.Status.{ok, redirect_loop, or_else, kept_status}
use Rattle.nk_base.specs.declared.field.Head.{Head}
use Rattle.nk_base.specs.declared.message.MainMsg.TheVariants as main
use Rattle.nk_base.specs.declared.message.BackMsg.TheVariants as back
use Rattle.nk_base.specs.declared.message.UpMsg.{UpMsg}
use Rattle.nk_base.specs.declared.message.UpMsg.TheVariants as up
use Rattle.nk_plan.specs.declared.plan.ChannelPlan.{ChannelPlan}
use Rattle.nk_plan.specs.declared.plan.StartLane.{StartLane}
use Rattle.nk_plan.specs.declared.plan.StartLane.TheVariants as lane
use Rattle.nk_plan.specs.declared.plan.Hop.{Hop}
use Rattle.nk_plan.specs.declared.plan.Hop.TheVariants as hop
use Rattle.nk_plan.specs.declared.plan.Finish.{Finish}
use Rattle.nk_plan.specs.declared.plan.Finish.TheVariants as finish
use Rattle.nk_plan.specs.declared.journal.ParentEntry.{ParentEntry}
use Rattle.nk_plan.specs.declared.journal.ParentEntry.TheVariants as entry
use Rattle.nk_plan.specs.declared.step.ParentStep.{ParentStep}
use Rattle.nk_plan.specs.declared.step.ParentStep.TheVariants as parent
use Rattle.nk_plan.specs.declared.step.Phase.{Phase}
use Rattle.nk_plan.specs.declared.step.Phase.TheVariants.{Closed, Ready, Asking, Follow, Body, Done}
use Rattle.nk_plan.specs.Journal.{is_true, ups_taken}
use Rattle.nk_plan.specs.Plan.{hop_at, pieces_at}
use Rattle.nk_plan.specs.Parent.{ParentState, opened_phase, awaits_verdict, take_up, with_taken, start_entries, give_start, bare_head, stop_entry, offset_of, fetch_finish, fetch_piece, fetch_body, fetch_redirect, fetch_hop, complete_redirect, fetch_follow, fetch_in, parent_step, parent_after}
use Rattle.nk_plan.specs.Child.{ChildState, child_after}
use Rattle.nk_plan.specs.Enabled.{body_enabled, phase_enabled, parent_enabled}
use Rattle.nk_half_laws.specs.Settled.{SuspendsAgreeLaw, ParentEndLaw, ParentSuspendLaw, ParentRestLaw, says, last_said, ends_suspended, is_deleting, has_end, is_end, WaitsIn}
use Rattle.nk_half_laws.proofs.Suspends.{last-append, said}
use Rattle.nk_half_laws.proofs.Tools.{keeps_if}
use Rattle.std.proofs.lemmas.List.{append-nil}
use Rattle.nk_half_laws.proofs.Journals.{ups_taken-append}

-- The journal

or_assoc : (a b d : Bool) → (a || (b || d)) ≡ ((a || b) || d)
or_assoc true b d = refl
or_assoc false b d = refl

or_false : (b : Bool) → b ≡ (b || false)
or_false true = refl
or_false false = refl

or_true : (b : Bool) → true ≡ (b || true)
or_true true = refl
or_true false = refl

end-append : (xs ys : List ParentEntry) → has_end (xs ++ ys) ≡ (has_end xs || has_end ys)
end-append [] ys = refl
end-append (e ∷ xs) ys = ap (λ (b : Bool). is_end e || b) (end-append xs ys) ∙ or_assoc (is_end e) (has_end xs) (has_end ys)

abbrev is_done : Phase → Bool
is_done Closed = false
is_done Ready = false
is_done Asking = false
is_done Follow = false
is_done Body = false
is_done Done = true

record Tells (s : ParentState) : Type 0 where
  over : is_done s.phase ≡ has_end s.journal
  flag : s.suspended ≡ ends_suspended (ups_taken s.journal)

-- A message of the up lane

heard_last : (a o : Option Bool) → is_true (or_else a (Some (is_true o))) ≡ is_true (or_else a o)
heard_last None o = refl
heard_last (Some b) o = refl

took : (s s' : ParentState) (m : UpMsg) → s'.journal ≡ s.journal ++ entry.Took m ∷ []
    → is_done s'.phase ≡ (is_done s.phase || (is_deleting m || false))
    → s'.suspended ≡ is_true (or_else (says m) (Some s.suspended)) → Tells s → Tells s'
took s s' m j d f h =
    let e : has_end s'.journal ≡ (has_end s.journal || (is_deleting m || false)) =
    ap has_end j ∙ end-append s.journal (entry.Took m ∷ []) in
    let u : ups_taken s'.journal ≡ ups_taken s.journal ++ m ∷ [] = ap ups_taken j ∙ ups_taken-append s.journal (entry.Took m ∷ []) in
    let l : ends_suspended (ups_taken s'.journal) ≡ is_true (or_else (says m) (last_said (ups_taken s.journal))) =
    ap ends_suspended u ∙ ap is_true (last-append (ups_taken s.journal) (m ∷ [])) in
    record {
      over = d ∙ (ap (λ (b : Bool). b || (is_deleting m || false)) h.over ∙ sym e);
      flag = f ∙ (ap (λ (b : Bool). is_true (or_else (says m) (Some b))) h.flag
          ∙ (heard_last (says m) (last_said (ups_taken s.journal)) ∙ sym l));
    }

opened_done : (ph : Phase) → is_done (opened_phase ph) ≡ (is_done ph || false)
opened_done Closed = refl
opened_done Ready = refl
opened_done Asking = refl
opened_done Follow = refl
opened_done Body = refl
opened_done Done = refl

answered_done : (ph : Phase) (h verified : ℕ) → is_done (if awaits_verdict ph h verified then Follow else ph) ≡ (is_done ph || false)
answered_done Closed h verified = refl
answered_done Ready h verified = refl
answered_done Asking h verified = keeps_if (λ (x : Phase). is_done x ≡ false) (h == verified) Follow Asking (λ r. refl) (λ r. refl)
answered_done Follow h verified = refl
answered_done Body h verified = refl
answered_done Done h verified = refl

up_tells : (c : ChannelPlan) (m : UpMsg) (s : ParentState) → Tells s → Tells (with_taken (take_up c s m) m)
up_tells c up.Open s h = took s (with_taken (take_up c s up.Open) up.Open) up.Open refl (opened_done s.phase) refl h
up_tells c up.Suspend s h = took s (with_taken (take_up c s up.Suspend) up.Suspend) up.Suspend refl (or_false (is_done s.phase)) refl h
up_tells c up.Resume s h = took s (with_taken (take_up c s up.Resume) up.Resume) up.Resume refl (or_false (is_done s.phase)) refl h
up_tells c (up.Cancel st) s h =
    took s (with_taken (take_up c s (up.Cancel st)) (up.Cancel st)) (up.Cancel st) refl (or_false (is_done s.phase)) refl h
up_tells c (up.Verify i st) s h =
    took s (with_taken (take_up c s (up.Verify i st)) (up.Verify i st)) (up.Verify i st) refl (answered_done s.phase s.hop i) refl h
up_tells c (up.BytesRead n) s h =
    took s (with_taken (take_up c s (up.BytesRead n)) (up.BytesRead n)) (up.BytesRead n) refl (or_false (is_done s.phase)) refl h
up_tells c up.Deleting s h = took s (with_taken (take_up c s up.Deleting) up.Deleting) up.Deleting refl (or_true (is_done s.phase)) refl h

-- A step of the load

-- entries are added, and they have the end where the load is over
sent : (s s' : ParentState) (es : List ParentEntry) → is_done s.phase ≡ false → s'.journal ≡ s.journal ++ es
    → is_done s'.phase ≡ has_end es → ups_taken es ≡ [] → s'.suspended ≡ s.suspended → Tells s → Tells s'
sent s s' es n j d u f h =
    let e : has_end s'.journal ≡ (has_end s.journal || has_end es) = ap has_end j ∙ end-append s.journal es in
    let n1 : has_end s.journal ≡ false = sym h.over ∙ n in
    let e1 : has_end s'.journal ≡ has_end es = e ∙ ap (λ (b : Bool). b || has_end es) n1 in
    let u1 : ups_taken s'.journal ≡ ups_taken s.journal =
    ap ups_taken j ∙ (ups_taken-append s.journal es ∙ (ap (λ t. ups_taken s.journal ++ t) u ∙ append-nil (ups_taken s.journal))) in
    record {
      over = d ∙ sym e1;
      flag = f ∙ (h.flag ∙ sym (ap ends_suspended u1));
    }

start_quiet : (l : StartLane) (i : ℕ) (st : Status) (head : Head)
    → (has_end (start_entries l i st head) ≡ false) × (ups_taken (start_entries l i st head) ≡ [])
start_quiet lane.Main i st head = (refl, refl)
start_quiet lane.Back i st head = (refl, refl)

given : (c : ChannelPlan) (s : ParentState) (q : Option Status) (head : Head) → is_done s.phase ≡ false → Tells s
    → Tells (give_start c s q head)
given c s q head n h =
    let q1 = start_quiet c.start s.hop (kept_status q) head in
    sent s (give_start c s q head) (start_entries c.start s.hop (kept_status q) head) n refl (sym q1.0) q1.1 refl h

finish_tells : (c : ChannelPlan) (s : ParentState) (end : Finish) → is_done s.phase ≡ false → Tells s → Tells (fetch_finish c s end)
finish_tells c s finish.Good n h = sent s (fetch_finish c s finish.Good) (stop_entry c s.hop ok ∷ []) n refl refl refl refl h
finish_tells c s (finish.Fail st) n h = sent s (fetch_finish c s (finish.Fail st)) (stop_entry c s.hop st ∷ []) n refl refl refl refl h

piece_tells : (c : ChannelPlan) (s : ParentState) (pieces : List (List ℕ)) (end : Finish) (o : Option (List ℕ)) → is_done s.phase ≡ false
    → Tells s → Tells (fetch_piece c s pieces end o)
piece_tells c s pieces end None n h = finish_tells c s end n h
piece_tells c s pieces end (Some p) n h =
    let e : ParentEntry = entry.SentBack (back.Bytes s.hop ok (offset_of pieces s.piece) p) in
    let s1 : ParentState =
    record s { phase = Body; credit = s.credit -ℤ pos (length p); piece = suc s.piece; journal = s.journal ++ e ∷ [] } in
    keeps_if Tells (int_lt (pos 0) s.credit) s1 s (λ r. sent s s1 (e ∷ []) n refl refl refl refl h) (λ r. h)

body_tells : (c : ChannelPlan) (s : ParentState) (q : Option Status) (o : Option Hop) → is_done s.phase ≡ false → Tells s
    → Tells (fetch_body c s q o)
body_tells c s (Some q) o n h = sent s (fetch_body c s (Some q) o) (stop_entry c s.hop q ∷ []) n refl refl refl refl h
body_tells c s None None n h = h
body_tells c s None (Some (hop.Fail st)) n h = h
body_tells c s None (Some (hop.Redirect code verdict)) n h = h
body_tells c s None (Some (hop.Response head pieces end trailers)) n h = piece_tells c s pieces end (slice_get pieces s.piece) n h

redirect_tells : (c : ChannelPlan) (s : ParentState) (code : ℕ) (q : Option Status) → is_done s.phase ≡ false → Tells s
    → Tells (fetch_redirect c s code q)
redirect_tells c s code (Some q) n h = given c s (Some q) (bare_head code) n h
redirect_tells c s code None n h =
    let e : ParentEntry = entry.SentMain (main.Redirect1 s.hop code) in
    let s1 : ParentState = record s { phase = Asking; journal = s.journal ++ e ∷ [] } in
    keeps_if Tells (s.followed == 20) (give_start c s (Some redirect_loop) (bare_head code)) s1
    (λ r. given c s (Some redirect_loop) (bare_head code) n h) (λ r. sent s s1 (e ∷ []) n refl refl refl refl h)

hop_tells : (c : ChannelPlan) (s : ParentState) (o : Option Hop) → is_done s.phase ≡ false → Tells s → Tells (fetch_hop c s o)
hop_tells c s None n h = h
hop_tells c s (Some (hop.Fail st)) n h =
    sent s (fetch_hop c s (Some (hop.Fail st))) (entry.SentMain (main.FailedOpen s.hop st) ∷ []) n refl refl refl refl h
hop_tells c s (Some (hop.Redirect code verdict)) n h = redirect_tells c s code s.kept n h
hop_tells c s (Some (hop.Response head pieces end trailers)) n h = given c s s.kept head n h

completed_tells : (s : ParentState) → is_done s.phase ≡ false → Tells s → Tells (complete_redirect s)
completed_tells s n h = sent s (complete_redirect s) (entry.SentMain (main.Redirect3 s.hop) ∷ []) n refl refl refl refl h

follow_tells : (c : ChannelPlan) (s : ParentState) (q : Option Status) (o : Option Hop) → is_done s.phase ≡ false → Tells s
    → Tells (fetch_follow c s q o)
follow_tells c s (Some q) (Some (hop.Redirect code verdict)) n h = given c s (Some q) (bare_head code) n h
follow_tells c s _ o n h = completed_tells s n h

fetch_tells : (c : ChannelPlan) (s : ParentState) (ph : Phase) → s.phase ≡ ph → Tells s → Tells (fetch_in c s ph)
fetch_tells c s Closed e h = h
fetch_tells c s Asking e h = h
fetch_tells c s Done e h = h
fetch_tells c s Ready e h = hop_tells c s (hop_at c s.hop) (ap is_done e) h
fetch_tells c s Follow e h = follow_tells c s s.kept (hop_at c s.hop) (ap is_done e) h
fetch_tells c s Body e h = body_tells c s s.kept (hop_at c s.hop) (ap is_done e) h

-- All steps

step_tells : (c : ChannelPlan) (x : ParentStep) (s : ParentState) → Tells s → Tells (parent_step c x s)
step_tells c (parent.Up m) s h = up_tells c m s h
step_tells c parent.Fetch s h = keeps_if Tells s.suspended s (fetch_in c s s.phase) (λ r. h) (λ r. fetch_tells c s s.phase refl h)

all_tell : (c : ChannelPlan) (steps : List ParentStep) → Tells (parent_after c steps)
all_tell c [] = record { over = refl; flag = refl }
all_tell c (x ∷ xs) = step_tells c x (parent_after c xs) (all_tell c xs)

-- The laws

done_is : (ph : Phase) → is_done ph ≡ true → ph ≡ Done
done_is Closed e = cc
done_is Ready e = cc
done_is Asking e = cc
done_is Follow e = cc
done_is Body e = cc
done_is Done e = refl

pub ended : ParentEndLaw
ended c steps =
    let s : ParentState = parent_after c steps in
    let h : is_done s.phase ≡ has_end s.journal = (all_tell c steps).over in
    ((λ e. sym h ∙ ap is_done e), (λ e. done_is s.phase (h ∙ e)))

pub held : ParentSuspendLaw
held c steps = (all_tell c steps).flag

pub agree : SuspendsAgreeLaw
agree c xs ys e =
    let p : ParentState = parent_after c xs in
    let s : ChildState = child_after c ys in
    let h : p.suspended ≡ ends_suspended s.sent = held c xs ∙ ap ends_suspended e in
    let k : (0 < s.suspends) ↔ (ends_suspended s.sent ≡ true) = said c ys in
    ((λ x. k.1 (sym h ∙ x)), (λ x. h ∙ k.0 x))

-- Where a parent waits

both_false : (a b : Bool) → (not a || b) ≡ false → (a ≡ true) × (b ≡ false)
both_false true b e = (refl, e)
both_false false b e = cc

body_waits : (q : Option Status) (s : ParentState) (pieces : List (List ℕ)) → body_enabled s q pieces ≡ false
    → (is_some (slice_get pieces s.piece) ≡ true) × (q ≡ None) × (int_lt (pos 0) s.credit ≡ false)
body_waits (Some q) s pieces e = cc
body_waits None s pieces e = let p = both_false (is_some (slice_get pieces s.piece)) (int_lt (pos 0) s.credit) e in (p.0, refl, p.1)

no_credit : (n : ℤ) → int_lt (pos 0) n ≡ false → n ≤ℤ pos 0
no_credit n e = grind (arith, ints)

no_test : (n : ℤ) → n ≤ℤ pos 0 → int_lt (pos 0) n ≡ false
no_test n e = grind (arith, ints)

waits_in : (c : ChannelPlan) (s : ParentState) (ph : Phase) → phase_enabled c s ph ≡ false → WaitsIn c s ph
waits_in c s Closed e = tt
waits_in c s Ready e = cc
waits_in c s Asking e = tt
waits_in c s Follow e = cc
waits_in c s Body e =
    let p = body_waits s.kept s (pieces_at c s.hop) e in record { piece = p.0; kept = p.1; credit = no_credit s.credit p.2 }
waits_in c s Done e = tt

body_not : (q : Option Status) (s : ParentState) (pieces : List (List ℕ)) → q ≡ None → is_some (slice_get pieces s.piece) ≡ true
    → int_lt (pos 0) s.credit ≡ false → body_enabled s q pieces ≡ false
body_not (Some q) s pieces e p n = cc
body_not None s pieces e p n = rw (p, n) refl

waits_not : (c : ChannelPlan) (s : ParentState) (ph : Phase) → WaitsIn c s ph → phase_enabled c s ph ≡ false
waits_not c s Closed w = refl
waits_not c s Ready w = absurd w
waits_not c s Asking w = refl
waits_not c s Follow w = absurd w
waits_not c s Body w = body_not s.kept s (pieces_at c s.hop) w.kept w.piece (no_test s.credit w.credit)
waits_not c s Done w = refl

pub waits : ParentRestLaw
waits c steps free =
    let s : ParentState = parent_after c steps in
    let e : parent_enabled c parent.Fetch s ≡ phase_enabled c s s.phase = ap (λ (b : Bool). not b && phase_enabled c s s.phase) free in
    ((λ n. waits_in c s s.phase (sym e ∙ n)), (λ w. e ∙ waits_not c s s.phase w))
