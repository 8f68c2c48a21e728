-- What a parent heard from its page, that it was opened or cancelled, and its end in the journal.
use Rattle.std.proofs.Common.{ℕ, ◌≡◌, refl, sym, ◌∙◌, ap, List, [], ◌∷◌, ◌++◌, Bool, ◌||◌, true, false, if◌then◌else◌, Option, Some, None, slice_get, ◌==◌, pos, int_lt, ◌⊎◌, inl, inr}
use Rattle.nk_base.specs.declared.message.MainMsg.{MainMsg}
use Rattle.nk_base.specs.declared.message.BackMsg.{BackMsg}
use Rattle.nk_base.specs.declared.message.UpMsg.{UpMsg}
use Rattle.nk_plan.specs.declared.plan.ChannelPlan.{ChannelPlan}
use Rattle.nk_plan.specs.declared.step.ParentStep.{ParentStep}
use Rattle.nk_plan.specs.Parent.{ParentState, parent_after, parent_step, give_start, bare_head, fetch_finish, fetch_piece, fetch_body, fetch_redirect, fetch_hop, fetch_follow, fetch_in, take_up, opened_phase, kept_after_cancel, awaits_verdict}
use Rattle.nk_plan.specs.Journal.{mains_sent, backs_sent, ups_taken}
use Rattle.nk_plan.specs.Child.{back_events}
use Rattle.nk_plan.specs.Lanes.{Among}
use Rattle.nk_plan.specs.declared.plan.Hop.{Hop}
use Rattle.nk_plan.specs.declared.plan.Finish.{Finish as End}
use Rattle.nk_base.specs.declared.status.Status.{Status}
use Rattle.nk_base.specs.declared.field.Head.{Head}
use Rattle.nk_base.specs.Status.{redirect_loop, is_failure, merged}
use Rattle.nk_plan.specs.Plan.{hop_at}
use Rattle.nk_plan.specs.declared.step.Phase.{Phase}
use Rattle.nk_plan.specs.declared.step.Phase.TheVariants.{Closed, Ready, Asking, Follow, Body, Done}
use Rattle.nk_laws.proofs.ChildLaw.{merged_fails}
use Rattle.nk_laws.proofs.ParentLaw.{ups-append}
use Rattle.nk_laws.proofs.Tools.{keeps_if, append_nil, among_split}
use Rattle.nk_plan.specs.declared.event.ChildEvent.{ChildEvent}
use Rattle.nk_plan.specs.declared.event.ChildEvent.TheVariants.{Start as StartEvent, Stop as StopEvent, Bytes as BytesEvent, Redirect1 as Redirect1Event, Redirect3 as Redirect3Event, Cancel as CancelEvent}
use Rattle.nk_laws.proofs.Order.{strip, stops, strip-append, merged_none}
use Rattle.nk_laws.proofs.Taking.{main_events}
use Rattle.nk_half_laws.specs.Settled.{is_failed_open, is_stop, is_deleting, has_end}
use Rattle.nk_plan.specs.declared.journal.ParentEntry.{ParentEntry}
use Rattle.nk_laws.proofs.Joined.{Adds, fetch_step_adds, up_journal}
use Rattle.nk_base.specs.declared.message.UpMsg.TheVariants as up
use Rattle.nk_plan.specs.declared.step.ParentStep.TheVariants as parent
use Rattle.nk_plan.specs.declared.journal.ParentEntry.TheVariants as entry
use Rattle.nk_plan.specs.declared.plan.Hop.TheVariants as hop
use Rattle.nk_plan.specs.declared.plan.Finish.TheVariants as finish
use Rattle.nk_base.specs.declared.message.MainMsg.TheVariants as main
use Rattle.nk_base.specs.declared.message.BackMsg.TheVariants as back

-- What a parent has heard on the up lane, and when it is done

stops-append : (xs ys : List ChildEvent) (b : Bool) → stops (xs ++ ys) b ≡ stops ys (stops xs b)
stops-append [] ys b = refl
stops-append (StartEvent code st ∷ xs) ys b = stops-append xs ys b
stops-append (BytesEvent o p st ∷ xs) ys b = stops-append xs ys b
stops-append (StopEvent st ∷ xs) ys b = stops-append xs ys true
stops-append (Redirect1Event h ∷ xs) ys b = stops-append xs ys b
stops-append (Redirect3Event h ∷ xs) ys b = stops-append xs ys b
stops-append (CancelEvent st ∷ xs) ys b = stops-append xs ys b

stops-true : (xs : List ChildEvent) → stops xs true ≡ true
stops-true [] = refl
stops-true (StartEvent code st ∷ xs) = stops-true xs
stops-true (BytesEvent o p st ∷ xs) = stops-true xs
stops-true (StopEvent st ∷ xs) = stops-true xs
stops-true (Redirect1Event h ∷ xs) = stops-true xs
stops-true (Redirect3Event h ∷ xs) = stops-true xs
stops-true (CancelEvent st ∷ xs) = stops-true xs

abbrev pub Ends : List MainMsg → List BackMsg → Bool
Ends md bd = stops (strip (main_events md ++ back_events bd)) false

ends_split : (md : List MainMsg) (bd : List BackMsg) → Ends md bd ≡ stops (strip (back_events bd)) (stops (strip (main_events md)) false)
ends_split md bd =
    ap (λ w. stops w false) (strip-append (main_events md) (back_events bd)) ∙ stops-append (strip (main_events md)) (strip (back_events bd)) false

-- a message more before the others ends what they end
ends_main : (m : MainMsg) (md : List MainMsg) (bd : List BackMsg) → (is_failed_open m ≡ true) ⊎ (Ends md bd ≡ true) → Ends (m ∷ md) bd ≡ true
ends_main (main.Start h st head) md bd (inl e) = cc
ends_main (main.Start h st head) md bd (inr e) = e
ends_main (main.FailedOpen h st) md bd e = stops-true (strip (main_events md ++ back_events bd))
ends_main (main.Redirect1 h code) md bd (inl e) = cc
ends_main (main.Redirect1 h code) md bd (inr e) = e
ends_main (main.Redirect3 h) md bd (inl e) = cc
ends_main (main.Redirect3 h) md bd (inr e) = e

ends_back : (m : BackMsg) (md : List MainMsg) (bd : List BackMsg) → (is_stop m ≡ true) ⊎ (Ends md bd ≡ true) → Ends md (m ∷ bd) ≡ true
ends_back (back.Start h st head) md bd (inl e) = cc
ends_back (back.Start h st head) md bd (inr e) = ends_split md (back.Start h st head ∷ bd) ∙ (sym (ends_split md bd) ∙ e)
ends_back (back.StartSent h) md bd (inl e) = cc
ends_back (back.StartSent h) md bd (inr e) = e
ends_back (back.Bytes h st o p) md bd (inl e) = cc
ends_back (back.Bytes h st o p) md bd (inr e) = ends_split md (back.Bytes h st o p ∷ bd) ∙ (sym (ends_split md bd) ∙ e)
ends_back (back.Stop h st trailers) md bd e = ends_split md (back.Stop h st trailers ∷ bd) ∙ stops-true (strip (back_events bd))

deleting_is : (m : UpMsg) → is_deleting m ≡ true → m ≡ up.Deleting
deleting_is up.Deleting e = refl
deleting_is _ e = cc

or_true : (a b : Bool) → (a || b) ≡ true → (a ≡ true) ⊎ (b ≡ true)
or_true true b e = inl refl
or_true false b e = inr e

-- where a journal has the end, the last message was sent, or the page is done
pub end_heard : (j : List ParentEntry) → has_end j ≡ true → (Ends (mains_sent j) (backs_sent j) ≡ true) ⊎ Among up.Deleting (ups_taken j)
end_heard [] e = cc
end_heard (entry.Took m ∷ j) e = elim (or_true (is_deleting m) (has_end j) e) [
  | inl x ↦ inr (inl (deleting_is m x))
  | inr x ↦ elim (end_heard j x) [ inl y ↦ inl y | inr y ↦ inr (inr y) ]
]
end_heard (entry.SentMain m ∷ j) e = elim (or_true (is_failed_open m) (has_end j) e) [
  | inl x ↦ inl (ends_main m (mains_sent j) (backs_sent j) (inl x))
  | inr x ↦ elim (end_heard j x) [ inl y ↦ inl (ends_main m (mains_sent j) (backs_sent j) (inr y)) | inr y ↦ inr y ]
]
end_heard (entry.SentBack m ∷ j) e = elim (or_true (is_stop m) (has_end j) e) [
  | inl x ↦ inl (ends_back m (mains_sent j) (backs_sent j) (inl x))
  | inr x ↦ elim (end_heard j x) [ inl y ↦ inl (ends_back m (mains_sent j) (backs_sent j) (inr y)) | inr y ↦ inr y ]
]

-- what a fetch does to the phase and the failure
record Fetched (s s' : ParentState) : Type 0 where
  closed : s'.phase ≡ Closed → s.phase ≡ Closed
  kept : s'.kept ≡ None → s.kept ≡ None
  undone : s.phase ≡ Done → s'.phase ≡ Done

fetched_idle : (s : ParentState) → Fetched s s
fetched_idle s = record { closed = λ e. e; kept = λ e. e; undone = λ e. e }

given_facts : (c : ChannelPlan) (s : ParentState) (q : Option Status) (head : Head) → (s.phase ≡ Done → ⊥) → (q ≡ None → s.kept ≡ None) → Fetched s (give_start c s q head)
given_facts c s q head n k = record { closed = λ e. cc; kept = k; undone = λ e. absurd (n e) }

finished_facts : (c : ChannelPlan) (s : ParentState) (end : End) → Fetched s (fetch_finish c s end)
finished_facts c s finish.Good = record { closed = λ e. cc; kept = λ e. e; undone = λ e. refl }
finished_facts c s (finish.Fail st) = record { closed = λ e. cc; kept = λ e. cc; undone = λ e. refl }

piece_facts : (c : ChannelPlan) (s : ParentState) (pieces : List (List ℕ)) (end : End) (o : Option (List ℕ)) → (s.phase ≡ Done → ⊥) → Fetched s (fetch_piece c s pieces end o)
piece_facts c s pieces end None n = finished_facts c s end
piece_facts c s pieces end (Some p) n =
    keeps_if (Fetched s) (int_lt (pos 0) s.credit) _ s (λ r. record { closed = λ e. cc; kept = λ e. e; undone = λ e. absurd (n e) }) (λ r. fetched_idle s)

body_facts : (c : ChannelPlan) (s : ParentState) (q : Option Status) (o : Option Hop) → (s.phase ≡ Done → ⊥) → Fetched s (fetch_body c s q o)
body_facts c s (Some q) o n = record { closed = λ e. cc; kept = λ e. e; undone = λ e. refl }
body_facts c s None None n = fetched_idle s
body_facts c s None (Some (hop.Fail st)) n = fetched_idle s
body_facts c s None (Some (hop.Redirect code verdict)) n = fetched_idle s
body_facts c s None (Some (hop.Response head pieces end trailers)) n = piece_facts c s pieces end (slice_get pieces s.piece) n

redirect_facts : (c : ChannelPlan) (s : ParentState) (code : ℕ) (q : Option Status) → (s.phase ≡ Done → ⊥) → Fetched s (fetch_redirect c s code q)
redirect_facts c s code (Some q) n = given_facts c s (Some q) _ n (λ e. cc)
redirect_facts c s code None n =
    keeps_if (Fetched s) (s.followed == 20) (give_start c s (Some redirect_loop) (bare_head code)) _ (λ r. given_facts c s (Some redirect_loop) (bare_head code) n (λ e. cc))
    (λ r. record { closed = λ e. cc; kept = λ e. e; undone = λ e. absurd (n e) })

ready_facts : (c : ChannelPlan) (s : ParentState) (o : Option Hop) → (s.phase ≡ Done → ⊥) → Fetched s (fetch_hop c s o)
ready_facts c s None n = fetched_idle s
ready_facts c s (Some (hop.Fail st)) n = record { closed = λ e. cc; kept = λ e. e; undone = λ e. refl }
ready_facts c s (Some (hop.Redirect code verdict)) n = redirect_facts c s code s.kept n
ready_facts c s (Some (hop.Response head pieces end trailers)) n = given_facts c s s.kept head n (λ e. e)

follow_facts : (c : ChannelPlan) (s : ParentState) (q : Option Status) (o : Option Hop) → (s.phase ≡ Done → ⊥) → Fetched s (fetch_follow c s q o)
follow_facts c s (Some q) (Some (hop.Redirect code verdict)) n = given_facts c s (Some q) _ n (λ e. cc)
follow_facts c s _ o n = record { closed = λ e. cc; kept = λ e. e; undone = λ e. absurd (n e) }

fetch_facts : (c : ChannelPlan) (s : ParentState) (ph : Phase) → s.phase ≡ ph → Fetched s (fetch_in c s ph)
fetch_facts c s Closed e = fetched_idle s
fetch_facts c s Asking e = fetched_idle s
fetch_facts c s Done e = fetched_idle s
fetch_facts c s Ready e = ready_facts c s (hop_at c s.hop) (λ d. let x : Ready ≡ Done = sym e ∙ d in cc)
fetch_facts c s Follow e = follow_facts c s s.kept (hop_at c s.hop) (λ d. let x : Follow ≡ Done = sym e ∙ d in cc)
fetch_facts c s Body e = body_facts c s s.kept (hop_at c s.hop) (λ d. let x : Body ≡ Done = sym e ∙ d in cc)

fetch_step_facts : (c : ChannelPlan) (s : ParentState) → Fetched s (parent_step c parent.Fetch s)
fetch_step_facts c s = keeps_if (Fetched s) s.suspended s (fetch_in c s s.phase) (λ r. fetched_idle s) (λ r. fetch_facts c s s.phase refl)

pub record Heard (ph : Phase) (kept : Option Status) (u : List UpMsg) : Type 0 where
  pub closed_heard : ph ≡ Closed → Among up.Open u → ⊥
  pub kept_heard : (q : Status) → is_failure q ≡ true → Among (up.Cancel q) u → (ph ≡ Done) ⊎ (kept ≡ None → ⊥)

abbrev pub Hears : ParentState → Type 0
Hears s = Heard s.phase s.kept (ups_taken s.journal)

fetch_hears : (c : ChannelPlan) (s : ParentState) → Hears s → Hears (parent_step c parent.Fetch s)
fetch_hears c s h =
    let s' = parent_step c parent.Fetch s in
    let a : Adds s.journal s'.journal = fetch_step_adds c s in
    let f : Fetched s s' = fetch_step_facts c s in
    let eu : ups_taken s'.journal ≡ ups_taken s.journal = ap ups_taken a.journal_is ∙ (ups-append s.journal a.entries ∙ (ap (λ t. ups_taken s.journal ++ t) a.no_up ∙ append_nil (ups_taken s.journal))) in
    rw eu (record {
      closed_heard = λ e x. h.closed_heard (f.closed e) x;
      kept_heard = λ q fq x. elim (h.kept_heard q fq x) [ inl d ↦ inl (f.undone d) | inr n ↦ inr (λ e. n (f.kept e)) ];
    })

open_phase : (ph : Phase) → opened_phase ph ≡ Closed → ⊥
open_phase Closed e = cc
open_phase Ready e = cc
open_phase Asking e = cc
open_phase Follow e = cc
open_phase Body e = cc
open_phase Done e = cc

done_open : (ph : Phase) → ph ≡ Done → opened_phase ph ≡ Done
done_open ph e = rw e refl

cancelled_none : (ph : Phase) (q : Option Status) (st : Status) → kept_after_cancel ph q st ≡ None → q ≡ None
cancelled_none Closed q st e = merged_none q st e
cancelled_none Ready q st e = merged_none q st e
cancelled_none Asking q st e = merged_none q st e
cancelled_none Follow q st e = merged_none q st e
cancelled_none Body q st e = merged_none q st e
cancelled_none Done q st e = e

cancelled_fails : (ph : Phase) (q : Option Status) (st : Status) → is_failure st ≡ true → (ph ≡ Done) ⊎ (kept_after_cancel ph q st ≡ None → ⊥)
cancelled_fails Closed q st f = inr (merged_fails q st f)
cancelled_fails Ready q st f = inr (merged_fails q st f)
cancelled_fails Asking q st f = inr (merged_fails q st f)
cancelled_fails Follow q st f = inr (merged_fails q st f)
cancelled_fails Body q st f = inr (merged_fails q st f)
cancelled_fails Done q st f = inl refl

-- a message that changes phase and failure in this way
heard_more : (ph ph' : Phase) (k k' : Option Status) (u : List UpMsg) (m : UpMsg)
    → (ph' ≡ Closed → ph ≡ Closed) → (ph' ≡ Closed → m ≡ up.Open → ⊥) → (ph ≡ Done → ph' ≡ Done)
    → (k' ≡ None → k ≡ None) → ((q : Status) → is_failure q ≡ true → m ≡ up.Cancel q → (ph' ≡ Done) ⊎ (k' ≡ None → ⊥))
    → Heard ph k u → Heard ph' k' (u ++ m ∷ [])
heard_more ph ph' k k' u m c1 c2 d k1 k2 h = record {
  closed_heard = λ e a. elim (among_split up.Open m u a) [ inl x ↦ h.closed_heard (c1 e) x | inr x ↦ c2 e x ];
  kept_heard = λ q fq a. elim (among_split (up.Cancel q) m u a) [
    | inl x ↦ elim (h.kept_heard q fq x) [ inl y ↦ inl (d y) | inr y ↦ inr (λ e. y (k1 e)) ]
    | inr x ↦ k2 q fq x
  ];
}

answered_phase : (ph : Phase) (h asked : ℕ) → (if awaits_verdict ph h asked then Follow else ph) ≡ Closed → ph ≡ Closed
answered_phase Closed h asked e = refl
answered_phase Ready h asked e = e
answered_phase Asking h asked e = keeps_if (λ x. x ≡ Closed → Asking ≡ Closed) (h == asked) Follow Asking (λ r y. cc) (λ r y. y) e
answered_phase Follow h asked e = e
answered_phase Body h asked e = e
answered_phase Done h asked e = e

done_answered : (ph : Phase) (h asked : ℕ) → ph ≡ Done → (if awaits_verdict ph h asked then Follow else ph) ≡ Done
done_answered ph h asked e = rw e refl

answered_kept : (b : Bool) (k : Option Status) (st : Status) → (if b then merged k st else k) ≡ None → k ≡ None
answered_kept true k st e = merged_none k st e
answered_kept false k st e = e

upped_heard : (c : ChannelPlan) (m : UpMsg) (s : ParentState) (u : List UpMsg) → Heard s.phase s.kept u → Heard (take_up c s m).phase (take_up c s m).kept (u ++ m ∷ [])
upped_heard c up.Open s u h = heard_more s.phase _ s.kept _ u up.Open (λ e. absurd (open_phase s.phase e)) (λ e x. open_phase s.phase e) (done_open s.phase) (λ e. e) (λ q f x. cc) h
upped_heard c up.Suspend s u h = heard_more s.phase _ s.kept _ u up.Suspend (λ e. e) (λ e x. cc) (λ e. e) (λ e. e) (λ q f x. cc) h
upped_heard c up.Resume s u h = heard_more s.phase _ s.kept _ u up.Resume (λ e. e) (λ e x. cc) (λ e. e) (λ e. e) (λ q f x. cc) h
upped_heard c (up.Cancel st) s u h =
    heard_more s.phase _ s.kept _ u (up.Cancel st) (λ e. e) (λ e x. cc) (λ e. e) (cancelled_none s.phase s.kept st)
    (λ q f x. let y : st ≡ q = cc in cancelled_fails s.phase s.kept st (rw y f)) h
upped_heard c (up.Verify i st) s u h =
    heard_more s.phase _ s.kept _ u (up.Verify i st) (answered_phase s.phase s.hop i) (λ e x. cc) (done_answered s.phase s.hop i)
    (answered_kept (awaits_verdict s.phase s.hop i) s.kept st) (λ q f x. cc) h
upped_heard c (up.BytesRead n) s u h = heard_more s.phase _ s.kept _ u (up.BytesRead n) (λ e. e) (λ e x. cc) (λ e. e) (λ e. e) (λ q f x. cc) h
upped_heard c up.Deleting s u h = heard_more s.phase _ s.kept _ u up.Deleting (λ e. cc) (λ e x. cc) (λ e. refl) (λ e. e) (λ q f x. cc) h

up_hears : (c : ChannelPlan) (m : UpMsg) (s : ParentState) → Hears s → Hears (parent_step c (parent.Up m) s)
up_hears c m s h =
    let eu : ups_taken ((take_up c s m).journal ++ entry.Took m ∷ []) ≡ ups_taken s.journal ++ m ∷ [] = rw (up_journal c m s) (ups-append s.journal (entry.Took m ∷ [])) in
    rw eu (upped_heard c m s (ups_taken s.journal) h)

pub parent_hears : (c : ChannelPlan) (steps : List ParentStep) → Hears (parent_after c steps)
parent_hears c [] = record { closed_heard = λ e a. a; kept_heard = λ q f a. absurd a }
parent_hears c (parent.Up m ∷ es) = up_hears c m (parent_after c es) (parent_hears c es)
parent_hears c (parent.Fetch ∷ es) = fetch_hears c (parent_after c es) (parent_hears c es)
