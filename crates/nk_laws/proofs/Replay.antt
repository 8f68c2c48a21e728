-- The state that a run leaves is a function of its journal: a replay of the journal reaches it, and stays there.
use Rattle.std.proofs.Common.{ℕ, zero, suc, ◌≡◌, ◌+◌, ◌≤◌, refl, sym, ◌∙◌, ap, subst, List, [], ◌∷◌, ◌++◌, length, true, ◌||◌, Option, Some, None, is_some, ◌⊎◌, inl, inr, if◌then◌else◌, nat_le, slice_get, ◌==◌, arith, append_assoc, length-append, pos, int_lt}
use Rattle.nk_base.specs.declared.status.Status.{Status}
use Rattle.nk_base.specs.declared.status.Target.{Target}
use Rattle.nk_base.specs.declared.status.RetargetError.{RetargetError}
use Rattle.nk_base.specs.declared.message.UpMsg.{UpMsg}
use Rattle.nk_plan.specs.declared.plan.ChannelPlan.{ChannelPlan}
use Rattle.nk_plan.specs.declared.plan.Hop.{Hop}
use Rattle.nk_plan.specs.declared.plan.Reaction.{Reaction}
use Rattle.nk_plan.specs.declared.plan.Act.{Act}
use Rattle.nk_plan.specs.declared.plan.Control.{Control}
use Rattle.nk_plan.specs.declared.journal.ChildEntry.{ChildEntry}
use Rattle.nk_base.specs.Status.{redirect_loop, merged}
use Rattle.nk_plan.specs.Plan.{hop_at}
use Rattle.nk_plan.specs.Parent.{ParentState, start_entries, give_start, bare_head, fetch_finish, fetch_piece, fetch_body, fetch_redirect, fetch_hop, fetch_follow, fetch_in, parent_step, parent_after}
use Rattle.nk_base.specs.Queue.{Taken, Event, Over, Ended, same_target, is_target, completed, cleared, taken}
use Rattle.nk_plan.specs.declared.plan.StartLane.{StartLane}
use Rattle.nk_plan.specs.declared.step.ChildStep.{ChildStep}
use Rattle.nk_plan.specs.Child.{step_main, back_events, step_back, of_hop, released_hold, step_release, child_step, ChildState, run_bytes, run_event, offer_all, with_entry, call_suspend, call_resume, call_cancel, refusal, call_retarget, is_empty, call_break, perform_call, perform_control, step_act, step_verdict, flush_with, step_begin, runs_on, react_all, bytes_failure, prepend_cancel, fail_data, finish_event, step_finish, child_after}
use Rattle.nk_plan.specs.declared.event.ChildEvent.{ChildEvent}
use Rattle.nk_plan.specs.declared.event.ChildEvent.TheVariants.{Start, Bytes, Stop, Redirect1, Redirect3, Cancel}
use Rattle.nk_plan.specs.Event.{class_of}
use Rattle.nk_laws.proofs.Tools.{keeps_if, append_nil, le_or_more}
use Rattle.nk_plan.specs.declared.journal.ParentEntry.{ParentEntry}
use Rattle.nk_plan.specs.declared.step.ParentStep.{ParentStep}
use Rattle.nk_plan.specs.declared.plan.Finish.{Finish as End}
use Rattle.nk_base.specs.declared.field.Head.{Head}
use Rattle.nk_plan.specs.declared.step.Phase.{Phase}
use Rattle.nk_plan.specs.declared.step.Phase.TheVariants.{Closed, Ready, Asking, Follow, Body, Done}
use Rattle.nk_plan.specs.Run.{step_of, replay_entry, replayed, state_of, parent_step_of, parent_replay_entry, parent_replayed, parent_state_of}
use Rattle.nk_laws.proofs.Grows.{Grows, offered_all_grows, main_grows, back_grows, noted_grows}
use Rattle.nk_laws.proofs.Joined.{up_journal}
use Rattle.nk_base.specs.declared.status.Target.TheVariants as target
use Rattle.nk_base.specs.declared.message.UpMsg.TheVariants as up
use Rattle.nk_plan.specs.declared.plan.Reaction.TheVariants as reaction
use Rattle.nk_plan.specs.declared.plan.Act.TheVariants as act
use Rattle.nk_plan.specs.declared.journal.ChildEntry.TheVariants as child
use Rattle.nk_plan.specs.declared.plan.StartLane.TheVariants as lane
use Rattle.nk_plan.specs.declared.step.ChildStep.TheVariants as step
use Rattle.nk_plan.specs.declared.journal.ParentEntry.TheVariants as entry
use Rattle.nk_plan.specs.declared.step.ParentStep.TheVariants as parent
use Rattle.nk_plan.specs.declared.plan.Hop.TheVariants as hop
use Rattle.nk_plan.specs.declared.plan.Finish.TheVariants as finish

-- Each step leaves the state, or enters a block whose first entry names it

abbrev Enters : ChildStep → List ChildEntry → ChildState → Type 0
Enters x j s' = (e : ChildEntry) × (rest : List ChildEntry) × (s'.journal ≡ j ++ e ∷ rest) × (step_of e ≡ x)

abbrev Moves : ChildStep → ChildState → ChildState → Type 0
Moves x s s' = (s' ≡ s) ⊎ Enters x s.journal s'

more_entries : (x : ChildStep) (j : List ChildEntry) (u : List UpMsg) (e : ChildEntry) (s' : ChildState) → step_of e ≡ x → Grows (j ++ e ∷ []) u s' → Enters x j s'
more_entries x j u e s' n g = (e, g.entries, g.journal_is ∙ append_assoc j (e ∷ []) g.entries, n)

answered_enters : (o : Option RetargetError) (n : ℕ) (s : ChildState) → Enters step.Act s.journal (call_retarget o n s)
answered_enters (Some e) n s = (_, [], refl, refl)
answered_enters None n s = (_, [], refl, refl)

performed_enters : (c : ChannelPlan) (x : Act) (s : ChildState) → Enters step.Act s.journal (perform_call c x s)
performed_enters c act.Suspend s = keeps_if (Enters step.Act s.journal) s.stopped (with_entry child.NoEffect s) (call_suspend s) (λ r. (_, [], refl, refl)) (λ r. (_, [], refl, refl))
performed_enters c act.Resume s = keeps_if (Enters step.Act s.journal) (s.stopped || (s.suspends == 0)) (with_entry child.NoEffect s) (call_resume s) (λ r. (_, [], refl, refl)) (λ r. (_, [], refl, refl))
performed_enters c (act.Cancel st) s = keeps_if (Enters step.Act s.journal) (s.stopped || is_some s.kept) (with_entry child.NoEffect s) (call_cancel st s) (λ r. (_, [], refl, refl)) (λ r. (_, [], refl, refl))
performed_enters c (act.Retarget n) s = answered_enters (refusal c s) n s
performed_enters c (act.Break st) s =
    let s1 : ChildState = record s { broken = true; kept = merged s.kept st; queue = cleared s.queue; journal = s.journal ++ child.Break st ∷ [] } in
    let es : List ChildEvent = if is_empty s.trace then Start 0 st ∷ Stop st ∷ [] else Stop st ∷ [] in
    keeps_if (Enters step.Act s.journal) (s.stopped || s.broken) (with_entry child.NoEffect s) (call_break c st s) (λ r. (_, [], refl, refl))
    (λ r. more_entries step.Act s.journal s.sent (child.Break st) (offer_all c target.Main es s1) refl
    (offered_all_grows c (s.journal ++ child.Break st ∷ []) s.sent target.Main es s1
    (record { entries = []; messages = []; journal_is = sym (append_nil (s.journal ++ child.Break st ∷ [])); sent_is = sym (append_nil s.sent); no_main = refl; no_back = refl })))

control_moves : (c : ChannelPlan) (o : Option Control) (s : ChildState) → Moves step.Act s (perform_control c o s)
control_moves c None s = inl refl
control_moves c (Some control) s =
    let s1 : ChildState = record s { next = suc s.next } in
    keeps_if (Moves step.Act s) (nat_le control.after s.finished) (perform_call c control.act s1) s (λ r. inr (performed_enters c control.act s1)) (λ r. inl refl)

acted_moves : (c : ChannelPlan) (s : ChildState) → Moves step.Act s (step_act c s)
acted_moves c s =
    keeps_if (Moves step.Act s) c.closed s _ (λ r. inl refl)
    (λ r. keeps_if (Moves step.Act s) s.opened (perform_control c (slice_get c.controls s.next) s) _ (λ q. control_moves c (slice_get c.controls s.next) s)
    (λ q. inr (child.Open, [], refl, refl)))

verdict_moves : (c : ChannelPlan) (o : Option ℕ) (s : ChildState) → Moves step.Verdict s (step_verdict c o s)
verdict_moves c None s = inl refl
verdict_moves c (Some i) s = inr (_, [], refl, refl)

bytes_enters : (s : ChildState) (t : Target) (at : ℕ) (p : List ℕ) (k : Option Status) (st : Status) → Enters (step.Begin t) s.journal (run_bytes s t at p k st)
bytes_enters s t at p None st = (_, [], refl, refl)
bytes_enters s t at p (Some q) st = (_, [], refl, refl)

run_enters : (c : ChannelPlan) (t : Target) (e : ChildEvent) (s : ChildState) → Enters (step.Begin t) s.journal (run_event c t e s)
run_enters c t (Start code st) s = (_, [], refl, refl)
run_enters c t (Bytes at p st) s = bytes_enters s t at p (merged s.kept st) st
run_enters c t (Stop st) s = (_, [], refl, refl)
run_enters c t (Redirect1 i) s = (_, [], refl, refl)
run_enters c t (Redirect3 i) s = (_, [], refl, refl)
run_enters c t (Cancel st) s = (_, [], refl, refl)

taken_enters : (c : ChannelPlan) (t : Target) (x : Taken ChildEvent) (s : ChildState) → Enters (step.Begin t) s.journal (flush_with c t x s)
taken_enters c t (Event e rest) s = run_enters c t e (record s { queue = record s.queue { waiting = rest } })
taken_enters c t (Over v) s = (_, [], refl, refl)
taken_enters c t Ended s = (_, [], refl, refl)

begun_moves : (c : ChannelPlan) (t : Target) (s : ChildState) → Moves (step.Begin t) s (step_begin c t s)
begun_moves c t s =
    keeps_if (Moves (step.Begin t) s) (runs_on s.running t) s _ (λ r. inl refl)
    (λ r. keeps_if (Moves (step.Begin t) s) (is_target s.queue.flushing t) (flush_with c t (taken class_of s.queue t s.queue.waiting) s) _
    (λ q. inr (taken_enters c t (taken class_of s.queue t s.queue.waiting) s))
    (λ q. keeps_if (Moves (step.Begin t) s) _ (record s { queue = completed s.queue t; journal = s.journal ++ child.Complete t ∷ [] }) s (λ p. inr (_, [], refl, refl)) (λ p. inl refl)))

-- what follows the entry of a step is entered behind it
abbrev After : List ChildEntry → ChildState → Type 0
After j s = (rest : List ChildEntry) × (s.journal ≡ j ++ rest)

then_one : (j : List ChildEntry) (s : ChildState) (i : List ChildEntry) (e : ChildEntry) → After j s → i ≡ s.journal ++ e ∷ [] → (rest : List ChildEntry) × (i ≡ j ++ rest)
then_one j s i e (rest, h) g = (rest ++ e ∷ [], g ∙ (ap (λ t. t ++ e ∷ []) h ∙ append_assoc j rest (e ∷ [])))

act_after : (c : ChannelPlan) (j : List ChildEntry) (x : Act) (s : ChildState) → After j s → After j (perform_call c x s)
act_after c j x s (rest, h) =
    let m : Enters step.Act s.journal (perform_call c x s) = performed_enters c x s in
    (rest ++ m.0 ∷ m.1, m.2 ∙ (ap (λ t. t ++ m.0 ∷ m.1) h ∙ append_assoc j rest (m.0 ∷ m.1)))

reacted_after : (c : ChannelPlan) (j : List ChildEntry) (rs : List Reaction) (s : ChildState) → After j s → After j (react_all c rs s)
reacted_after c j [] s a = a
reacted_after c j (reaction.StartRetarget n ∷ rs) s a = reacted_after c j rs (perform_call c (act.Retarget n) s) (act_after c j (act.Retarget n) s a)
reacted_after c j (reaction.StartSuspend ∷ rs) s a = reacted_after c j rs (perform_call c act.Suspend s) (act_after c j act.Suspend s a)
reacted_after c j (reaction.StartCancel st ∷ rs) s a = reacted_after c j rs (perform_call c (act.Cancel st) s) (act_after c j (act.Cancel st) s a)
reacted_after c j (reaction.StartFail st ∷ rs) s a = reacted_after c j rs (perform_call c (act.Cancel st) s) (act_after c j (act.Cancel st) s a)
reacted_after c j (reaction.BytesFail n st ∷ rs) s a = reacted_after c j rs s a

failed_after : (c : ChannelPlan) (j : List ChildEntry) (t : Target) (o : Option Status) (s : ChildState) → After j s → After j (fail_data c t o s)
failed_after c j t None s a = a
failed_after c j t (Some d) s a =
    keeps_if (After j) (same_target t target.Main) (perform_call c (act.Cancel d) s) (prepend_cancel d s) (λ r. act_after c j (act.Cancel d) s a) (λ r. then_one j s _ (child.Prepend d) a refl)

event_after : (c : ChannelPlan) (j : List ChildEntry) (t : Target) (e : ChildEvent) (s : ChildState) → After j s → After j (finish_event c t e s)
event_after c j t (Start code st) s a = reacted_after c j c.reactions s a
event_after c j t (Bytes at p st) s a = failed_after c j t (bytes_failure c.reactions s.data_begun) (record s { sent = s.sent ++ up.BytesRead (length p) ∷ [] }) a
event_after c j t (Stop st) s a = a
event_after c j t (Redirect1 i) s a = a
event_after c j t (Redirect3 i) s a = a
event_after c j t (Cancel st) s a = a

behind : (j : List ChildEntry) (t : Target) (s : ChildState) → After (j ++ child.Finish t ∷ []) s → Enters (step.Finish t) j s
behind j t s (rest, h) = (child.Finish t, rest, h ∙ append_assoc j (child.Finish t ∷ []) rest, refl)

finished_moves : (c : ChannelPlan) (t : Target) (o : Option (Target × ChildEvent)) (s : ChildState) → Moves (step.Finish t) s (step_finish c t o s)
finished_moves c t None s = inl refl
finished_moves c t (Some (u, x)) s =
    let s1 : ChildState = record s { running = None; finished = suc s.finished; journal = s.journal ++ child.Finish t ∷ [] } in
    keeps_if (Moves (step.Finish t) s) (same_target u t) (finish_event c t x s1) s
    (λ r. inr (behind s.journal t (finish_event c t x s1) (event_after c (s.journal ++ child.Finish t ∷ []) t x s1 ([], sym (append_nil (s.journal ++ child.Finish t ∷ []))))))
    (λ r. inl refl)

release_moves : (c : ChannelPlan) (o : Option ℕ) (s : ChildState) → Moves step.Release s (step_release c o s)
release_moves c None s = inl refl
release_moves c (Some h) s =
    let e : ChildEntry = child.Release (length (of_hop h s.hold.kept)) in
    let s1 : ChildState = record s { hold = released_hold h s.hold; journal = s.journal ++ e ∷ [] } in
    inr (more_entries step.Release s.journal s.sent e (offer_all c target.Back (back_events (of_hop h s.hold.kept)) s1) refl
    (offered_all_grows c (s.journal ++ e ∷ []) s.sent target.Back (back_events (of_hop h s.hold.kept)) s1
    (record { entries = []; messages = []; journal_is = sym (append_nil (s.journal ++ e ∷ [])); sent_is = sym (append_nil s.sent); no_main = refl; no_back = refl })))

step_moves : (c : ChannelPlan) (x : ChildStep) (s : ChildState) → Moves x s (child_step c x s)
step_moves c step.Act s = acted_moves c s
step_moves c step.Verdict s = keeps_if (Moves step.Verdict s) s.broken s (step_verdict c s.question s) (λ r. inl refl) (λ r. verdict_moves c s.question s)
step_moves c (step.Main m) s =
    keeps_if (Moves (step.Main m) s) s.broken s (step_main c m (with_entry (child.TookMain m) s)) (λ r. inl refl)
    (λ r. inr (more_entries (step.Main m) s.journal s.sent (child.TookMain m) (step_main c m (with_entry (child.TookMain m) s)) refl
    (main_grows c (s.journal ++ child.TookMain m ∷ []) s.sent m (with_entry (child.TookMain m) s) (noted_grows (child.TookMain m) s))))
step_moves c (step.Back m) s =
    keeps_if (Moves (step.Back m) s) s.broken s (step_back c m (with_entry (child.TookBack m) s)) (λ r. inl refl)
    (λ r. inr (more_entries (step.Back m) s.journal s.sent (child.TookBack m) (step_back c m (with_entry (child.TookBack m) s)) refl
    (back_grows c (s.journal ++ child.TookBack m ∷ []) s.sent m (with_entry (child.TookBack m) s) (noted_grows (child.TookBack m) s))))
step_moves c step.Release s = keeps_if (Moves step.Release s) s.broken s (step_release c s.hold.report s) (λ r. inl refl) (λ r. release_moves c s.hold.report s)
step_moves c (step.Begin t) s = begun_moves c t s
step_moves c (step.Finish t) s = finished_moves c t s.running s

-- The replay of a journal goes through each state of its run

get_at : {A : Type 0} (xs ys : List A) (e : A) → slice_get (xs ++ e ∷ ys) (length xs) ≡ Some e
get_at [] ys e = refl
get_at (x ∷ xs) ys e = get_at xs ys e

get_end : {A : Type 0} (xs : List A) → slice_get xs (length xs) ≡ None
get_end [] = refl
get_end (x ∷ xs) = get_end xs

longer : {A : Type 0} (xs ys : List A) (e : A) (k : ℕ) → k ≤ length xs → suc k ≤ length (xs ++ e ∷ ys)
longer xs ys e k l = let h : length (xs ++ e ∷ ys) ≡ length xs + suc (length ys) = length-append xs (e ∷ ys) in omega arith

reach : (c : ChannelPlan) (xs : List ChildStep) (rest j : List ChildEntry) → (child_after c xs).journal ++ rest ≡ j
    → (k : ℕ) × (k ≤ length (child_after c xs).journal) × (replayed c j k ≡ child_after c xs)
reach c [] rest j e = (0, omega arith, refl)
reach c (x ∷ xs) rest j e =
    let s = child_after c xs in
    let s' = child_step c x s in
    elim (step_moves c x s) [
      | inl same ↦
          let e1 : s.journal ++ rest ≡ j = ap (λ (y : ChildState). y.journal ++ rest) (sym same) ∙ e in
          let r : (k : ℕ) × (k ≤ length s.journal) × (replayed c j k ≡ s) = reach c xs rest j e1 in
          (r.0, subst (λ (y : ChildState). r.0 ≤ length y.journal) (sym same) r.1, r.2 ∙ sym same)
      | inr (a, b, h, n) ↦
          let e1 : s.journal ++ a ∷ (b ++ rest) ≡ j = sym (append_assoc s.journal (a ∷ b) rest) ∙ (ap (λ t. t ++ rest) (sym h) ∙ e) in
          let r : (k : ℕ) × (k ≤ length s.journal) × (replayed c j k ≡ s) = reach c xs (a ∷ (b ++ rest)) j e1 in
          let g : slice_get j (length s.journal) ≡ Some a = rw (← e1) (get_at s.journal (b ++ rest) a) in (
            suc r.0,
            subst (λ t. suc r.0 ≤ length t) (sym h) (longer s.journal b a r.0 r.1),
            ap (λ (y : ChildState). replay_entry c y (slice_get j (length y.journal))) r.2 ∙ (ap (λ o. replay_entry c s o) g ∙ ap (λ y. child_step c y s) n),
          )
    ]

stays : (c : ChannelPlan) (j : List ChildEntry) (s : ChildState) (k n : ℕ) → s.journal ≡ j → k ≤ n → replayed c j k ≡ s → replayed c j n ≡ s
stays c j s k zero e l r = let z : k ≡ 0 = omega arith in rw z at r
stays c j s k (suc n) e l r = elim (le_or_more k n) [
  | inl x ↦
      let i : replayed c j n ≡ s = stays c j s k n e x r in
      let g : slice_get j (length s.journal) ≡ None = rw e (get_end j) in
      ap (λ (y : ChildState). replay_entry c y (slice_get j (length y.journal))) i ∙ ap (λ o. replay_entry c s o) g
  | inr x ↦ let z : k ≡ suc n = omega arith in rw z at r
]

pub child_replayed : (c : ChannelPlan) (steps : List ChildStep) (j : List ChildEntry) → (child_after c steps).journal ≡ j → state_of c j ≡ child_after c steps
child_replayed c steps j e =
    let r : (k : ℕ) × (k ≤ length (child_after c steps).journal) × (replayed c j k ≡ child_after c steps) = reach c steps [] j (append_nil (child_after c steps).journal ∙ e) in
    let l : r.0 ≤ length j = subst (λ t. r.0 ≤ length t) e r.1 in
    stays c j (child_after c steps) r.0 (length j) e l r.2

-- The same for a parent

abbrev Sends : ParentStep → List ParentEntry → ParentState → Type 0
Sends x p s' = (e : ParentEntry) × (rest : List ParentEntry) × (s'.journal ≡ p ++ e ∷ rest) × (parent_step_of e ≡ x)

abbrev Goes : ParentStep → ParentState → ParentState → Type 0
Goes x s s' = (s' ≡ s) ⊎ Sends x s.journal s'

given_sends : (l : StartLane) (p : List ParentEntry) (h : ℕ) (st : Status) (head : Head) → (e : ParentEntry) × (rest : List ParentEntry) × (p ++ start_entries l h st head ≡ p ++ e ∷ rest) × (parent_step_of e ≡ parent.Fetch)
given_sends lane.Main p h st head = (_, _, refl, refl)
given_sends lane.Back p h st head = (_, _, refl, refl)

end_goes : (c : ChannelPlan) (s : ParentState) (end : End) → Goes parent.Fetch s (fetch_finish c s end)
end_goes c s finish.Good = inr (_, [], refl, refl)
end_goes c s (finish.Fail st) = inr (_, [], refl, refl)

piece_goes : (c : ChannelPlan) (s : ParentState) (pieces : List (List ℕ)) (end : End) (o : Option (List ℕ)) → Goes parent.Fetch s (fetch_piece c s pieces end o)
piece_goes c s pieces end None = end_goes c s end
piece_goes c s pieces end (Some p) = keeps_if (Goes parent.Fetch s) (int_lt (pos 0) s.credit) _ s (λ r. inr (_, [], refl, refl)) (λ r. inl refl)

body_goes : (c : ChannelPlan) (s : ParentState) (q : Option Status) (o : Option Hop) → Goes parent.Fetch s (fetch_body c s q o)
body_goes c s (Some q) o = inr (_, [], refl, refl)
body_goes c s None None = inl refl
body_goes c s None (Some (hop.Fail st)) = inl refl
body_goes c s None (Some (hop.Redirect code verdict)) = inl refl
body_goes c s None (Some (hop.Response head pieces end trailers)) = piece_goes c s pieces end (slice_get pieces s.piece)

redirect_goes : (c : ChannelPlan) (s : ParentState) (code : ℕ) (q : Option Status) → Goes parent.Fetch s (fetch_redirect c s code q)
redirect_goes c s code (Some q) = inr (given_sends c.start s.journal s.hop _ _)
redirect_goes c s code None =
    keeps_if (Goes parent.Fetch s) (s.followed == 20) (give_start c s (Some redirect_loop) (bare_head code)) _ (λ r. inr (given_sends c.start s.journal s.hop _ _)) (λ r. inr (_, [], refl, refl))

ready_goes : (c : ChannelPlan) (s : ParentState) (o : Option Hop) → Goes parent.Fetch s (fetch_hop c s o)
ready_goes c s None = inl refl
ready_goes c s (Some (hop.Fail st)) = inr (_, [], refl, refl)
ready_goes c s (Some (hop.Redirect code verdict)) = redirect_goes c s code s.kept
ready_goes c s (Some (hop.Response head pieces end trailers)) = inr (given_sends c.start s.journal s.hop _ _)

follow_goes : (c : ChannelPlan) (s : ParentState) (q : Option Status) (o : Option Hop) → Goes parent.Fetch s (fetch_follow c s q o)
follow_goes c s (Some q) (Some (hop.Redirect code verdict)) = inr (given_sends c.start s.journal s.hop _ _)
follow_goes c s _ o = inr (_, [], refl, refl)

fetch_goes : (c : ChannelPlan) (s : ParentState) (ph : Phase) → Goes parent.Fetch s (fetch_in c s ph)
fetch_goes c s Closed = inl refl
fetch_goes c s Asking = inl refl
fetch_goes c s Done = inl refl
fetch_goes c s Ready = ready_goes c s (hop_at c s.hop)
fetch_goes c s Follow = follow_goes c s s.kept (hop_at c s.hop)
fetch_goes c s Body = body_goes c s s.kept (hop_at c s.hop)

step_goes : (c : ChannelPlan) (x : ParentStep) (s : ParentState) → Goes x s (parent_step c x s)
step_goes c (parent.Up m) s = inr (entry.Took m, [], ap (λ t. t ++ entry.Took m ∷ []) (up_journal c m s), refl)
step_goes c parent.Fetch s = keeps_if (Goes parent.Fetch s) s.suspended s (fetch_in c s s.phase) (λ r. inl refl) (λ r. fetch_goes c s s.phase)

parent_reach : (c : ChannelPlan) (xs : List ParentStep) (rest j : List ParentEntry) → (parent_after c xs).journal ++ rest ≡ j
    → (k : ℕ) × (k ≤ length (parent_after c xs).journal) × (parent_replayed c j k ≡ parent_after c xs)
parent_reach c [] rest j e = (0, omega arith, refl)
parent_reach c (x ∷ xs) rest j e =
    let s = parent_after c xs in
    elim (step_goes c x s) [
      | inl same ↦
          let e1 : s.journal ++ rest ≡ j = ap (λ (y : ParentState). y.journal ++ rest) (sym same) ∙ e in
          let r : (k : ℕ) × (k ≤ length s.journal) × (parent_replayed c j k ≡ s) = parent_reach c xs rest j e1 in
          (r.0, subst (λ (y : ParentState). r.0 ≤ length y.journal) (sym same) r.1, r.2 ∙ sym same)
      | inr (a, b, h, n) ↦
          let e1 : s.journal ++ a ∷ (b ++ rest) ≡ j = sym (append_assoc s.journal (a ∷ b) rest) ∙ (ap (λ t. t ++ rest) (sym h) ∙ e) in
          let r : (k : ℕ) × (k ≤ length s.journal) × (parent_replayed c j k ≡ s) = parent_reach c xs (a ∷ (b ++ rest)) j e1 in
          let g : slice_get j (length s.journal) ≡ Some a = rw (← e1) (get_at s.journal (b ++ rest) a) in (
            suc r.0,
            subst (λ t. suc r.0 ≤ length t) (sym h) (longer s.journal b a r.0 r.1),
            ap (λ (y : ParentState). parent_replay_entry c y (slice_get j (length y.journal))) r.2 ∙ (ap (λ o. parent_replay_entry c s o) g ∙ ap (λ y. parent_step c y s) n),
          )
    ]

parent_stays : (c : ChannelPlan) (j : List ParentEntry) (s : ParentState) (k n : ℕ) → s.journal ≡ j → k ≤ n → parent_replayed c j k ≡ s → parent_replayed c j n ≡ s
parent_stays c j s k zero e l r = let z : k ≡ 0 = omega arith in rw z at r
parent_stays c j s k (suc n) e l r = elim (le_or_more k n) [
  | inl x ↦
      let i : parent_replayed c j n ≡ s = parent_stays c j s k n e x r in
      let g : slice_get j (length s.journal) ≡ None = rw e (get_end j) in
      ap (λ (y : ParentState). parent_replay_entry c y (slice_get j (length y.journal))) i ∙ ap (λ o. parent_replay_entry c s o) g
  | inr x ↦ let z : k ≡ suc n = omega arith in rw z at r
]

pub parent_is_replayed : (c : ChannelPlan) (steps : List ParentStep) (j : List ParentEntry) → (parent_after c steps).journal ≡ j → parent_state_of c j ≡ parent_after c steps
parent_is_replayed c steps j e =
    let r : (k : ℕ) × (k ≤ length (parent_after c steps).journal) × (parent_replayed c j k ≡ parent_after c steps) = parent_reach c steps [] j (append_nil (parent_after c steps).journal ∙ e) in
    let l : r.0 ≤ length j = subst (λ t. r.0 ≤ length t) e r.1 in
    parent_stays c j (parent_after c steps) r.0 (length j) e l r.2

pub determined : (c : ChannelPlan) →
    ((steps : List ChildStep) → state_of c (child_after c steps).journal ≡ child_after c steps)
    × ((steps : List ParentStep) → parent_state_of c (parent_after c steps).journal ≡ parent_after c steps)
    × ((xs ys : List ChildStep) → (child_after c xs).journal ≡ (child_after c ys).journal → child_after c xs ≡ child_after c ys)
    × ((xs ys : List ParentStep) → (parent_after c xs).journal ≡ (parent_after c ys).journal → parent_after c xs ≡ parent_after c ys)
determined c = (
  λ steps. child_replayed c steps (child_after c steps).journal refl,
  λ steps. parent_is_replayed c steps (parent_after c steps).journal refl,
  λ xs ys e. sym (child_replayed c xs (child_after c ys).journal e) ∙ child_replayed c ys (child_after c ys).journal refl,
  λ xs ys e. sym (parent_is_replayed c xs (parent_after c ys).journal e) ∙ parent_is_replayed c ys (parent_after c ys).journal refl,
)
