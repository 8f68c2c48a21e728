-- Questions on redirects: the last one that a child took is open, or waits to be, or its verdict was sent.
use Rattle.std.proofs.Common.{ℕ, suc, ◌≡◌, refl, sym, ◌∙◌, ap, subst, List, [], ◌∷◌, ◌++◌, length, Bool, true, false, ◌||◌, Option, Some, None, is_some, ◌⊎◌, inl, inr, if◌then◌else◌, nat_lt, nat_le, slice_get, ◌==◌, append_assoc}
use Rattle.nk_base.specs.declared.status.Status.{Status}
use Rattle.nk_base.specs.declared.status.Target.{Target}
use Rattle.nk_base.specs.declared.status.RetargetError.{RetargetError}
use Rattle.nk_base.specs.declared.message.MainMsg.{MainMsg}
use Rattle.nk_base.specs.declared.message.BackMsg.{BackMsg}
use Rattle.nk_base.specs.declared.message.UpMsg.{UpMsg}
use Rattle.nk_plan.specs.declared.plan.ChannelPlan.{ChannelPlan}
use Rattle.nk_plan.specs.declared.plan.Reaction.{Reaction}
use Rattle.nk_plan.specs.declared.plan.Act.{Act}
use Rattle.nk_plan.specs.declared.plan.Control.{Control}
use Rattle.nk_plan.specs.declared.journal.ChildEntry.{ChildEntry}
use Rattle.nk_base.specs.Status.{merged}
use Rattle.nk_base.specs.Queue.{Taken, Event, Over, Ended, same_target, is_target, target_in, runs_now, has_some, running_now, completed, cleared, taken}
use Rattle.nk_plan.specs.Journal.{mains_taken}
use Rattle.nk_plan.specs.declared.plan.StartLane.{StartLane}
use Rattle.nk_plan.specs.declared.step.ChildStep.{ChildStep}
use Rattle.nk_plan.specs.Child.{main_events_of, note_main, step_main, back_hop, back_events_of, back_events, is_among, hold_back, step_back, of_hop, released_hold, step_release, child_step, cancel_messages, verdict_status, ChildState, run_bytes, run_event, offer_event, offer_all, with_entry, call_suspend, call_resume, call_cancel, refusal, call_retarget, is_empty, call_break, perform_call, perform_control, step_act, step_verdict, flush_with, step_begin, runs_on, react_all, bytes_failure, prepend_cancel, fail_data, finish_event, step_finish, child_after}
use Rattle.nk_plan.specs.declared.event.ChildEvent.{ChildEvent}
use Rattle.nk_plan.specs.declared.event.ChildEvent.TheVariants.{Start, Bytes, Stop, Redirect1, Redirect3, Cancel}
use Rattle.nk_plan.specs.Event.{class_of}
use Rattle.nk_laws.proofs.Tools.{keeps_if, append_nil, among_more, among_last, among_split, none_has}
use Rattle.nk_plan.specs.Lanes.{Among}
use Rattle.nk_laws.proofs.ChildLaw.{run_waiting, idle_empty}
use Rattle.nk_laws.proofs.Grows.{Grows, NoLane, plain_grows, main_grows, back_grows, noted_grows}
use Rattle.nk_laws.proofs.Merge.{main_events-append}
use Rattle.nk_laws.proofs.Taking.{main_events}
use Rattle.nk_base.specs.declared.status.Target.TheVariants as target
use Rattle.nk_base.specs.declared.message.MainMsg.TheVariants as main
use Rattle.nk_base.specs.declared.message.BackMsg.TheVariants as back
use Rattle.nk_base.specs.declared.message.UpMsg.TheVariants as up
use Rattle.nk_plan.specs.declared.plan.Reaction.TheVariants as reaction
use Rattle.nk_plan.specs.declared.plan.Act.TheVariants as act
use Rattle.nk_plan.specs.declared.journal.ChildEntry.TheVariants as child
use Rattle.nk_plan.specs.declared.plan.StartLane.TheVariants as lane
use Rattle.nk_plan.specs.declared.step.ChildStep.TheVariants as step
use Rattle.nk_laws.proofs.Grows as grows

-- The questions that a child was asked, and its answers

-- the question that is open once these events have run
abbrev pub asked : List ChildEvent → Option ℕ → Option ℕ
asked [] q = q
asked (Start code st ∷ es) q = asked es q
asked (Bytes o p st ∷ es) q = asked es q
asked (Stop st ∷ es) q = asked es q
asked (Redirect1 h ∷ es) q = asked es (Some h)
asked (Redirect3 h ∷ es) q = asked es q
asked (Cancel st ∷ es) q = asked es q

pub asked-append : (xs ys : List ChildEvent) (q : Option ℕ) → asked (xs ++ ys) q ≡ asked ys (asked xs q)
asked-append [] ys q = refl
asked-append (Start code st ∷ xs) ys q = asked-append xs ys q
asked-append (Bytes o p st ∷ xs) ys q = asked-append xs ys q
asked-append (Stop st ∷ xs) ys q = asked-append xs ys q
asked-append (Redirect1 h ∷ xs) ys q = asked-append xs ys (Some h)
asked-append (Redirect3 h ∷ xs) ys q = asked-append xs ys q
asked-append (Cancel st ∷ xs) ys q = asked-append xs ys q

asked_split : (w : List ChildEvent) (i : ℕ) → (asked w (Some i) ≡ asked w None) ⊎ (asked w (Some i) ≡ Some i)
asked_split [] i = inr refl
asked_split (Start code st ∷ xs) i = asked_split xs i
asked_split (Bytes o p st ∷ xs) i = asked_split xs i
asked_split (Stop st ∷ xs) i = asked_split xs i
asked_split (Redirect1 h ∷ xs) i = inl refl
asked_split (Redirect3 h ∷ xs) i = asked_split xs i
asked_split (Cancel st ∷ xs) i = asked_split xs i

-- a question on hop i is among these messages
abbrev pub Asks : ℕ → List MainMsg → Type 0
Asks i [] = ⊥
Asks i (main.Start h st head ∷ md) = Asks i md
Asks i (main.FailedOpen h st ∷ md) = Asks i md
Asks i (main.Redirect1 h code ∷ md) = (h ≡ i) ⊎ Asks i md
Asks i (main.Redirect3 h ∷ md) = Asks i md

pub asks_more : (i : ℕ) (md ms : List MainMsg) → Asks i md → Asks i (md ++ ms)
asks_more i [] ms a = absurd a
asks_more i (main.Start h st head ∷ md) ms a = asks_more i md ms a
asks_more i (main.FailedOpen h st ∷ md) ms a = asks_more i md ms a
asks_more i (main.Redirect1 h code ∷ md) ms (inl e) = inl e
asks_more i (main.Redirect1 h code ∷ md) ms (inr a) = inr (asks_more i md ms a)
asks_more i (main.Redirect3 h ∷ md) ms a = asks_more i md ms a

asks_last : (i code : ℕ) (md : List MainMsg) → Asks i (md ++ main.Redirect1 i code ∷ [])
asks_last i code [] = inl refl
asks_last i code (main.Start h st head ∷ md) = asks_last i code md
asks_last i code (main.FailedOpen h st ∷ md) = asks_last i code md
asks_last i code (main.Redirect1 h c ∷ md) = inr (asks_last i code md)
asks_last i code (main.Redirect3 h ∷ md) = asks_last i code md

-- the questions among these events were taken
abbrev Known : List ChildEvent → List MainMsg → Type 0
Known [] tm = Unit {0}
Known (Start code st ∷ es) tm = Known es tm
Known (Bytes o p st ∷ es) tm = Known es tm
Known (Stop st ∷ es) tm = Known es tm
Known (Redirect1 h ∷ es) tm = Asks h tm × Known es tm
Known (Redirect3 h ∷ es) tm = Known es tm
Known (Cancel st ∷ es) tm = Known es tm

known_more : (es : List ChildEvent) (tm ms : List MainMsg) → Known es tm → Known es (tm ++ ms)
known_more [] tm ms k = tt
known_more (Start code st ∷ es) tm ms k = known_more es tm ms k
known_more (Bytes o p st ∷ es) tm ms k = known_more es tm ms k
known_more (Stop st ∷ es) tm ms k = known_more es tm ms k
known_more (Redirect1 h ∷ es) tm ms k = (asks_more h tm ms k.0, known_more es tm ms k.1)
known_more (Redirect3 h ∷ es) tm ms k = known_more es tm ms k
known_more (Cancel st ∷ es) tm ms k = known_more es tm ms k

known_join : (xs ys : List ChildEvent) (tm : List MainMsg) → Known xs tm → Known ys tm → Known (xs ++ ys) tm
known_join [] ys tm a b = b
known_join (Start code st ∷ xs) ys tm a b = known_join xs ys tm a b
known_join (Bytes o p st ∷ xs) ys tm a b = known_join xs ys tm a b
known_join (Stop st ∷ xs) ys tm a b = known_join xs ys tm a b
known_join (Redirect1 h ∷ xs) ys tm a b = (a.0, known_join xs ys tm a.1 b)
known_join (Redirect3 h ∷ xs) ys tm a b = known_join xs ys tm a b
known_join (Cancel st ∷ xs) ys tm a b = known_join xs ys tm a b

known_left : (xs ys : List ChildEvent) (tm : List MainMsg) → Known (xs ++ ys) tm → Known xs tm × Known ys tm
known_left [] ys tm k = (tt, k)
known_left (Start code st ∷ xs) ys tm k = known_left xs ys tm k
known_left (Bytes o p st ∷ xs) ys tm k = known_left xs ys tm k
known_left (Stop st ∷ xs) ys tm k = known_left xs ys tm k
known_left (Redirect1 h ∷ xs) ys tm k = let r = known_left xs ys tm k.1 in ((k.0, r.0), r.1)
known_left (Redirect3 h ∷ xs) ys tm k = known_left xs ys tm k
known_left (Cancel st ∷ xs) ys tm k = known_left xs ys tm k

abbrev pub Verified : ℕ → List UpMsg → Type 0
Verified h sent = (st : Status) × Among (up.Verify h st) sent

pub record Quiz (w : List ChildEvent) (q : Option ℕ) (sent : List UpMsg) (broken : Bool) (tm : List MainMsg) : Type 0 where
  pub answered : broken ≡ false → (h : ℕ) → asked (main_events tm) None ≡ Some h → (asked w q ≡ Some h) ⊎ Verified h sent
  pub known_q : (i : ℕ) → q ≡ Some i → Asks i tm
  pub known_v : (i : ℕ) (st : Status) → Among (up.Verify i st) sent → Asks i tm
  pub known_w : Known w tm

abbrev QuizAt : List MainMsg → List ChildEvent → ChildState → Type 0
QuizAt tm pend s = Quiz (s.queue.waiting ++ pend) s.question s.sent s.broken tm

verified_more : (h : ℕ) (u v : List UpMsg) → Verified h u → Verified h (u ++ v)
verified_more h u v (st, a) = (st, among_more _ u v a)

quiz_says : (w : List ChildEvent) (q : Option ℕ) (sent : List UpMsg) (b : Bool) (tm : List MainMsg) (m : UpMsg) → ((i : ℕ) (st : Status) → m ≡ up.Verify i st → ⊥) → Quiz w q sent b tm → Quiz w q (sent ++ m ∷ []) b tm
quiz_says w q sent b tm m n k = record {
  answered = λ e h x. elim (k.answered e h x) [ inl y ↦ inl y | inr y ↦ inr (verified_more h sent (m ∷ []) y) ];
  known_q = k.known_q;
  known_v = λ i st a. elim (among_split (up.Verify i st) m sent a) [ inl x ↦ k.known_v i st x | inr x ↦ absurd (n i st x) ];
  known_w = k.known_w;
}

quiz_none : (w : List ChildEvent) (q : Option ℕ) (sent : List UpMsg) (b : Bool) (tm : List MainMsg) → Quiz w q sent b tm → Quiz w q (sent ++ []) b tm
quiz_none w q sent b tm k = rw (append_nil sent) k

quiz_cancel : (w : List ChildEvent) (q : Option ℕ) (sent : List UpMsg) (b : Bool) (tm : List MainMsg) (kept : Option Status) (st : Status) → Quiz w q sent b tm → Quiz w q (sent ++ cancel_messages kept st) b tm
quiz_cancel w q sent b tm None st k = quiz_says w q sent b tm (up.Cancel st) (λ i x e. cc) k
quiz_cancel w q sent b tm (Some d) st k = quiz_none w q sent b tm k

-- the state without its first event, which runs: what comes is w
abbrev QuizOn : List MainMsg → List ChildEvent → ChildState → Type 0
QuizOn tm w s = Quiz w s.question s.sent s.broken tm

bytes_quiz : (tm : List MainMsg) (w : List ChildEvent) (s : ChildState) (t : Target) (at : ℕ) (p : List ℕ) (k : Option Status) (st : Status) → QuizOn tm w s → QuizOn tm w (run_bytes s t at p k st)
bytes_quiz tm w s t at p None st z = z
bytes_quiz tm w s t at p (Some d) st z = z

run_quiz : (c : ChannelPlan) (tm : List MainMsg) (w : List ChildEvent) (t : Target) (e : ChildEvent) (s : ChildState) → QuizOn tm (e ∷ w) s → QuizOn tm w (run_event c t e s)
run_quiz c tm w t (Start code st) s z = record { answered = z.answered; known_q = z.known_q; known_v = z.known_v; known_w = z.known_w }
run_quiz c tm w t (Bytes at p st) s z = bytes_quiz tm w s t at p (merged s.kept st) st (record { answered = z.answered; known_q = z.known_q; known_v = z.known_v; known_w = z.known_w })
run_quiz c tm w t (Stop st) s z = record { answered = z.answered; known_q = z.known_q; known_v = z.known_v; known_w = z.known_w }
run_quiz c tm w t (Redirect1 i) s z = record { answered = z.answered; known_q = λ j e. let x : i ≡ j = cc in subst (λ n. Asks n tm) x z.known_w.0; known_v = z.known_v; known_w = z.known_w.1 }
run_quiz c tm w t (Redirect3 i) s z = record { answered = z.answered; known_q = z.known_q; known_v = z.known_v; known_w = z.known_w }
run_quiz c tm w t (Cancel st) s z =
    quiz_cancel w s.question s.sent s.broken tm s.kept st (record { answered = z.answered; known_q = z.known_q; known_v = z.known_v; known_w = z.known_w })

offered_quiz : (c : ChannelPlan) (tm : List MainMsg) (pend : List ChildEvent) (here : Target) (e : ChildEvent) (s : ChildState) → QuizAt tm (e ∷ pend) s → QuizAt tm pend (offer_event c here e s)
offered_quiz c tm pend here e s z =
    let s1 : ChildState = record s { queue = running_now s.queue here } in
    keeps_if (QuizAt tm pend) (runs_now class_of s.queue e here) (run_event c here e s1) _
    (λ r.
    let w0 : s.queue.waiting ≡ [] = none_has s.queue.waiting
    (idle_empty (nat_lt 0 s.queue.forced) s.queue.suspended (is_some s.queue.flushing) (has_some s.queue.waiting) (same_target (target_in s.queue.data_target (class_of e)) here) r) in
    let z1 : QuizOn tm (e ∷ pend) s = subst (λ (x : List ChildEvent). Quiz (x ++ e ∷ pend) s.question s.sent s.broken tm) w0 z in
    let ran : QuizOn tm pend (run_event c here e s1) = run_quiz c tm pend here e s1 z1 in
    subst (λ (x : List ChildEvent). Quiz (x ++ pend) (run_event c here e s1).question (run_event c here e s1).sent (run_event c here e s1).broken tm) (sym (run_waiting c here e s1 ∙ w0)) ran)
    (λ r. rw (append_assoc s.queue.waiting (e ∷ []) pend) z)

offered_all_quiz : (c : ChannelPlan) (tm : List MainMsg) (pend : List ChildEvent) (here : Target) (es : List ChildEvent) (s : ChildState) → QuizAt tm (es ++ pend) s → QuizAt tm pend (offer_all c here es s)
offered_all_quiz c tm pend here [] s z = z
offered_all_quiz c tm pend here (e ∷ es) s z = offered_all_quiz c tm pend here es (offer_event c here e s) (offered_quiz c tm (es ++ pend) here e s z)

-- The other rows

retarget_quiz : (tm : List MainMsg) (pend : List ChildEvent) (o : Option RetargetError) (n : ℕ) (s : ChildState) → QuizAt tm pend s → QuizAt tm pend (call_retarget o n s)
retarget_quiz tm pend (Some e) n s z = z
retarget_quiz tm pend None n s z = z

suspend_quiz : (w : List ChildEvent) (q : Option ℕ) (sent : List UpMsg) (b : Bool) (tm : List MainMsg) (c : Bool) → Quiz w q sent b tm → Quiz w q (sent ++ (if c then up.Suspend ∷ [] else [])) b tm
suspend_quiz w q sent b tm true k = quiz_says w q sent b tm up.Suspend (λ i x e. cc) k
suspend_quiz w q sent b tm false k = quiz_none w q sent b tm k

resume_quiz : (w : List ChildEvent) (q : Option ℕ) (sent : List UpMsg) (b : Bool) (tm : List MainMsg) (c : Bool) → Quiz w q sent b tm → Quiz w q (sent ++ (if c then up.Resume ∷ [] else [])) b tm
resume_quiz w q sent b tm true k = quiz_says w q sent b tm up.Resume (λ i x e. cc) k
resume_quiz w q sent b tm false k = quiz_none w q sent b tm k

-- after a break nothing is answered any more
broken_quiz : (c : ChannelPlan) (tm : List MainMsg) (st : Status) (s : ChildState) → QuizAt tm [] s → QuizAt tm [] (call_break c st s)
broken_quiz c tm st s z =
    let s1 : ChildState = record s { broken = true; kept = merged s.kept st; queue = cleared s.queue; journal = s.journal ++ child.Break st ∷ [] } in
    offered_all_quiz c tm [] target.Main (if is_empty s.trace then Start 0 st ∷ Stop st ∷ [] else Stop st ∷ []) s1
    (keeps_if (λ (es : List ChildEvent). QuizAt tm (es ++ []) s1) (is_empty s.trace) (Start 0 st ∷ Stop st ∷ []) (Stop st ∷ [])
    (λ r. record { answered = λ e. cc; known_q = z.known_q; known_v = z.known_v; known_w = tt })
    (λ r. record { answered = λ e. cc; known_q = z.known_q; known_v = z.known_v; known_w = tt }))

performed_quiz : (c : ChannelPlan) (tm : List MainMsg) (x : Act) (s : ChildState) → QuizAt tm [] s → QuizAt tm [] (perform_call c x s)
performed_quiz c tm act.Suspend s z = keeps_if (QuizAt tm []) s.stopped (with_entry child.NoEffect s) (call_suspend s) (λ r. z) (λ r. suspend_quiz _ s.question s.sent s.broken tm (s.suspends == 0) z)
performed_quiz c tm act.Resume s z =
    keeps_if (QuizAt tm []) (s.stopped || (s.suspends == 0)) (with_entry child.NoEffect s) (call_resume s) (λ r. z) (λ r. resume_quiz _ s.question s.sent s.broken tm (s.suspends == 1) z)
performed_quiz c tm (act.Cancel st) s z =
    keeps_if (QuizAt tm []) (s.stopped || is_some s.kept) (with_entry child.NoEffect s) (call_cancel st s) (λ r. z) (λ r. quiz_says _ s.question s.sent s.broken tm (up.Cancel st) (λ i x e. cc) z)
performed_quiz c tm (act.Retarget n) s z = retarget_quiz tm [] (refusal c s) n s z
performed_quiz c tm (act.Break st) s z = keeps_if (QuizAt tm []) (s.stopped || s.broken) (with_entry child.NoEffect s) (call_break c st s) (λ r. z) (λ r. broken_quiz c tm st s z)

reacted_quiz : (c : ChannelPlan) (tm : List MainMsg) (rs : List Reaction) (s : ChildState) → QuizAt tm [] s → QuizAt tm [] (react_all c rs s)
reacted_quiz c tm [] s z = z
reacted_quiz c tm (reaction.StartRetarget n ∷ rs) s z = reacted_quiz c tm rs (perform_call c (act.Retarget n) s) (performed_quiz c tm (act.Retarget n) s z)
reacted_quiz c tm (reaction.StartSuspend ∷ rs) s z = reacted_quiz c tm rs (perform_call c act.Suspend s) (performed_quiz c tm act.Suspend s z)
reacted_quiz c tm (reaction.StartCancel st ∷ rs) s z = reacted_quiz c tm rs (perform_call c (act.Cancel st) s) (performed_quiz c tm (act.Cancel st) s z)
reacted_quiz c tm (reaction.StartFail st ∷ rs) s z = reacted_quiz c tm rs (perform_call c (act.Cancel st) s) (performed_quiz c tm (act.Cancel st) s z)
reacted_quiz c tm (reaction.BytesFail n st ∷ rs) s z = reacted_quiz c tm rs s z

control_quiz : (c : ChannelPlan) (tm : List MainMsg) (o : Option Control) (s : ChildState) → QuizAt tm [] s → QuizAt tm [] (perform_control c o s)
control_quiz c tm None s z = z
control_quiz c tm (Some control) s z =
    let s1 : ChildState = record s { next = suc s.next } in
    keeps_if (QuizAt tm []) (nat_le control.after s.finished) (perform_call c control.act s1) s (λ r. performed_quiz c tm control.act s1 z) (λ r. z)

acted_quiz : (c : ChannelPlan) (tm : List MainMsg) (s : ChildState) → QuizAt tm [] s → QuizAt tm [] (step_act c s)
acted_quiz c tm s z =
    keeps_if (QuizAt tm []) c.closed s _ (λ r. z)
    (λ r. keeps_if (QuizAt tm []) s.opened (perform_control c (slice_get c.controls s.next) s) _ (λ q. control_quiz c tm (slice_get c.controls s.next) s z)
    (λ q. quiz_says _ s.question s.sent s.broken tm up.Open (λ i x e. cc) z))

-- a verdict is the answer to the question that is open
verdict_quiz : (c : ChannelPlan) (tm : List MainMsg) (o : Option ℕ) (s : ChildState) → s.question ≡ o → QuizAt tm [] s → QuizAt tm [] (step_verdict c o s)
verdict_quiz c tm None s e z = z
verdict_quiz c tm (Some i) s e z =
    let w : List ChildEvent = s.queue.waiting ++ [] in
    let m : UpMsg = up.Verify i (verdict_status c s.kept i) in
    record {
      answered = λ b h x. elim (z.answered b h x) [
        | inl y ↦
            let y1 : asked w (Some i) ≡ Some h = rw e at y in
            elim (asked_split w i) [
              | inl d ↦ inl (sym d ∙ y1)
              | inr d ↦ let t : Some i ≡ Some h = sym d ∙ y1 in let u : i ≡ h = cc in inr (subst (λ n. Verified n (s.sent ++ m ∷ [])) u (verdict_status c s.kept i, among_last m s.sent))
            ]
        | inr y ↦ inr (verified_more h s.sent (m ∷ []) y)
      ];
      known_q = λ j x. cc;
      known_v = λ j st a. elim (among_split (up.Verify j st) m s.sent a) [ inl x ↦ z.known_v j st x | inr x ↦ let u : i ≡ j = cc in subst (λ n. Asks n tm) u (z.known_q i e) ];
      known_w = z.known_w;
    }

taken_quiz : (c : ChannelPlan) (tm : List MainMsg) (t : Target) (w : List ChildEvent) (s : ChildState) → s.queue.waiting ≡ w → QuizAt tm [] s → QuizAt tm [] (flush_with c t (taken class_of s.queue t w) s)
taken_quiz c tm t [] s e z = z
taken_quiz c tm t (x ∷ es) s e z =
    let P : Taken ChildEvent → Type 0 = λ y. QuizAt tm [] (flush_with c t y s) in
    let u : Target = target_in s.queue.data_target (class_of x) in
    keeps_if P (s.queue.suspended || nat_lt 0 s.queue.forced) Ended (if same_target u t then Event x es else Over u) (λ r. z)
    (λ r. keeps_if P (same_target u t) (Event x es) (Over u)
    (λ q.
    let s1 : ChildState = record s { queue = record s.queue { waiting = es } } in
    let z1 : QuizOn tm (x ∷ (es ++ [])) s = subst (λ (y : List ChildEvent). Quiz (y ++ []) s.question s.sent s.broken tm) e z in
    subst (λ (y : List ChildEvent). Quiz (y ++ []) (run_event c t x s1).question (run_event c t x s1).sent (run_event c t x s1).broken tm) (sym (run_waiting c t x s1)) (run_quiz c tm (es ++ []) t x s1 z1))
    (λ q. z))

begun_quiz : (c : ChannelPlan) (tm : List MainMsg) (t : Target) (s : ChildState) → QuizAt tm [] s → QuizAt tm [] (step_begin c t s)
begun_quiz c tm t s z =
    keeps_if (QuizAt tm []) (runs_on s.running t) s _ (λ r. z)
    (λ r. keeps_if (QuizAt tm []) (is_target s.queue.flushing t) (flush_with c t (taken class_of s.queue t s.queue.waiting) s) _ (λ q. taken_quiz c tm t s.queue.waiting s refl z)
    (λ q. keeps_if (QuizAt tm []) _ (record s { queue = completed s.queue t; journal = s.journal ++ child.Complete t ∷ [] }) s (λ p. z) (λ p. z)))

failed_quiz : (c : ChannelPlan) (tm : List MainMsg) (t : Target) (o : Option Status) (s : ChildState) → QuizAt tm [] s → QuizAt tm [] (fail_data c t o s)
failed_quiz c tm t None s z = z
failed_quiz c tm t (Some d) s z =
    keeps_if (QuizAt tm []) (same_target t target.Main) (perform_call c (act.Cancel d) s) (prepend_cancel d s) (λ r. performed_quiz c tm (act.Cancel d) s z)
    (λ r. record { answered = z.answered; known_q = z.known_q; known_v = z.known_v; known_w = z.known_w })

event_quiz : (c : ChannelPlan) (tm : List MainMsg) (t : Target) (e : ChildEvent) (s : ChildState) → QuizAt tm [] s → QuizAt tm [] (finish_event c t e s)
event_quiz c tm t (Start code st) s z = reacted_quiz c tm c.reactions s z
event_quiz c tm t (Bytes at p st) s z =
    failed_quiz c tm t (bytes_failure c.reactions s.data_begun) (record s { sent = s.sent ++ up.BytesRead (length p) ∷ [] }) (quiz_says _ s.question s.sent s.broken tm (up.BytesRead (length p)) (λ i x e. cc) z)
event_quiz c tm t (Stop st) s z = quiz_says _ s.question s.sent s.broken tm up.Deleting (λ i x e. cc) z
event_quiz c tm t (Redirect1 i) s z = z
event_quiz c tm t (Redirect3 i) s z = z
event_quiz c tm t (Cancel st) s z = z

finished_quiz : (c : ChannelPlan) (tm : List MainMsg) (t : Target) (o : Option (Target × ChildEvent)) (s : ChildState) → QuizAt tm [] s → QuizAt tm [] (step_finish c t o s)
finished_quiz c tm t None s z = z
finished_quiz c tm t (Some r) s z =
    let s1 : ChildState = record s { running = None; finished = suc s.finished; journal = s.journal ++ child.Finish t ∷ [] } in
    keeps_if (QuizAt tm []) (same_target r.0 t) (finish_event c t r.1 s1) s (λ q. event_quiz c tm t r.1 s1 z) (λ q. z)

-- events that ask nothing may join at any place
abbrev AsksNone : List ChildEvent → Type 0
AsksNone es = ((q : Option ℕ) → asked es q ≡ q) × ((tm : List MainMsg) → Known es tm)

back_asks : (m : BackMsg) → AsksNone (back_events_of m)
back_asks (back.StartSent h) = (λ q. refl, λ tm. tt)
back_asks (back.Start h st head) = (λ q. refl, λ tm. tt)
back_asks (back.Bytes h st o p) = (λ q. refl, λ tm. tt)
back_asks (back.Stop h st trailers) = (λ q. refl, λ tm. tt)

backs_ask : (ms : List BackMsg) → AsksNone (back_events ms)
backs_ask [] = (λ q. refl, λ tm. tt)
backs_ask (m ∷ ms) = (
  λ q. asked-append (back_events_of m) (back_events ms) q ∙ (ap (λ t. asked (back_events ms) t) ((back_asks m).0 q) ∙ (backs_ask ms).0 q),
  λ tm. known_join (back_events_of m) (back_events ms) tm ((back_asks m).1 tm) ((backs_ask ms).1 tm),
)

joins : (tm : List MainMsg) (es : List ChildEvent) (s : ChildState) → AsksNone es → QuizAt tm [] s → QuizAt tm (es ++ []) s
joins tm es s n z = record {
  answered = λ b h x. elim (z.answered b h x) [
    | inl y ↦ inl (asked-append s.queue.waiting (es ++ []) s.question ∙ (asked-append es [] (asked s.queue.waiting s.question) ∙ (n.0 (asked s.queue.waiting s.question) ∙ (sym (asked-append s.queue.waiting [] s.question) ∙ y))))
    | inr y ↦ inr y
  ];
  known_q = z.known_q;
  known_v = z.known_v;
  known_w = known_join s.queue.waiting (es ++ []) tm (known_left s.queue.waiting [] tm z.known_w).0 (known_join es [] tm (n.1 tm) tt);
}

passed_quiz : (c : ChannelPlan) (tm : List MainMsg) (m : BackMsg) (s : ChildState) → QuizAt tm [] s → QuizAt tm [] (hold_back c m s)
passed_quiz c tm m s z =
    keeps_if (QuizAt tm []) (is_among s.hold.released (back_hop m)) (offer_all c target.Back (back_events_of m) s) _
    (λ r. offered_all_quiz c tm [] target.Back (back_events_of m) s (joins tm (back_events_of m) s (back_asks m) z)) (λ r. z)

back_quiz : (c : ChannelPlan) (tm : List MainMsg) (m : BackMsg) (s : ChildState) → QuizAt tm [] s → QuizAt tm [] (step_back c m s)
back_quiz c tm (back.StartSent h) s z = z
back_quiz c tm (back.Start h st head) s z = passed_quiz c tm (back.Start h st head) s z
back_quiz c tm (back.Bytes h st o p) s z = passed_quiz c tm (back.Bytes h st o p) s z
back_quiz c tm (back.Stop h st trailers) s z = passed_quiz c tm (back.Stop h st trailers) s z

release_quiz : (c : ChannelPlan) (tm : List MainMsg) (o : Option ℕ) (s : ChildState) → QuizAt tm [] s → QuizAt tm [] (step_release c o s)
release_quiz c tm None s z = z
release_quiz c tm (Some h) s z =
    let s1 : ChildState = record s { hold = released_hold h s.hold; journal = s.journal ++ child.Release (length (of_hop h s.hold.kept)) ∷ [] } in
    offered_all_quiz c tm [] target.Back (back_events (of_hop h s.hold.kept)) s1 (joins tm (back_events (of_hop h s.hold.kept)) s1 (backs_ask (of_hop h s.hold.kept)) z)

-- A message of the main lane is taken

asks_or_not : (m : MainMsg) → ((q : Option ℕ) → asked (main_events_of m ++ []) q ≡ q) ⊎ ((i : ℕ) × ((q : Option ℕ) → asked (main_events_of m ++ []) q ≡ Some i))
asks_or_not (main.Start h st head) = inl (λ q. refl)
asks_or_not (main.FailedOpen h st) = inl (λ q. refl)
asks_or_not (main.Redirect1 h code) = inr (h, λ q. refl)
asks_or_not (main.Redirect3 h) = inl (λ q. refl)

known_main : (m : MainMsg) (tm : List MainMsg) → Known (main_events_of m ++ []) (tm ++ m ∷ [])
known_main (main.Start h st head) tm = tt
known_main (main.FailedOpen h st) tm = tt
known_main (main.Redirect1 h code) tm = (asks_last h code tm, tt)
known_main (main.Redirect3 h) tm = tt

joins_main : (m : MainMsg) (tm : List MainMsg) (s : ChildState) → QuizAt tm [] s → QuizAt (tm ++ m ∷ []) (main_events_of m ++ []) s
joins_main m tm s z =
    let w = s.queue.waiting in
    let q = s.question in
    let all : asked (main_events (tm ++ m ∷ [])) None ≡ asked (main_events_of m ++ []) (asked (main_events tm) None) =
    ap (λ es. asked es None) (main_events-append tm (m ∷ [])) ∙ asked-append (main_events tm) (main_events_of m ++ []) None in
    let here : asked (w ++ (main_events_of m ++ [])) q ≡ asked (main_events_of m ++ []) (asked w q) = asked-append w (main_events_of m ++ []) q in
    let plain : asked (w ++ []) q ≡ asked w q = asked-append w [] q in
    record {
      answered = λ b h x.
          let x1 : asked (main_events_of m ++ []) (asked (main_events tm) None) ≡ Some h = sym all ∙ x in
          elim (asks_or_not m) [
            | inl n ↦ elim (z.answered b h (sym (n (asked (main_events tm) None)) ∙ x1)) [
              | inl y ↦ inl (here ∙ (n (asked w q) ∙ (sym plain ∙ y)))
              | inr y ↦ inr y
            ]
            | inr n ↦ inl (here ∙ (n.1 (asked w q) ∙ (sym (n.1 (asked (main_events tm) None)) ∙ x1)))
          ];
      known_q = λ i e. asks_more i tm (m ∷ []) (z.known_q i e);
      known_v = λ i st a. asks_more i tm (m ∷ []) (z.known_v i st a);
      known_w = known_join w (main_events_of m ++ []) (tm ++ m ∷ []) (known_more w tm (m ∷ []) (known_left w [] tm z.known_w).0) (known_main m tm);
    }

reported_quiz : (tm : List MainMsg) (l : StartLane) (m : MainMsg) (s : ChildState) → QuizAt tm [] s → QuizAt tm [] (note_main l m s)
reported_quiz tm l (main.Start h st head) s z = z
reported_quiz tm l (main.FailedOpen h st) s z = z
reported_quiz tm l (main.Redirect1 h code) s z = z
reported_quiz tm lane.Main (main.Redirect3 h) s z = z
reported_quiz tm lane.Back (main.Redirect3 h) s z = z

main_quiz : (c : ChannelPlan) (tm : List MainMsg) (m : MainMsg) (s : ChildState) → QuizAt tm [] s → QuizAt (tm ++ m ∷ []) [] (step_main c m s)
main_quiz c tm m s z =
    reported_quiz (tm ++ m ∷ []) c.start m (offer_all c target.Main (main_events_of m) s)
    (offered_all_quiz c (tm ++ m ∷ []) [] target.Main (main_events_of m) s (joins_main m tm s z))

plain_quiz : (c : ChannelPlan) (tm : List MainMsg) (x : ChildStep) (s : ChildState) → NoLane x → QuizAt tm [] s → QuizAt tm [] (child_step c x s)
plain_quiz c tm step.Act s n z = acted_quiz c tm s z
plain_quiz c tm step.Verdict s n z = keeps_if (QuizAt tm []) s.broken s (step_verdict c s.question s) (λ r. z) (λ r. verdict_quiz c tm s.question s refl z)
plain_quiz c tm (step.Main m) s n z = absurd n
plain_quiz c tm (step.Back m) s n z = absurd n
plain_quiz c tm step.Release s n z = keeps_if (QuizAt tm []) s.broken s (step_release c s.hold.report s) (λ r. z) (λ r. release_quiz c tm s.hold.report s z)
plain_quiz c tm (step.Begin t) s n z = begun_quiz c tm t s z
plain_quiz c tm (step.Finish t) s n z = finished_quiz c tm t s.running s z

abbrev pub IsQuizzed : ChildState → Type 0
IsQuizzed s = Quiz (s.queue.waiting ++ []) s.question s.sent s.broken (mains_taken s.journal)

plain_step : (c : ChannelPlan) (x : ChildStep) (s : ChildState) → NoLane x → IsQuizzed s → IsQuizzed (child_step c x s)
plain_step c x s n z =
    let g : Grows s.journal s.sent (child_step c x s) = plain_grows c x s n in
    let e : mains_taken (child_step c x s).journal ≡ mains_taken s.journal =
    ap mains_taken g.journal_is ∙ (grows.mains-append s.journal g.entries ∙ (ap (λ t. mains_taken s.journal ++ t) g.no_main ∙ append_nil (mains_taken s.journal))) in
    subst (λ tm. QuizAt tm [] (child_step c x s)) (sym e) (plain_quiz c (mains_taken s.journal) x s n z)

main_step : (c : ChannelPlan) (m : MainMsg) (s : ChildState) → IsQuizzed s → IsQuizzed (step_main c m (with_entry (child.TookMain m) s))
main_step c m s z =
    let s' = step_main c m (with_entry (child.TookMain m) s) in
    let j : List ChildEntry = s.journal ++ child.TookMain m ∷ [] in
    let g : Grows j s.sent s' = main_grows c j s.sent m (with_entry (child.TookMain m) s) (noted_grows (child.TookMain m) s) in
    let e : mains_taken s'.journal ≡ mains_taken s.journal ++ m ∷ [] =
    ap mains_taken g.journal_is ∙ (grows.mains-append j g.entries ∙ (ap (λ t. mains_taken j ++ t) g.no_main ∙ (append_nil (mains_taken j) ∙ grows.mains-append s.journal (child.TookMain m ∷ [])))) in
    subst (λ tm. QuizAt tm [] s') (sym e) (main_quiz c (mains_taken s.journal) m (with_entry (child.TookMain m) s) z)

back_step : (c : ChannelPlan) (m : BackMsg) (s : ChildState) → IsQuizzed s → IsQuizzed (step_back c m (with_entry (child.TookBack m) s))
back_step c m s z =
    let s' = step_back c m (with_entry (child.TookBack m) s) in
    let j : List ChildEntry = s.journal ++ child.TookBack m ∷ [] in
    let g : Grows j s.sent s' = back_grows c j s.sent m (with_entry (child.TookBack m) s) (noted_grows (child.TookBack m) s) in
    let e : mains_taken s'.journal ≡ mains_taken s.journal =
    ap mains_taken g.journal_is ∙ (grows.mains-append j g.entries ∙ (ap (λ t. mains_taken j ++ t) g.no_main ∙ (append_nil (mains_taken j) ∙ (grows.mains-append s.journal (child.TookBack m ∷ []) ∙ append_nil (mains_taken s.journal))))) in
    subst (λ tm. QuizAt tm [] s') (sym e) (back_quiz c (mains_taken s.journal) m (with_entry (child.TookBack m) s) z)

step_quiz : (c : ChannelPlan) (x : ChildStep) (s : ChildState) → IsQuizzed s → IsQuizzed (child_step c x s)
step_quiz c step.Act s z = plain_step c step.Act s tt z
step_quiz c step.Verdict s z = plain_step c step.Verdict s tt z
step_quiz c (step.Main m) s z = keeps_if IsQuizzed s.broken s (step_main c m (with_entry (child.TookMain m) s)) (λ r. z) (λ r. main_step c m s z)
step_quiz c (step.Back m) s z = keeps_if IsQuizzed s.broken s (step_back c m (with_entry (child.TookBack m) s)) (λ r. z) (λ r. back_step c m s z)
step_quiz c step.Release s z = plain_step c step.Release s tt z
step_quiz c (step.Begin t) s z = plain_step c (step.Begin t) s tt z
step_quiz c (step.Finish t) s z = plain_step c (step.Finish t) s tt z

pub child_quizzed : (c : ChannelPlan) (steps : List ChildStep) → IsQuizzed (child_after c steps)
child_quizzed c [] = record { answered = λ b h x. cc; known_q = λ i e. cc; known_v = λ i st a. absurd a; known_w = tt }
child_quizzed c (x ∷ xs) = step_quiz c x (child_after c xs) (child_quizzed c xs)
