-- The two sides of a channel are runs, and what each took begins what the other sent.
use Rattle.std.proofs.Common.{ℕ, zero, suc, ◌≡◌, ◌≤◌, ◌<◌, refl, sym, ◌∙◌, ap, List, [], ◌∷◌, ◌++◌, length, if◌then◌else◌, nat_lt, take, drop, arith, append_assoc, Option, Some, None, slice_get, ◌==◌, pos, int_lt, length-append}
use Rattle.std.proofs.lemmas.List.{take-append-le}
use Rattle.nk_base.specs.declared.message.MainMsg.{MainMsg}
use Rattle.nk_base.specs.declared.message.BackMsg.{BackMsg}
use Rattle.nk_base.specs.declared.message.UpMsg.{UpMsg}
use Rattle.nk_plan.specs.declared.plan.ChannelPlan.{ChannelPlan}
use Rattle.nk_plan.specs.declared.journal.ParentEntry.{ParentEntry}
use Rattle.nk_plan.specs.declared.step.ChildStep.{ChildStep}
use Rattle.nk_laws.specs.Moves.{Joined}
use Rattle.nk_laws.proofs.Premises.{PlanOk}
use Rattle.nk_plan.specs.Trace.{SeqTrace}
use Rattle.nk_plan.specs.Parent.{ParentState, parent_step, start_entries, give_start, bare_head, fetch_finish, fetch_piece, fetch_body, fetch_redirect, fetch_hop, fetch_follow, fetch_in, take_up}
use Rattle.nk_plan.specs.Journal.{mains_sent, backs_sent, ups_taken, mains_taken, backs_taken, first, final, cut}
use Rattle.nk_plan.specs.Child.{ChildState, child_step, with_entry, step_main, step_back}
use Rattle.nk_plan.specs.Lanes.{IsPrefix}
use Rattle.nk_plan.specs.Channel.{Channel, main_lane, back_lane, up_lane, up_step, main_step, back_step, forward_step, channel_step, channel_after}
use Rattle.nk_plan.specs.declared.step.Step.{Step}
use Rattle.nk_plan.specs.declared.step.Step.TheVariants.{Act, Verdict, Fetch, Up, Forward, Main, Back, Release, Begin, Finish, Read}
use Rattle.nk_plan.specs.declared.plan.StartLane.{StartLane}
use Rattle.nk_plan.specs.declared.plan.Hop.{Hop}
use Rattle.nk_plan.specs.declared.plan.Finish.{Finish as End}
use Rattle.nk_base.specs.declared.status.Status.{Status}
use Rattle.nk_base.specs.declared.field.Head.{Head}
use Rattle.nk_base.specs.Status.{redirect_loop}
use Rattle.nk_plan.specs.Plan.{hop_at}
use Rattle.nk_plan.specs.declared.step.Phase.{Phase}
use Rattle.nk_plan.specs.declared.step.Phase.TheVariants.{Closed, Ready, Asking, Follow, Body, Done}
use Rattle.nk_laws.proofs.ParentLaw.{ups-append, mains-append, backs-append}
use Rattle.nk_laws.proofs.Grows.{Grown, Grows, NoLane, plain_grows, main_grows, back_grows, noted_grows}
use borrow.Author.Tests.{ltb-true}
use Rattle.nk_laws.proofs.Tools.{keeps_if, append_nil}
use Rattle.nk_laws.proofs.Merge.{merge_state}
use Rattle.nk_base.specs.declared.message.UpMsg.TheVariants as up
use Rattle.nk_plan.specs.declared.step.ParentStep.TheVariants as parent
use Rattle.nk_plan.specs.declared.step.ChildStep.TheVariants as child
use Rattle.nk_plan.specs.declared.journal.ParentEntry.TheVariants as entry
use Rattle.nk_plan.specs.declared.plan.StartLane.TheVariants as lane
use Rattle.nk_plan.specs.declared.plan.Hop.TheVariants as hop
use Rattle.nk_plan.specs.declared.plan.Finish.TheVariants as finish
use Rattle.nk_laws.proofs.Grows as child_side
use Rattle.nk_plan.specs.declared.journal.ChildEntry.TheVariants as child_entry

-- A fetch adds to the parent's journal, and takes nothing

pub record Adds (p q : List ParentEntry) : Type 0 where
  pub entries : List ParentEntry
  pub journal_is : q ≡ p ++ entries
  pub no_up : ups_taken entries ≡ []

adds_none : (p : List ParentEntry) → Adds p p
adds_none p = record { entries = []; journal_is = sym (append_nil p); no_up = refl }

adds : (p x : List ParentEntry) → ups_taken x ≡ [] → Adds p (p ++ x)
adds p x e = record { entries = x; journal_is = refl; no_up = e }

given_adds : (l : StartLane) (p : List ParentEntry) (h : ℕ) (st : Status) (head : Head) → Adds p (p ++ start_entries l h st head)
given_adds lane.Main p h st head = adds p _ refl
given_adds lane.Back p h st head = adds p _ refl

abbrev pub Fetches : ParentState → ParentState → Type 0
Fetches s s' = Adds s.journal s'.journal

finished_adds : (c : ChannelPlan) (s : ParentState) (end : End) → Fetches s (fetch_finish c s end)
finished_adds c s finish.Good = adds s.journal _ refl
finished_adds c s (finish.Fail st) = adds s.journal _ refl

piece_adds : (c : ChannelPlan) (s : ParentState) (pieces : List (List ℕ)) (end : End) (o : Option (List ℕ)) → Fetches s (fetch_piece c s pieces end o)
piece_adds c s pieces end None = finished_adds c s end
piece_adds c s pieces end (Some p) = keeps_if (Fetches s) (int_lt (pos 0) s.credit) _ s (λ r. adds s.journal _ refl) (λ r. adds_none s.journal)

body_adds : (c : ChannelPlan) (s : ParentState) (q : Option Status) (o : Option Hop) → Fetches s (fetch_body c s q o)
body_adds c s (Some q) o = adds s.journal _ refl
body_adds c s None None = adds_none s.journal
body_adds c s None (Some (hop.Fail st)) = adds_none s.journal
body_adds c s None (Some (hop.Redirect code verdict)) = adds_none s.journal
body_adds c s None (Some (hop.Response head pieces end trailers)) = piece_adds c s pieces end (slice_get pieces s.piece)

redirect_adds : (c : ChannelPlan) (s : ParentState) (code : ℕ) (q : Option Status) → Fetches s (fetch_redirect c s code q)
redirect_adds c s code (Some q) = given_adds c.start s.journal s.hop _ _
redirect_adds c s code None = keeps_if (Fetches s) (s.followed == 20) (give_start c s (Some redirect_loop) (bare_head code)) _ (λ r. given_adds c.start s.journal s.hop _ _) (λ r. adds s.journal _ refl)

ready_adds : (c : ChannelPlan) (s : ParentState) (o : Option Hop) → Fetches s (fetch_hop c s o)
ready_adds c s None = adds_none s.journal
ready_adds c s (Some (hop.Fail st)) = adds s.journal _ refl
ready_adds c s (Some (hop.Redirect code verdict)) = redirect_adds c s code s.kept
ready_adds c s (Some (hop.Response head pieces end trailers)) = given_adds c.start s.journal s.hop _ _

follow_adds : (c : ChannelPlan) (s : ParentState) (q : Option Status) (o : Option Hop) → Fetches s (fetch_follow c s q o)
follow_adds c s (Some q) (Some (hop.Redirect code verdict)) = given_adds c.start s.journal s.hop _ _
follow_adds c s _ o = adds s.journal _ refl

fetch_adds : (c : ChannelPlan) (s : ParentState) (ph : Phase) → Fetches s (fetch_in c s ph)
fetch_adds c s Closed = adds_none s.journal
fetch_adds c s Asking = adds_none s.journal
fetch_adds c s Done = adds_none s.journal
fetch_adds c s Ready = ready_adds c s (hop_at c s.hop)
fetch_adds c s Follow = follow_adds c s s.kept (hop_at c s.hop)
fetch_adds c s Body = body_adds c s s.kept (hop_at c s.hop)

pub fetch_step_adds : (c : ChannelPlan) (s : ParentState) → Fetches s (parent_step c parent.Fetch s)
fetch_step_adds c s = keeps_if (Fetches s) s.suspended s (fetch_in c s s.phase) (λ r. adds_none s.journal) (λ r. fetch_adds c s s.phase)

pub up_journal : (c : ChannelPlan) (m : UpMsg) (s : ParentState) → (take_up c s m).journal ≡ s.journal
up_journal c up.Open s = refl
up_journal c up.Suspend s = refl
up_journal c up.Resume s = refl
up_journal c (up.Cancel st) s = refl
up_journal c (up.Verify h st) s = refl
up_journal c (up.BytesRead n) s = refl
up_journal c up.Deleting s = refl

-- Lists

prefix_more : {A : Type 0} (xs ys zs : List A) → IsPrefix xs ys → IsPrefix xs (ys ++ zs)
prefix_more xs ys zs (r, e) = (r ++ zs, sym (append_assoc xs r zs) ∙ ap (λ t. t ++ zs) e)

pub rest_after : {A : Type 0} (xs ys zs : List A) → xs ++ ys ≡ zs → drop (length xs) zs ≡ ys
rest_after [] ys zs e = sym e
rest_after (x ∷ xs) ys [] e = cc
rest_after (x ∷ xs) ys (z ∷ zs) e = let f : xs ++ ys ≡ zs = cc in rest_after xs ys zs f

-- the next of a lane joins what was taken
prefix_next : {A : Type 0} (xs zs ms : List A) (m : A) → IsPrefix xs zs → drop (length xs) zs ≡ m ∷ ms → IsPrefix (xs ++ m ∷ []) zs
prefix_next xs zs ms m (r, e) d =
    let f : r ≡ m ∷ ms = sym (rest_after xs r zs e) ∙ d in
    (ms, append_assoc xs (m ∷ []) ms ∙ (ap (λ t. xs ++ t) (sym f) ∙ e))

take_more : {A : Type 0} (n : ℕ) (xs : List A) → n < length xs → (y : A) × (take (suc n) xs ≡ take n xs ++ y ∷ [])
take_more n [] l = absurd (omega arith)
take_more zero (x ∷ xs) l = (x, refl)
take_more (suc n) (x ∷ xs) l = let r : (y : _) × (take (suc n) xs ≡ take n xs ++ y ∷ []) = take_more n xs (omega arith) in (r.0, ap (λ t. x ∷ t) r.1)

-- Each step keeps both sides joined

-- a step of the child that takes nothing of a lane
plain_joined : (c : ChannelPlan) (w : Channel) (x : ChildStep) → NoLane x → Joined c w → Joined c (record w { child = child_step c x w.child })
plain_joined c w x n i =
    let g : Grows w.child.journal w.child.sent (child_step c x w.child) = plain_grows c x w.child n in
    record {
      parent_steps = i.parent_steps;
      parent_is = i.parent_is;
      child_steps = x ∷ i.child_steps;
      child_is = ap (λ (s : ChildState). child_step c x s) i.child_is;
      mains = rw (g.journal_is, child_side.mains-append w.child.journal g.entries, g.no_main, append_nil (mains_taken w.child.journal)) i.mains;
      within = i.within;
      backs = rw (g.journal_is, child_side.backs-append w.child.journal g.entries, g.no_back, append_nil (backs_taken w.child.journal)) i.backs;
      ups = rw g.sent_is (prefix_more (ups_taken w.parent.journal) w.child.sent g.messages i.ups);
    }

-- what a child is after a message of the main lane
pub main_says : (c : ChannelPlan) (m : MainMsg) (s : ChildState) (g : Grows (s.journal ++ child_entry.TookMain m ∷ []) s.sent (step_main c m (with_entry (child_entry.TookMain m) s)))
    → (mains_taken (step_main c m (with_entry (child_entry.TookMain m) s)).journal ≡ mains_taken s.journal ++ m ∷ [])
    × (backs_taken (step_main c m (with_entry (child_entry.TookMain m) s)).journal ≡ backs_taken s.journal)
main_says c m s g = (
  rw (g.journal_is, child_side.mains-append (s.journal ++ child_entry.TookMain m ∷ []) g.entries, g.no_main, append_nil (mains_taken (s.journal ++ child_entry.TookMain m ∷ [])), child_side.mains-append s.journal (child_entry.TookMain m ∷ [])) refl,
  rw (g.journal_is, child_side.backs-append (s.journal ++ child_entry.TookMain m ∷ []) g.entries, g.no_back, append_nil (backs_taken (s.journal ++ child_entry.TookMain m ∷ [])), child_side.backs-append s.journal (child_entry.TookMain m ∷ []), append_nil (backs_taken s.journal)) refl,
)

pub back_says : (c : ChannelPlan) (m : BackMsg) (s : ChildState) (g : Grows (s.journal ++ child_entry.TookBack m ∷ []) s.sent (step_back c m (with_entry (child_entry.TookBack m) s)))
    → (mains_taken (step_back c m (with_entry (child_entry.TookBack m) s)).journal ≡ mains_taken s.journal)
    × (backs_taken (step_back c m (with_entry (child_entry.TookBack m) s)).journal ≡ backs_taken s.journal ++ m ∷ [])
back_says c m s g = (
  rw (g.journal_is, child_side.mains-append (s.journal ++ child_entry.TookBack m ∷ []) g.entries, g.no_main, append_nil (mains_taken (s.journal ++ child_entry.TookBack m ∷ [])), child_side.mains-append s.journal (child_entry.TookBack m ∷ []), append_nil (mains_taken s.journal)) refl,
  rw (g.journal_is, child_side.backs-append (s.journal ++ child_entry.TookBack m ∷ []) g.entries, g.no_back, append_nil (backs_taken (s.journal ++ child_entry.TookBack m ∷ [])), child_side.backs-append s.journal (child_entry.TookBack m ∷ [])) refl,
)

main_joined : (c : ChannelPlan) (w : Channel) (l : List MainMsg) → main_lane w ≡ l → Joined c w → Joined c (main_step c l w)
main_joined c w [] e i = i
main_joined c w (m ∷ ms) e i =
    let s = w.child in
    let s' = step_main c m (with_entry (child_entry.TookMain m) s) in
    let g : Grows (s.journal ++ child_entry.TookMain m ∷ []) s.sent s' = main_grows c (s.journal ++ child_entry.TookMain m ∷ []) s.sent m (with_entry (child_entry.TookMain m) s) (noted_grows (child_entry.TookMain m) s) in
    let says = main_says c m s g in
    let P : ChildState → Type 0 = λ x. IsPrefix (mains_taken x.journal) (mains_sent w.parent.journal) × IsPrefix (backs_taken x.journal) (take w.forwarded (backs_sent w.parent.journal)) × IsPrefix (ups_taken w.parent.journal) x.sent in
    let p : P (if s.broken then s else s') = keeps_if P s.broken s s' (λ r. (i.mains, i.backs, i.ups))
    (λ r. (rw says.0 (prefix_next (mains_taken s.journal) (mains_sent w.parent.journal) ms m i.mains e), rw says.1 i.backs, rw g.sent_is (prefix_more (ups_taken w.parent.journal) s.sent g.messages i.ups))) in
    record {
      parent_steps = i.parent_steps;
      parent_is = i.parent_is;
      child_steps = child.Main m ∷ i.child_steps;
      child_is = ap (λ (x : ChildState). child_step c (child.Main m) x) i.child_is;
      mains = p.0;
      within = i.within;
      backs = p.1;
      ups = p.2;
    }

back_joined : (c : ChannelPlan) (w : Channel) (l : List BackMsg) → back_lane w ≡ l → Joined c w → Joined c (back_step c l w)
back_joined c w [] e i = i
back_joined c w (m ∷ ms) e i =
    let s = w.child in
    let s' = step_back c m (with_entry (child_entry.TookBack m) s) in
    let g : Grows (s.journal ++ child_entry.TookBack m ∷ []) s.sent s' = back_grows c (s.journal ++ child_entry.TookBack m ∷ []) s.sent m (with_entry (child_entry.TookBack m) s) (noted_grows (child_entry.TookBack m) s) in
    let says = back_says c m s g in
    let P : ChildState → Type 0 = λ x. IsPrefix (mains_taken x.journal) (mains_sent w.parent.journal) × IsPrefix (backs_taken x.journal) (take w.forwarded (backs_sent w.parent.journal)) × IsPrefix (ups_taken w.parent.journal) x.sent in
    let p : P (if s.broken then s else s') = keeps_if P s.broken s s' (λ r. (i.mains, i.backs, i.ups))
    (λ r. (rw says.0 i.mains, rw says.1 (prefix_next (backs_taken s.journal) (take w.forwarded (backs_sent w.parent.journal)) ms m i.backs e), rw g.sent_is (prefix_more (ups_taken w.parent.journal) s.sent g.messages i.ups))) in
    record {
      parent_steps = i.parent_steps;
      parent_is = i.parent_is;
      child_steps = child.Back m ∷ i.child_steps;
      child_is = ap (λ (x : ChildState). child_step c (child.Back m) x) i.child_is;
      mains = p.0;
      within = i.within;
      backs = p.1;
      ups = p.2;
    }

up_joined : (c : ChannelPlan) (w : Channel) (l : List UpMsg) → up_lane w ≡ l → Joined c w → Joined c (up_step c l w)
up_joined c w [] e i = i
up_joined c w (m ∷ ms) e i =
    let j = w.parent.journal in
    let eu : ups_taken (j ++ entry.Took m ∷ []) ≡ ups_taken j ++ m ∷ [] = ups-append j (entry.Took m ∷ []) in
    let em : mains_sent (j ++ entry.Took m ∷ []) ≡ mains_sent j = mains-append j (entry.Took m ∷ []) ∙ append_nil (mains_sent j) in
    let eb : backs_sent (j ++ entry.Took m ∷ []) ≡ backs_sent j = backs-append j (entry.Took m ∷ []) ∙ append_nil (backs_sent j) in
    record {
      parent_steps = parent.Up m ∷ i.parent_steps;
      parent_is = ap (λ (x : ParentState). parent_step c (parent.Up m) x) i.parent_is;
      child_steps = i.child_steps;
      child_is = i.child_is;
      mains = rw (up_journal c m w.parent, em) i.mains;
      within = rw (up_journal c m w.parent, eb) i.within;
      backs = rw (up_journal c m w.parent, eb) i.backs;
      ups = rw (up_journal c m w.parent, eu) (prefix_next (ups_taken j) w.child.sent ms m i.ups e);
    }

fetch_joined : (c : ChannelPlan) (w : Channel) → Joined c w → Joined c (record w { parent = parent_step c parent.Fetch w.parent })
fetch_joined c w i =
    let j = w.parent.journal in
    let a : Adds j (parent_step c parent.Fetch w.parent).journal = fetch_step_adds c w.parent in
    let eu : ups_taken (j ++ a.entries) ≡ ups_taken j = ups-append j a.entries ∙ (ap (λ t. ups_taken j ++ t) a.no_up ∙ append_nil (ups_taken j)) in
    let le : w.forwarded ≤ length (backs_sent j) = i.within in
    record {
      parent_steps = parent.Fetch ∷ i.parent_steps;
      parent_is = ap (λ (x : ParentState). parent_step c parent.Fetch x) i.parent_is;
      child_steps = i.child_steps;
      child_is = i.child_is;
      mains = rw (a.journal_is, mains-append j a.entries) (prefix_more (mains_taken w.child.journal) (mains_sent j) (mains_sent a.entries) i.mains);
      within = rw (a.journal_is, backs-append j a.entries) (omega (arith, length-append (backs_sent j) (backs_sent a.entries)));
      backs = rw (a.journal_is, backs-append j a.entries, take-append-le w.forwarded (backs_sent j) (backs_sent a.entries) le) i.backs;
      ups = rw (a.journal_is, eu) i.ups;
    }

forward_joined : (c : ChannelPlan) (w : Channel) → Joined c w → Joined c (forward_step w)
forward_joined c w i =
    keeps_if (Joined c) (nat_lt w.forwarded (length (backs_sent w.parent.journal))) (record w { forwarded = suc w.forwarded }) w
    (λ r.
    let l : w.forwarded < length (backs_sent w.parent.journal) = ltb-true w.forwarded (length (backs_sent w.parent.journal)) r in
    let t : (y : BackMsg) × (take (suc w.forwarded) (backs_sent w.parent.journal) ≡ take w.forwarded (backs_sent w.parent.journal) ++ y ∷ []) = take_more w.forwarded (backs_sent w.parent.journal) l in
    record {
      parent_steps = i.parent_steps;
      parent_is = i.parent_is;
      child_steps = i.child_steps;
      child_is = i.child_is;
      mains = i.mains;
      within = omega arith;
      backs = rw t.1 (prefix_more (backs_taken w.child.journal) (take w.forwarded (backs_sent w.parent.journal)) (t.0 ∷ []) i.backs);
      ups = i.ups;
    })
    (λ r. i)

step_joined : (c : ChannelPlan) (x : Step) (w : Channel) → Joined c w → Joined c (channel_step c x w)
step_joined c Act w i = plain_joined c w child.Act tt i
step_joined c Verdict w i = plain_joined c w child.Verdict tt i
step_joined c Fetch w i = fetch_joined c w i
step_joined c Up w i = up_joined c w (up_lane w) refl i
step_joined c Forward w i = forward_joined c w i
step_joined c Main w i = main_joined c w (main_lane w) refl i
step_joined c Back w i = back_joined c w (back_lane w) refl i
step_joined c Release w i = plain_joined c w child.Release tt i
step_joined c (Begin t) w i = plain_joined c w (child.Begin t) tt i
step_joined c (Finish t) w i = plain_joined c w (child.Finish t) tt i
step_joined c (Read reader) w i = i

pub joined : (c : ChannelPlan) (steps : List Step) → Joined c (channel_after c steps)
joined c [] = record {
  parent_steps = [];
  parent_is = refl;
  child_steps = [];
  child_is = refl;
  mains = ([], refl);
  within = omega arith;
  backs = ([], refl);
  ups = ([], refl);
}
joined c (x ∷ xs) = step_joined c x (channel_after c xs) (joined c xs)

pub run_trace : (c : ChannelPlan) (steps : List Step) → PlanOk c
    → SeqTrace c (final (channel_after c steps).child.journal) (first (channel_after c steps).child.journal) (cut (channel_after c steps).child.journal) (channel_after c steps).child.trace
run_trace c steps v =
    let w = channel_after c steps in
    let i : Joined c w = joined c steps in
    merge_state c w.parent.journal w.child w.forwarded v (i.parent_steps, ap (λ (x : ParentState). x.journal) i.parent_is) (i.child_steps, i.child_is) (i.mains, i.within, i.backs)
