-- What a step of a parent enters: entries at the end of its journal, of which the first alone may take a message.
use Rattle.std.proofs.Common.{ℕ, ◌≡◌, refl, sym, ap, List, [], ◌∷◌, ◌++◌, Option, Some, None, slice_get, ◌==◌, pos, int_lt}
use Rattle.nk_base.specs.declared.field.Head.{Head}
use Rattle.nk_base.specs.declared.message.UpMsg.{UpMsg}
use Rattle.nk_base.specs.declared.message.UpMsg.TheVariants as up
use Rattle.nk_base.specs.declared.status.Status.{Status}
use Rattle.nk_base.specs.Status.{redirect_loop}
use Rattle.nk_plan.specs.declared.plan.ChannelPlan.{ChannelPlan}
use Rattle.nk_plan.specs.declared.plan.Finish.{Finish as End}
use Rattle.nk_plan.specs.declared.plan.Finish.TheVariants as finish
use Rattle.nk_plan.specs.declared.plan.Hop.{Hop}
use Rattle.nk_plan.specs.declared.plan.Hop.TheVariants as hop
use Rattle.nk_plan.specs.declared.plan.StartLane.{StartLane}
use Rattle.nk_plan.specs.declared.plan.StartLane.TheVariants as lane
use Rattle.nk_plan.specs.declared.journal.ParentEntry.{ParentEntry}
use Rattle.nk_plan.specs.declared.journal.ParentEntry.TheVariants as entry
use Rattle.nk_plan.specs.declared.step.ParentStep.{ParentStep}
use Rattle.nk_plan.specs.declared.step.ParentStep.TheVariants as step
use Rattle.nk_plan.specs.declared.step.Phase.{Phase}
use Rattle.nk_plan.specs.declared.step.Phase.TheVariants.{Closed, Ready, Asking, Follow, Body, Done}
use Rattle.nk_plan.specs.Journal.{ups_taken}
use Rattle.nk_plan.specs.Parent.{ParentState, parent_step, start_entries, give_start, bare_head, fetch_finish, fetch_piece, fetch_body, fetch_redirect, fetch_hop, fetch_follow, fetch_in, take_up}
use Rattle.nk_plan.specs.Plan.{hop_at}
use Rattle.nk_walk_law.proofs.Tools.{keeps_if, append_nil}

-- A fetch adds to the journal, and takes nothing

record Adds (p q : List ParentEntry) : Type 0 where
  entries : List ParentEntry
  journal_is : q ≡ p ++ entries
  no_up : ups_taken entries ≡ []

adds_none : (p : List ParentEntry) → Adds p p
adds_none p = record { entries = []; journal_is = sym (append_nil p); no_up = refl }

adds : (p x : List ParentEntry) → ups_taken x ≡ [] → Adds p (p ++ x)
adds p x e = record { entries = x; journal_is = refl; no_up = e }

given_adds : (l : StartLane) (p : List ParentEntry) (h : ℕ) (st : Status) (head : Head) → Adds p (p ++ start_entries l h st head)
given_adds lane.Main p h st head = adds p _ refl
given_adds lane.Back p h st head = adds p _ refl

abbrev Fetches : ParentState → ParentState → Type 0
Fetches s s' = Adds s.journal s'.journal

finished_adds : (c : ChannelPlan) (s : ParentState) (end : End) → Fetches s (fetch_finish c s end)
finished_adds c s finish.Good = adds s.journal _ refl
finished_adds c s (finish.Fail st) = adds s.journal _ refl

piece_adds : (c : ChannelPlan) (s : ParentState) (pieces : List (List ℕ)) (end : End) (o : Option (List ℕ)) → Fetches s (fetch_piece c s pieces end o)
piece_adds c s pieces end None = finished_adds c s end
piece_adds c s pieces end (Some p) = keeps_if (Fetches s) (int_lt (pos 0) s.credit) _ s (λ r. adds s.journal _ refl) (λ r. adds_none s.journal)

body_adds : (c : ChannelPlan) (s : ParentState) (q : Option Status) (o : Option Hop) → Fetches s (fetch_body c s q o)
body_adds c s (Some q) o = adds s.journal _ refl
body_adds c s None None = adds_none s.journal
body_adds c s None (Some (hop.Fail st)) = adds_none s.journal
body_adds c s None (Some (hop.Redirect code verdict)) = adds_none s.journal
body_adds c s None (Some (hop.Response head pieces end trailers)) = piece_adds c s pieces end (slice_get pieces s.piece)

redirect_adds : (c : ChannelPlan) (s : ParentState) (code : ℕ) (q : Option Status) → Fetches s (fetch_redirect c s code q)
redirect_adds c s code (Some q) = given_adds c.start s.journal s.hop _ _
redirect_adds c s code None = keeps_if (Fetches s) (s.followed == 20) (give_start c s (Some redirect_loop) (bare_head code)) _ (λ r. given_adds c.start s.journal s.hop _ _) (λ r. adds s.journal _ refl)

ready_adds : (c : ChannelPlan) (s : ParentState) (o : Option Hop) → Fetches s (fetch_hop c s o)
ready_adds c s None = adds_none s.journal
ready_adds c s (Some (hop.Fail st)) = adds s.journal _ refl
ready_adds c s (Some (hop.Redirect code verdict)) = redirect_adds c s code s.kept
ready_adds c s (Some (hop.Response head pieces end trailers)) = given_adds c.start s.journal s.hop _ _

follow_adds : (c : ChannelPlan) (s : ParentState) (q : Option Status) (o : Option Hop) → Fetches s (fetch_follow c s q o)
follow_adds c s (Some q) (Some (hop.Redirect code verdict)) = given_adds c.start s.journal s.hop _ _
follow_adds c s _ o = adds s.journal _ refl

fetch_adds : (c : ChannelPlan) (s : ParentState) (ph : Phase) → Fetches s (fetch_in c s ph)
fetch_adds c s Closed = adds_none s.journal
fetch_adds c s Asking = adds_none s.journal
fetch_adds c s Done = adds_none s.journal
fetch_adds c s Ready = ready_adds c s (hop_at c s.hop)
fetch_adds c s Follow = follow_adds c s s.kept (hop_at c s.hop)
fetch_adds c s Body = body_adds c s s.kept (hop_at c s.hop)

-- A message is entered as taken, and nothing else

taken_journal : (c : ChannelPlan) (m : UpMsg) (s : ParentState) → (take_up c s m).journal ≡ s.journal
taken_journal c up.Open s = refl
taken_journal c up.Suspend s = refl
taken_journal c up.Resume s = refl
taken_journal c (up.Cancel st) s = refl
taken_journal c (up.Verify h st) s = refl
taken_journal c (up.BytesRead n) s = refl
taken_journal c up.Deleting s = refl

-- the entries behind the first take nothing
abbrev pub TakesFirst : List ParentEntry → Type 0
TakesFirst [] = Unit {0}
TakesFirst (e ∷ p) = ups_taken p ≡ []

takes_none : (p : List ParentEntry) → ups_taken p ≡ [] → TakesFirst p
takes_none [] h = tt
takes_none (entry.Took m ∷ p) h = cc
takes_none (entry.SentMain m ∷ p) h = h
takes_none (entry.SentBack m ∷ p) h = h

pub record Enters (s s' : ParentState) : Type 0 where
  pub entries : List ParentEntry
  pub journal_is : s'.journal ≡ s.journal ++ entries
  pub takes_first : TakesFirst entries

pub parent_enters : (c : ChannelPlan) (x : ParentStep) (s : ParentState) → Enters s (parent_step c x s)
parent_enters c (step.Up m) s = record {
  entries = entry.Took m ∷ [];
  journal_is = ap (λ (t : List ParentEntry). t ++ entry.Took m ∷ []) (taken_journal c m s);
  takes_first = refl;
}
parent_enters c step.Fetch s =
    let a : Fetches s (parent_step c step.Fetch s) = keeps_if (Fetches s) s.suspended s (fetch_in c s s.phase) (λ r. adds_none s.journal) (λ r. fetch_adds c s s.phase) in
    record { entries = a.entries; journal_is = a.journal_is; takes_first = takes_none a.entries a.no_up }
