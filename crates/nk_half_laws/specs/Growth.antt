-- What a step of a child adds: to its journal, to what it sent, to what it showed and to what it took. This project's own.
use Rattle.std.specs.Prelude.{ℕ, suc, ◌≡◌, Bool, true, false, List, [], ◌∷◌, ◌++◌, length, Option, Some, None, is_some}
use Rattle.nk_base.specs.declared.status.Status.{Status}
use Rattle.nk_base.specs.declared.status.Target.{Target}
use Rattle.nk_base.specs.declared.field.Field.{Field}
use Rattle.nk_base.specs.declared.message.MainMsg.{MainMsg}
use Rattle.nk_base.specs.declared.message.BackMsg.{BackMsg}
use Rattle.nk_base.specs.declared.message.UpMsg.{UpMsg}
use Rattle.nk_base.specs.declared.message.Entry.{Entry}
use Rattle.nk_plan.specs.declared.plan.ChannelPlan.{ChannelPlan}
use Rattle.nk_plan.specs.declared.event.ChildEvent.{ChildEvent}
use Rattle.nk_plan.specs.declared.event.ChildEvent.TheVariants.{Start, Bytes, Stop, Redirect1, Redirect3, Cancel}
use Rattle.nk_plan.specs.declared.journal.ChildEntry.{ChildEntry}
use Rattle.nk_plan.specs.declared.step.ChildStep.{ChildStep}
use Rattle.nk_plan.specs.Plan.{stop_trailers}
use Rattle.nk_plan.specs.Journal.{mains_taken, backs_taken}
use Rattle.nk_plan.specs.Telling.{Telling, telling_after, sends_from}
use Rattle.nk_plan.specs.Child.{ChildState, child_step, child_after}
use Rattle.nk_base.specs.declared.message.UpMsg.TheVariants as up
use Rattle.nk_base.specs.declared.message.Entry.TheVariants as shown
use Rattle.nk_plan.specs.declared.journal.ChildEntry.TheVariants as child
use Rattle.nk_plan.specs.declared.step.ChildStep.TheVariants as step

-- what an entry of the trace is, but for the bytes of a piece
pub data Shape : Type 0 where
  Began : (code : ℕ) → (status : Status) → Shape
  Piece : (offset : ℕ) → (size : ℕ) → Shape
  Closed : (status : Status) → (trailers : List Field) → Shape

abbrev pub shape_of : Entry → Shape
shape_of (shown.Start code s) = Began code s
shape_of (shown.Bytes o p) = Piece o (length p)
shape_of (shown.Stop s trailers) = Closed s trailers

abbrev pub shapes : List Entry → List Shape
shapes [] = []
shapes (e ∷ t) = shape_of e ∷ shapes t

-- what an entry of the journal says was shown, at this hop
abbrev pub told_by : ChannelPlan → ℕ → ChildEntry → List Shape
told_by c h (child.RunStart t code s) = Began code s ∷ []
told_by c h (child.RunBytes t o n) = Piece o n ∷ []
told_by c h (child.RunStop t s) = Closed s (stop_trailers c h s) ∷ []
told_by c h _ = []

-- the hop behind an entry
abbrev pub hop_by : ℕ → ChildEntry → ℕ
hop_by h (child.RunRedirect3 t i) = suc h
hop_by h _ = h

abbrev pub told : ChannelPlan → ℕ → List ChildEntry → List Shape
told c h [] = []
told c h (e ∷ j) = told_by c h e ++ told c (hop_by h e) j

abbrev pub hop_after : ℕ → List ChildEntry → ℕ
hop_after h [] = h
hop_after h (e ∷ j) = hop_after (hop_by h e) j

-- what the callback that runs sends when it returns
abbrev pub owed_by : Option (Target × ChildEvent) → List UpMsg
owed_by None = []
owed_by (Some (t, Start code s)) = []
owed_by (Some (t, Bytes o p s)) = up.BytesRead (length p) ∷ []
owed_by (Some (t, Stop s)) = up.Deleting ∷ []
owed_by (Some (t, Redirect1 h)) = []
owed_by (Some (t, Redirect3 h)) = []
owed_by (Some (t, Cancel s)) = []

-- what a state tells of the messages to come, as the entries of a journal do
abbrev pub telling_of : ChildState → Telling
telling_of s = record { suspends = s.suspends; failed = is_some s.kept; owed = owed_by s.running }

-- what several entries tell
abbrev pub telling_at : Telling → List ChildEntry → Telling
telling_at t [] = t
telling_at t (e ∷ j) = telling_at (telling_after t e) j

-- what a step takes of each lane; a child that is broken takes nothing

abbrev pub mains_of : ChildStep → Bool → List MainMsg
mains_of step.Act broken = []
mains_of step.Verdict broken = []
mains_of (step.Main m) true = []
mains_of (step.Main m) false = m ∷ []
mains_of (step.Back m) broken = []
mains_of step.Release broken = []
mains_of (step.Begin t) broken = []
mains_of (step.Finish t) broken = []

abbrev pub backs_of : ChildStep → Bool → List BackMsg
backs_of step.Act broken = []
backs_of step.Verdict broken = []
backs_of (step.Main m) broken = []
backs_of (step.Back m) true = []
backs_of (step.Back m) false = m ∷ []
backs_of step.Release broken = []
backs_of (step.Begin t) broken = []
backs_of (step.Finish t) broken = []

-- what the step x adds, from s to s': entries at the end of the journal; what they name at the ends of what was sent and of
-- what was shown; the hop and what is still to be sent, as they tell; and of each lane the message of the step, or nothing
pub record Adds (c : ChannelPlan) (x : ChildStep) (s s' : ChildState) : Type 0 where
  pub entries : List ChildEntry
  pub showing : List Entry
  pub journal : s'.journal ≡ s.journal ++ entries
  pub sent : s'.sent ≡ s.sent ++ sends_from (telling_of s) entries
  pub trace : s'.trace ≡ s.trace ++ showing
  pub shows : shapes showing ≡ told c s.hop entries
  pub hop : s'.hop ≡ hop_after s.hop entries
  pub telling : telling_of s' ≡ telling_at (telling_of s) entries
  pub main : mains_taken entries ≡ mains_of x s.broken
  pub back : backs_taken entries ≡ backs_of x s.broken

-- THE LAWS

-- each step, of any state, adds to the ends alone, and what its entries say
abbrev pub GrowthLaw : Type 0
GrowthLaw = (c : ChannelPlan) (x : ChildStep) (s : ChildState) → Adds c x s (child_step c x s)

-- the trace is, entry for entry, what the journal says, but for the bytes of the pieces
abbrev pub ToldLaw : Type 0
ToldLaw = (c : ChannelPlan) (steps : List ChildStep) → let s = child_after c steps in shapes s.trace ≡ told c 0 s.journal
