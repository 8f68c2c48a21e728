-- The parent's table: what each step does to the half of a channel that loads the response.
-- The messages are those of Firefox's HttpChannelParent; the table is this project's own.
use Rattle.std.specs.Prelude.{ℕ, suc, ◌+◌, ◌==◌, Bool, true, false, if◌then◌else◌, List, [], ◌∷◌, ◌++◌, length, take, slice_get, Option, Some, None, ℤ, pos, ◌+ℤ◌, ◌-ℤ◌, int_lt}
use Rattle.nk_base.specs.declared.status.Status.{Status}
use Rattle.nk_base.specs.declared.field.Head.{Head}
use Rattle.nk_base.specs.declared.message.UpMsg.{UpMsg}
use Rattle.nk_base.specs.Status.{ok, redirect_loop, merged, kept_status}
use Rattle.nk_plan.specs.declared.plan.ChannelPlan.{ChannelPlan}
use Rattle.nk_plan.specs.declared.plan.StartLane.{StartLane}
use Rattle.nk_plan.specs.declared.plan.Hop.{Hop}
use Rattle.nk_plan.specs.declared.plan.Finish.{Finish}
use Rattle.nk_plan.specs.declared.journal.ParentEntry.{ParentEntry}
use Rattle.nk_plan.specs.declared.step.Phase.{Phase}
use Rattle.nk_plan.specs.declared.step.Phase.TheVariants.{Closed, Ready, Asking, Follow, Body, Done}
use Rattle.nk_plan.specs.declared.step.ParentStep.{ParentStep}
use Rattle.nk_plan.specs.Plan.{hop_at, stop_trailers}
use Rattle.nk_base.specs.declared.message.MainMsg.TheVariants as main
use Rattle.nk_base.specs.declared.message.BackMsg.TheVariants as back
use Rattle.nk_base.specs.declared.message.UpMsg.TheVariants as up
use Rattle.nk_plan.specs.declared.plan.StartLane.TheVariants as lane
use Rattle.nk_plan.specs.declared.plan.Hop.TheVariants as hop
use Rattle.nk_plan.specs.declared.plan.Finish.TheVariants as finish
use Rattle.nk_plan.specs.declared.journal.ParentEntry.TheVariants as entry
use Rattle.nk_plan.specs.declared.step.ParentStep.TheVariants as step

-- what a parent is, between two steps
pub record ParentState : Type 0 where
  pub phase : Phase
  -- the hop, how many redirects were followed, and the number of the next piece of the body
  pub hop : ℕ
  pub followed : ℕ
  pub piece : ℕ
  -- the first failure
  pub kept : Option Status
  -- whether the page has suspended the load, and how many bytes the page may still be sent
  pub suspended : Bool
  pub credit : ℤ
  pub journal : List ParentEntry

abbrev pub new_parent : ChannelPlan → ParentState
new_parent c = record {
  phase = Closed;
  hop = 0;
  followed = 0;
  piece = 0;
  kept = None;
  suspended = false;
  credit = pos c.window;
  journal = [];
}

-- A message of the up lane

abbrev pub opened_phase : Phase → Phase
opened_phase Closed = Ready
opened_phase Ready = Ready
opened_phase Asking = Asking
opened_phase Follow = Follow
opened_phase Body = Body
opened_phase Done = Done

-- a cancel is kept until the load is over
abbrev pub kept_after_cancel : Phase → Option Status → Status → Option Status
kept_after_cancel Done q s = q
kept_after_cancel Closed q s = merged q s
kept_after_cancel Ready q s = merged q s
kept_after_cancel Asking q s = merged q s
kept_after_cancel Follow q s = merged q s
kept_after_cancel Body q s = merged q s

-- whether a parent in this phase on hop h waits for the verdict on this hop
abbrev pub awaits_verdict : Phase → ℕ → ℕ → Bool
awaits_verdict Asking h verified = h == verified
awaits_verdict Closed h verified = false
awaits_verdict Ready h verified = false
awaits_verdict Follow h verified = false
awaits_verdict Body h verified = false
awaits_verdict Done h verified = false

abbrev pub int_min : ℤ → ℤ → ℤ
int_min a b = if int_lt a b then a else b

abbrev pub take_up : ChannelPlan → ParentState → UpMsg → ParentState
take_up c s up.Open = record s { phase = opened_phase s.phase }
take_up c s up.Suspend = record s { suspended = true }
take_up c s up.Resume = record s { suspended = false }
take_up c s (up.Cancel st) = record s { kept = kept_after_cancel s.phase s.kept st }
take_up c s (up.Verify h st) =
    record s {
      phase = if awaits_verdict s.phase s.hop h then Follow else s.phase;
      kept = if awaits_verdict s.phase s.hop h then merged s.kept st else s.kept;
    }
take_up c s (up.BytesRead n) = record s { credit = int_min (pos c.window) (s.credit +ℤ pos n) }
take_up c s up.Deleting = record s { phase = Done }

abbrev pub with_taken : ParentState → UpMsg → ParentState
with_taken s m = record s { journal = s.journal ++ entry.Took m ∷ [] }

-- A step of the load

-- the start, on the lane on which it travels; a start on the main lane is told to the background half
abbrev pub start_entries : StartLane → ℕ → Status → Head → List ParentEntry
start_entries lane.Main h s head = entry.SentMain (main.Start h s head) ∷ entry.SentBack (back.StartSent h) ∷ []
start_entries lane.Back h s head = entry.SentBack (back.Start h s head) ∷ []

abbrev pub give_start : ChannelPlan → ParentState → Option Status → Head → ParentState
give_start c s q head =
    record s { phase = Body; kept = q; journal = s.journal ++ start_entries c.start s.hop (kept_status q) head }

-- the head of a redirect that is not followed
abbrev pub bare_head : ℕ → Head
bare_head code = record { code = code; fields = [] }

abbrev pub stop_entry : ChannelPlan → ℕ → Status → ParentEntry
stop_entry c h s = entry.SentBack (back.Stop h s (stop_trailers c h s))

-- how many bytes these pieces have
abbrev pub size_of : List (List ℕ) → ℕ
size_of [] = 0
size_of (p ∷ ps) = length p + size_of ps

-- the offset of piece k: the sizes of the pieces before it
abbrev pub offset_of : List (List ℕ) → ℕ → ℕ
offset_of pieces k = size_of (take k pieces)

-- all pieces were sent: the body ends
abbrev pub fetch_finish : ChannelPlan → ParentState → Finish → ParentState
fetch_finish c s finish.Good = record s { phase = Done; journal = s.journal ++ stop_entry c s.hop ok ∷ [] }
fetch_finish c s (finish.Fail st) = record s { phase = Done; kept = Some st; journal = s.journal ++ stop_entry c s.hop st ∷ [] }

-- the next piece, where there is one, goes where there is credit
abbrev pub fetch_piece : ChannelPlan → ParentState → List (List ℕ) → Finish → Option (List ℕ) → ParentState
fetch_piece c s pieces end None = fetch_finish c s end
fetch_piece c s pieces end (Some p) =
    if int_lt (pos 0) s.credit
    then record s {
      phase = Body;
      credit = s.credit -ℤ pos (length p);
      piece = suc s.piece;
      journal = s.journal ++ entry.SentBack (back.Bytes s.hop ok (offset_of pieces s.piece) p) ∷ [];
    }
    else s

-- behind the start: a failure stops the load, and a response goes on with its body
abbrev pub fetch_body : ChannelPlan → ParentState → Option Status → Option Hop → ParentState
fetch_body c s (Some q) h = record s { phase = Done; journal = s.journal ++ stop_entry c s.hop q ∷ [] }
fetch_body c s None None = s
fetch_body c s None (Some (hop.Fail st)) = s
fetch_body c s None (Some (hop.Redirect code verdict)) = s
fetch_body c s None (Some (hop.Response head pieces end trailers)) = fetch_piece c s pieces end (slice_get pieces s.piece)

-- a redirect is met: after a failure, or as the 21st, it is the start; else the child is asked
abbrev pub fetch_redirect : ChannelPlan → ParentState → ℕ → Option Status → ParentState
fetch_redirect c s code (Some q) = give_start c s (Some q) (bare_head code)
fetch_redirect c s code None =
    if s.followed == 20
    then give_start c s (Some redirect_loop) (bare_head code)
    else record s { phase = Asking; journal = s.journal ++ entry.SentMain (main.Redirect1 s.hop code) ∷ [] }

-- the next hop is met
abbrev pub fetch_hop : ChannelPlan → ParentState → Option Hop → ParentState
fetch_hop c s None = s
fetch_hop c s (Some (hop.Fail st)) = record s { phase = Done; journal = s.journal ++ entry.SentMain (main.FailedOpen s.hop st) ∷ [] }
fetch_hop c s (Some (hop.Redirect code verdict)) = fetch_redirect c s code s.kept
fetch_hop c s (Some (hop.Response head pieces end trailers)) = give_start c s s.kept head

abbrev pub complete_redirect : ParentState → ParentState
complete_redirect s =
    record s {
      phase = Ready;
      hop = suc s.hop;
      followed = suc s.followed;
      journal = s.journal ++ entry.SentMain (main.Redirect3 s.hop) ∷ [];
    }

-- the child has answered: after a failure the redirect is the start, else it is followed
abbrev pub fetch_follow : ChannelPlan → ParentState → Option Status → Option Hop → ParentState
fetch_follow c s (Some q) (Some (hop.Redirect code verdict)) = give_start c s (Some q) (bare_head code)
fetch_follow c s _ _ = complete_redirect s

-- what a parent in this phase does next
abbrev pub fetch_in : ChannelPlan → ParentState → Phase → ParentState
fetch_in c s Closed = s
fetch_in c s Asking = s
fetch_in c s Done = s
fetch_in c s Ready = fetch_hop c s (hop_at c s.hop)
fetch_in c s Follow = fetch_follow c s s.kept (hop_at c s.hop)
fetch_in c s Body = fetch_body c s s.kept (hop_at c s.hop)

-- one step of a parent; one that is not enabled leaves it as it is
abbrev pub parent_step : ChannelPlan → ParentStep → ParentState → ParentState
parent_step c (step.Up m) s = with_taken (take_up c s m) m
parent_step c step.Fetch s = if s.suspended then s else fetch_in c s s.phase

-- the state after these steps, of which the newest stands first
abbrev pub parent_after : ChannelPlan → List ParentStep → ParentState
parent_after c [] = new_parent c
parent_after c (x ∷ xs) = parent_step c x (parent_after c xs)
