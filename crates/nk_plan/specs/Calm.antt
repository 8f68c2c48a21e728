-- The trace of a calm plan: one that neither the page nor its listener ever suspends, and that the page never cancels,
-- breaks or retargets. It is told from the plan alone, with no steps and no journals. This project's own.
use Rattle.std.specs.Prelude.{ℕ, zero, suc, ◌≡◌, ◌+◌, if◌then◌else◌, nat_le, ◌==◌, List, [], ◌∷◌, ◌++◌, length, take, Option, Some, None}
use Rattle.nk_base.specs.declared.status.Status.{Status}
use Rattle.nk_base.specs.declared.message.Entry.{Entry}
use Rattle.nk_base.specs.Status.{ok, redirect_loop}
use Rattle.nk_plan.specs.declared.plan.ChannelPlan.{ChannelPlan}
use Rattle.nk_plan.specs.declared.plan.Hop.{Hop}
use Rattle.nk_plan.specs.declared.plan.Verdict.{Verdict}
use Rattle.nk_plan.specs.declared.plan.Reaction.{Reaction}
use Rattle.nk_plan.specs.Plan.{hop_at, code_at, pieces_at, stop_trailers}
use Rattle.nk_base.specs.declared.message.Entry.TheVariants as shown
use Rattle.nk_plan.specs.declared.plan.Hop.TheVariants as hop
use Rattle.nk_plan.specs.declared.plan.Verdict.TheVariants as verdict
use Rattle.nk_plan.specs.declared.plan.Finish.TheVariants as finish
use Rattle.nk_plan.specs.declared.plan.Reaction.TheVariants as reaction

-- no reaction suspends
abbrev pub NeverSuspends : List Reaction → Type 0
NeverSuspends [] = Unit {0}
NeverSuspends (reaction.StartSuspend ∷ rs) = ⊥
NeverSuspends (reaction.StartRetarget w ∷ rs) = NeverSuspends rs
NeverSuspends (reaction.StartCancel s ∷ rs) = NeverSuspends rs
NeverSuspends (reaction.StartFail s ∷ rs) = NeverSuspends rs
NeverSuspends (reaction.BytesFail n s ∷ rs) = NeverSuspends rs

-- the page makes no call, and the listener does not suspend
abbrev pub IsCalm : ChannelPlan → Type 0
IsCalm c = (c.controls ≡ []) × NeverSuspends c.reactions

-- how many allowed redirects stand in front, at most so many
abbrev pub allowed : ℕ → List Hop → ℕ
allowed zero hops = 0
allowed (suc most) [] = 0
allowed (suc most) (hop.Redirect code verdict.Allow ∷ hops) = suc (allowed most hops)
allowed (suc most) (hop.Redirect code (verdict.Veto s) ∷ hops) = 0
allowed (suc most) (hop.Fail s ∷ hops) = 0
allowed (suc most) (hop.Response head pieces end trailers ∷ hops) = 0

-- the hop at which a calm load ends: the first that is no allowed redirect, or hop 20
abbrev pub last_hop : ChannelPlan → ℕ
last_hop c = allowed 20 c.hops

abbrev pub veto_of : Verdict → Option Status
veto_of verdict.Allow = None
veto_of (verdict.Veto s) = Some s

-- the failure with which a load that ends at hop f starts: a failed opening's, the redirect loop's, or a veto
abbrev pub opening_failure : ℕ → Option Hop → Option Status
opening_failure f None = None
opening_failure f (Some (hop.Fail s)) = Some s
opening_failure f (Some (hop.Redirect code v)) = if f == 20 then Some redirect_loop else veto_of v
opening_failure f (Some (hop.Response head pieces end trailers)) = None

-- the status of the first reaction that ends the load from its start callback
abbrev pub start_reaction : List Reaction → Option Status
start_reaction [] = None
start_reaction (reaction.StartCancel s ∷ rs) = Some s
start_reaction (reaction.StartFail s ∷ rs) = Some s
start_reaction (reaction.StartRetarget w ∷ rs) = start_reaction rs
start_reaction (reaction.StartSuspend ∷ rs) = start_reaction rs
start_reaction (reaction.BytesFail n s ∷ rs) = start_reaction rs

-- of a reaction that names data callback n, and of the one that comes first among those behind it
abbrev pub sooner : ℕ → ℕ → Status → Option (ℕ × Status) → Option (ℕ × Status)
sooner most n s None = if nat_le n most then Some (n, s) else None
sooner most n s (Some (k, later)) = if nat_le n k then Some (n, s) else Some (k, later)

-- the first data callback, of so many, that a reaction names, with the status of the first reaction that names it
abbrev pub data_reaction : ℕ → List Reaction → Option (ℕ × Status)
data_reaction most [] = None
data_reaction most (reaction.BytesFail n s ∷ rs) = sooner most n s (data_reaction most rs)
data_reaction most (reaction.StartRetarget w ∷ rs) = data_reaction most rs
data_reaction most (reaction.StartSuspend ∷ rs) = data_reaction most rs
data_reaction most (reaction.StartCancel s ∷ rs) = data_reaction most rs
data_reaction most (reaction.StartFail s ∷ rs) = data_reaction most rs

-- the data entries of these pieces, the first of them at this offset
abbrev pub data_of : ℕ → List (List ℕ) → List Entry
data_of offset [] = []
data_of offset (p ∷ ps) = shown.Bytes offset p ∷ data_of (offset + length p) ps

-- the status with which a response's body ends
abbrev pub finish_of : Option Hop → Status
finish_of None = ok
finish_of (Some (hop.Fail s)) = ok
finish_of (Some (hop.Redirect code v)) = ok
finish_of (Some (hop.Response head pieces finish.Good trailers)) = ok
finish_of (Some (hop.Response head pieces (finish.Fail s) trailers)) = s

abbrev pub stop_of : ChannelPlan → ℕ → Status → List Entry
stop_of c f s = shown.Stop s (stop_trailers c f s) ∷ []

-- the body up to the piece whose callback fails, or the whole of it
abbrev pub calm_body : ChannelPlan → ℕ → Option (ℕ × Status) → List Entry
calm_body c f (Some (k, s)) = data_of 0 (take k (pieces_at c f)) ++ stop_of c f s
calm_body c f None = data_of 0 (pieces_at c f) ++ stop_of c f (finish_of (hop_at c f))

-- what follows a start with status 0
abbrev pub calm_started : ChannelPlan → ℕ → Option Status → List Entry
calm_started c f (Some s) = stop_of c f s
calm_started c f None = calm_body c f (data_reaction (length (pieces_at c f)) c.reactions)

-- the trace of a calm load that ends at hop f
abbrev pub calm_from : ChannelPlan → ℕ → Option Status → List Entry
calm_from c f (Some e) = shown.Start (code_at c f) e ∷ stop_of c f e
calm_from c f None = shown.Start (code_at c f) ok ∷ calm_started c f (start_reaction c.reactions)

-- what the listener of a calm plan is shown
abbrev pub calm_trace : ChannelPlan → List Entry
calm_trace c = if c.closed then [] else calm_from c (last_hop c) (opening_failure (last_hop c) (hop_at c (last_hop c)))
