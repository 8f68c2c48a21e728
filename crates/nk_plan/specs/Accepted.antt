-- Which plans are accepted, and why another is refused. The limits, and the order of the refusals, are this project's own.
use Rattle.std.specs.Prelude.{ℕ, ◌≡◌, ◌+◌, ◌-◌, ◌*◌, ◌/◌, ◌%◌, ◌<◌, ◌≤◌, ◌⊎◌, min, Bool, true, false, List, [], length, take, sum_by, slice_get, All, IsSomeAnd, Option, Some, None, Result, Ok, Err}
use Rattle.nk_base.specs.declared.status.Status.{Status}
use Rattle.nk_base.specs.declared.field.Field.{Field}
use Rattle.nk_base.specs.Status.{is_failure}
use Rattle.nk_base.specs.Fields.{are_good_fields}
use Rattle.nk_base.specs.Ranges.{IsRedirectCode}
use Rattle.nk_plan.specs.declared.plan.Hop.{Hop}
use Rattle.nk_plan.specs.declared.plan.Hop.TheVariants as hop
use Rattle.nk_plan.specs.declared.plan.Verdict.{Verdict}
use Rattle.nk_plan.specs.declared.plan.Verdict.TheVariants as verdict
use Rattle.nk_plan.specs.declared.plan.Finish.{Finish}
use Rattle.nk_plan.specs.declared.plan.Finish.TheVariants as finish
use Rattle.nk_plan.specs.declared.plan.ListenerKind.{ListenerKind}
use Rattle.nk_plan.specs.declared.plan.ListenerKind.TheVariants as listener
use Rattle.nk_plan.specs.declared.plan.Reaction.{Reaction}
use Rattle.nk_plan.specs.declared.plan.Reaction.TheVariants as reaction
use Rattle.nk_plan.specs.declared.plan.Act.{Act}
use Rattle.nk_plan.specs.declared.plan.Act.TheVariants as act
use Rattle.nk_plan.specs.declared.plan.Control.{Control}
use Rattle.nk_plan.specs.declared.plan.StartLane.{StartLane}
use Rattle.nk_plan.specs.declared.plan.PlanError.{PlanError}
use Rattle.nk_plan.specs.declared.plan.PlanError.TheVariants as error
use Rattle.nk_plan.specs.PlanParts.{PlanParts}

-- the plan with these parts
abbrev pub plan_of : List Hop → ListenerKind → Bool → List Reaction → List Control → ℕ → Bool → StartLane → PlanParts
plan_of hops listener retargetable reactions controls window closed start = record {
  hops = hops;
  listener = listener;
  retargetable = retargetable;
  reactions = reactions;
  controls = controls;
  window = window;
  closed = closed;
  start = start;
}

-- workers are numbered 1 to 16
abbrev pub IsWorker : ℕ → Type 0
IsWorker w = (1 ≤ w) × (w ≤ 16)

abbrev pub IsFailure : Status → Type 0
IsFailure s = is_failure s ≡ true

-- HOPS

abbrev pub IsRedirect : Hop → Type 0
IsRedirect (hop.Fail s) = ⊥
IsRedirect (hop.Redirect code own) = Unit {0}
IsRedirect (hop.Response head pieces end trailers) = ⊥

abbrev pub IsGoodVerdict : Verdict → Type 0
IsGoodVerdict verdict.Allow = Unit {0}
IsGoodVerdict (verdict.Veto s) = IsFailure s

-- a body that fails has no trailers behind it
abbrev pub IsGoodFinish : Finish → List Field → Type 0
IsGoodFinish finish.Good trailers = Unit {0}
IsGoodFinish (finish.Fail s) trailers = IsFailure s × (trailers ≡ [])

-- each status is a failure, a redirect has a redirect's code, and trailers are few, good and behind a good body
abbrev pub IsGoodHop : Hop → Type 0
IsGoodHop (hop.Fail s) = IsFailure s
IsGoodHop (hop.Redirect code own) = IsRedirectCode code × IsGoodVerdict own
IsGoodHop (hop.Response head pieces end trailers) =
    (are_good_fields trailers ≡ true) × (length trailers ≤ 64) × IsGoodFinish end trailers

abbrev pub last_of : {A : Type 0} → List A → Option A
last_of xs = slice_get xs (length xs - 1)

-- the pieces of a response; any other hop has none
abbrev pub pieces_of : Option Hop → List (List ℕ)
pieces_of None = []
pieces_of (Some (hop.Fail s)) = []
pieces_of (Some (hop.Redirect code own)) = []
pieces_of (Some (hop.Response head pieces end trailers)) = pieces

-- the pieces of the load's body
abbrev pub body_of : PlanParts → List (List ℕ)
body_of c = pieces_of (last_of c.hops)

-- the number of its bytes
abbrev pub body_size : PlanParts → ℕ
body_size c = sum_by length (body_of c)

-- THE LISTENER

-- a quotient, rounded up
abbrev pub rounded_up : ℕ → ℕ → ℕ
rounded_up n d = n / d + min 1 (n % d)

-- a pipe whose readers read a body of this size
pub record IsGoodPipe (segment limit readers size : ℕ) : Type 0 where
  pub segment_least : 4 ≤ segment
  pub segment_most : segment ≤ 65536
  pub limit_least : 1 ≤ limit
  pub limit_most : limit ≤ 1024
  pub readers_least : 1 ≤ readers
  pub readers_most : readers ≤ 8
  pub segments_read : rounded_up (readers * size) segment ≤ 1000000
  pub bytes_read : readers * size ≤ 134217728

abbrev pub IsGoodListener : ListenerKind → ℕ → Type 0
IsGoodListener listener.Plain size = Unit {0}
IsGoodListener (listener.Pipe segment limit readers) size = IsGoodPipe segment limit readers size

-- REACTIONS AND CONTROLS

abbrev pub IsGoodReaction : Reaction → Type 0
IsGoodReaction (reaction.StartRetarget w) = IsWorker w
IsGoodReaction reaction.StartSuspend = Unit {0}
IsGoodReaction (reaction.StartCancel s) = IsFailure s
IsGoodReaction (reaction.StartFail s) = IsFailure s
IsGoodReaction (reaction.BytesFail nth s) = (1 ≤ nth) × (nth ≤ 65536) × IsFailure s

abbrev pub IsGoodAct : Act → Type 0
IsGoodAct act.Suspend = Unit {0}
IsGoodAct act.Resume = Unit {0}
IsGoodAct (act.Cancel s) = IsFailure s
IsGoodAct (act.Retarget w) = IsWorker w
IsGoodAct (act.Break s) = IsFailure s

-- the page calls a channel only where the plan is not closed
pub record IsGoodControl (closed : Bool) (control : Control) : Type 0 where
  pub opened : closed ≡ false
  pub after : control.after ≤ 100000
  pub act : IsGoodAct control.act

-- THE WINDOW

abbrev pub IsGoodWindow : ℕ → Type 0
IsGoodWindow window = (1 ≤ window) × (window ≤ 16777216)

-- WHAT IS ACCEPTED

pub record Accepted (c : PlanParts) : Type 0 where
  pub some_hop : 0 < length c.hops
  pub few_hops : length c.hops ≤ 32
  pub ends : IsSomeAnd (last_of c.hops) (λ h. ¬ IsRedirect h)
  pub leads : All IsRedirect (take (length c.hops - 1) c.hops)
  pub hops : All IsGoodHop c.hops
  pub few_pieces : length (body_of c) ≤ 65536
  pub few_bytes : body_size c ≤ 67108864
  pub listener : IsGoodListener c.listener (body_size c)
  pub few_reactions : length c.reactions ≤ 64
  pub reactions : All IsGoodReaction c.reactions
  pub few_controls : length c.controls ≤ 64
  pub controls : All (IsGoodControl c.closed) c.controls
  pub window : IsGoodWindow c.window

-- WHAT IS REFUSED

-- the item at i is the first without this property
pub record IsFirstWithout {A : Type 0} (P : A → Type 0) (xs : List A) (i : ℕ) : Type 0 where
  pub before : All P (take i xs)
  pub here : IsSomeAnd (slice_get xs i) (λ x. ¬ P x)

-- the item at i is the first without this property, or with so many before it
pub record IsFirstBeyond {A : Type 0} (most : ℕ) (P : A → Type 0) (xs : List A) (i : ℕ) : Type 0 where
  pub before : All P (take i xs)
  pub few_before : i ≤ most
  pub here : IsSomeAnd (slice_get xs i) (λ x. (i ≡ most) ⊎ (¬ P x))

-- the plan is one that this refusal is for
abbrev pub Refuses : PlanError → PlanParts → Type 0
Refuses error.NoHop c = c.hops ≡ []
Refuses (error.TooManyHops n) c = (n ≡ length c.hops) × (32 < n)
Refuses error.LastIsRedirect c = IsSomeAnd (last_of c.hops) IsRedirect
Refuses (error.EarlyEnd i) c = IsFirstWithout IsRedirect c.hops i × (i + 1 < length c.hops)
Refuses (error.BadHop i) c = IsFirstWithout IsGoodHop c.hops i
Refuses (error.TooManyPieces n) c = (n ≡ length (body_of c)) × (65536 < n)
Refuses (error.TooManyBytes n) c = (n ≡ body_size c) × (67108864 < n)
Refuses error.BadListener c = ¬ IsGoodListener c.listener (body_size c)
Refuses (error.BadReaction i) c = IsFirstBeyond 64 IsGoodReaction c.reactions i
Refuses (error.BadControl i) c = IsFirstBeyond 64 (IsGoodControl c.closed) c.controls i
Refuses error.BadWindow c = ¬ IsGoodWindow c.window

-- the order of the refusals
abbrev pub row_of : PlanError → ℕ
row_of error.NoHop = 0
row_of (error.TooManyHops n) = 1
row_of error.LastIsRedirect = 2
row_of (error.EarlyEnd i) = 3
row_of (error.BadHop i) = 4
row_of (error.TooManyPieces n) = 5
row_of (error.TooManyBytes n) = 6
row_of error.BadListener = 7
row_of (error.BadReaction i) = 8
row_of (error.BadControl i) = 9
row_of error.BadWindow = 10

-- the plan is one that this refusal is for, and none that an earlier refusal is for
pub record IsFirstRefusal (e : PlanError) (c : PlanParts) : Type 0 where
  pub here : Refuses e c
  pub before : (earlier : PlanError) → row_of earlier < row_of e → ¬ Refuses earlier c

-- what the constructor answers for the plan with these parts: that plan, where no refusal is for it, or the first that is
abbrev pub IsPlanAnswer : PlanParts → Result PlanParts PlanError → Type 0
IsPlanAnswer c (Ok made) = (made ≡ c) × Accepted c × ((e : PlanError) → ¬ Refuses e c)
IsPlanAnswer c (Err e) = IsFirstRefusal e c
