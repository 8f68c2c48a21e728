-- The lane law: what a parent may have sent, given the messages of the up lane that it took.
-- Which message travels on which lane is after Firefox's HttpChannelParent and HttpBackgroundChannelParent; the law is
-- this project's own. It says nothing of phases, windows or moments.
use Rattle.std.specs.Prelude.{ℕ, zero, suc, ◌≡◌, ◌+◌, ◌≤◌, Bool, true, false, List, [], ◌∷◌, ◌++◌, length, take, Option, Some, None, ◌⊎◌}
use Rattle.nk_base.specs.declared.status.Status.{Status}
use Rattle.nk_base.specs.declared.field.Head.{Head}
use Rattle.nk_base.specs.declared.message.MainMsg.{MainMsg}
use Rattle.nk_base.specs.declared.message.BackMsg.{BackMsg}
use Rattle.nk_base.specs.declared.message.UpMsg.{UpMsg}
use Rattle.nk_base.specs.Status.{is_failure, ok, redirect_loop}
use Rattle.nk_plan.specs.declared.plan.ChannelPlan.{ChannelPlan}
use Rattle.nk_plan.specs.declared.plan.StartLane.{StartLane}
use Rattle.nk_plan.specs.declared.plan.Hop.{Hop}
use Rattle.nk_plan.specs.Plan.{hop_at, code_at, pieces_at, EndsWell, stop_trailers}
use Rattle.nk_base.specs.declared.message.MainMsg.TheVariants as main
use Rattle.nk_base.specs.declared.message.BackMsg.TheVariants as back
use Rattle.nk_base.specs.declared.message.UpMsg.TheVariants as up
use Rattle.nk_plan.specs.declared.plan.StartLane.TheVariants as lane
use Rattle.nk_plan.specs.declared.plan.Hop.TheVariants as hop
use Rattle.nk_plan.specs.declared.plan.Finish.TheVariants as finish

-- one list begins another
abbrev pub IsPrefix : {A : Type 0} → List A → List A → Type 0
IsPrefix xs ys = (rest : List _) × (xs ++ rest ≡ ys)

-- x is one of the list
abbrev pub Among : {A : Type 0} → A → List A → Type 0
Among x [] = ⊥
Among x (y ∷ ys) = (y ≡ x) ⊎ Among x ys

-- the hop is a redirect
abbrev pub IsRedirect : Option Hop → Type 0
IsRedirect None = ⊥
IsRedirect (Some (hop.Fail s)) = ⊥
IsRedirect (Some (hop.Redirect code verdict)) = Unit {0}
IsRedirect (Some (hop.Response head pieces end trailers)) = ⊥

-- each hop below f is a redirect
abbrev pub RedirectsTo : ChannelPlan → ℕ → Type 0
RedirectsTo c f = (i : ℕ) → suc i ≤ f → IsRedirect (hop_at c i)

-- the questions on the hops below f, each with its completion
abbrev pub redirects_to : ChannelPlan → ℕ → List MainMsg
redirects_to c zero = []
redirects_to c (suc f) = redirects_to c f ++ main.Redirect1 f (code_at c f) ∷ main.Redirect3 f ∷ []

-- the question on hop f, if it was asked
abbrev pub question : ChannelPlan → ℕ → Bool → List MainMsg
question c f false = []
question c f true = main.Redirect1 f (code_at c f) ∷ []

-- the head with which hop f starts: a response's own, and a redirect's code without fields, with a failure alone
abbrev pub IsHead : Option Hop → Status → Head → Type 0
IsHead None s head = ⊥
IsHead (Some (hop.Fail st)) s head = ⊥
IsHead (Some (hop.Redirect code verdict)) s head = (is_failure s ≡ true) × (head ≡ record { code = code; fields = [] })
IsHead (Some (hop.Response own pieces end trailers)) s head = head ≡ own

-- the start on the main lane, where it travels there
abbrev pub main_start : StartLane → ℕ → Status → Head → List MainMsg
main_start lane.Main f s head = main.Start f s head ∷ []
main_start lane.Back f s head = []

-- the first message of the background lane: the start itself, or the word that it was sent
abbrev pub back_start : StartLane → ℕ → Status → Head → List BackMsg
back_start lane.Main f s head = back.StartSent f ∷ []
back_start lane.Back f s head = back.Start f s head ∷ []

-- the messages of these pieces of hop f, the first of them at this offset
abbrev pub piece_messages : ℕ → ℕ → List (List ℕ) → List BackMsg
piece_messages f offset [] = []
piece_messages f offset (p ∷ ps) = back.Bytes f ok offset p ∷ piece_messages f (offset + length p) ps

-- the stop of hop f, if it was handed on
abbrev pub stop_message : ChannelPlan → ℕ → Option Status → List BackMsg
stop_message c f None = []
stop_message c f (Some s) = back.Stop f s (stop_trailers c f s) ∷ []

-- the status of a cancel that was taken, and of a verdict
abbrev pub IsCancelled : List UpMsg → Status → Type 0
IsCancelled u s = Among (up.Cancel s) u

abbrev pub IsVerified : List UpMsg → Status → Type 0
IsVerified u s = (h : ℕ) × Among (up.Verify h s) u

-- the hop is a response whose body ends with this failure
abbrev pub EndsWith : Option Hop → Status → Type 0
EndsWith None s = ⊥
EndsWith (Some (hop.Fail st)) s = ⊥
EndsWith (Some (hop.Redirect code verdict)) s = ⊥
EndsWith (Some (hop.Response head pieces finish.Good trailers)) s = ⊥
EndsWith (Some (hop.Response head pieces (finish.Fail st) trailers)) s = st ≡ s

-- Why a start of hop f may have this status: 0, or the failure of a cancel or a verdict, or the redirect loop
abbrev pub StartCause : List UpMsg → ℕ → Status → Type 0
StartCause u f s =
    (s ≡ ok)
    ⊎ ((is_failure s ≡ true) × (IsCancelled u s ⊎ (IsVerified u s ⊎ ((s ≡ redirect_loop) × (f ≡ 20)))))

-- Why the stop may have status e behind a start with status s and k pieces: the start's own failure, with no pieces;
-- behind a good start the failure of a cancel, or, with all pieces, the finish of the hop
abbrev pub StopCause : ChannelPlan → List UpMsg → ℕ → Status → ℕ → Status → Type 0
StopCause c u f s k e =
    ((is_failure s ≡ true) × (e ≡ s))
    ⊎ (((s ≡ ok) × (is_failure e ≡ true) × IsCancelled u e)
    ⊎ (((s ≡ ok) × (is_failure e ≡ true) × (k ≡ length (pieces_at c f)) × EndsWith (hop_at c f) e)
    ⊎ ((s ≡ ok) × (e ≡ ok) × (k ≡ length (pieces_at c f)) × EndsWell (hop_at c f))))

abbrev pub StopCauseIf : ChannelPlan → List UpMsg → ℕ → Status → ℕ → Option Status → Type 0
StopCauseIf c u f s k None = Unit {0}
StopCauseIf c u f s k (Some e) = StopCause c u f s k e

-- A start of hop f was given on its lane, whether or not the question on this hop had been asked. What the background
-- half was handed begins the list of its first message, the first pieces of hop f, and the stop.
pub record Started (c : ChannelPlan) (u : List UpMsg) (f : ℕ) (md : List MainMsg) (bd : List BackMsg) : Type 0 where
  pub asked : Bool
  pub status : Status
  pub head : Head
  pub pieces : ℕ
  pub stop : Option Status
  pub asked_redirect : asked ≡ true → IsRedirect (hop_at c f)
  pub hop_head : IsHead (hop_at c f) status head
  pub start_cause : StartCause u f status
  pub mains : md ≡ redirects_to c f ++ (question c f asked ++ main_start c.start f status head)
  pub backs :
      IsPrefix bd
      (back_start c.start f status head ++ (piece_messages f 0 (take pieces (pieces_at c f)) ++ stop_message c f stop))
  pub within : pieces ≤ length (pieces_at c f)
  pub none_failed : is_failure status ≡ true → pieces ≡ 0
  pub stop_cause : StopCauseIf c u f status pieces stop

-- no start was given: hop f is still to be met, or the question on it was asked, or it was a failed opening
abbrev pub Unstarted : ChannelPlan → ℕ → List MainMsg → List BackMsg → Type 0
Unstarted c f md bd =
    (bd ≡ [])
    × ((md ≡ redirects_to c f)
    ⊎ (((md ≡ redirects_to c f ++ question c f true) × IsRedirect (hop_at c f))
    ⊎ ((s : Status) × (md ≡ redirects_to c f ++ main.FailedOpen f s ∷ []) × (hop_at c f ≡ Some (hop.Fail s)))))

-- what a parent that took u may have sent on the main lane and handed to its background half
abbrev pub LaneLaw : ChannelPlan → List UpMsg → List MainMsg → List BackMsg → Type 0
LaneLaw c u md bd = (f : ℕ) × RedirectsTo c f × (Unstarted c f md bd ⊎ Started c u f md bd)

-- Each start is of hop f: on the main lane, where a failed opening is one, and on the background lane

abbrev pub MainsStart : ℕ → List MainMsg → Type 0
MainsStart f [] = Unit {0}
MainsStart f (main.Start h s head ∷ md) = (h ≡ f) × MainsStart f md
MainsStart f (main.FailedOpen h s ∷ md) = (h ≡ f) × MainsStart f md
MainsStart f (main.Redirect1 h code ∷ md) = MainsStart f md
MainsStart f (main.Redirect3 h ∷ md) = MainsStart f md

abbrev pub BacksStart : ℕ → List BackMsg → Type 0
BacksStart f [] = Unit {0}
BacksStart f (back.Start h s head ∷ bd) = (h ≡ f) × BacksStart f bd
BacksStart f (back.StartSent h ∷ bd) = (h ≡ f) × BacksStart f bd
BacksStart f (back.Bytes h s o p ∷ bd) = BacksStart f bd
BacksStart f (back.Stop h s trailers ∷ bd) = BacksStart f bd
