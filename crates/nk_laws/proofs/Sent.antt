-- What a parent sent, in the form in which its steps keep it: the lane law, with each list told by an equation.
use Rattle.std.proofs.Common.{ℕ, ◌≡◌, ◌≤◌, Bool, true, List, [], ◌++◌, length, take, Option, ◌⊎◌, inl, inr}
use Rattle.nk_base.specs.declared.status.Status.{Status}
use Rattle.nk_base.specs.declared.field.Head.{Head}
use Rattle.nk_base.specs.declared.message.MainMsg.{MainMsg}
use Rattle.nk_base.specs.declared.message.BackMsg.{BackMsg}
use Rattle.nk_base.specs.declared.message.UpMsg.{UpMsg}
use Rattle.nk_base.specs.Status.{is_failure}
use Rattle.nk_plan.specs.declared.plan.ChannelPlan.{ChannelPlan}
use Rattle.nk_plan.specs.Plan.{hop_at, pieces_at}
use Rattle.nk_plan.specs.Lanes.{IsRedirect, RedirectsTo, redirects_to, question, IsHead, main_start, back_start, piece_messages, stop_message, StartCause, StopCauseIf, Started, Unstarted, LaneLaw}
use Rattle.nk_laws.proofs.Tools.{append_nil}

-- a start was given, and the background half was handed its first message, so many pieces and perhaps the stop
pub record Begun (c : ChannelPlan) (u : List UpMsg) (f : ℕ) (md : List MainMsg) (bd : List BackMsg) : Type 0 where
  pub asked : Bool
  pub status : Status
  pub head : Head
  pub pieces : ℕ
  pub stop : Option Status
  pub is_head : IsHead (hop_at c f) status head
  pub asked_hop : asked ≡ true → IsRedirect (hop_at c f)
  pub mains : md ≡ redirects_to c f ++ (question c f asked ++ main_start c.start f status head)
  pub backs : bd ≡ back_start c.start f status head ++ (piece_messages f 0 (take pieces (pieces_at c f)) ++ stop_message c f stop)
  pub within : pieces ≤ length (pieces_at c f)
  pub failed : is_failure status ≡ true → pieces ≡ 0
  pub cause : StartCause u f status
  pub stop_cause : StopCauseIf c u f status pieces stop

abbrev pub SentLaw : ChannelPlan → List UpMsg → List MainMsg → List BackMsg → Type 0
SentLaw c u md bd = (f : ℕ) × RedirectsTo c f × (Unstarted c f md bd ⊎ Begun c u f md bd)

started : (c : ChannelPlan) (u : List UpMsg) (f : ℕ) (md : List MainMsg) (bd : List BackMsg) → Begun c u f md bd → Started c u f md bd
started c u f md bd b = record {
  asked = b.asked;
  status = b.status;
  head = b.head;
  pieces = b.pieces;
  stop = b.stop;
  asked_redirect = b.asked_hop;
  hop_head = b.is_head;
  start_cause = b.cause;
  mains = b.mains;
  backs = ([], (let e : bd ++ [] ≡ bd = append_nil bd in rw e b.backs));
  within = b.within;
  none_failed = b.failed;
  stop_cause = b.stop_cause;
}

pub lane_law_of : (c : ChannelPlan) (u : List UpMsg) (md : List MainMsg) (bd : List BackMsg) → SentLaw c u md bd → LaneLaw c u md bd
lane_law_of c u md bd (f, all, inl un) = (f, all, inl un)
lane_law_of c u md bd (f, all, inr b) = (f, all, inr (started c u f md bd b))
