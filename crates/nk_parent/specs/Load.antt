-- What a load keeps of its place, beside the parent's table. This project's own.
use Rattle.std.specs.Prelude.{ℕ, ◌≡◌, ◌<◌, ◌≤◌, length, Option, Some, None}
use Rattle.nk_base.specs.declared.status.Status.{Status}
use Rattle.nk_plan.specs.declared.plan.ChannelPlan.{ChannelPlan}
use Rattle.nk_plan.specs.declared.plan.Hop.{Hop}
use Rattle.nk_plan.specs.declared.plan.Hop.TheVariants as hop
use Rattle.nk_plan.specs.declared.plan.Finish.{Finish}
use Rattle.nk_plan.specs.declared.plan.Finish.TheVariants as finish
use Rattle.nk_plan.specs.declared.step.Phase.{Phase}
use Rattle.nk_plan.specs.declared.step.Phase.TheVariants.{Closed, Ready, Asking, Follow, Body, Done}
use Rattle.nk_plan.specs.Accepted.{Accepted, last_of, body_of}
use Rattle.nk_plan.specs.Plan.{hop_at}
use Rattle.nk_plan.specs.Lanes.{IsRedirect}
use Rattle.nk_flow.specs.Credit.{Credit}
use Rattle.nk_redirect.specs.Asking.{Asking as Asked}
use Rattle.nk_source.specs.Source.{Source}

-- the hop is a response
abbrev pub IsResponse : Option Hop → Type 0
IsResponse None = ⊥
IsResponse (Some (hop.Fail s)) = ⊥
IsResponse (Some (hop.Redirect code verdict)) = ⊥
IsResponse (Some (hop.Response head pieces end trailers)) = Unit {0}

-- how the body of a hop ends; a hop without a body has a good end
abbrev pub finish_of : Option Hop → Finish
finish_of None = finish.Good
finish_of (Some (hop.Fail s)) = finish.Good
finish_of (Some (hop.Redirect code verdict)) = finish.Good
finish_of (Some (hop.Response head pieces end trailers)) = end

-- the body of the load's last hop is the one that is sent
pub record IsBody (c : ChannelPlan) (body : Source) : Type 0 where
  pub pieces : body.pieces ≡ body_of c
  pub finish : body.finish ≡ finish_of (last_of c.hops)

-- a redirect that the page is asked about, or has answered
pub record IsAsked (h : Option Hop) (asked : Asked) : Type 0 where
  pub redirect : IsRedirect h
  pub few : asked.followed < 20

-- Where a load may stand, in each phase: while the page is asked, the question on the hop is open; and behind the start of
-- a load that has not failed stands a body
abbrev pub IsPlace : Phase → Option Hop → ℕ → Asked → Option Status → Type 0
IsPlace Closed h n asked kept = Unit {0}
IsPlace Ready h n asked kept = Unit {0}
IsPlace Asking h n asked kept = IsAsked h asked × (asked.question ≡ Some n)
IsPlace Follow h n asked kept = IsAsked h asked
IsPlace Body h n asked kept = kept ≡ None → IsResponse h
IsPlace Done h n asked kept = Unit {0}

-- what the type keeps
pub record IsLoad (c : ChannelPlan) (phase : Phase) (hop : ℕ) (asked : Asked) (kept : Option Status) (window : Credit) (body : Source) : Type 0 where
  pub accepted : Accepted c
  pub within : hop < length c.hops
  pub followed : asked.followed ≤ 20
  pub same_window : window.window ≡ c.window
  pub same_body : IsBody c body
  pub place : IsPlace phase (hop_at c hop) hop asked kept
