-- The bounds are reached, and each premise is needed, in worked examples.
use Rattle.std.proofs.Common.{ℕ, ◌≡◌, refl, List, [], ◌∷◌, length, false, arith}
use Rattle.nk_base.specs.Status.{ok}
use Rattle.nk_base.specs.declared.message.MainMsg.TheVariants as main
use Rattle.nk_base.specs.declared.message.BackMsg.TheVariants as back
use Rattle.nk_base.specs.declared.message.UpMsg.TheVariants as up
use Rattle.nk_plan.specs.declared.plan.ChannelPlan.{ChannelPlan}
use Rattle.nk_plan.specs.declared.plan.Hop.{Hop}
use Rattle.nk_plan.specs.declared.plan.Hop.TheVariants as hop
use Rattle.nk_plan.specs.declared.plan.Verdict.TheVariants as verdict
use Rattle.nk_plan.specs.declared.plan.ListenerKind.TheVariants as listener
use Rattle.nk_plan.specs.declared.plan.StartLane.TheVariants as lane
use Rattle.nk_plan.specs.declared.plan.Finish.TheVariants as finish
use Rattle.nk_plan.specs.declared.step.ParentStep.{ParentStep}
use Rattle.nk_plan.specs.declared.step.ParentStep.TheVariants.{Up, Fetch}
use Rattle.nk_plan.specs.declared.step.ChildStep.TheVariants.{Main, Verdict}
use Rattle.nk_plan.specs.Accepted.{plan_of, body_of, Accepted, IsRedirect, IsGoodHop, IsGoodReaction, IsGoodControl}
use Rattle.std.proofs.lemmas.List.Elements.{All-nil, All-cons}
use Rattle.nk_plan.specs.Child.{child_after}
use Rattle.nk_plan.specs.Journal.{mains_sent, backs_sent}
use Rattle.nk_plan.specs.Parent.{parent_after}
use Rattle.nk_half_laws.proofs.Tools.{only}

plan_with : List Hop → ChannelPlan
plan_with hops = plan_of hops listener.Plain false [] [] 10 false lane.Main

response : List (List ℕ) → Hop
response pieces = hop.Response (record { code = 200; fields = [] }) pieces finish.Good []

-- Two hops and two pieces: 3 messages of the main lane and 4 of the background lane. A stray verdict and a second opening
-- change nothing

plan : ChannelPlan
plan = plan_with (hop.Redirect 302 verdict.Allow ∷ response ((1 ∷ []) ∷ (2 ∷ 3 ∷ []) ∷ []) ∷ [])

plan_accepted : Accepted plan
unfolding plan plan_with response
plan_accepted = record {
  some_hop = omega arith;
  few_hops = omega arith;
  ends = λ r. r;
  leads = only IsRedirect (hop.Redirect 302 verdict.Allow) tt;
  hops =
      All-cons IsGoodHop (hop.Redirect 302 verdict.Allow) (response ((1 ∷ []) ∷ (2 ∷ 3 ∷ []) ∷ []) ∷ []) ((omega arith, omega arith), tt)
      (only IsGoodHop (response ((1 ∷ []) ∷ (2 ∷ 3 ∷ []) ∷ [])) (refl, omega arith, tt));
  few_pieces = omega arith;
  few_bytes = omega arith;
  listener = tt;
  few_reactions = omega arith;
  reactions = All-nil IsGoodReaction;
  few_controls = omega arith;
  controls = All-nil (IsGoodControl false);
  window = (omega arith, omega arith);
}

load : List ParentStep
load = Fetch ∷ Fetch ∷ Fetch ∷ Fetch ∷ Fetch ∷ Up up.Open ∷ Fetch ∷ Up (up.Verify 0 ok) ∷ Up (up.Verify 7 ok) ∷ Fetch ∷ Up up.Open ∷ []

mains_count : List ParentStep → List ℕ
mains_count [] = length (mains_sent (parent_after plan []).journal) ∷ []
mains_count (x ∷ xs) = length (mains_sent (parent_after plan (x ∷ xs)).journal) ∷ mains_count xs

backs_count : List ParentStep → List ℕ
backs_count [] = length (backs_sent (parent_after plan []).journal) ∷ []
backs_count (x ∷ xs) = length (backs_sent (parent_after plan (x ∷ xs)).journal) ∷ backs_count xs

mains_reached : mains_count load ≡ 3 ∷ 3 ∷ 3 ∷ 3 ∷ 3 ∷ 2 ∷ 2 ∷ 1 ∷ 1 ∷ 1 ∷ 0 ∷ 0 ∷ []
unfolding mains_count load plan plan_with response
mains_reached = refl

backs_reached : backs_count load ≡ 4 ∷ 4 ∷ 3 ∷ 2 ∷ 1 ∷ 0 ∷ 0 ∷ 0 ∷ 0 ∷ 0 ∷ 0 ∷ 0 ∷ []
unfolding backs_count load plan plan_with response
backs_reached = refl

-- A response before the last hop, which no accepted plan has, sends more pieces than the plan's body has

early : ChannelPlan
early = plan_with (response ((1 ∷ []) ∷ (2 ∷ []) ∷ (3 ∷ []) ∷ []) ∷ response [] ∷ [])

beyond : (length (backs_sent (parent_after early (Fetch ∷ Fetch ∷ Fetch ∷ Fetch ∷ Up up.Open ∷ [])).journal) ≡ 4) ×
    (length (body_of early) ≡ 0)
unfolding early plan_with response
beyond = (refl, refl)

-- An accepted plan with an empty piece sends it, and a child answers a question on hop 32 where it is asked: neither is in range

empty : ChannelPlan
empty = plan_with (response ([] ∷ []) ∷ [])

empty_sent : backs_sent (parent_after empty (Fetch ∷ Fetch ∷ Up up.Open ∷ [])).journal ≡ back.StartSent 0 ∷ back.Bytes 0 ok 0 [] ∷ []
unfolding empty plan_with response
empty_sent = refl

asked : (child_after plan (Verdict ∷ Main (main.Redirect1 32 302) ∷ [])).sent ≡ up.Verify 32 ok ∷ []
unfolding plan plan_with response
asked = refl

empty_accepted : Accepted empty
unfolding empty plan_with response
empty_accepted = record {
  some_hop = omega arith;
  few_hops = omega arith;
  ends = λ r. r;
  leads = All-nil IsRedirect;
  hops = only IsGoodHop (hop.Response (record { code = 200; fields = [] }) ([] ∷ []) finish.Good []) (refl, omega arith, tt);
  few_pieces = omega arith;
  few_bytes = omega arith;
  listener = tt;
  few_reactions = omega arith;
  reactions = All-nil IsGoodReaction;
  few_controls = omega arith;
  controls = All-nil (IsGoodControl false);
  window = (omega arith, omega arith);
}
