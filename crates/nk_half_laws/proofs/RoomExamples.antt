-- The capacities of a plan's rings, and the two sums, in worked examples.
use Rattle.std.proofs.Common.{ℕ, ◌≡◌, ◌+◌, refl, List, [], ◌∷◌, length, false}
use Rattle.nk_base.specs.declared.status.Status.{Status}
use Rattle.nk_base.specs.declared.status.Target.TheVariants as target
use Rattle.nk_base.specs.declared.message.MainMsg.TheVariants as main
use Rattle.nk_base.specs.declared.message.BackMsg.TheVariants as back
use Rattle.nk_base.specs.declared.message.UpMsg.TheVariants as up
use Rattle.nk_base.specs.Status.{ok}
use Rattle.nk_plan.specs.declared.plan.ChannelPlan.{ChannelPlan}
use Rattle.nk_plan.specs.declared.plan.Hop.TheVariants as hop
use Rattle.nk_plan.specs.declared.plan.ListenerKind.TheVariants as listener
use Rattle.nk_plan.specs.declared.plan.StartLane.TheVariants as lane
use Rattle.nk_plan.specs.declared.plan.Reaction.TheVariants as reaction
use Rattle.nk_plan.specs.declared.plan.Act.TheVariants as act
use Rattle.nk_plan.specs.declared.step.ChildStep.{ChildStep}
use Rattle.nk_plan.specs.declared.step.ChildStep.TheVariants.{Act, Main, Back, Begin, Finish}
use Rattle.nk_plan.specs.Accepted.{plan_of}
use Rattle.nk_plan.specs.Child.{child_after}
use Rattle.nk_half_laws.specs.Capacity.{ups_left, shown_left}
use Rattle.nk_plan.specs.Capacity.{main_capacity, inner_capacity, back_capacity, delivery_capacity, up_capacity}

refused : Status
refused = record { 0 = 0x804b000d }

-- what was sent, with what is left, after each step; at the start it stands last
all_sent : ChannelPlan → List ChildStep → List ℕ
all_sent c [] = ups_left c (child_after c []) ∷ []
all_sent c (x ∷ xs) = (length (child_after c (x ∷ xs)).sent + ups_left c (child_after c (x ∷ xs))) ∷ all_sent c xs

all_shown : ChannelPlan → List ChildStep → List ℕ
all_shown c [] = shown_left (child_after c []) ∷ []
all_shown c (x ∷ xs) = (length (child_after c (x ∷ xs)).trace + shown_left (child_after c (x ∷ xs))) ∷ all_shown c xs

-- a listener suspends and cancels in its start callback, and the page resumes. Strays come of both lanes: a failed opening
-- with a good status, a question, and a piece of a hop that is not released. Once the start has run, the posted task runs the
-- stop. Each message that is taken adds one, and nothing is lost

plan : ChannelPlan
plan = plan_of (hop.Fail refused ∷ []) listener.Plain false (reaction.StartSuspend ∷ reaction.StartCancel refused ∷ [])
    (record { after = 1; act = act.Resume } ∷ record { after = 1; act = act.Break refused } ∷ []) 1 false lane.Main

-- one hop, no piece and two calls: the main lane, to the half, on to the child, delivery, and the up lane
capacities : main_capacity plan ∷ inner_capacity plan ∷ back_capacity plan ∷ delivery_capacity plan ∷ up_capacity plan ∷ []
    ≡ 4 ∷ 4 ∷ 5 ∷ 20 ∷ 32 ∷ []
unfolding plan refused
capacities = refl

whole : List ChildStep
whole =
    Finish target.Main ∷ Begin target.Main ∷ Begin target.Main ∷ Act ∷ Begin target.Main ∷ Finish target.Main
    ∷ Back (back.Bytes 3 ok 0 []) ∷ Main (main.Redirect1 0 301) ∷ Main (main.FailedOpen 0 ok) ∷ Act ∷ []

sums : all_sent plan whole ≡ 11 ∷ 11 ∷ 11 ∷ 11 ∷ 11 ∷ 11 ∷ 11 ∷ 10 ∷ 9 ∷ 8 ∷ 8 ∷ []
unfolding all_sent plan whole refused
sums = refl

shown_sums : all_shown plan whole ≡ 5 ∷ 5 ∷ 5 ∷ 5 ∷ 5 ∷ 5 ∷ 5 ∷ 4 ∷ 4 ∷ 2 ∷ 2 ∷ []
unfolding all_shown plan whole refused
shown_sums = refl

messages : (child_after plan whole).sent ≡ up.Open ∷ up.Suspend ∷ up.Cancel refused ∷ up.Resume ∷ up.Deleting ∷ []
unfolding plan whole refused
messages = refl

-- the parent process is gone before anything was taken: a start and a stop are shown, and the most is reached

lost : ChannelPlan
lost = plan_of (hop.Fail refused ∷ []) listener.Plain false [] (record { after = 0; act = act.Break refused } ∷ []) 1 false lane.Main

cut : List ChildStep
cut = Finish target.Main ∷ Begin target.Main ∷ Finish target.Main ∷ Act ∷ Act ∷ []

cut_sums : all_sent lost cut ≡ 3 ∷ 3 ∷ 3 ∷ 3 ∷ 6 ∷ 6 ∷ []
unfolding all_sent lost cut refused
cut_sums = refl

cut_shown_sums : all_shown lost cut ≡ 2 ∷ 2 ∷ 2 ∷ 2 ∷ 2 ∷ 2 ∷ []
unfolding all_shown lost cut refused
cut_shown_sums = refl

most_shown : length (child_after lost cut).trace ≡ 2
unfolding lost cut refused
most_shown = refl
