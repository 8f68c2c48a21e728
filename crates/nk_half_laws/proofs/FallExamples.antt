-- The measure of each half by itself, in worked examples.
use Rattle.std.proofs.Common.{ℕ, ◌≡◌, refl, List, [], ◌∷◌, false}
use Rattle.nk_base.specs.declared.status.Target.TheVariants as target
use Rattle.nk_base.specs.declared.field.Head.{Head}
use Rattle.nk_base.specs.declared.message.MainMsg.TheVariants as main
use Rattle.nk_base.specs.declared.message.BackMsg.TheVariants as back
use Rattle.nk_base.specs.declared.message.UpMsg.TheVariants as up
use Rattle.nk_base.specs.Status.{ok}
use Rattle.nk_plan.specs.declared.plan.ChannelPlan.{ChannelPlan}
use Rattle.nk_plan.specs.declared.plan.Hop.TheVariants as hop
use Rattle.nk_plan.specs.declared.plan.Finish.TheVariants as finish
use Rattle.nk_plan.specs.declared.plan.ListenerKind.TheVariants as listener
use Rattle.nk_plan.specs.declared.plan.StartLane.TheVariants as lane
use Rattle.nk_plan.specs.declared.step.ChildStep.{ChildStep}
use Rattle.nk_plan.specs.declared.step.ChildStep.TheVariants.{Act, Main, Back, Release, Begin, Finish}
use Rattle.nk_plan.specs.declared.step.ParentStep.{ParentStep}
use Rattle.nk_plan.specs.declared.step.ParentStep.TheVariants.{Up, Fetch}
use Rattle.nk_plan.specs.Accepted.{plan_of}
use Rattle.nk_plan.specs.Parent.{parent_after, new_parent}
use Rattle.nk_plan.specs.Child.{child_after, new_child}
use Rattle.nk_half_laws.specs.System as move
use Rattle.nk_half_laws.specs.Work.{child_work, spent, fetches_left, given, queue_number}
use Rattle.nk_half_laws.specs.System.{System, Move, system_work, system_after, stairs}

fine : Head
fine = record { code = 200; fields = [] }

plan : ChannelPlan
plan = plan_of (hop.Response fine ((1 ∷ 2 ∷ []) ∷ (3 ∷ []) ∷ []) finish.Good [] ∷ []) listener.Plain false [] [] 1 false lane.Main

-- the child's work after each step, the newest first
works : List ChildStep → List ℕ
works [] = child_work plan (child_after plan []) ∷ []
works (x ∷ xs) = child_work plan (child_after plan (x ∷ xs)) ∷ works xs

spents : List ChildStep → List ℕ
spents [] = spent plan (child_after plan []) ∷ []
spents (x ∷ xs) = spent plan (child_after plan (x ∷ xs)) ∷ spents xs

-- it is opened; a start comes, runs and is released; a piece that no parent sent comes, twice; and one of another hop
strays : List ChildStep
strays =
    Finish target.Main ∷ Begin target.Main ∷ Begin target.Main ∷ Back (back.Bytes 7 ok 0 (9 ∷ [])) ∷ Back
    (back.Bytes 0 ok 5 (9 ∷ [])) ∷ Back (back.Bytes 0 ok 5 (9 ∷ [])) ∷ Release ∷ Finish target.Main ∷ Main (main.Start 0 ok fine) ∷ Act ∷ []

child_example : works strays ≡ 268 ∷ 398 ∷ 398 ∷ 401 ∷ 267 ∷ 134 ∷ 1 ∷ 2 ∷ 132 ∷ 0 ∷ 269 ∷ []
unfolding works strays plan fine
child_example = refl

-- its work with all that it sent and showed: but for what each message weighs, lower at each step, or equal where the queue's
-- number is lower
spent_example : spents strays ≡ 276 ∷ 404 ∷ 404 ∷ 405 ∷ 271 ∷ 138 ∷ 5 ∷ 6 ∷ 136 ∷ 2 ∷ 269 ∷ []
unfolding spents strays plan fine
spent_example = refl

numbers : List ChildStep → List ℕ
numbers [] = queue_number (child_after plan []).queue ∷ []
numbers (x ∷ xs) = queue_number (child_after plan (x ∷ xs)).queue ∷ numbers xs

number_example : numbers strays ≡ 1 ∷ 1 ∷ 1 ∷ 1 ∷ 1 ∷ 1 ∷ 3 ∷ 3 ∷ 3 ∷ 0 ∷ 0 ∷ []
unfolding numbers strays plan fine
number_example = refl

-- the parent: fetches that are left, and its work with all that it sent

lefts : List ParentStep → List ℕ
lefts [] = fetches_left plan (parent_after plan []) ∷ []
lefts (x ∷ xs) = fetches_left plan (parent_after plan (x ∷ xs)) ∷ lefts xs

givens : List ParentStep → List ℕ
givens [] = given plan (parent_after plan []) ∷ []
givens (x ∷ xs) = given plan (parent_after plan (x ∷ xs)) ∷ givens xs

-- it is opened twice; it gives the start and a piece, and then waits: no credit is left; a size that no child read gives it some
heard : List ParentStep
heard = Fetch ∷ Fetch ∷ Up (up.BytesRead 4) ∷ Fetch ∷ Fetch ∷ Fetch ∷ Up up.Open ∷ Up up.Open ∷ []

parent_example : lefts heard ≡ 0 ∷ 1 ∷ 2 ∷ 2 ∷ 2 ∷ 3 ∷ 6 ∷ 6 ∷ 6 ∷ []
unfolding lefts heard plan fine
parent_example = refl

given_example : givens heard ≡ 813 ∷ 1083 ∷ 1353 ∷ 1353 ∷ 1353 ∷ 1623 ∷ 2436 ∷ 2436 ∷ 2436 ∷ []
unfolding givens heard plan fine
given_example = refl

-- a system of fresh halves whose lanes hold what neither sent: two starts, a piece at the half, and up messages

start : System
start = record {
  parent = new_parent plan;
  child = new_child plan;
  mains = main.Start 0 ok fine ∷ main.Start 3 ok fine ∷ [];
  half = back.Bytes 0 ok 5 (9 ∷ []) ∷ back.Bytes 0 ok 6 (9 ∷ []) ∷ [];
  backs = [];
  ups = up.Open ∷ up.BytesRead 7 ∷ [];
  shown = [];
}

totals : List Move → List ℕ
totals [] = system_work plan (system_after plan start []) ∷ []
totals (x ∷ xs) = system_work plan (system_after plan start (x ∷ xs)) ∷ totals xs

moved : List Move
moved =
    move.See ∷ move.Begin target.Main ∷ move.Finish target.Main ∷ move.Back ∷ move.Release ∷ move.Forward ∷ move.Direct
    (up.BytesRead 1) ∷ move.Main ∷ move.Fetch ∷ move.Up ∷ move.Up ∷ []

total_example : totals moved ≡ 2294 ∷ 2296 ∷ 2297 ∷ 2427 ∷ 2429 ∷ 2430 ∷ 2431 ∷ 2567 ∷ 2702 ∷ 3515 ∷ 3517 ∷ 3519 ∷ []
unfolding totals moved start plan fine
total_example = refl

stairs_example : stairs 3 ≡ 24
stairs_example = refl
