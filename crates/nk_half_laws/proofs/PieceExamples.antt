-- A worked example, step by step: where the data goes, and that both premises of the equations are needed.
use Rattle.std.proofs.Common.{ℕ, ◌≡◌, ◌+◌, refl, List, [], ◌∷◌, Some, false}
use Rattle.nk_base.specs.declared.status.Status.{Status}
use Rattle.nk_base.specs.declared.status.Target.TheVariants as target
use Rattle.nk_base.specs.declared.field.Head.{Head}
use Rattle.nk_base.specs.declared.message.MainMsg.TheVariants as main
use Rattle.nk_base.specs.declared.message.BackMsg.TheVariants as back
use Rattle.nk_base.specs.Status.{ok}
use Rattle.nk_plan.specs.declared.plan.ChannelPlan.{ChannelPlan}
use Rattle.nk_plan.specs.declared.plan.Hop.TheVariants as hop
use Rattle.nk_plan.specs.declared.plan.ListenerKind.TheVariants as listener
use Rattle.nk_plan.specs.declared.plan.StartLane.TheVariants as lane
use Rattle.nk_plan.specs.declared.plan.Act.TheVariants as act
use Rattle.nk_plan.specs.declared.step.ChildStep.{ChildStep}
use Rattle.nk_plan.specs.declared.step.ChildStep.TheVariants.{Act, Main, Back, Release, Begin, Finish}
use Rattle.nk_plan.specs.Accepted.{plan_of}
use Rattle.nk_plan.specs.Journal.{is_data, count_of}
use Rattle.nk_plan.specs.Child.{ChildState, child_after}
use Rattle.nk_half_laws.specs.Pieces.{data_run, data_shown, shown_weight, data_left, data_taken, one_each, is_drop}
use Rattle.nk_half_laws.specs.Growth.{Began, Piece, told}
use Rattle.nk_half_laws.specs.Sums.{sum_of}

refused : Status
refused = record { 0 = 0x804b000d }

fine : Head
fine = record { code = 200; fields = [] }

plan : ChannelPlan
plan = plan_of (hop.Fail refused ∷ []) listener.Plain false [] (record { after = 1; act = act.Break refused } ∷ []) 1 false lane.Main

-- a start; a piece that is held, released, posted and shown, with a stray that stays held; a piece that brings a failure, and
-- is dropped; a piece that waits, and is given up where the child is broken. The newest step stands first
steps : List ChildStep
steps =
    Act ∷ Act
    ∷ Back (back.Bytes 0 ok 2 (6 ∷ []))
    ∷ Begin target.Main ∷ Begin target.Main ∷ Back (back.Bytes 0 refused 1 (9 ∷ []))
    ∷ Begin target.Main ∷ Finish target.Main ∷ Begin target.Main ∷ Begin target.Main
    ∷ Back (back.Bytes 3 ok 5 (8 ∷ [])) ∷ Release ∷ Back (back.Bytes 0 ok 0 (7 ∷ []))
    ∷ Begin target.Main ∷ Finish target.Main ∷ Main (main.Start 0 ok fine) ∷ []

abbrev spent : ChildState → ℕ
spent s = count_of is_data s.journal + count_of is_drop s.journal + data_left one_each s

abbrev kept_whole : ChildState → ℕ
kept_whole s = sum_of (shown_weight one_each) s.trace + data_left one_each s

abbrev taken : ChildState → ℕ
taken s = data_taken one_each s

along : (ChildState → ℕ) → List ChildStep → List ℕ
along f [] = []
along f (x ∷ xs) = f (child_after plan (x ∷ xs)) ∷ along f xs

-- what was taken

all_taken : along taken steps ≡ 4 ∷ 4 ∷ 4 ∷ 3 ∷ 3 ∷ 3 ∷ 2 ∷ 2 ∷ 2 ∷ 2 ∷ 2 ∷ 1 ∷ 1 ∷ 0 ∷ 0 ∷ 0 ∷ []
unfolding along plan steps refused fine
all_taken = refl

-- what ran, was dropped, waits or is held is the same until the break

all_spent : along spent steps ≡ 3 ∷ 4 ∷ 4 ∷ 3 ∷ 3 ∷ 3 ∷ 2 ∷ 2 ∷ 2 ∷ 2 ∷ 2 ∷ 1 ∷ 1 ∷ 0 ∷ 0 ∷ 0 ∷ []
unfolding along plan steps refused fine
all_spent = refl

-- what was shown, waits or is held is the same until the drop

all_shown : along kept_whole steps ≡ 2 ∷ 3 ∷ 3 ∷ 2 ∷ 3 ∷ 3 ∷ 2 ∷ 2 ∷ 2 ∷ 2 ∷ 2 ∷ 1 ∷ 1 ∷ 0 ∷ 0 ∷ 0 ∷ []
unfolding along plan steps refused fine
all_shown = refl

was_shown : data_shown (child_after plan steps).trace ≡ (0, 1) ∷ []
unfolding plan steps refused fine
was_shown = refl

was_run : data_run (child_after plan steps).journal ≡ (0, 1) ∷ []
unfolding plan steps refused fine
was_run = refl

was_kept : (child_after plan steps).kept ≡ Some refused
unfolding plan steps refused fine
was_kept = refl

was_told : told plan 0 (child_after plan steps).journal ≡ Began 200 ok ∷ Piece 0 1 ∷ []
unfolding plan steps refused fine
was_told = refl
