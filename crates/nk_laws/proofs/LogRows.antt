-- Worked rows: the journals of a played channel, entry by entry. Each row is a computation.
use Rattle.std.proofs.Common.{◌≡◌, refl, [], ◌∷◌}
use Rattle.nk_base.specs.declared.status.Target.TheVariants as target
use Rattle.nk_base.specs.declared.status.RetargetError.TheVariants as error
use Rattle.nk_base.specs.declared.message.MainMsg.TheVariants as main
use Rattle.nk_base.specs.declared.message.BackMsg.TheVariants as back
use Rattle.nk_base.specs.declared.message.UpMsg.TheVariants as up
use Rattle.nk_base.specs.Status.{ok}
use Rattle.nk_plan.specs.declared.plan.StartLane.TheVariants as lane
use Rattle.nk_plan.specs.declared.plan.Act.TheVariants as act
use Rattle.nk_plan.specs.declared.journal.ParentEntry.TheVariants as parent
use Rattle.nk_plan.specs.declared.journal.ChildEntry.TheVariants as child
use Rattle.nk_plan.specs.declared.step.Step.TheVariants.{Act, Fetch, Up, Forward, Main, Back, Release, Begin, Finish}
use Rattle.nk_plan.specs.Channel.{Channel}
use Rattle.nk_plan.specs.Telling.{new_telling, sends_from}
use Rattle.nk_laws.proofs.Played.{plan_of, head, response, after, reset, ab, cd, played}

-- A head and no body, with the start on the main lane

abbrev head_only : Channel
head_only = played (plan_of (response 204 [] ∷ []) [] [] lane.Main) []

head_only_parent : head_only.parent.journal
    ≡ parent.Took up.Open ∷ parent.SentMain (main.Start 0 ok (head 204)) ∷ parent.SentBack (back.StartSent 0) ∷ parent.SentBack (back.Stop 0 ok []) ∷ parent.Took up.Deleting ∷ []
head_only_parent = refl

head_only_forwarded : head_only.forwarded ≡ 2
head_only_forwarded = refl

head_only_child : head_only.child.journal
    ≡ child.Open ∷ child.TookMain (main.Start 0 ok (head 204)) ∷ child.RunStart target.Main 204 ok ∷ child.TookBack (back.StartSent 0) ∷ child.Release 0 ∷ child.Finish target.Main
    ∷ child.TookBack (back.Stop 0 ok []) ∷ child.RunStop target.Main ok ∷ child.Finish target.Main ∷ child.Ended target.Main ∷ []
head_only_child = refl

head_only_sends : sends_from new_telling head_only.child.journal ≡ up.Open ∷ up.Deleting ∷ []
head_only_sends = refl

-- The same with the start on the background lane

abbrev start_back : Channel
start_back = played (plan_of (response 204 [] ∷ []) [] [] lane.Back) []

start_back_parent : start_back.parent.journal ≡ parent.Took up.Open ∷ parent.SentBack (back.Start 0 ok (head 204)) ∷ parent.SentBack (back.Stop 0 ok []) ∷ parent.Took up.Deleting ∷ []
start_back_parent = refl

start_back_forwarded : start_back.forwarded ≡ 2
start_back_forwarded = refl

start_back_child : start_back.child.journal
    ≡ child.Open ∷ child.TookBack (back.Start 0 ok (head 204)) ∷ child.Complete target.Main ∷ child.TookBack (back.Stop 0 ok []) ∷ child.RunStart target.Main 204 ok
    ∷ child.Finish target.Main ∷ child.RunStop target.Main ok ∷ child.Finish target.Main ∷ child.Ended target.Main ∷ []
start_back_child = refl

-- The data is retargeted before it begins, and not a second time

retargeted_child :
    (played (plan_of (response 200 (ab ∷ []) ∷ []) [] (after 1 (act.Retarget 1) ∷ after 1 (act.Retarget 2) ∷ []) lane.Main)
    (Act ∷ Up ∷ Fetch ∷ Fetch ∷ Forward ∷ Forward ∷ Main ∷ Back ∷ Back ∷ Release ∷ Finish target.Main ∷ Act ∷ Begin target.Main ∷ Begin (target.Worker 1) ∷ Begin (target.Worker 1) ∷ [])).child.journal
    ≡ child.Open ∷ child.TookMain (main.Start 0 ok (head 200)) ∷ child.RunStart target.Main 200 ok ∷ child.TookBack (back.StartSent 0) ∷ child.TookBack (back.Bytes 0 ok 0 ab) ∷ child.Release 1
    ∷ child.Finish target.Main ∷ child.Retarget 1 ∷ child.HandOver target.Main (target.Worker 1) ∷ child.Complete (target.Worker 1) ∷ child.RunBytes (target.Worker 1) 0 2
    ∷ child.NoRetarget (error.AlreadyRetargeted 1) ∷ child.TookBack (back.Stop 0 ok []) ∷ child.Finish (target.Worker 1) ∷ child.HandOver (target.Worker 1) target.Main ∷ child.Complete target.Main
    ∷ child.RunStop target.Main ok ∷ child.Finish target.Main ∷ child.Ended target.Main ∷ []
retargeted_child = refl

-- A break before the start

broken_child : (played (plan_of (response 200 (ab ∷ cd ∷ []) ∷ []) [] (after 0 (act.Break reset) ∷ []) lane.Main) []).child.journal
    ≡ child.Open ∷ child.Break reset ∷ child.RunStart target.Main 0 reset ∷ child.Finish target.Main ∷ child.RunStop target.Main reset ∷ child.Finish target.Main ∷ child.Ended target.Main ∷ []
broken_child = refl
