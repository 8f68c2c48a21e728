-- Worked rows: what the listener of a played channel is shown. Each row is a computation, on both start lanes where its
-- steps allow it.
use Rattle.std.proofs.Common.{◌≡◌, refl, List, [], ◌∷◌, ◌++◌}
use Rattle.nk_base.specs.declared.status.Target.TheVariants as target
use Rattle.nk_base.specs.declared.field.Field.{Field}
use Rattle.nk_base.specs.declared.message.Entry.TheVariants as shown
use Rattle.nk_base.specs.Status.{ok, redirect_loop}
use Rattle.nk_plan.specs.declared.plan.StartLane.{StartLane}
use Rattle.nk_plan.specs.declared.plan.StartLane.TheVariants as lane
use Rattle.nk_plan.specs.declared.plan.Hop.TheVariants as hop
use Rattle.nk_plan.specs.declared.plan.Finish.TheVariants as finish
use Rattle.nk_plan.specs.declared.plan.Verdict.TheVariants as verdict
use Rattle.nk_plan.specs.declared.plan.Reaction.TheVariants as reaction
use Rattle.nk_plan.specs.declared.plan.Act.TheVariants as act
use Rattle.nk_plan.specs.declared.ends.Ending.TheVariants as ending
use Rattle.nk_plan.specs.declared.step.Step.{Step}
use Rattle.nk_plan.specs.declared.step.Step.TheVariants.{Act, Verdict, Fetch, Up, Forward, Main, Back, Release, Begin, Finish}
use Rattle.nk_plan.specs.Ending.{state_ending}
use Rattle.nk_laws.proofs.Played.{plan_of, head, response, allow, redirects, after, failure, aborted, refused, reset, ab, cd, hello, played, shown_by}

one_response : (l : StartLane) → shown_by (plan_of (response 200 (hello ∷ []) ∷ []) [] [] l) ≡ shown.Start 200 ok ∷ shown.Bytes 0 hello ∷ shown.Stop ok [] ∷ []
one_response lane.Main = refl
one_response lane.Back = refl

head_only : (l : StartLane) → shown_by (plan_of (response 204 [] ∷ []) [] [] l) ≡ shown.Start 204 ok ∷ shown.Stop ok [] ∷ []
head_only lane.Main = refl
head_only lane.Back = refl

-- the data overtakes the start
data_before_start :
    (played (plan_of (response 200 (ab ∷ cd ∷ []) ∷ []) [] [] lane.Main)
    (Act ∷ Up ∷ Fetch ∷ Fetch ∷ Fetch ∷ Fetch ∷ Forward ∷ Forward ∷ Forward ∷ Forward ∷ Back ∷ Back ∷ Back ∷ Back ∷ Main ∷ Release ∷ [])).child.trace
    ≡ shown.Start 200 ok ∷ shown.Bytes 0 ab ∷ shown.Bytes 2 cd ∷ shown.Stop ok [] ∷ []
data_before_start = refl

failed_opening : (l : StartLane) → shown_by (plan_of (hop.Fail refused ∷ []) [] [] l) ≡ shown.Start 0 refused ∷ shown.Stop refused [] ∷ []
failed_opening lane.Main = refl
failed_opening lane.Back = refl

failing_body : (l : StartLane) → shown_by (plan_of (hop.Response (head 200) (ab ∷ []) (finish.Fail reset) [] ∷ []) [] [] l)
    ≡ shown.Start 200 ok ∷ shown.Bytes 0 ab ∷ shown.Stop reset [] ∷ []
failing_body lane.Main = refl
failing_body lane.Back = refl

two_redirects : (l : StartLane) → shown_by (plan_of (allow 301 ∷ allow 302 ∷ response 200 ((0x7a ∷ []) ∷ []) ∷ []) [] [] l)
    ≡ shown.Start 200 ok ∷ shown.Bytes 0 (0x7a ∷ []) ∷ shown.Stop ok [] ∷ []
two_redirects lane.Main = refl
two_redirects lane.Back = refl

redirect_to_failure : (l : StartLane) → shown_by (plan_of (allow 301 ∷ hop.Fail refused ∷ []) [] [] l) ≡ shown.Start 0 refused ∷ shown.Stop refused [] ∷ []
redirect_to_failure lane.Main = refl
redirect_to_failure lane.Back = refl

vetoed_redirect : (l : StartLane) → shown_by (plan_of (hop.Redirect 302 (verdict.Veto aborted) ∷ response 200 (ab ∷ []) ∷ []) [] [] l)
    ≡ shown.Start 302 aborted ∷ shown.Stop aborted [] ∷ []
vetoed_redirect lane.Main = refl
vetoed_redirect lane.Back = refl

-- a redirect is asked, answered and completed
abbrev redirected : List Step
redirected = Fetch ∷ Main ∷ Verdict ∷ Up ∷ Fetch ∷ Main ∷ Begin target.Main ∷ Begin target.Main ∷ []

abbrev ten_redirected : List Step
ten_redirected = redirected ++ (redirected ++ (redirected ++ (redirected ++ (redirected ++ (redirected ++ (redirected ++ (redirected ++ (redirected ++ redirected))))))))

abbrev twenty_redirected : List Step
twenty_redirected = Act ∷ Up ∷ (ten_redirected ++ ten_redirected)

redirect_loop_row : (l : StartLane) → (played (plan_of (redirects 21 (response 200 ((0x7a ∷ []) ∷ []) ∷ [])) [] [] l) twenty_redirected).child.trace
    ≡ shown.Start 302 redirect_loop ∷ shown.Stop redirect_loop [] ∷ []
redirect_loop_row lane.Main = refl
redirect_loop_row lane.Back = refl

twenty_redirects : (l : StartLane) → (played (plan_of (redirects 20 (response 200 ((0x7a ∷ []) ∷ []) ∷ [])) [] [] l) twenty_redirected).child.trace
    ≡ shown.Start 200 ok ∷ shown.Bytes 0 (0x7a ∷ []) ∷ shown.Stop ok [] ∷ []
twenty_redirects lane.Main = refl
twenty_redirects lane.Back = refl

two_cancels : (l : StartLane) → shown_by (plan_of (response 200 (ab ∷ cd ∷ []) ∷ []) [] (after 1 (act.Cancel aborted) ∷ after 1 (act.Cancel failure) ∷ []) l)
    ≡ shown.Start 200 ok ∷ shown.Stop aborted [] ∷ []
two_cancels lane.Main = refl
two_cancels lane.Back = refl

-- the cancel comes after the verdict was sent, and before the redirect is completed
cancel_after_verdict :
    (played (plan_of (allow 302 ∷ response 200 (ab ∷ []) ∷ []) [] (after 0 (act.Cancel aborted) ∷ []) lane.Main) (Act ∷ Up ∷ Fetch ∷ Main ∷ Verdict ∷ Act ∷ Up ∷ Fetch ∷ Up ∷ [])).child.trace
    ≡ shown.Start 200 aborted ∷ shown.Stop aborted [] ∷ []
cancel_after_verdict = refl

cancel_before_fail : (l : StartLane) → shown_by (plan_of (response 200 (ab ∷ []) ∷ []) (reaction.StartCancel aborted ∷ reaction.StartFail failure ∷ []) [] l)
    ≡ shown.Start 200 ok ∷ shown.Stop aborted [] ∷ []
cancel_before_fail lane.Main = refl
cancel_before_fail lane.Back = refl

-- the stop with status 0 waits when the worker's cancel is put in front of it
worker_fails :
    (played (plan_of (response 200 ((0x61 ∷ []) ∷ (0x62 ∷ []) ∷ []) ∷ []) (reaction.StartRetarget 1 ∷ reaction.BytesFail 1 failure ∷ []) [] lane.Main)
    (Act ∷ Up ∷ Fetch ∷ Fetch ∷ Fetch ∷ Fetch ∷ Forward ∷ Forward ∷ Forward ∷ Forward ∷ Main ∷ Finish target.Main ∷ Back ∷ Back ∷ Back ∷ Back ∷ Release ∷ Begin target.Main
    ∷ Begin (target.Worker 1) ∷ Begin (target.Worker 1) ∷ Finish (target.Worker 1) ∷ [])).child.trace
    ≡ shown.Start 200 ok ∷ shown.Bytes 0 (0x61 ∷ []) ∷ shown.Stop failure [] ∷ []
worker_fails = refl

first_failing_piece : (l : StartLane) → shown_by (plan_of (response 200 (ab ∷ cd ∷ []) ∷ []) (reaction.BytesFail 1 failure ∷ reaction.BytesFail 1 reset ∷ []) [] l)
    ≡ shown.Start 200 ok ∷ shown.Bytes 0 ab ∷ shown.Stop failure [] ∷ []
first_failing_piece lane.Main = refl
first_failing_piece lane.Back = refl

suspended_at_start : (l : StartLane) → shown_by (plan_of (response 200 (ab ∷ []) ∷ []) (reaction.StartSuspend ∷ []) [] l) ≡ shown.Start 200 ok ∷ []
suspended_at_start lane.Main = refl
suspended_at_start lane.Back = refl

suspended_ending :
    let c = plan_of (response 200 (ab ∷ []) ∷ []) (reaction.StartSuspend ∷ []) [] lane.Main in state_ending c (played c []).child ≡ ending.Suspended
suspended_ending = refl

resumed : (l : StartLane) → shown_by (plan_of (response 200 (ab ∷ []) ∷ []) (reaction.StartSuspend ∷ []) (after 1 act.Resume ∷ []) l)
    ≡ shown.Start 200 ok ∷ shown.Bytes 0 ab ∷ shown.Stop ok [] ∷ []
resumed lane.Main = refl
resumed lane.Back = refl

-- only one callback ever finishes
resume_out_of_reach : (l : StartLane) → shown_by (plan_of (response 200 (ab ∷ []) ∷ []) (reaction.StartSuspend ∷ []) (after 2 act.Resume ∷ []) l) ≡ shown.Start 200 ok ∷ []
resume_out_of_reach lane.Main = refl
resume_out_of_reach lane.Back = refl

break_after_start : (l : StartLane) → shown_by (plan_of (response 200 (ab ∷ cd ∷ []) ∷ []) [] (after 1 (act.Break reset) ∷ []) l) ≡ shown.Start 200 ok ∷ shown.Stop reset [] ∷ []
break_after_start lane.Main = refl
break_after_start lane.Back = refl

break_before_start : (l : StartLane) → shown_by (plan_of (response 200 (ab ∷ cd ∷ []) ∷ []) [] (after 0 (act.Break reset) ∷ []) l) ≡ shown.Start 0 reset ∷ shown.Stop reset [] ∷ []
break_before_start lane.Main = refl
break_before_start lane.Back = refl

cancel_then_break : (l : StartLane) → shown_by (plan_of (response 200 (ab ∷ cd ∷ []) ∷ []) [] (after 1 (act.Cancel aborted) ∷ after 1 (act.Break reset) ∷ []) l)
    ≡ shown.Start 200 ok ∷ shown.Stop aborted [] ∷ []
cancel_then_break lane.Main = refl
cancel_then_break lane.Back = refl

-- the trailer `x-sum: 17`
abbrev sum : Field
sum = record { name = 0x78 ∷ 0x2d ∷ 0x73 ∷ 0x75 ∷ 0x6d ∷ []; value = 0x31 ∷ 0x37 ∷ [] }

trailers : (l : StartLane) → shown_by (plan_of (hop.Response (head 200) (ab ∷ []) finish.Good (sum ∷ []) ∷ []) [] [] l)
    ≡ shown.Start 200 ok ∷ shown.Bytes 0 ab ∷ shown.Stop ok (sum ∷ []) ∷ []
trailers lane.Main = refl
trailers lane.Back = refl

cancelled_trailers : (l : StartLane)
    → shown_by (plan_of (hop.Response (head 200) (ab ∷ []) finish.Good (sum ∷ []) ∷ []) [] (after 1 (act.Cancel aborted) ∷ []) l)
    ≡ shown.Start 200 ok ∷ shown.Stop aborted [] ∷ []
cancelled_trailers lane.Main = refl
cancelled_trailers lane.Back = refl
