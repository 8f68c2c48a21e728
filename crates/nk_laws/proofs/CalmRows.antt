-- Worked rows: what a calm plan's channel is shown when it is played is its calm trace. Each row is a computation.
use Rattle.std.proofs.Common.{◌≡◌, refl, List, [], ◌∷◌}
use Rattle.nk_base.specs.declared.message.Entry.TheVariants as shown
use Rattle.nk_base.specs.Status.{ok, redirect_loop}
use Rattle.nk_plan.specs.declared.plan.StartLane.{StartLane}
use Rattle.nk_plan.specs.declared.plan.StartLane.TheVariants as lane
use Rattle.nk_plan.specs.declared.plan.Hop.{Hop}
use Rattle.nk_plan.specs.declared.plan.Hop.TheVariants as hop
use Rattle.nk_plan.specs.declared.plan.Finish.TheVariants as finish
use Rattle.nk_plan.specs.declared.plan.Verdict.TheVariants as verdict
use Rattle.nk_plan.specs.declared.plan.Reaction.{Reaction}
use Rattle.nk_plan.specs.declared.plan.Reaction.TheVariants as reaction
use Rattle.nk_plan.specs.Calm.{calm_trace}
use Rattle.nk_laws.proofs.Played.{plan_of, head, response, allow, redirects, failure, aborted, refused, reset, ab, cd, hello, shown_by}

-- the listener of this plan is shown its calm trace, whatever lane starts travel on
abbrev PlaysCalm : List Hop → List Reaction → StartLane → Type 0
PlaysCalm hops reactions l = shown_by (plan_of hops reactions [] l) ≡ calm_trace (plan_of hops reactions [] l)

one_response : (l : StartLane) → PlaysCalm (response 200 (hello ∷ []) ∷ []) [] l
one_response lane.Main = refl
one_response lane.Back = refl

one_response_trace : (l : StartLane) → calm_trace (plan_of (response 200 (hello ∷ []) ∷ []) [] [] l) ≡ shown.Start 200 ok ∷ shown.Bytes 0 hello ∷ shown.Stop ok [] ∷ []
one_response_trace l = refl

no_piece : (l : StartLane) → PlaysCalm (response 204 [] ∷ []) [] l
no_piece lane.Main = refl
no_piece lane.Back = refl

no_piece_trace : (l : StartLane) → calm_trace (plan_of (response 204 [] ∷ []) [] [] l) ≡ shown.Start 204 ok ∷ shown.Stop ok [] ∷ []
no_piece_trace l = refl

-- a reaction to a data callback that never comes
no_piece_fails : (l : StartLane) → PlaysCalm (response 204 [] ∷ []) (reaction.BytesFail 1 failure ∷ []) l
no_piece_fails lane.Main = refl
no_piece_fails lane.Back = refl

failed_opening : (l : StartLane) → PlaysCalm (hop.Fail refused ∷ []) [] l
failed_opening lane.Main = refl
failed_opening lane.Back = refl

failing_body : (l : StartLane) → PlaysCalm (hop.Response (head 200) (ab ∷ []) (finish.Fail reset) [] ∷ []) [] l
failing_body lane.Main = refl
failing_body lane.Back = refl

two_redirects : (l : StartLane) → PlaysCalm (allow 301 ∷ allow 302 ∷ response 200 ((0x7a ∷ []) ∷ []) ∷ []) [] l
two_redirects lane.Main = refl
two_redirects lane.Back = refl

vetoed_redirect : (l : StartLane) → PlaysCalm (hop.Redirect 302 (verdict.Veto aborted) ∷ response 200 (ab ∷ []) ∷ []) [] l
vetoed_redirect lane.Main = refl
vetoed_redirect lane.Back = refl

-- twenty redirects are followed, and the twenty-first is a loop
redirect_loop_row : (l : StartLane) → calm_trace (plan_of (redirects 21 (response 200 (ab ∷ []) ∷ [])) [] [] l) ≡ shown.Start 302 redirect_loop ∷ shown.Stop redirect_loop [] ∷ []
redirect_loop_row l = refl

twenty_redirects : (l : StartLane) → calm_trace (plan_of (redirects 20 (response 200 (ab ∷ []) ∷ [])) [] [] l) ≡ shown.Start 200 ok ∷ shown.Bytes 0 ab ∷ shown.Stop ok [] ∷ []
twenty_redirects l = refl

-- the first reaction that ends the load from its start callback
start_reactions : (l : StartLane) → PlaysCalm (response 200 (ab ∷ []) ∷ []) (reaction.StartCancel aborted ∷ reaction.StartFail reset ∷ reaction.BytesFail 1 failure ∷ []) l
start_reactions lane.Main = refl
start_reactions lane.Back = refl

-- the least callback that is named, and the first reaction that names it
data_reactions : (l : StartLane) → PlaysCalm (response 200 (ab ∷ cd ∷ []) ∷ []) (reaction.BytesFail 2 aborted ∷ reaction.BytesFail 1 reset ∷ reaction.BytesFail 1 aborted ∷ []) l
data_reactions lane.Main = refl
data_reactions lane.Back = refl

worker_fails : (l : StartLane) → PlaysCalm (response 200 ((0x61 ∷ []) ∷ (0x62 ∷ []) ∷ []) ∷ []) (reaction.StartRetarget 1 ∷ reaction.BytesFail 1 failure ∷ []) l
worker_fails lane.Main = refl
worker_fails lane.Back = refl

trailers : (l : StartLane) → PlaysCalm (hop.Response (head 200) (ab ∷ []) finish.Good (record { name = 0x78 ∷ []; value = 0x79 ∷ [] } ∷ []) ∷ []) [] l
trailers lane.Main = refl
trailers lane.Back = refl
