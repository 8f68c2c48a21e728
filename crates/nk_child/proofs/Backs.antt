-- No event runs on the background lane's target: data is delivered on the main target or on a worker, and all else runs on
-- the main target.
use Rattle.std.proofs.Common.{ℕ, suc, ◌≡◌, ◌≤◌, ◌==◌, if◌then◌else◌, List, [], ◌∷◌, length, arith, refl, ap, ◌∙◌, Bool, true, false, not, ◌&&◌, Option, Some, None}
use Rattle.nk_base.specs.declared.message.BackMsg.{BackMsg}
use Rattle.nk_base.specs.Hold.{back_hop, of_hop}
use Rattle.nk_base.specs.declared.status.Target.TheVariants as target
use Rattle.nk_base.specs.Queue.{Queue, same_target, target_in, is_busy, runs_now}
use Rattle.nk_plan.specs.declared.event.ChildEvent.{ChildEvent}
use Rattle.nk_plan.specs.declared.event.ChildEvent.TheVariants.{Start, Bytes, Stop, Redirect1, Redirect3, Cancel}
use Rattle.nk_plan.specs.Event.{class_of}
use Rattle.nk_retarget.specs.Delivery.{target_of}

elsewhere : (w : Option ℕ) (e : ChildEvent) → same_target (target_in (target_of w) (class_of e)) target.Back ≡ false
elsewhere w (Start code s) = refl
elsewhere None (Bytes o p s) = refl
elsewhere (Some w) (Bytes o p s) = refl
elsewhere w (Stop s) = refl
elsewhere w (Redirect1 h) = refl
elsewhere w (Redirect3 h) = refl
elsewhere w (Cancel s) = refl

and_false : (b : Bool) → (b && false) ≡ false
and_false true = refl
and_false false = refl

pub never_on_back : (q : Queue ChildEvent) (w : Option ℕ) (e : ChildEvent) → q.data_target ≡ target_of w → runs_now class_of q e target.Back ≡ false
never_on_back q w e h =
    ap (λ t. not (is_busy q) && same_target (target_in t (class_of e)) target.Back) h
    ∙ (ap (λ b. not (is_busy q) && b) (elsewhere w e) ∙ and_false (not (is_busy q)))

-- the messages of a hop are no more than all
fewer : (b : Bool) (m : BackMsg) (xs ys : List BackMsg) → length xs ≤ length ys → length (if b then m ∷ xs else xs) ≤ suc (length ys)
fewer true m xs ys h = omega arith
fewer false m xs ys h = omega arith

pub few_of_hop : (h : ℕ) (ms : List BackMsg) → length (of_hop h ms) ≤ length ms
few_of_hop h [] = omega arith
few_of_hop h (m ∷ ms) = fewer (h == back_hop m) m (of_hop h ms) ms (few_of_hop h ms)
