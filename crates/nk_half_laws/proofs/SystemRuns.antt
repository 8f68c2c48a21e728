-- What is known of the halves holds on, move for move; so one number falls with each, and bounds each run.
use Rattle.std.proofs.Common.{ℕ, zero, suc, ◌≡◌, ◌+◌, ◌*◌, ◌<◌, ◌≤◌, ◌∙◌, inl, inr, sym, ap, subst, List, [], ◌∷◌, length, arith}
use Rattle.nk_base.specs.declared.message.MainMsg.{MainMsg}
use Rattle.nk_base.specs.declared.message.BackMsg.{BackMsg}
use Rattle.nk_base.specs.declared.message.UpMsg.{UpMsg}
use Rattle.nk_base.specs.declared.message.Entry.{Entry}
use Rattle.nk_plan.specs.declared.plan.ChannelPlan.{ChannelPlan}
use Rattle.nk_plan.specs.declared.step.ChildStep.{ChildStep}
use Rattle.nk_plan.specs.declared.step.ChildStep.TheVariants as child
use Rattle.nk_plan.specs.declared.step.ParentStep.TheVariants as parent
use Rattle.nk_plan.specs.Accepted.{Accepted}
use Rattle.nk_plan.specs.Parent.{ParentState}
use Rattle.nk_plan.specs.Child.{ChildState, child_step}
use Rattle.nk_half_laws.specs.Work.{parent_work, queue_work, calls_work, hold_work, running_work, question_work, queue_number}
use Rattle.nk_half_laws.specs.System.{System, Move, Act, Verdict, Release, Begin, Finish, Main, Back, Fetch, Up, Forward, Direct, See, Answer, takes_main, takes_back, takes_up, moves_on, takes_half, takes_shown, answers_shown, move, system_work, stairs, moves_left, system_after, AllMoved, SystemFalls}
use Rattle.nk_half_laws.proofs.QueueFalls.{number_most}
use Rattle.nk_half_laws.proofs.ParentFalls.{Placed, step_placed, up_placed}
use Rattle.nk_half_laws.proofs.HalfFalls.{posts_kept, posted_there, placed_there}
use Rattle.nk_half_laws.proofs.SystemMoves.{move_falls}
use Rattle.nk_half_laws.specs.Falls.{SystemRunLaw}

-- What is known of the halves

record Halves (c : ChannelPlan) (w : System) : Type 0 where
  pub placed : Placed c w.parent
  pub posted : length w.child.queue.posted ≡ 18

stepped : (c : ChannelPlan) (x : ChildStep) (s : ChildState) → Accepted c → length s.queue.posted ≡ 18
    → length (child_step c x s).queue.posted ≡ 18
stepped c x s a l = posts_kept c x s a l ∙ l

main_there : (c : ChannelPlan) (l : List MainMsg) (w : System) → Accepted c → Halves c w → Halves c (takes_main c l w)
main_there c [] w a h = h
main_there c (m ∷ ms) w a h = record { placed = h.placed; posted = stepped c (child.Main m) w.child a h.posted }

back_there : (c : ChannelPlan) (l : List BackMsg) (w : System) → Accepted c → Halves c w → Halves c (takes_back c l w)
back_there c [] w a h = h
back_there c (m ∷ ms) w a h = record { placed = h.placed; posted = stepped c (child.Back m) w.child a h.posted }

up_there : (c : ChannelPlan) (l : List UpMsg) (w : System) → Halves c w → Halves c (takes_up c l w)
up_there c [] w h = h
up_there c (m ∷ ms) w h = record { placed = up_placed c m w.parent h.placed; posted = h.posted }

forward_there : (c : ChannelPlan) (l : List BackMsg) (w : System) → Halves c w → Halves c (moves_on l w)
forward_there c [] w h = h
forward_there c (m ∷ ms) w h = record { placed = h.placed; posted = h.posted }

half_there : (c : ChannelPlan) (u : UpMsg) (l : List BackMsg) (w : System) → Halves c w → Halves c (takes_half c u l w)
half_there c u [] w h = h
half_there c u (m ∷ ms) w h = record { placed = up_placed c u w.parent h.placed; posted = h.posted }

see_there : (c : ChannelPlan) (l : List Entry) (w : System) → Halves c w → Halves c (takes_shown l w)
see_there c [] w h = h
see_there c (e ∷ es) w h = record { placed = h.placed; posted = h.posted }

answer_there : (c : ChannelPlan) (u : UpMsg) (l : List Entry) (w : System) → Halves c w → Halves c (answers_shown c u l w)
answer_there c u [] w h = h
answer_there c u (e ∷ es) w h = record { placed = up_placed c u w.parent h.placed; posted = h.posted }

move_there : (c : ChannelPlan) (x : Move) (w : System) → Accepted c → Halves c w → Halves c (move c x w)
move_there c Act w a h = record { placed = h.placed; posted = stepped c child.Act w.child a h.posted }
move_there c Verdict w a h = record { placed = h.placed; posted = stepped c child.Verdict w.child a h.posted }
move_there c Release w a h = record { placed = h.placed; posted = stepped c child.Release w.child a h.posted }
move_there c (Begin t) w a h = record { placed = h.placed; posted = stepped c (child.Begin t) w.child a h.posted }
move_there c (Finish t) w a h = record { placed = h.placed; posted = stepped c (child.Finish t) w.child a h.posted }
move_there c Main w a h = main_there c w.mains w a h
move_there c Back w a h = back_there c w.backs w a h
move_there c Fetch w a h = record { placed = step_placed c parent.Fetch w.parent a h.placed; posted = h.posted }
move_there c Up w a h = up_there c w.ups w h
move_there c Forward w a h = forward_there c w.half w h
move_there c (Direct u) w a h = half_there c u w.half w h
move_there c See w a h = see_there c w.shown w h
move_there c (Answer u) w a h = answer_there c u w.shown w h

after_there : (c : ChannelPlan) (w : System) (xs : List Move) → Accepted c → Halves c w → Halves c (system_after c w xs)
after_there c w [] a h = h
after_there c w (x ∷ xs) a h = move_there c x (system_after c w xs) a (after_there c w xs a h)

-- One number

stairs_most : (m n : ℕ) → m ≤ n → stairs m ≤ stairs n
stairs_most zero n l = omega arith
stairs_most (suc m) zero l = absurd (omega arith)
stairs_most (suc m) (suc n) l = let h : stairs m ≤ stairs n = stairs_most m n (omega arith) in omega arith

pub stairs_less : (m n : ℕ) → m < n → stairs m + 4 * n ≤ stairs n
stairs_less m zero l = absurd (omega arith)
stairs_less m (suc n) l = let h : stairs m ≤ stairs n = stairs_most m n (omega arith) in omega arith

-- w and v are the work before and after, p and q the queue's number
pub lower : (v w q p s t : ℕ) → q ≤ 4 * v → v < w → s + 4 * w ≤ t → s + q < t + p
lower v w q p s t a b l = omega arith

pub lower_same : (s t q p : ℕ) → s ≡ t → q < p → s + q < t + p
lower_same s t q p a b = omega arith

within : (n q p k m h b u v a g r x : ℕ) → n ≤ 4 * q → n ≤ 4 * (p + (a + g + q + r + x) + 269 * m + 136 * h + 135 * b + 2 * u + 2 * v)
within n q p k m h b u v a g r x l = omega arith

number_within : (c : ChannelPlan) (w : System) → queue_number w.child.queue ≤ 4 * system_work c w
number_within c w =
    let n : queue_number w.child.queue ≤ 4 * queue_work w.child.queue = number_most w.child.queue in
    within (queue_number w.child.queue) (queue_work w.child.queue) (parent_work c w.parent) 0 (length w.mains) (length w.half)
    (length w.backs) (length w.ups) (length w.shown)
    (calls_work c w.child.opened w.child.next) (hold_work w.child.hold) (running_work w.child.running) (question_work w.child.question) n

falls_lower : (c : ChannelPlan) (v w : System) → SystemFalls c v w → moves_left c v < moves_left c w
falls_lower c v w (inl l) =
    lower (system_work c v) (system_work c w) (queue_number v.child.queue) (queue_number w.child.queue) (stairs (system_work c v))
    (stairs (system_work c w)) (number_within c v) l (stairs_less (system_work c v) (system_work c w) l)
falls_lower c v w (inr (e, q)) =
    lower_same (stairs (system_work c v)) (stairs (system_work c w)) (queue_number v.child.queue) (queue_number w.child.queue)
    (ap stairs e) q

one_more : (n i j k : ℕ) → n + j ≤ k → i < j → suc n + i ≤ k
one_more n i j k a b = omega arith

none_yet : (k : ℕ) → 0 + k ≤ k
none_yet k = omega arith

run_from : (c : ChannelPlan) (w : System) (xs : List Move) → Accepted c → Halves c w → AllMoved c w xs
    → length xs + moves_left c (system_after c w xs) ≤ moves_left c w
run_from c w [] a h m = none_yet (moves_left c w)
run_from c w (x ∷ xs) a h m =
    let v : System = system_after c w xs in
    let k : Halves c v = after_there c w xs a h in
    one_more (length xs) (moves_left c (move c x v)) (moves_left c v) (moves_left c w) (run_from c w xs a h m.1)
    (falls_lower c (move c x v) v (move_falls c v x a k.placed k.posted m.0))

pub runs : SystemRunLaw
runs c ps cs w xs a p s m =
    run_from c w xs a
    (record {
      placed = subst (λ (y : ParentState). Placed c y) (sym p) (placed_there c ps a);
      posted = subst
          (λ (y : ChildState). length y.queue.posted ≡ 18) (sym s) (posted_there c cs a);
    })
    m
