-- Each enabled step of a channel leaves it less to do, since the step of the half does.
use Rattle.std.proofs.Common.{ℕ, suc, ◌≡◌, ◌+◌, ◌*◌, ◌<◌, ◌≤◌, ◌∙◌, inl, refl, sym, ap, subst, List, [], ◌∷◌, length, length-drop, length-append, Bool, true, false, not, ◌&&◌, take, drop, nat_lt, arith, ltb-true}
use Rattle.nk_base.specs.declared.message.MainMsg.{MainMsg}
use Rattle.nk_base.specs.declared.message.BackMsg.{BackMsg}
use Rattle.nk_base.specs.declared.message.UpMsg.{UpMsg}
use Rattle.nk_base.specs.Queue.{has_some}
use Rattle.nk_plan.specs.declared.plan.ChannelPlan.{ChannelPlan}
use Rattle.nk_plan.specs.declared.step.Step.{Step}
use Rattle.nk_plan.specs.declared.step.Step.TheVariants.{Act, Verdict, Fetch, Up, Forward, Main, Back, Release, Begin, Finish, Read}
use Rattle.nk_plan.specs.declared.step.ChildStep.{ChildStep}
use Rattle.nk_plan.specs.declared.step.ChildStep.TheVariants as child
use Rattle.nk_plan.specs.declared.step.ParentStep.TheVariants as parent
use Rattle.nk_plan.specs.Accepted.{Accepted}
use Rattle.nk_plan.specs.Journal.{mains_sent, backs_sent, mains_taken}
use Rattle.nk_plan.specs.Parent.{ParentState, parent_step}
use Rattle.nk_plan.specs.Child.{ChildState, child_step}
use Rattle.nk_plan.specs.Channel.{Channel, main_lane, back_lane, up_lane, half_lane, up_step, main_step, back_step, forward_step, channel_after}
use Rattle.nk_plan.specs.Enabled.{child_enabled, parent_enabled}
use Rattle.nk_half_laws.specs.Work.{taken_weight, output_weight, sent_weight, parent_work, child_work, queue_number, IsLower}
use Rattle.nk_half_laws.specs.Falls.{ChildKeepsLaw, FetchFalls, FetchFallsLaw, UpFalls, UpFallsLaw, CombinedChildLaw, CombinedFetchLaw, CombinedUpLaw, combined_work}
use Rattle.nk_laws.specs.Laws.{JoinedLaw, MovesLaw}
use Rattle.nk_laws.specs.Moves.{Joined, ParentMoves, ChildMoves, HalfMoves, mains_of, backs_of}
use Rattle.nk_drain.specs.Work.{lanes_weight, Falls}
use Rattle.nk_drain.specs.Laws.{FallsLaw}
use Rattle.nk_drain.proofs.Tools.{keeps_if}

-- what is known of the halves, and of the lanes between them
pub record Known : Type 0 where
  pub joined : JoinedLaw
  pub moves : MovesLaw
  pub keeps : ChildKeepsLaw
  pub fetched : FetchFallsLaw
  pub heard : UpFallsLaw
  pub child : CombinedChildLaw
  pub fetch : CombinedFetchLaw
  pub up : CombinedUpLaw

-- The child's steps

-- z is what it sent; m, h, b and u are the lanes, n and t all that it ever sent and showed, before and after; d is what it took
child_sums : (m m' h b b' u u' n n' t t' d z : ℕ) → 269 * m' + 135 * b' + d ≤ 269 * m + 135 * b → u + z ≡ u' → n' ≡ n + z → t ≤ t'
    → 269 * m' + 136 * h + 135 * b' + 2 * u' + d + (2 * n + 2 * t) ≤ 269 * m + 136 * h + 135 * b + 2 * u + (2 * n' + 2 * t')
child_sums m m' h b b' u u' n n' t t' d z a e f g = omega arith

longer : {A : Type 0} (xs ys : List A) → length xs ≤ length ys → length ys ≡ length xs + length (drop (length xs) ys)
longer xs ys l = omega (arith, length-drop (length xs) ys)

child_falls : (c : ChannelPlan) (steps : List Step) (x : ChildStep) → Known → Accepted c →
    let w = channel_after c steps in
    let w' = record w { child = child_step c x w.child } in
    child_enabled c x w.child ≡ true
    → 269 * length (main_lane w') + 135 * length (back_lane w') + taken_weight x ≤ 269 * length (main_lane w) + 135 * length (back_lane w)
    → Falls c w' w
child_falls c steps x k a e lanes =
    let w : Channel = channel_after c steps in
    let s : ChildState = child_step c x w.child in
    let w' : Channel = record w { child = s } in
    let j : Joined c w = k.joined c steps in
    let m : ChildMoves w x s = (k.moves c steps).child x in
    let keeps = k.keeps c x w.child in
    let ups : length (up_lane w) + length (drop (length w.child.sent) s.sent) ≡ length (up_lane w') =
    sym (length-append (up_lane w) (drop (length w.child.sent) s.sent)) ∙ ap length m.up in
    let P : ChildState → Type 0 = λ y.
    child_enabled c x y ≡ true → lanes_weight w' + taken_weight x + output_weight y ≤ lanes_weight w + output_weight (child_step c x y)
    → IsLower (combined_work c w.parent (child_step c x y) (lanes_weight w')) (queue_number (child_step c x y).queue)
    (combined_work c w.parent y (lanes_weight w)) (queue_number y.queue) in
    let law : P w.child = subst P j.child_is (k.child c j.child_steps x w.parent (lanes_weight w) (lanes_weight w') a) in
    law e
    (child_sums (length (main_lane w)) (length (main_lane w')) (length (half_lane w)) (length (back_lane w)) (length (back_lane w'))
    (length (up_lane w)) (length (up_lane w')) (length w.child.sent) (length s.sent) (length w.child.trace) (length s.trace)
    (taken_weight x) (length (drop (length w.child.sent) s.sent)) lanes ups (longer w.child.sent s.sent keeps.0) keeps.1)

-- one that takes no message

same_lanes : (m m' b b' d : ℕ) → m ≡ m' → b ≡ b' → d ≡ 0 → 269 * m' + 135 * b' + d ≤ 269 * m + 135 * b
same_lanes m m' b b' d e f z = omega arith

plain_falls : (c : ChannelPlan) (steps : List Step) (x : ChildStep) → Known → Accepted c →
    let w = channel_after c steps in
    mains_of x w.child.broken ≡ [] → backs_of x w.child.broken ≡ [] → taken_weight x ≡ 0 → child_enabled c x w.child ≡ true
    → Falls c (record w { child = child_step c x w.child }) w
plain_falls c steps x k a no_main no_back z e =
    let w : Channel = channel_after c steps in
    let w' : Channel = record w { child = child_step c x w.child } in
    let m : ChildMoves w x (child_step c x w.child) = (k.moves c steps).child x in
    child_falls c steps x k a e
    (same_lanes (length (main_lane w)) (length (main_lane w')) (length (back_lane w)) (length (back_lane w')) (taken_weight x)
    (ap length (ap (λ (ms : List MainMsg). drop (length ms) (main_lane w)) (sym no_main) ∙ m.main))
    (ap length (ap (λ (ms : List BackMsg). drop (length ms) (back_lane w)) (sym no_back) ∙ m.back)) z)

-- one that takes the first message of a lane

may_take : (broken some : Bool) → (not broken && some) ≡ true → (broken ≡ false) × (some ≡ true)
may_take true some e = cc
may_take false some e = (refl, e)

main_less : (m m' b b' : ℕ) → m ≡ suc m' → b ≡ b' → 269 * m' + 135 * b' + 269 ≤ 269 * m + 135 * b
main_less m m' b b' e f = omega arith

main_falls : (c : ChannelPlan) (steps : List Step) (l : List MainMsg) → Known → Accepted c →
    let w = channel_after c steps in main_lane w ≡ l → (not w.child.broken && has_some l) ≡ true → Falls c (main_step c l w) w
main_falls c steps [] k a e h = let y : false ≡ true = (may_take (channel_after c steps).child.broken false h).1 in cc
main_falls c steps (x ∷ xs) k a e h =
    let w : Channel = channel_after c steps in
    let w' : Channel = record w { child = child_step c (child.Main x) w.child } in
    let m : ChildMoves w (child.Main x) (child_step c (child.Main x) w.child) = (k.moves c steps).child (child.Main x) in
    let open_is : w.child.broken ≡ false = (may_take w.child.broken true h).0 in
    let rest : xs ≡ main_lane w' =
    sym (ap (λ (l : List MainMsg). drop 1 l) e)
    ∙ (ap (λ (b : Bool). drop (length (mains_of (child.Main x) b)) (main_lane w)) (sym open_is) ∙ m.main) in
    child_falls c steps (child.Main x) k a (ap not open_is)
    (main_less (length (main_lane w)) (length (main_lane w')) (length (back_lane w)) (length (back_lane w'))
    (ap length e ∙ ap suc (ap length rest)) (ap length m.back))

back_less : (m m' b b' : ℕ) → m ≡ m' → b ≡ suc b' → 269 * m' + 135 * b' + 135 ≤ 269 * m + 135 * b
back_less m m' b b' e f = omega arith

back_falls : (c : ChannelPlan) (steps : List Step) (l : List BackMsg) → Known → Accepted c →
    let w = channel_after c steps in back_lane w ≡ l → (not w.child.broken && has_some l) ≡ true → Falls c (back_step c l w) w
back_falls c steps [] k a e h = let y : false ≡ true = (may_take (channel_after c steps).child.broken false h).1 in cc
back_falls c steps (x ∷ xs) k a e h =
    let w : Channel = channel_after c steps in
    let w' : Channel = record w { child = child_step c (child.Back x) w.child } in
    let m : ChildMoves w (child.Back x) (child_step c (child.Back x) w.child) = (k.moves c steps).child (child.Back x) in
    let open_is : w.child.broken ≡ false = (may_take w.child.broken true h).0 in
    let rest : xs ≡ back_lane w' =
    sym (ap (λ (l : List BackMsg). drop 1 l) e)
    ∙ (ap (λ (b : Bool). drop (length (backs_of (child.Back x) b)) (back_lane w)) (sym open_is) ∙ m.back) in
    child_falls c steps (child.Back x) k a (ap not open_is)
    (back_less (length (main_lane w)) (length (main_lane w')) (length (back_lane w)) (length (back_lane w')) (ap length m.main)
    (ap length e ∙ ap suc (ap length rest)))

-- The parent's steps

drop_longer : {A : Type 0} (n : ℕ) (xs ys : List A) → length xs ≤ length ys
    → length (drop n ys) + length xs ≤ length (drop n xs) + length ys
drop_longer n xs ys l = omega (arith, length-drop n xs, length-drop n ys)

-- x and y are all that was ever sent on the two down lanes
fetch_sums : (m m' h h' b b' u u' x x' y y' : ℕ) → m' + x ≤ m + x' → h' + y ≤ h + y' → b ≡ b' → u ≡ u'
    → 269 * m' + 136 * h' + 135 * b' + 2 * u' + (269 * x + 136 * y) ≤ 269 * m + 136 * h + 135 * b + 2 * u + (269 * x' + 136 * y')
fetch_sums m m' h h' b b' u u' x x' y y' a d e f = omega arith

fetch_falls : (c : ChannelPlan) (steps : List Step) → Known → Accepted c →
    let w = channel_after c steps in
    parent_enabled c parent.Fetch w.parent ≡ true → Falls c (record w { parent = parent_step c parent.Fetch w.parent }) w
fetch_falls c steps k a e =
    let w : Channel = channel_after c steps in
    let p : ParentState = w.parent in
    let p' : ParentState = parent_step c parent.Fetch p in
    let w' : Channel = record w { parent = p' } in
    let j : Joined c w = k.joined c steps in
    let m : ParentMoves w parent.Fetch p' = (k.moves c steps).parent parent.Fetch in
    let P : ParentState → Type 0 = λ y. parent_enabled c parent.Fetch y ≡ true → FetchFalls c y (parent_step c parent.Fetch y) in
    let more : FetchFalls c p p' = subst P j.parent_is (k.fetched c j.parent_steps a) e in
    let Q : ParentState → Type 0 = λ y.
    parent_enabled c parent.Fetch y ≡ true → lanes_weight w' + sent_weight y ≤ lanes_weight w + sent_weight (parent_step c parent.Fetch y)
    → combined_work c (parent_step c parent.Fetch y) w.child (lanes_weight w') < combined_work c y w.child (lanes_weight w) in
    let law : Q p = subst Q j.parent_is (k.fetch c j.parent_steps w.child (lanes_weight w) (lanes_weight w') a) in
    inl (law e
    (fetch_sums (length (main_lane w)) (length (main_lane w')) (length (half_lane w)) (length (half_lane w')) (length (back_lane w))
    (length (back_lane w')) (length (up_lane w)) (length (up_lane w')) (length (mains_sent p.journal)) (length (mains_sent p'.journal))
    (length (backs_sent p.journal)) (length (backs_sent p'.journal))
    (drop_longer (length (mains_taken w.child.journal)) (mains_sent p.journal) (mains_sent p'.journal) more.1)
    (drop_longer w.forwarded (backs_sent p.journal) (backs_sent p'.journal) more.2) (ap length m.back) (ap length m.up)))

drop_same : {A : Type 0} (n : ℕ) (xs ys : List A) → length ys ≡ length xs → length (drop n ys) ≡ length (drop n xs)
drop_same n xs ys e = omega (arith, length-drop n xs, length-drop n ys)

up_sums : (m m' h h' b b' u u' : ℕ) → m' ≡ m → h' ≡ h → b ≡ b' → u ≡ suc u'
    → 269 * m' + 136 * h' + 135 * b' + 2 * u' < 269 * m + 136 * h + 135 * b + 2 * u
up_sums m m' h h' b b' u u' a d e f = omega arith

up_falls : (c : ChannelPlan) (steps : List Step) (l : List UpMsg) → Known →
    let w = channel_after c steps in up_lane w ≡ l → has_some l ≡ true → Falls c (up_step c l w) w
up_falls c steps [] k e h = cc
up_falls c steps (x ∷ xs) k e h =
    let w : Channel = channel_after c steps in
    let p : ParentState = w.parent in
    let p' : ParentState = parent_step c (parent.Up x) p in
    let w' : Channel = record w { parent = p' } in
    let m : ParentMoves w (parent.Up x) p' = (k.moves c steps).parent (parent.Up x) in
    let same : UpFalls c p p' = k.heard c x p in
    let rest : xs ≡ up_lane w' = sym (ap (λ (l : List UpMsg). drop 1 l) e) ∙ m.up in
    inl (k.up c x p w.child (lanes_weight w) (lanes_weight w')
    (up_sums (length (main_lane w)) (length (main_lane w')) (length (half_lane w)) (length (half_lane w')) (length (back_lane w))
    (length (back_lane w')) (length (up_lane w)) (length (up_lane w'))
    (drop_same (length (mains_taken w.child.journal)) (mains_sent p.journal) (mains_sent p'.journal) same.1)
    (drop_same w.forwarded (backs_sent p.journal) (backs_sent p'.journal) same.2) (ap length m.back) (ap length e ∙ ap suc (ap length rest))))

-- A message moves on

forward_sums : (p s m h h' b b' u y : ℕ) → y ≤ 1 → h' + 1 ≡ h → b + y ≡ b'
    → p + s + (269 * m + 136 * h' + 135 * b' + 2 * u) < p + s + (269 * m + 136 * h + 135 * b + 2 * u)
forward_sums p s m h h' b b' u y a d e = omega arith

less_one : {A : Type 0} (n : ℕ) (xs ys : List A) → n < length xs → drop 1 (drop n xs) ≡ ys → length ys + 1 ≡ length (drop n xs)
less_one n xs ys l e = omega (arith, ap length e, length-drop 1 (drop n xs), length-drop n xs)

take_one : {A : Type 0} (xs : List A) → length (take 1 xs) ≤ 1
take_one [] = omega arith
take_one (x ∷ xs) = omega arith

forward_falls : (c : ChannelPlan) (steps : List Step) → Known →
    let w = channel_after c steps in nat_lt w.forwarded (length (backs_sent w.parent.journal)) ≡ true → Falls c (forward_step w) w
forward_falls c steps k e =
    let w : Channel = channel_after c steps in
    let w' : Channel = record w { forwarded = suc w.forwarded } in
    let bs : List BackMsg = backs_sent w.parent.journal in
    let m : HalfMoves w w' = (k.moves c steps).half in
    let moved : length (back_lane w) + length (take 1 (half_lane w)) ≡ length (back_lane w') =
    sym (length-append (back_lane w) (take 1 (half_lane w))) ∙ ap length m.back in
    keeps_if (λ (y : Channel). Falls c y w) (nat_lt w.forwarded (length bs)) w' w
    (λ r. inl (forward_sums (parent_work c w.parent) (child_work c w.child) (length (main_lane w)) (length (half_lane w))
    (length (half_lane w')) (length (back_lane w)) (length (back_lane w')) (length (up_lane w)) (length (take 1 (half_lane w)))
    (take_one (half_lane w)) (less_one w.forwarded bs (half_lane w') (ltb-true w.forwarded (length bs) r) m.inner) moved))
    (λ r. cc (e, r))

pub falls : Known → FallsLaw
falls k c steps Act a e = plain_falls c steps child.Act k a refl refl refl e
falls k c steps Verdict a e = plain_falls c steps child.Verdict k a refl refl refl e
falls k c steps Fetch a e = fetch_falls c steps k a e
falls k c steps Up a e = up_falls c steps (up_lane (channel_after c steps)) k refl e
falls k c steps Forward a e = forward_falls c steps k e
falls k c steps Main a e = main_falls c steps (main_lane (channel_after c steps)) k a refl e
falls k c steps Back a e = back_falls c steps (back_lane (channel_after c steps)) k a refl e
falls k c steps Release a e = plain_falls c steps child.Release k a refl refl refl e
falls k c steps (Begin t) a e = plain_falls c steps (child.Begin t) k a refl refl refl e
falls k c steps (Finish t) a e = plain_falls c steps (child.Finish t) k a refl refl refl e
falls k c steps (Read reader) a e = cc
