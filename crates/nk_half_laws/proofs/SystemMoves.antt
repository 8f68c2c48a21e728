-- So each move of the two halves falls, whatever the lanes hold.
use Rattle.std.proofs.Common.{ℕ, suc, ◌≡◌, ◌+◌, ◌*◌, ◌<◌, ◌≤◌, ◌⊎◌, inl, inr, refl, sym, ap, subst, List, [], ◌∷◌, ◌++◌, length, length-append, length-drop, drop, Bool, true, false, not, ◌&&◌, arith}
use Rattle.nk_base.specs.declared.message.MainMsg.{MainMsg}
use Rattle.nk_base.specs.declared.message.BackMsg.{BackMsg}
use Rattle.nk_base.specs.declared.message.UpMsg.{UpMsg}
use Rattle.nk_base.specs.declared.message.Entry.{Entry}
use Rattle.nk_base.specs.Queue.{has_some}
use Rattle.nk_plan.specs.declared.plan.ChannelPlan.{ChannelPlan}
use Rattle.nk_plan.specs.declared.step.ChildStep.{ChildStep}
use Rattle.nk_plan.specs.declared.step.ChildStep.TheVariants as child
use Rattle.nk_plan.specs.declared.step.ParentStep.TheVariants as parent
use Rattle.nk_plan.specs.Accepted.{Accepted}
use Rattle.nk_plan.specs.Journal.{mains_sent, backs_sent}
use Rattle.nk_plan.specs.Parent.{ParentState, parent_step}
use Rattle.nk_plan.specs.Child.{ChildState, child_step}
use Rattle.nk_plan.specs.Enabled.{child_enabled, parent_enabled}
use Rattle.nk_half_laws.specs.Work.{taken_weight, child_work, parent_work, queue_number}
use Rattle.nk_half_laws.specs.Falls.{ChildFalls, FetchFalls, UpFalls, SystemFallsLaw}
use Rattle.nk_half_laws.specs.System.{System, Move, Act, Verdict, Release, Begin, Finish, Main, Back, Fetch, Up, Forward, Direct, See, Answer, child_moves, parent_moves, takes_main, takes_back, takes_up, moves_on, takes_half, takes_shown, answers_shown, move, can_move, system_work, SystemFalls}
use Rattle.nk_half_laws.proofs.ParentFalls.{Placed}
use Rattle.nk_half_laws.proofs.HalfFalls.{Longer, child_keeps, posted_there, child_falls_from, placed_there, fetch_lowers, up_keeps}

-- a lane behind which stands what is new
grown : {A : Type 0} (xs a b : List A) → length a ≤ length b → length (xs ++ drop (length a) b) + length a ≡ length xs + length b
grown xs a b l = omega (arith, length-append xs (drop (length a) b), length-drop (length a) b)

-- The child's moves

-- p is all that stays; k, n, t, u and v are the child's work, what it sent and showed, and what is on its way of these
child_sums : (p q k k' n n' t t' u u' v v' d : ℕ) → k' + 2 * n' + 2 * t' < k + 2 * n + 2 * t + d → u' + n ≡ u + n' → v' + t ≡ v + t'
    → p + k' + q + 2 * u' + 2 * v' < p + k + q + 2 * u + 2 * v + d
child_sums p q k k' n n' t t' u u' v v' d l x y = omega arith

child_same : (p q k k' n n' t t' u u' v v' : ℕ) → k' ≡ k → n' ≡ n → t' ≡ t → u' + n ≡ u + n' → v' + t ≡ v + t'
    → p + k' + q + 2 * u' + 2 * v' ≡ p + k + q + 2 * u + 2 * v
child_same p q k k' n n' t t' u u' v v' a b c x y = omega arith

-- the work of a system, with all lanes but the two that the child fills put together
regroup : (p k m h b u v : ℕ) → p + k + 269 * m + 136 * h + 135 * b + 2 * u + 2 * v ≡ p + k + (269 * m + 136 * h + 135 * b) + 2 * u + 2 * v
regroup p k m h b u v = omega arith

less_by : (x y x' y' d : ℕ) → x ≡ x' → y ≡ y' → x' < y' + d → x < y + d
less_by x y x' y' d a b l = omega arith

same_by : (x y x' y' : ℕ) → x ≡ x' → y ≡ y' → x' ≡ y' → x ≡ y
same_by x y x' y' a b l = omega arith

-- the child moves to s by x, whose message was taken from its lane already
abbrev Lowers : ChannelPlan → ChildStep → System → System → Type 0
Lowers c x w v =
    (system_work c v < system_work c w + taken_weight x)
    ⊎ ((taken_weight x ≡ 0) × (system_work c v ≡ system_work c w) × (queue_number v.child.queue < queue_number w.child.queue))

child_lowers : (c : ChannelPlan) (x : ChildStep) (w : System) (s : ChildState) → Longer w.child s → ChildFalls c x w.child s
    → Lowers c x w (child_moves s w)
child_lowers c x w s r (inl l) =
    let u : length (w.ups ++ drop (length w.child.sent) s.sent) + length w.child.sent ≡ length w.ups + length s.sent =
    grown w.ups w.child.sent s.sent r.0 in
    let v : length (w.shown ++ drop (length w.child.trace) s.trace) + length w.child.trace ≡ length w.shown + length s.trace =
    grown w.shown w.child.trace s.trace r.1 in
    let rest : ℕ = 269 * length w.mains + 136 * length w.half + 135 * length w.backs in
    inl (less_by (system_work c (child_moves s w)) (system_work c w) _ _ (taken_weight x)
    (regroup (parent_work c w.parent) (child_work c s) (length w.mains) (length w.half) (length w.backs)
    (length (w.ups ++ drop (length w.child.sent) s.sent)) (length (w.shown ++ drop (length w.child.trace) s.trace)))
    (regroup (parent_work c w.parent) (child_work c w.child) (length w.mains) (length w.half) (length w.backs) (length w.ups)
    (length w.shown))
    (child_sums (parent_work c w.parent) rest (child_work c w.child) (child_work c s) (length w.child.sent) (length s.sent)
    (length w.child.trace) (length s.trace) (length w.ups) (length (w.ups ++ drop (length w.child.sent) s.sent)) (length w.shown)
    (length (w.shown ++ drop (length w.child.trace) s.trace)) (taken_weight x) l u v))
child_lowers c x w s r (inr (z, n, t, k, q)) =
    let u : length (w.ups ++ drop (length w.child.sent) s.sent) + length w.child.sent ≡ length w.ups + length s.sent =
    grown w.ups w.child.sent s.sent r.0 in
    let v : length (w.shown ++ drop (length w.child.trace) s.trace) + length w.child.trace ≡ length w.shown + length s.trace =
    grown w.shown w.child.trace s.trace r.1 in
    let rest : ℕ = 269 * length w.mains + 136 * length w.half + 135 * length w.backs in
    inr (
      z,
      same_by (system_work c (child_moves s w)) (system_work c w) _ _
          (regroup (parent_work c w.parent) (child_work c s) (length w.mains) (length w.half) (length w.backs)
          (length (w.ups ++ drop (length w.child.sent) s.sent)) (length (w.shown ++ drop (length w.child.trace) s.trace)))
          (regroup (parent_work c w.parent) (child_work c w.child) (length w.mains) (length w.half) (length w.backs) (length w.ups)
          (length w.shown))
          (child_same (parent_work c w.parent) rest (child_work c w.child) (child_work c s) (length w.child.sent) (length s.sent)
          (length w.child.trace) (length s.trace) (length w.ups) (length (w.ups ++ drop (length w.child.sent) s.sent)) (length w.shown)
          (length (w.shown ++ drop (length w.child.trace) s.trace)) k (ap length n) (ap length t) u v),
      q,
    )

no_more : (m n : ℕ) → m < n + 0 → m < n
no_more m n l = omega arith

plain_falls : (c : ChannelPlan) (x : ChildStep) (w v : System) → taken_weight x ≡ 0 → Lowers c x w v → SystemFalls c v w
plain_falls c x w v z (inl l) = inl (no_more (system_work c v) (system_work c w) (subst (λ d. system_work c v < system_work c w + d) z l))
plain_falls c x w v z (inr (y, e, q)) = inr (e, q)

plain_move : (c : ChannelPlan) (x : ChildStep) (w : System) → taken_weight x ≡ 0 → Accepted c → length w.child.queue.posted ≡ 18
    → child_enabled c x w.child ≡ true → SystemFalls c (child_moves (child_step c x w.child) w) w
plain_move c x w z a l e =
    plain_falls c x w (child_moves (child_step c x w.child) w) z
    (child_lowers c x w (child_step c x w.child) (child_keeps c x w.child) (child_falls_from c x w.child a l e))

then_less : (x y z t d : ℕ) → x < y + t → t ≡ d → y + d ≡ z → x < z
then_less x y z t d l e f = omega arith

none_is_some : (t d : ℕ) → t ≡ 0 → t ≡ suc d → ⊥
none_is_some t d a b = omega arith

-- a message was taken from a lane, and weighs this much
taken_falls : (c : ChannelPlan) (x : ChildStep) (d : ℕ) (w v y : System) → taken_weight x ≡ suc d
    → system_work c v + suc d ≡ system_work c w → Lowers c x v y → SystemFalls c y w
taken_falls c x d w v y z e (inl l) = inl (then_less (system_work c y) (system_work c v) (system_work c w) (taken_weight x) (suc d) l z e)
taken_falls c x d w v y z e (inr (n, k, q)) = absurd (none_is_some (taken_weight x) d n z)

both : (b s : Bool) → (b && s) ≡ true → b ≡ true
both true s e = refl
both false s e = cc

nothing : (b : Bool) → (b && false) ≡ true → ⊥
nothing true e = cc
nothing false e = cc

main_taken : (p k m h b u v : ℕ)
    → p + k + 269 * m + 136 * h + 135 * b + 2 * u + 2 * v + 269 ≡ p + k + 269 * suc m + 136 * h + 135 * b + 2 * u + 2 * v
main_taken p k m h b u v = omega arith

back_taken : (p k m h b u v : ℕ)
    → p + k + 269 * m + 136 * h + 135 * b + 2 * u + 2 * v + 135 ≡ p + k + 269 * m + 136 * h + 135 * suc b + 2 * u + 2 * v
back_taken p k m h b u v = omega arith

half_taken : (p k m h b u v : ℕ)
    → p + k + 269 * m + 136 * h + 135 * b + 2 * u + 2 * v + 136 ≡ p + k + 269 * m + 136 * suc h + 135 * b + 2 * u + 2 * v
half_taken p k m h b u v = omega arith

up_taken : (p k m h b u v : ℕ)
    → p + k + 269 * m + 136 * h + 135 * b + 2 * u + 2 * v + 2 ≡ p + k + 269 * m + 136 * h + 135 * b + 2 * suc u + 2 * v
up_taken p k m h b u v = omega arith

shown_taken : (p k m h b u v : ℕ)
    → p + k + 269 * m + 136 * h + 135 * b + 2 * u + 2 * v + 2 ≡ p + k + 269 * m + 136 * h + 135 * b + 2 * u + 2 * suc v
shown_taken p k m h b u v = omega arith

main_moves : (c : ChannelPlan) (l : List MainMsg) (w : System) → w.mains ≡ l → Accepted c → length w.child.queue.posted ≡ 18
    → (not w.child.broken && has_some l) ≡ true → SystemFalls c (takes_main c l w) w
main_moves c [] w q a l e = absurd (nothing (not w.child.broken) e)
main_moves c (m ∷ ms) w q a l e =
    let v : System = record w { mains = ms } in
    let s : ChildState = child_step c (child.Main m) w.child in
    let t : system_work c v + 269 ≡ system_work c w =
    rw q (main_taken (parent_work c w.parent) (child_work c w.child) (length ms) (length w.half) (length w.backs) (length w.ups)
    (length w.shown)) in
    taken_falls c (child.Main m) 268 w v (child_moves s v) refl t
    (child_lowers c (child.Main m) v s (child_keeps c (child.Main m) w.child)
    (child_falls_from c (child.Main m) w.child a l (both (not w.child.broken) true e)))

back_moves : (c : ChannelPlan) (l : List BackMsg) (w : System) → w.backs ≡ l → Accepted c → length w.child.queue.posted ≡ 18
    → (not w.child.broken && has_some l) ≡ true → SystemFalls c (takes_back c l w) w
back_moves c [] w q a l e = absurd (nothing (not w.child.broken) e)
back_moves c (m ∷ ms) w q a l e =
    let v : System = record w { backs = ms } in
    let s : ChildState = child_step c (child.Back m) w.child in
    let t : system_work c v + 135 ≡ system_work c w =
    rw q (back_taken (parent_work c w.parent) (child_work c w.child) (length w.mains) (length w.half) (length ms) (length w.ups)
    (length w.shown)) in
    taken_falls c (child.Back m) 134 w v (child_moves s v) refl t
    (child_lowers c (child.Back m) v s (child_keeps c (child.Back m) w.child)
    (child_falls_from c (child.Back m) w.child a l (both (not w.child.broken) true e)))

-- The parent's moves

fetch_sums : (f f' k m m' n n' h h' i i' r : ℕ) → f' + 269 * n' + 136 * i' < f + 269 * n + 136 * i → m' + n ≡ m + n' → h' + i ≡ h + i'
    → f' + k + 269 * m' + 136 * h' + r < f + k + 269 * m + 136 * h + r
fetch_sums f f' k m m' n n' h h' i i' r l x y = omega arith

heard_sums : (f f' k m m' n n' h h' i i' r : ℕ) → f' ≤ f → n' ≡ n → i' ≡ i → m' + n ≡ m + n' → h' + i ≡ h + i'
    → f' + k + 269 * m' + 136 * h' + r ≤ f + k + 269 * m + 136 * h + r
heard_sums f f' k m m' n n' h h' i i' r l a b x y = omega arith

group : (p k m h b u v : ℕ) → p + k + 269 * m + 136 * h + 135 * b + 2 * u + 2 * v ≡ p + k + 269 * m + 136 * h + (135 * b + 2 * u + 2 * v)
group p k m h b u v = omega arith

less_with : (x y x' y' : ℕ) → x ≡ x' → y ≡ y' → x' < y' → x < y
less_with x y x' y' a b l = omega arith

most_with : (x y x' y' : ℕ) → x ≡ x' → y ≡ y' → x' ≤ y' → x ≤ y
most_with x y x' y' a b l = omega arith

fetch_moves : (c : ChannelPlan) (w : System) → Accepted c → Placed c w.parent → parent_enabled c parent.Fetch w.parent ≡ true
    → SystemFalls c (parent_moves (parent_step c parent.Fetch w.parent) w) w
fetch_moves c w a l e =
    let p : ParentState = w.parent in
    let p' : ParentState = parent_step c parent.Fetch w.parent in
    let f : FetchFalls c p p' = fetch_lowers c p a l e in
    let m : ℕ = length (w.mains ++ drop (length (mains_sent p.journal)) (mains_sent p'.journal)) in
    let h : ℕ = length (w.half ++ drop (length (backs_sent p.journal)) (backs_sent p'.journal)) in
    inl (less_with (system_work c (parent_moves p' w)) (system_work c w) _ _
    (group (parent_work c p') (child_work c w.child) m h (length w.backs) (length w.ups) (length w.shown))
    (group (parent_work c p) (child_work c w.child) (length w.mains) (length w.half) (length w.backs) (length w.ups) (length w.shown))
    (fetch_sums (parent_work c p) (parent_work c p') (child_work c w.child) (length w.mains) m (length (mains_sent p.journal))
    (length (mains_sent p'.journal)) (length w.half) h (length (backs_sent p.journal)) (length (backs_sent p'.journal))
    (135 * length w.backs + 2 * length w.ups + 2 * length w.shown) f.0
    (grown w.mains (mains_sent p.journal) (mains_sent p'.journal) f.1) (grown w.half (backs_sent p.journal) (backs_sent p'.journal) f.2)))

equal_most : (m n : ℕ) → m ≡ n → n ≤ m
equal_most m n e = omega arith

-- the parent hears a message, wherever it came from
heard_moves : (c : ChannelPlan) (u : UpMsg) (w : System)
    → system_work c (parent_moves (parent_step c (parent.Up u) w.parent) w) ≤ system_work c w
heard_moves c u w =
    let p : ParentState = w.parent in
    let p' : ParentState = parent_step c (parent.Up u) w.parent in
    let f : UpFalls c p p' = up_keeps c u p in
    let m : ℕ = length (w.mains ++ drop (length (mains_sent p.journal)) (mains_sent p'.journal)) in
    let h : ℕ = length (w.half ++ drop (length (backs_sent p.journal)) (backs_sent p'.journal)) in
    most_with (system_work c (parent_moves p' w)) (system_work c w) _ _
    (group (parent_work c p') (child_work c w.child) m h (length w.backs) (length w.ups) (length w.shown))
    (group (parent_work c p) (child_work c w.child) (length w.mains) (length w.half) (length w.backs) (length w.ups) (length w.shown))
    (heard_sums (parent_work c p) (parent_work c p') (child_work c w.child) (length w.mains) m (length (mains_sent p.journal))
    (length (mains_sent p'.journal)) (length w.half) h (length (backs_sent p.journal)) (length (backs_sent p'.journal))
    (135 * length w.backs + 2 * length w.ups + 2 * length w.shown) f.0 f.1 f.2
    (grown w.mains (mains_sent p.journal) (mains_sent p'.journal)
    (equal_most (length (mains_sent p'.journal)) (length (mains_sent p.journal)) f.1)) (grown w.half (backs_sent p.journal)
    (backs_sent p'.journal) (equal_most (length (backs_sent p'.journal)) (length (backs_sent p.journal)) f.2)))

heard_less : (x y z d : ℕ) → x ≤ y → y + suc d ≡ z → x < z
heard_less x y z d l e = omega arith

up_moves : (c : ChannelPlan) (l : List UpMsg) (w : System) → w.ups ≡ l → has_some l ≡ true → SystemFalls c (takes_up c l w) w
up_moves c [] w q e = cc
up_moves c (m ∷ ms) w q e =
    let v : System = record w { ups = ms } in
    let t : system_work c v + 2 ≡ system_work c w =
    rw q (up_taken (parent_work c w.parent) (child_work c w.child) (length w.mains) (length w.half) (length w.backs) (length ms)
    (length w.shown)) in
    inl (heard_less (system_work c (parent_moves (parent_step c (parent.Up m) w.parent) v)) (system_work c v) (system_work c w) 1
    (heard_moves c m v) t)

half_moves : (c : ChannelPlan) (u : UpMsg) (l : List BackMsg) (w : System) → w.half ≡ l → has_some l ≡ true
    → SystemFalls c (takes_half c u l w) w
half_moves c u [] w q e = cc
half_moves c u (m ∷ ms) w q e =
    let v : System = record w { half = ms } in
    let t : system_work c v + 136 ≡ system_work c w =
    rw q (half_taken (parent_work c w.parent) (child_work c w.child) (length w.mains) (length ms) (length w.backs) (length w.ups)
    (length w.shown)) in
    inl (heard_less (system_work c (parent_moves (parent_step c (parent.Up u) w.parent) v)) (system_work c v) (system_work c w) 135
    (heard_moves c u v) t)

answer_moves : (c : ChannelPlan) (u : UpMsg) (l : List Entry) (w : System) → w.shown ≡ l → has_some l ≡ true
    → SystemFalls c (answers_shown c u l w) w
answer_moves c u [] w q e = cc
answer_moves c u (m ∷ ms) w q e =
    let v : System = record w { shown = ms } in
    let t : system_work c v + 2 ≡ system_work c w =
    rw q (shown_taken (parent_work c w.parent) (child_work c w.child) (length w.mains) (length w.half) (length w.backs) (length w.ups)
    (length ms)) in
    inl (heard_less (system_work c (parent_moves (parent_step c (parent.Up u) w.parent) v)) (system_work c v) (system_work c w) 1
    (heard_moves c u v) t)

-- What moves by itself

seen_less : (y z d : ℕ) → y + suc d ≡ z → y < z
seen_less y z d e = omega arith

see_moves : (c : ChannelPlan) (l : List Entry) (w : System) → w.shown ≡ l → has_some l ≡ true → SystemFalls c (takes_shown l w) w
see_moves c [] w q e = cc
see_moves c (m ∷ ms) w q e =
    let v : System = record w { shown = ms } in
    let t : system_work c v + 2 ≡ system_work c w =
    rw q (shown_taken (parent_work c w.parent) (child_work c w.child) (length w.mains) (length w.half) (length w.backs) (length w.ups)
    (length ms)) in
    inl (seen_less (system_work c v) (system_work c w) 1 t)

on_sums : (p k m h b b' u v : ℕ) → b' ≡ b + 1
    → p + k + 269 * m + 136 * h + 135 * b' + 2 * u + 2 * v < p + k + 269 * m + 136 * suc h + 135 * b + 2 * u + 2 * v
on_sums p k m h b b' u v e = omega arith

forward_moves : (c : ChannelPlan) (l : List BackMsg) (w : System) → w.half ≡ l → has_some l ≡ true → SystemFalls c (moves_on l w) w
forward_moves c [] w q e = cc
forward_moves c (m ∷ ms) w q e =
    inl (rw q (on_sums (parent_work c w.parent) (child_work c w.child) (length w.mains) (length ms) (length w.backs)
    (length (w.backs ++ m ∷ [])) (length w.ups) (length w.shown) (length-append w.backs (m ∷ []))))

-- All moves

pub move_falls : (c : ChannelPlan) (w : System) (x : Move) → Accepted c → Placed c w.parent → length w.child.queue.posted ≡ 18
    → can_move c x w ≡ true → SystemFalls c (move c x w) w
move_falls c w Act a p l e = plain_move c child.Act w refl a l e
move_falls c w Verdict a p l e = plain_move c child.Verdict w refl a l e
move_falls c w Release a p l e = plain_move c child.Release w refl a l e
move_falls c w (Begin t) a p l e = plain_move c (child.Begin t) w refl a l e
move_falls c w (Finish t) a p l e = plain_move c (child.Finish t) w refl a l e
move_falls c w Main a p l e = main_moves c w.mains w refl a l e
move_falls c w Back a p l e = back_moves c w.backs w refl a l e
move_falls c w Fetch a p l e = fetch_moves c w a p e
move_falls c w Up a p l e = up_moves c w.ups w refl e
move_falls c w Forward a p l e = forward_moves c w.half w refl e
move_falls c w (Direct u) a p l e = half_moves c u w.half w refl e
move_falls c w See a p l e = see_moves c w.shown w refl e
move_falls c w (Answer u) a p l e = answer_moves c u w.shown w refl e

pub system_falls : SystemFallsLaw
system_falls c ps cs w x a p s e =
    move_falls c w x a (subst (λ (y : ParentState). Placed c y) (sym p) (placed_there c ps a))
    (subst (λ (y : ChildState). length y.queue.posted ≡ 18) (sym s) (posted_there c cs a)) e
