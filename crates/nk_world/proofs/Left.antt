-- How many rounds a drain has still to go. The count is made by what is left to do, which every round lowers.
use Rattle.std.proofs.Common.{ℕ, zero, suc, ◌≡◌, ◌<◌, inl, inr, refl, ◌∙◌, ap, true, false, if◌then◌else◌, nat_lt, arith}
use borrow.Author.Tests.{ltb-true, lt-ltb}
use Rattle.nk_world.proofs.Tools.{by_bool, le_or_more}
use Rattle.nk_world.specs.Play.{Play, are_idle, round_steps, round, rounds, IsReached, IsQuiet}
use Rattle.nk_world.specs.Laws.{PlayLaws}
use Rattle.nk_world.proofs.Idle.{reached_all}
use Rattle.nk_world.proofs.Falls.{FallLaws, moves_left, shows_left, Below, round_below}

-- The count for a channel with so many steps left, whose pumps have less than so much to show. A round that is not idle
-- lowers the one or the other.
by_shows : ℕ → ℕ → (Play → ℕ) → Play → ℕ
by_shows zero n fewer p = 0
by_shows (suc k) n fewer p =
    if are_idle round_steps p then 0 else suc (if nat_lt (moves_left (round p)) n then fewer (round p) else by_shows k n fewer (round p))

-- with fewer steps left than so many
by_moves : ℕ → Play → ℕ
by_moves zero p = 0
by_moves (suc n) p = if nat_lt (moves_left p) n then by_moves n p else by_shows (suc (shows_left p)) n (by_moves n) p

-- it is enough rounds for a channel that this holds of
abbrev Enough : (Play → Type 0) → (Play → ℕ) → Type 0
Enough P count = (p : Play) → IsReached p → P p → IsQuiet (rounds (count p) p)

-- one count or the other is enough
chosen : (a n b c : ℕ) (p : Play) → (a < n → IsQuiet (rounds b p)) → ((a < n → ⊥) → IsQuiet (rounds c p)) → IsQuiet (rounds (if nat_lt a n then b else c) p)
chosen a n b c p f g =
    by_bool (nat_lt a n)
    (λ e. rw e (f (ltb-true a n e)))
    (λ e. rw e (g (λ l. (let d : nat_lt a n ≡ true = lt-ltb a n l in cc))))

-- a round that does not lower the first count leaves it, and lowers the second

same_moves : (q p : Play) (n : ℕ) → moves_left p ≡ n → Below q p → (moves_left q < n → ⊥) → moves_left q ≡ n
same_moves q p n x (inl l) stays = absurd (stays (omega arith))
same_moves q p n x (inr (e, l)) stays = e ∙ x

fewer_shows : (q p : Play) (n k : ℕ) → moves_left p ≡ n → shows_left p < suc k → Below q p → (moves_left q < n → ⊥) → shows_left q < k
fewer_shows q p n k x y (inl l) stays = absurd (stays (omega arith))
fewer_shows q p n k x y (inr (e, l)) stays = omega arith

just : (a m : ℕ) → a < suc m → (a < m → ⊥) → a ≡ m
just a m l stays = elim (le_or_more m a) [ inl x ↦ omega arith | inr x ↦ absurd (stays x) ]

shows_enough : (k n : ℕ) (fewer : Play → ℕ) → PlayLaws → FallLaws → Enough (λ p. moves_left p < n) fewer
    → Enough (λ p. (moves_left p ≡ n) × (shows_left p < k)) (by_shows k n fewer)
unfolding by_shows
shows_enough zero n fewer idle law a p r (x, y) = absurd (omega arith)
shows_enough (suc k) n fewer idle law a p r (x, y) =
    by_bool (are_idle round_steps p)
    (λ e. rw e e)
    (λ e.
    let q : Play = round p in
    let s : IsReached q = reached_all round_steps p r idle in
    let b : Below q p = round_below p r idle law e in
    rw e
    (chosen (moves_left q) n (fewer q) (by_shows k n fewer q) q (λ l. a q s l)
    (λ stays. shows_enough k n fewer idle law a q s (same_moves q p n x b stays, fewer_shows q p n k x y b stays))))

moves_enough : (n : ℕ) → PlayLaws → FallLaws → Enough (λ p. moves_left p < n) (by_moves n)
unfolding by_moves
moves_enough zero idle law p r x = absurd (omega arith)
moves_enough (suc n) idle law p r x =
    chosen (moves_left p) n (by_moves n p) (by_shows (suc (shows_left p)) n (by_moves n) p) p
    (λ l. moves_enough n idle law p r l)
    (λ stays. shows_enough (suc (shows_left p)) n (by_moves n) idle law (moves_enough n idle law) p r (just (moves_left p) n x stays, omega arith))

-- so many rounds are enough for a channel
pub enough : Play → ℕ
enough p = by_moves (suc (moves_left p)) p

pub enough_is : (p : Play) → IsReached p → PlayLaws → FallLaws → IsQuiet (rounds (enough p) p)
unfolding enough
enough_is p r idle law = moves_enough (suc (moves_left p)) idle law p r (omega arith)

-- how many rounds there are, of so many, until every step is idle
left_of : ℕ → Play → ℕ
left_of zero p = 0
left_of (suc n) p = if are_idle round_steps p then 0 else suc (left_of n (round p))

left_same : (a b : ℕ) (p : Play) → IsQuiet (rounds a p) → IsQuiet (rounds b p) → left_of a p ≡ left_of b p
unfolding left_of
left_same zero zero p x y = refl
left_same zero (suc b) p x y = rw x refl
left_same (suc a) zero p x y = rw y refl
left_same (suc a) (suc b) p x y =
    by_bool (are_idle round_steps p) (λ e. rw e refl) (λ e. rw e (ap suc (left_same a b (round p) x y)))

-- how many rounds there are until every step is idle
pub rounds_left : Play → ℕ
rounds_left p = left_of (enough p) p

less_by : (a b : ℕ) (p : Play) → are_idle round_steps p ≡ false → IsQuiet (rounds a p) → IsQuiet (rounds b (round p)) → left_of b (round p) < left_of a p
unfolding left_of
less_by zero b p e x y = absurd (cc (e, x))
less_by (suc a) b p e x y = let d : left_of a (round p) ≡ left_of b (round p) = left_same a b (round p) x y in rw e (omega arith)

-- a round in which a step was not idle is one of them
pub round_less : (p : Play) → IsReached p → PlayLaws → FallLaws → are_idle round_steps p ≡ false → rounds_left (round p) < rounds_left p
unfolding rounds_left
round_less p r idle law e =
    less_by (enough p) (enough (round p)) p e (enough_is p r idle law) (enough_is (round p) (reached_all round_steps p r idle) idle law)
