-- Where every step of a round is idle, no step that a drain tries is enabled, and no pump of the listener has a turn.
use Rattle.std.proofs.Common.{ℕ, zero, suc, ◌≡◌, ◌+◌, ◌≤◌, ◌<◌, inl, inr, refl, ap, subst, true, false, not, List, [], ◌∷◌, ◌++◌, map, arith}
use Rattle.nk_base.specs.declared.status.Target.{Target}
use Rattle.nk_base.specs.declared.status.Target.TheVariants as target
use Rattle.nk_plan.specs.declared.step.Step.{Step}
use Rattle.nk_plan.specs.declared.step.Step.TheVariants.{Act, Verdict, Fetch, Up, Forward, Main, Back, Release, Begin, Finish, Read}
use Rattle.nk_plan.specs.Enabled.{IsTried, IsSettled}
use Rattle.nk_plan.specs.Lanes.{Among}
use Rattle.nk_sink.specs.Reached.{IsDrained}
use Rattle.std.proofs.lemmas.Bool.{and_parts}
use Rattle.nk_world.proofs.Tools.{among_more, le_or_more}
use Rattle.nk_world.specs.Play.{Play, play_enabled, are_idle, numbers, turns, round_steps, IsQuiet}
use Rattle.nk_world.proofs.Idle.{not_enabled}

among_behind : {A : Type 0} (x : A) (xs ys : List A) → Among x ys → Among x (xs ++ ys)
among_behind x [] ys h = h
among_behind x (z ∷ xs) ys h = inr (among_behind x xs ys h)

among_map : {A B : Type 0} (f : A → B) (x : A) (xs : List A) → Among x xs → Among (f x) (map f xs)
among_map f x [] h = absurd h
among_map f x (y ∷ xs) (inl e) = inl (ap f e)
among_map f x (y ∷ xs) (inr h) = inr (among_map f x xs h)

among_numbers : (n count k : ℕ) → n ≤ k → k < n + count → Among k (numbers n count)
among_numbers n zero k l m = absurd (omega arith)
among_numbers n (suc count) k l m =
    elim (le_or_more k n) [ inl x ↦ inl (omega arith) | inr x ↦ inr (among_numbers (suc n) count k (omega arith) (omega arith)) ]

turn_among : (t : Target) → IsTried t → Among t turns
turn_among target.Main i = inl refl
turn_among (target.Worker w) i = inr (among_map target.Worker w (numbers 1 16) (among_numbers 1 16 w i.0 (let l : w ≤ 16 = i.1 in omega arith)))
turn_among target.Back i = absurd i

-- a step behind the first eight
later : (x : Step) → Among x (map Begin turns ++ (map Finish turns ++ map Read (numbers 1 8))) → Among x round_steps
unfolding round_steps
later x h = inr (inr (inr (inr (inr (inr (inr (inr h)))))))

read_among : (reader : ℕ) → 1 ≤ reader → reader ≤ 8 → Among (Read reader) round_steps
read_among reader l m =
    later (Read reader)
    (among_behind (Read reader) (map Begin turns) (map Finish turns ++ map Read (numbers 1 8))
    (among_behind (Read reader) (map Finish turns) (map Read (numbers 1 8)) (among_map Read reader (numbers 1 8) (among_numbers 1 8 reader l (omega arith)))))

begin_among : (t : Target) → IsTried t → Among (Begin t) round_steps
begin_among t i = later (Begin t) (among_more (Begin t) (map Begin turns) (map Finish turns ++ map Read (numbers 1 8)) (among_map Begin t turns (turn_among t i)))

finish_among : (t : Target) → IsTried t → Among (Finish t) round_steps
finish_among t i =
    later (Finish t)
    (among_behind (Finish t) (map Begin turns) (map Finish turns ++ map Read (numbers 1 8))
    (among_more (Finish t) (map Finish turns) (map Read (numbers 1 8)) (among_map Finish t turns (turn_among t i))))

idle_among : (xs : List Step) (x : Step) (p : Play) → Among x xs → are_idle xs p ≡ true → play_enabled x p ≡ false
idle_among [] x p i h = absurd i
idle_among (y ∷ xs) x p (inl e) h = subst (λ (z : Step). play_enabled z p ≡ false) e (not_enabled (play_enabled y p) (and_parts (not (play_enabled y p)) (are_idle xs p) h).0)
idle_among (y ∷ xs) x p (inr i) h = idle_among xs x p i (and_parts (not (play_enabled y p)) (are_idle xs p) h).1

pub settled : (p : Play) → IsQuiet p → IsSettled p.plan p.channel
unfolding round_steps
settled p h Act i = idle_among round_steps Act p (inl refl) h
settled p h Verdict i = idle_among round_steps Verdict p (inr (inl refl)) h
settled p h Fetch i = idle_among round_steps Fetch p (inr (inr (inl refl))) h
settled p h Up i = idle_among round_steps Up p (inr (inr (inr (inl refl)))) h
settled p h Forward i = idle_among round_steps Forward p (inr (inr (inr (inr (inl refl))))) h
settled p h Main i = idle_among round_steps Main p (inr (inr (inr (inr (inr (inl refl)))))) h
settled p h Back i = idle_among round_steps Back p (inr (inr (inr (inr (inr (inr (inl refl))))))) h
settled p h Release i = idle_among round_steps Release p (inr (inr (inr (inr (inr (inr (inr (inl refl)))))))) h
settled p h (Begin t) i = idle_among round_steps (Begin t) p (begin_among t i) h
settled p h (Finish t) i = idle_among round_steps (Finish t) p (finish_among t i) h
settled p h (Read reader) i = refl

pub pumped : (p : Play) → IsQuiet p → IsDrained p.listener
pumped p h reader l m = idle_among round_steps (Read reader) p (read_among reader l m) h
