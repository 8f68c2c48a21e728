-- Steps that are tried one after another, and rounds until all is done.
use Rattle.std.proofs.Common.{ℕ, zero, suc, ◌≡◌, ◌<◌, refl, sym, ◌∙◌, ap, subst, Bool, true, false, not, ◌&&◌, List, [], ◌∷◌, ◌++◌}
use Rattle.nk_base.specs.declared.status.Moved.{Moved}
use Rattle.nk_base.specs.declared.status.Moved.TheVariants.{Did, Idle}
use Rattle.nk_plan.specs.declared.step.Step.{Step}
use Rattle.nk_base.specs.Status.{moved_if}
use Rattle.nk_world.proofs.Tools.{by_bool}
use Rattle.nk_world.specs.declared.playing.Playing.{Playing}
use Rattle.nk_world.specs.Play.{Play, play_step, play_enabled, tried, are_idle, round_steps, round, rounds, IsReached, IsQuiet, either}
use Rattle.nk_world.specs.Parts.{play_of, IsSound, DrainsTo}
use Rattle.nk_world.specs.Laws.{PlayLaws}
use Rattle.nk_world.proofs.Idle.{idle_all, idle_round}
use Rattle.nk_world.proofs.Falls.{FallLaws}
use Rattle.nk_world.proofs.Left.{rounds_left, round_less}

-- one more is tried

pub tried_more : (xs : List Step) (x : Step) (p : Play) → tried (xs ++ x ∷ []) p ≡ play_step x (tried xs p)
tried_more [] x p = refl
tried_more (y ∷ xs) x p = tried_more xs x (play_step y p)

both_assoc : (a b c : Bool) → (a && (b && c)) ≡ ((a && b) && c)
both_assoc true b c = refl
both_assoc false b c = refl

and_true : (b : Bool) → (b && true) ≡ b
and_true true = refl
and_true false = refl

idle_more : (xs : List Step) (x : Step) (p : Play) → are_idle (xs ++ x ∷ []) p ≡ (are_idle xs p && not (play_enabled x p))
idle_more [] x p = and_true (not (play_enabled x p))
idle_more (y ∷ xs) x p = ap (λ b. not (play_enabled y p) && b) (idle_more xs x p) ∙ both_assoc (not (play_enabled y p)) (are_idle xs p) (not (play_enabled x p))

either_idle : (m : Moved) → either Idle m ≡ m
either_idle Did = refl
either_idle Idle = refl

either_did : (m : Moved) → either Did m ≡ Did
either_did Did = refl
either_did Idle = refl

moved_not : (b : Bool) → moved_if b ≡ moved_if (not (true && not b))
moved_not true = refl
moved_not false = refl

pub moved_more : (xs : List Step) (x : Step) (p q : Play) (m n : Moved) → IsReached p → PlayLaws → q ≡ tried xs p
    → m ≡ moved_if (not (are_idle xs p)) → n ≡ moved_if (play_enabled x q) → either m n ≡ moved_if (not (are_idle (xs ++ x ∷ []) p))
moved_more xs x p q m n r law here before now =
    by_bool (are_idle xs p)
    (λ e.
    let same : q ≡ p = here ∙ idle_all xs p r law e in
    let idle : m ≡ Idle = before ∙ ap (λ b. moved_if (not b)) e in
    ap (λ (k : Moved). either k n) idle
    ∙ (either_idle n
    ∙ (now
    ∙ (ap (λ (s : Play). moved_if (play_enabled x s)) same
    ∙ (moved_not (play_enabled x p)
    ∙ (ap (λ b. moved_if (not (b && not (play_enabled x p)))) (sym e)
    ∙ ap (λ b. moved_if (not b)) (sym (idle_more xs x p))))))))
    (λ e.
    let did : m ≡ Did = before ∙ ap (λ b. moved_if (not b)) e in
    ap (λ (k : Moved). either k n) did
    ∙ (either_did n
    ∙ (ap (λ b. moved_if (not (b && not (play_enabled x p)))) (sym e)
    ∙ ap (λ b. moved_if (not b)) (sym (idle_more xs x p)))))

-- rounds

one_more : (n : ℕ) (p : Play) → rounds (suc n) p ≡ round (rounds n p)
one_more zero p = refl
one_more (suc n) p = one_more n (round p)

-- rounds led here
abbrev pub Led : Play → Play → Type 0
Led p q = (n : ℕ) × (rounds n p ≡ q)

pub led_more : (p q s : Play) → Led p q → s ≡ round q → Led p s
led_more p q s l e = (suc l.0, one_more l.0 p ∙ (ap (λ (x : Play). round x) l.1 ∙ sym e))

moved_idle : (b : Bool) → Idle ≡ moved_if (not b) → b ≡ true
moved_idle true e = refl
moved_idle false e = cc

moved_did : (b : Bool) → Did ≡ moved_if (not b) → b ≡ false
moved_did true e = cc
moved_did false e = refl

-- a round was idle: the channel is drained
pub drains : (first s t : Playing) (m : Moved) → IsReached (play_of s) → PlayLaws → Led (play_of first) (play_of s)
    → m ≡ moved_if (not (are_idle round_steps (play_of s))) → m ≡ Idle → IsSound t → play_of t ≡ round (play_of s) → DrainsTo first t
drains first s t m r law l a idle sound e =
    let q : IsQuiet (play_of s) = moved_idle (are_idle round_steps (play_of s)) (sym idle ∙ a) in
    let same : play_of t ≡ play_of s = e ∙ idle_round (play_of s) r law q in
    record {
      sound = sound;
      drained = (l.0, l.1 ∙ sym same, subst IsQuiet (sym same) q);
    }

-- a round was not idle: fewer are left
pub less_left : (p q : Play) (m : Moved) → IsReached p → PlayLaws → FallLaws → m ≡ moved_if (not (are_idle round_steps p)) → m ≡ Did → q ≡ round p → rounds_left q < rounds_left p
less_left p q m r idle law a did e =
    let n : are_idle round_steps p ≡ false = moved_did (are_idle round_steps p) (sym did ∙ a) in
    subst (λ (x : Play). rounds_left x < rounds_left p) (sym e) (round_less p r idle law n)
