-- Each step that is enabled leaves a channel at play less to do, and so does each round in which a step was.
use Rattle.std.proofs.Common.{ℕ, ◌≡◌, ◌<◌, ◌⊎◌, inl, inr, refl, sym, ◌∙◌, ap, subst, true, false, not, List, [], ◌∷◌, arith}
use Rattle.nk_plan.specs.declared.step.Step.{Step}
use Rattle.nk_plan.specs.Channel.{Channel, channel_step}
use Rattle.nk_plan.specs.Enabled.{channel_enabled}
use Rattle.nk_sink.specs.Listener.{Listener, read_enabled, read_turn, reads_left}
use Rattle.nk_sink.specs.Reached.{LowersLaw}
use Rattle.nk_drain.specs.Work.{steps_left}
use Rattle.nk_drain.specs.Laws.{LeftLaw}
use Rattle.std.proofs.lemmas.Bool.{and_from}
use Rattle.nk_world.proofs.Tools.{by_bool}
use Rattle.nk_world.specs.Play.{Play, play_step, play_enabled, tried, are_idle, round_steps, round, IsReached}
use Rattle.nk_world.specs.Laws.{PlayLaws}
use Rattle.nk_world.proofs.Plays.{by_step, reached_step}
use Rattle.nk_world.proofs.Idle.{idle_step, idle_all}

-- what the layers below say of a step that is enabled
pub record FallLaws : Type 0 where
  pub channel : LeftLaw
  pub listener : LowersLaw

-- what is left to do: the steps of the channel, and what the pumps have still to show
abbrev pub moves_left : Play → ℕ
moves_left p = steps_left p.plan p.channel

abbrev pub shows_left : Play → ℕ
shows_left p = reads_left p.listener

-- the channel has fewer steps left, or as many, and then the pumps have less to show
abbrev pub Below : Play → Play → Type 0
Below q p = (moves_left q < moves_left p) ⊎ ((moves_left q ≡ moves_left p) × (shows_left q < shows_left p))

below_then : (p q r : Play) → Below p q → Below q r → Below p r
below_then p q r (inl x) (inl y) = inl (omega arith)
below_then p q r (inl x) (inr (e, s)) = inl (omega arith)
below_then p q r (inr (e, a)) (inl y) = inl (omega arith)
below_then p q r (inr (e, a)) (inr (d, b)) = inr (e ∙ d, omega arith)

falls : (x : Step) (p : Play) → IsReached p → LeftLaw → channel_enabled p.plan x p.channel ≡ true → steps_left p.plan (channel_step p.plan x p.channel) < moves_left p
falls x p r law e =
    let P : Channel → Type 0 = λ w. channel_enabled p.plan x w ≡ true → steps_left p.plan (channel_step p.plan x w) < steps_left p.plan w in
    subst P r.led (law p.plan r.steps x r.accepted) e

lowers : (reader : ℕ) (p : Play) → IsReached p → LowersLaw → read_enabled reader p.listener ≡ true → reads_left (read_turn reader p.listener) < reads_left p.listener
lowers reader p r law e =
    let P : Listener → Type 0 = λ l. read_enabled reader l ≡ true → reads_left (read_turn reader l) < reads_left l in
    subst P (sym r.listener.is) (law p.listener.kind r.listener.steps reader r.listener.good) e

step_below : (x : Step) (p : Play) → IsReached p → FallLaws → play_enabled x p ≡ true → Below (play_step x p) p
step_below x p r law =
    by_step (λ y. play_enabled y p ≡ true → Below (play_step y p) p)
    (λ reader e. inr (refl, lowers reader p r law.listener e))
    (λ y k e. inl (falls y p r law.channel (sym (k.enabled p) ∙ e)))
    x

-- steps of which none is enabled, or they leave less to do
steps_below : (xs : List Step) (p : Play) → IsReached p → PlayLaws → FallLaws → (are_idle xs p ≡ true) ⊎ Below (tried xs p) p
steps_below [] p r idle law = inl refl
steps_below (x ∷ xs) p r idle law =
    by_bool (play_enabled x p)
    (λ e.
    let q : Play = play_step x p in
    let b : Below q p = step_below x p r law e in
    elim (steps_below xs q (reached_step x p r idle) idle law) [
      | inl h ↦ inr (subst (λ (s : Play). Below s p) (sym (idle_all xs q (reached_step x p r idle) idle h)) b)
      | inr c ↦ inr (below_then (tried xs q) q p c b)
    ])
    (λ e.
    let d : play_step x p ≡ p = idle_step x p r idle e in
    elim (steps_below xs p r idle law) [
      | inl h ↦ inl (and_from (not (play_enabled x p)) (are_idle xs p) (ap not e) h)
      | inr c ↦ inr (subst (λ (s : Play). Below (tried xs s) p) (sym d) c)
    ])

-- a round leaves less to do, unless all is done
pub round_below : (p : Play) → IsReached p → PlayLaws → FallLaws → are_idle round_steps p ≡ false → Below (round p) p
round_below p r idle law e = elim (steps_below round_steps p r idle law) [ inl h ↦ absurd (cc (e, h)) | inr b ↦ b ]
