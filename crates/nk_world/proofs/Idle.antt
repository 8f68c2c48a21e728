-- A step that is not enabled changes nothing, and so does a round of such steps. So more rounds than are needed change
-- nothing, and what a drain leaves is one.
use Rattle.std.proofs.Common.{ℕ, zero, suc, ◌≡◌, ◌+◌, ◌-◌, ◌≤◌, inl, inr, refl, sym, ◌∙◌, ap, subst, Bool, true, false, not, List, [], ◌∷◌, arith}
use Rattle.nk_base.specs.declared.message.Entry.{Entry}
use Rattle.nk_plan.specs.declared.step.Step.{Step}
use Rattle.nk_plan.specs.Channel.{Channel, channel_step}
use Rattle.nk_sink.specs.Listener.{Listener, entered_all, read_enabled, read_turn}
use Rattle.nk_sink.specs.Reached.{IdleLaw}
use Rattle.std.proofs.lemmas.Bool.{and_parts}
use Rattle.nk_world.proofs.Tools.{le_or_more}
use Rattle.nk_world.specs.Play.{Play, shown_since, play_step, play_enabled, tried, are_idle, round_steps, round, rounds, IsReached, IsQuiet, IsDrained}
use Rattle.nk_world.specs.Laws.{PlayLaws}
use Rattle.nk_world.proofs.Lists.{none_behind}
use Rattle.nk_world.proofs.Plays.{by_step, reached_step}

unmoved : (p : Play) (w : Channel) → w ≡ p.channel
    → (let q : Play = record { plan = p.plan; channel = w; listener = entered_all (shown_since p.channel w) p.listener } in q) ≡ p
unmoved p w e =
    ap (λ (v : Channel). let q : Play = record { plan = p.plan; channel = v; listener = entered_all (shown_since p.channel v) p.listener } in q) e
    ∙ ap (λ (es : List Entry). let q : Play = record { plan = p.plan; channel = p.channel; listener = entered_all es p.listener } in q) (none_behind p.channel.child.trace)

unread : (p : Play) (reader : ℕ) → IsReached p → IdleLaw → read_enabled reader p.listener ≡ false → read_turn reader p.listener ≡ p.listener
unread p reader r law e =
    let P : Listener → Type 0 = λ l. read_enabled reader l ≡ false → read_turn reader l ≡ l in
    subst P (sym r.listener.is) (law p.listener.kind r.listener.steps reader r.listener.good) e

pub idle_step : (x : Step) (p : Play) → IsReached p → PlayLaws → play_enabled x p ≡ false → play_step x p ≡ p
idle_step x p r law =
    by_step (λ y. play_enabled y p ≡ false → play_step y p ≡ p)
    (λ reader e. ap (λ (l : Listener). record p { listener = l }) (unread p reader r law.reads e))
    (λ y k e.
    let w : Channel = channel_step p.plan y p.channel in
    ap (λ (l : Listener). let q : Play = record { plan = p.plan; channel = w; listener = l } in q) (k.heard (shown_since p.channel w) p.listener)
    ∙ unmoved p w (law.idle p.plan y p.channel (sym (k.enabled p) ∙ e)))
    x

pub not_enabled : (b : Bool) → not b ≡ true → b ≡ false
not_enabled true h = cc
not_enabled false h = refl

pub idle_all : (xs : List Step) (p : Play) → IsReached p → PlayLaws → are_idle xs p ≡ true → tried xs p ≡ p
idle_all [] p r law h = refl
idle_all (x ∷ xs) p r law h =
    let e : play_step x p ≡ p = idle_step x p r law (not_enabled (play_enabled x p) (and_parts (not (play_enabled x p)) (are_idle xs p) h).0) in
    ap (λ (q : Play). tried xs q) e ∙ idle_all xs p r law (and_parts (not (play_enabled x p)) (are_idle xs p) h).1

pub idle_round : (p : Play) → IsReached p → PlayLaws → IsQuiet p → round p ≡ p
idle_round p r law h = idle_all round_steps p r law h

pub idle_rounds : (n : ℕ) (p : Play) → IsReached p → PlayLaws → IsQuiet p → rounds n p ≡ p
idle_rounds zero p r law h = refl
idle_rounds (suc n) p r law h = ap (λ (q : Play). rounds n q) (idle_round p r law h) ∙ idle_rounds n p r law h

-- where steps lead to

pub reached_all : (xs : List Step) (p : Play) → IsReached p → PlayLaws → IsReached (tried xs p)
reached_all [] p r law = r
reached_all (x ∷ xs) p r law = reached_all xs (play_step x p) (reached_step x p r law) law

pub reached_rounds : (n : ℕ) (p : Play) → IsReached p → PlayLaws → IsReached (rounds n p)
reached_rounds zero p r law = r
reached_rounds (suc n) p r law = reached_rounds n (round p) (reached_all round_steps p r law) law

-- more rounds

rounds_more : (n m : ℕ) (p : Play) → rounds (n + m) p ≡ rounds m (rounds n p)
rounds_more zero m p = let e : 0 + m ≡ m = omega arith in ap (λ k. rounds k p) e
rounds_more (suc n) m p = let e : suc n + m ≡ suc (n + m) = omega arith in ap (λ k. rounds k p) e ∙ rounds_more n m (round p)

pub enough_rounds : (n k : ℕ) (p : Play) → IsReached p → PlayLaws → IsQuiet (rounds n p) → n ≤ k → rounds k p ≡ rounds n p
enough_rounds n k p r law h l =
    let e : k ≡ n + (k - n) = omega arith in
    ap (λ i. rounds i p) e ∙ (rounds_more n (k - n) p ∙ idle_rounds (k - n) (rounds n p) (reached_rounds n p r law) law h)

-- what a drain leaves of a channel is one
pub one_drained : (p q q' : Play) → IsReached p → PlayLaws → IsDrained p q → IsDrained p q' → q ≡ q'
one_drained p q q' r law d d' =
    let h : IsQuiet (rounds d.0 p) = subst IsQuiet (sym d.1) d.2 in
    let h' : IsQuiet (rounds d'.0 p) = subst IsQuiet (sym d'.1) d'.2 in
    elim (le_or_more d.0 d'.0) [
      | inl l ↦ sym d.1 ∙ (sym (enough_rounds d.0 d'.0 p r law h l) ∙ d'.1)
      | inr l ↦ sym d.1 ∙ (enough_rounds d'.0 d.0 p r law h' (omega arith) ∙ d'.1)
    ]
