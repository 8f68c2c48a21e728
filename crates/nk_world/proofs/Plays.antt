-- A channel at play after one step more: steps lead to it, and its listener was handed all that the child has shown.
use Rattle.std.proofs.Common.{ℕ, ◌≡◌, refl, sym, ◌∙◌, ap, subst, List, [], ◌∷◌, ◌++◌}
use Rattle.nk_base.specs.declared.message.Entry.{Entry}
use Rattle.nk_plan.specs.declared.plan.ChannelPlan.{ChannelPlan}
use Rattle.nk_plan.specs.declared.step.Step.{Step}
use Rattle.nk_plan.specs.declared.step.Step.TheVariants.{Act, Verdict, Fetch, Up, Forward, Main, Back, Release, Begin, Finish, Read}
use Rattle.nk_plan.specs.Accepted.{Accepted}
use Rattle.nk_plan.specs.Channel.{Channel, channel_step}
use Rattle.nk_plan.specs.Enabled.{channel_enabled}
use Rattle.nk_sink.specs.Listener.{Listener, entered_all}
use Rattle.nk_sink.specs.Reached as sink
use Rattle.nk_channel.specs.Parts.{Parts, parts_of, parts_step}
use Rattle.nk_world.specs.Play.{Play, new_play, shown_since, listened, play_step, play_enabled, IsReached}
use Rattle.nk_world.specs.Laws.{PlayLaws}
use Rattle.nk_world.proofs.Heard.{kind_all, entries_all, heard_all, heard_turn, heard_new}

-- A STEP IS A READ, OR ONE OF THE CHANNEL, WHOSE ENTRIES THE LISTENER IS HANDED

pub record IsChannels (x : Step) : Type 0 where
  pub heard : (shown : List Entry) (l : Listener) → listened x shown l ≡ entered_all shown l
  pub enabled : (p : Play) → play_enabled x p ≡ channel_enabled p.plan x p.channel

pub by_step : (P : Step → Type 0) → ((reader : ℕ) → P (Read reader)) → ((x : Step) → IsChannels x → P x) → (x : Step) → P x
by_step P read other Act = other Act (record { heard = λ es l. refl; enabled = λ p. refl })
by_step P read other Verdict = other Verdict (record { heard = λ es l. refl; enabled = λ p. refl })
by_step P read other Fetch = other Fetch (record { heard = λ es l. refl; enabled = λ p. refl })
by_step P read other Up = other Up (record { heard = λ es l. refl; enabled = λ p. refl })
by_step P read other Forward = other Forward (record { heard = λ es l. refl; enabled = λ p. refl })
by_step P read other Main = other Main (record { heard = λ es l. refl; enabled = λ p. refl })
by_step P read other Back = other Back (record { heard = λ es l. refl; enabled = λ p. refl })
by_step P read other Release = other Release (record { heard = λ es l. refl; enabled = λ p. refl })
by_step P read other (Begin t) = other (Begin t) (record { heard = λ es l. refl; enabled = λ p. refl })
by_step P read other (Finish t) = other (Finish t) (record { heard = λ es l. refl; enabled = λ p. refl })
by_step P read other (Read reader) = read reader

-- THE CHANNEL

-- its parts are those of the channel after the step
pub parts_then : (x : Step) (p : Play) → IsReached p → PlayLaws → parts_step x (parts_of p.plan p.channel) ≡ parts_of p.plan (channel_step p.plan x p.channel)
parts_then x p r law =
    subst (λ (w : Channel). parts_step x (parts_of p.plan w) ≡ parts_of p.plan (channel_step p.plan x w)) r.led (law.step p.plan r.steps x)

-- what the step shows completes the trace
trace_then : (x : Step) (p : Play) → IsReached p → PlayLaws
    → p.channel.child.trace ++ shown_since p.channel (channel_step p.plan x p.channel) ≡ (channel_step p.plan x p.channel).child.trace
trace_then x p r law =
    let w : Channel = p.channel in
    subst (λ (q : Parts). w.child.trace ++ shown_since w (record w { child = q.child }) ≡ q.child.trace) (parts_then x p r law) (law.grows x (parts_of p.plan w))

-- THE LISTENER

kind_then : (x : Step) (shown : List Entry) (l : Listener) → (listened x shown l).kind ≡ l.kind
kind_then x shown l =
    by_step (λ y. (listened y shown l).kind ≡ l.kind) (λ reader. refl)
    (λ y k. ap (λ (m : Listener). m.kind) (k.heard shown l) ∙ kind_all shown l) x

heard_then : (x : Step) (shown : List Entry) (l : Listener) → sink.IsReached l → sink.IsReached (listened x shown l)
heard_then x shown l h =
    by_step (λ y. sink.IsReached (listened y shown l)) (λ reader. heard_turn reader l h)
    (λ y k. subst sink.IsReached (sym (k.heard shown l)) (heard_all shown l h)) x

entries_then : (x : Step) (p : Play) → IsReached p → PlayLaws → (play_step x p).listener.entries ≡ (play_step x p).channel.child.trace
entries_then x p r law =
    by_step (λ y. (play_step y p).listener.entries ≡ (play_step y p).channel.child.trace) (λ reader. r.entries)
    (λ y k.
    let shown : List Entry = shown_since p.channel (channel_step p.plan y p.channel) in
    ap (λ (m : Listener). m.entries) (k.heard shown p.listener)
    ∙ (entries_all shown p.listener
    ∙ (ap (λ (t : List Entry). t ++ shown) r.entries
    ∙ trace_then y p r law)))
    x

-- WHERE STEPS LEAD TO

pub reached_new : (c : ChannelPlan) → Accepted c → IsReached (new_play c)
reached_new c a = record { accepted = a; steps = []; led = refl; kind = refl; listener = heard_new c a; entries = refl }

-- one step more
pub reached_step : (x : Step) (p : Play) → IsReached p → PlayLaws → IsReached (play_step x p)
reached_step x p r law =
    let shown : List Entry = shown_since p.channel (channel_step p.plan x p.channel) in
    record {
      accepted = r.accepted;
      steps = x ∷ r.steps;
      led = ap (λ (w : Channel). channel_step p.plan x w) r.led;
      kind = kind_then x shown p.listener ∙ r.kind;
      listener = heard_then x shown p.listener r.listener;
      entries = entries_then x p r law;
    }
