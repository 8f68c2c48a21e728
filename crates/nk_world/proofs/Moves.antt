-- What the calls of a step leave of a channel and its listener is the channel at play after that step.
use Rattle.std.proofs.Common.{ℕ, ◌≡◌, ◌+◌, ◌<◌, ◌^◌, refl, sym, ◌∙◌, ap, subst, Bool, true, false, List, [], ◌∷◌, length, Result, Ok, Err, OnOk, IfOk, arith, length-append}
use Rattle.nk_base.specs.declared.message.Entry.{Entry}
use Rattle.nk_base.specs.declared.status.Moved.{Moved}
use Rattle.nk_base.specs.declared.status.Memory.{Memory}
use Rattle.nk_plan.specs.declared.step.Step.{Step}
use Rattle.nk_plan.specs.declared.step.Step.TheVariants.{Read}
use Rattle.nk_plan.specs.Channel.{Channel, channel_step}
use Rattle.nk_base.specs.Status.{moved_if}
use Rattle.nk_sink.specs.Listener.{Listener, entered_all, read_turn, read_enabled}
use Rattle.nk_sink.specs.Reached.{ListenerView}
use Rattle.nk_channel.specs.Parts.{Parts, parts_of, parts_step, parts_enabled, shown_by, IsRoomy}
use Rattle.nk_world.specs.declared.playing.Playing.{Playing}
use Rattle.nk_world.specs.Play.{Play, shown_since, play_step, play_enabled, IsReached}
use Rattle.nk_world.specs.Parts.{lane, heard, play_of, playing_of, advanced, IsSound, HasRoom}
use Rattle.nk_world.specs.Laws.{PlayLaws}
use Rattle.nk_world.proofs.Plays.{IsChannels, by_step, parts_then, reached_step}

-- what holds of all that channels at play are made up of holds of what fits together
sound_all : (P : Playing → Type 0) → ((p : Play) → IsReached p → P (playing_of p)) → (s : Playing) → IsSound s → P s
sound_all P f s h = subst P h.parts (f (play_of s) h.reached)

-- THE ROOM FOR A STEP

handed : (x : Step) (p : Play) → IsReached p → PlayLaws → length p.listener.entries + length (shown_by x (parts_of p.plan p.channel)) < 2 ^ 32
handed x p r law =
    let q : Parts = parts_of p.plan p.channel in
    let e : length p.listener.entries ≡ length p.channel.child.trace = ap (λ (t : List Entry). length t) r.entries in
    let d : length p.channel.child.trace + length (shown_by x q) ≡ length (parts_step x q).child.trace =
    sym (length-append p.channel.child.trace (shown_by x q)) ∙ ap (λ (t : List Entry). length t) (law.grows x q) in
    let f : length (parts_step x q).child.trace ≡ length (channel_step p.plan x p.channel).child.trace =
    ap (λ (k : Parts). length k.child.trace) (parts_then x p r law) in
    let few : length (channel_step p.plan x p.channel).child.trace < 2 ^ 24 =
    subst (λ (w : Channel). length (channel_step p.plan x w).child.trace < 2 ^ 24) r.led (law.shown p.plan (x ∷ r.steps) r.accepted) in
    omega (arith, e, d, f, few)

pub has_room : (x : Step) (s : Playing) → IsSound s → PlayLaws → HasRoom x s
has_room x s h law =
    sound_all (λ t. HasRoom x t)
    (λ p r. record {
      roomy = subst (λ (w : Channel). IsRoomy (parts_of p.plan w)) r.led (law.roomy p.plan r.steps r.accepted);
      delivery = refl;
      works = refl;
      entries = handed x p r law;
    })
    s h

-- A STEP

-- a step that is no read is one of the channel
abbrev pub NotRead : Step → Type 0
NotRead x = (reader : ℕ) → x ≡ Read reader → ⊥

channels : (x : Step) → NotRead x → IsChannels x
channels x = by_step (λ y. NotRead y → IsChannels y) (λ reader n. absurd (n reader refl)) (λ y k n. k) x

advances : (x : Step) (p : Play) → IsReached p → PlayLaws → IsChannels x → advanced x (playing_of p) ≡ playing_of (play_step x p)
advances x p r law k =
    let w : Channel = p.channel in
    let F : Parts → Listener → Playing = λ q l. record { channel = q; listener = heard l; delivery = lane [] } in
    let shown : List Entry = shown_since w (channel_step p.plan x w) in
    ap (λ (q : Parts). F q (entered_all (shown_since w (record w { child = q.child })) p.listener)) (parts_then x p r law)
    ∙ ap (λ (l : Listener). F (parts_of p.plan (channel_step p.plan x w)) l) (sym (k.heard shown p.listener))

-- what a step leaves: it fits together, and is the channel at play after the step
pub record Leaves (x : Step) (s new : Playing) : Type 0 where
  pub sound : IsSound new
  pub state : play_of new ≡ play_step x (play_of s)

leaves : (x : Step) (s new : Playing) → IsSound s → PlayLaws → new ≡ playing_of (play_step x (play_of s)) → Leaves x s new
leaves x s new h law e =
    let sound : IsSound (playing_of (play_step x (play_of s))) = record { reached = reached_step x (play_of s) h.reached law; parts = refl } in
    record { sound = subst IsSound (sym e) sound; state = ap (λ (t : Playing). play_of t) e }

pub record Answers (r : Result Moved Memory) (x : Step) (s new : Playing) : Type 0 where
  pub sound : OnOk r (IsSound new)
  pub state : OnOk r (play_of new ≡ play_step x (play_of s))
  pub answer : IfOk r (λ m. m ≡ moved_if (play_enabled x (play_of s)))

-- the channel has made it
pub stepped : (r : Result Moved Memory) (x : Step) (s new : Playing) → NotRead x → IsSound s → PlayLaws
    → OnOk r (new ≡ advanced x s) → IfOk r (λ m. m ≡ moved_if (parts_enabled x s.channel)) → Answers r x s new
stepped (Ok m) x s new n h law d a =
    let k : IsChannels x = channels x n in
    let p : Play = play_of s in
    let e : advanced x s ≡ playing_of (play_step x p) = ap (λ (t : Playing). advanced x t) (sym h.parts) ∙ advances x p h.reached law k in
    let l : Leaves x s new = leaves x s new h law (d ∙ e) in
    record {
      sound = l.sound;
      state = l.state;
      answer =
          a
          ∙ (ap (λ (t : Playing). moved_if (parts_enabled x t.channel)) (sym h.parts)
          ∙ (ap moved_if (law.enabled p.plan x p.channel) ∙ ap moved_if (sym (k.enabled p))));
    }
stepped (Err e) x s new n h law d a = record { sound = d; state = d; answer = a }

-- a pump has had its turn
pub turned : (r : Result Moved Memory) (reader : ℕ) (s : Playing) (l : ListenerView) → IsSound s → PlayLaws
    → OnOk r (l ≡ heard (read_turn reader s.listener.listener)) → IfOk r (λ m. m ≡ moved_if (read_enabled reader s.listener.listener))
    → Answers r (Read reader) s (record s { listener = l })
turned (Ok m) reader s l h law d a =
    let F : ListenerView → Playing → Playing = λ v t. record t { listener = v } in
    let e : record s { listener = l } ≡ playing_of (play_step (Read reader) (play_of s)) =
    ap (λ (v : ListenerView). F v s) d ∙ ap (λ (t : Playing). F (heard (read_turn reader s.listener.listener)) t) (sym h.parts) in
    let k : Leaves (Read reader) s (record s { listener = l }) = leaves (Read reader) s (record s { listener = l }) h law e in
    record { sound = k.sound; state = k.state; answer = a }
turned (Err x) reader s l h law d a = record { sound = d; state = d; answer = a }
