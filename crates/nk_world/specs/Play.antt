-- A channel at play: its two halves with the lanes between them, and the listener that is shown the load. It is moved step by
-- step, and in the end by rounds. This project's own.
use Rattle.std.specs.Prelude.{ℕ, zero, suc, ◌≡◌, Bool, true, not, ◌&&◌, List, [], ◌∷◌, ◌++◌, length, drop, map}
use Rattle.nk_base.specs.declared.message.Entry.{Entry}
use Rattle.nk_base.specs.declared.status.Moved.{Moved}
use Rattle.nk_base.specs.declared.status.Moved.TheVariants.{Did, Idle}
use Rattle.nk_base.specs.declared.status.Target.{Target}
use Rattle.nk_base.specs.declared.status.Target.TheVariants as target
use Rattle.nk_plan.specs.declared.plan.ChannelPlan.{ChannelPlan}
use Rattle.nk_plan.specs.declared.step.Step.{Step}
use Rattle.nk_plan.specs.declared.step.Step.TheVariants.{Act, Verdict, Fetch, Up, Forward, Main, Back, Release, Begin, Finish, Read}
use Rattle.nk_plan.specs.Accepted.{Accepted}
use Rattle.nk_plan.specs.Channel.{Channel, new_channel, channel_step, channel_after}
use Rattle.nk_plan.specs.Enabled.{channel_enabled}
use Rattle.nk_sink.specs.Listener.{Listener, new_listener, entered_all, read_turn, read_enabled}
use Rattle.nk_sink.specs.Reached as sink

pub record Play : Type 0 where
  pub plan : ChannelPlan
  pub channel : Channel
  pub listener : Listener

abbrev pub new_play : ChannelPlan → Play
new_play c = record { plan = c; channel = new_channel c; listener = new_listener c.listener }

-- A STEP

-- the entries that a step added to the trace
abbrev pub shown_since : Channel → Channel → List Entry
shown_since old new = drop (length old.child.trace) new.child.trace

-- a read is a turn of the listener's; with any other step it is handed the entries that the step delivers
abbrev pub listened : Step → List Entry → Listener → Listener
listened (Read reader) shown l = read_turn reader l
listened Act shown l = entered_all shown l
listened Verdict shown l = entered_all shown l
listened Fetch shown l = entered_all shown l
listened Up shown l = entered_all shown l
listened Forward shown l = entered_all shown l
listened Main shown l = entered_all shown l
listened Back shown l = entered_all shown l
listened Release shown l = entered_all shown l
listened (Begin t) shown l = entered_all shown l
listened (Finish t) shown l = entered_all shown l

-- one step; one that is not enabled changes nothing
abbrev pub play_step : Step → Play → Play
play_step x p =
    let w : Channel = channel_step p.plan x p.channel in
    record { plan = p.plan; channel = w; listener = listened x (shown_since p.channel w) p.listener }

abbrev pub play_enabled : Step → Play → Bool
play_enabled (Read reader) p = read_enabled reader p.listener
play_enabled Act p = channel_enabled p.plan Act p.channel
play_enabled Verdict p = channel_enabled p.plan Verdict p.channel
play_enabled Fetch p = channel_enabled p.plan Fetch p.channel
play_enabled Up p = channel_enabled p.plan Up p.channel
play_enabled Forward p = channel_enabled p.plan Forward p.channel
play_enabled Main p = channel_enabled p.plan Main p.channel
play_enabled Back p = channel_enabled p.plan Back p.channel
play_enabled Release p = channel_enabled p.plan Release p.channel
play_enabled (Begin t) p = channel_enabled p.plan (Begin t) p.channel
play_enabled (Finish t) p = channel_enabled p.plan (Finish t) p.channel

-- The plan is one that `ChannelPlan::new` accepts, and some steps lead to the channel. The listener is one of the plan's kind that
-- its own calls lead to, and was shown what the child has shown. The channel's steps and the listener's calls need no order
-- that made both.
pub record IsReached (p : Play) : Type 0 where
  pub accepted : Accepted p.plan
  pub steps : List Step
  pub led : channel_after p.plan steps ≡ p.channel
  pub kind : p.listener.kind ≡ p.plan.listener
  pub listener : sink.IsReached p.listener
  pub entries : p.listener.entries ≡ p.channel.child.trace

-- A ROUND

-- after these steps, of which the first is tried first
abbrev pub tried : List Step → Play → Play
tried [] p = p
tried (x ∷ xs) p = tried xs (play_step x p)

-- none of these steps is enabled
abbrev pub are_idle : List Step → Play → Bool
are_idle [] p = true
are_idle (x ∷ xs) p = not (play_enabled x p) && are_idle xs p

-- so many numbers from n on
abbrev pub numbers : ℕ → ℕ → List ℕ
numbers n zero = []
numbers n (suc count) = n ∷ numbers (suc n) count

-- the targets on which a drain tries to begin and to finish: the main one and the workers 1 to 16
abbrev pub turns : List Target
turns = target.Main ∷ map target.Worker (numbers 1 16)

-- what a round tries, in this order; readers are numbered 1 to 8
unfoldable pub round_steps : List Step
round_steps =
    Act ∷ Verdict ∷ Fetch ∷ Up ∷ Forward ∷ Main ∷ Back ∷ Release
    ∷ (map Begin turns ++ (map Finish turns ++ map Read (numbers 1 8)))

abbrev pub round : Play → Play
round p = tried round_steps p

abbrev pub rounds : ℕ → Play → Play
rounds zero p = p
rounds (suc n) p = rounds n (round p)

-- every step of a round is idle
abbrev pub IsQuiet : Play → Type 0
IsQuiet p = are_idle round_steps p ≡ true

-- a channel is drained by rounds, until one in which every step is idle
abbrev pub IsDrained : Play → Play → Type 0
IsDrained p q = (n : ℕ) × (rounds n p ≡ q) × IsQuiet q

-- WHAT IS ANSWERED

-- of several steps, whether one has moved
abbrev pub either : Moved → Moved → Moved
either before Did = Did
either before Idle = before
