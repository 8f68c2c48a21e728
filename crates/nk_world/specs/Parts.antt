-- What a channel of a world and its listener hold, and the channel at play that they make up. This project's own.
use Rattle.std.specs.Prelude.{◌≡◌, ◌+◌, ◌<◌, ◌^◌, false, List, [], length}
use Rattle.nk_base.specs.Outs.{OutParts}
use Rattle.nk_plan.specs.declared.plan.ChannelPlan.{ChannelPlan}
use Rattle.nk_plan.specs.declared.step.Step.{Step}
use Rattle.nk_sink.specs.Listener.{Listener, entered_all}
use Rattle.nk_sink.specs.Reached.{ListenerView}
use Rattle.nk_channel.specs.Parts.{parts_of, parts_step, shown_by, IsRoomy}
use Rattle.nk_world.specs.declared.playing.Playing.{Playing}
use Rattle.nk_world.specs.Play.{Play, new_play, IsReached, IsDrained}

-- a list with these messages, and nothing that is only ready
abbrev pub lane : {M : Type 0} → List M → OutParts M
lane held = record { held = held; staged = [] }

-- a listener that has not met want of memory
abbrev pub heard : Listener → ListenerView
heard l = record { listener = l; failed = false }

-- the channel at play that these make up
abbrev pub play_of : Playing → Play
play_of s = record {
  plan = s.channel.plan;
  channel = record { parent = s.channel.parent; forwarded = s.channel.forwarded; child = s.channel.child };
  listener = s.listener.listener;
}

-- what a channel at play is made up of: each list holds what was sent on it and not taken, and every entry was handed to the
-- listener
abbrev pub playing_of : Play → Playing
playing_of p = record { channel = parts_of p.plan p.channel; listener = heard p.listener; delivery = lane [] }

-- before the first step
abbrev pub new_playing : ChannelPlan → Playing
new_playing c = playing_of (new_play c)

-- the parts fit together, and make up a channel that steps and a listener that calls lead to
pub record IsSound (s : Playing) : Type 0 where
  pub reached : IsReached (play_of s)
  pub parts : playing_of (play_of s) ≡ s

-- what holds of a channel whose step is to be made: nothing is delivered yet, and all that it holds is little, also then
pub record HasRoom (x : Step) (s : Playing) : Type 0 where
  pub roomy : IsRoomy s.channel
  pub delivery : s.delivery ≡ lane []
  pub works : s.listener.failed ≡ false
  pub entries : length s.listener.listener.entries + length (shown_by x s.channel) < 2 ^ 32

-- after a step of the channel: what it shows was handed to the listener
abbrev pub advanced : Step → Playing → Playing
advanced x s = record {
  channel = parts_step x s.channel;
  listener = heard (entered_all (shown_by x s.channel) s.listener.listener);
  delivery = lane [];
}

-- the parts of a channel that was drained
pub record DrainsTo (s t : Playing) : Type 0 where
  pub sound : IsSound t
  pub drained : IsDrained (play_of s) (play_of t)
