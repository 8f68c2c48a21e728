-- What a channel leaves, and what is promised of it once it was drained. Its trace is what its listener was shown. This
-- project's own.
use Rattle.std.specs.Prelude.{◌≡◌, ◌≤◌, ◌↔◌, true, if◌then◌else◌, All, replicate}
use Rattle.nk_plan.specs.declared.plan.ChannelPlan.{ChannelPlan}
use Rattle.nk_plan.specs.declared.ends.ChannelEnd.{ChannelEnd}
use Rattle.nk_plan.specs.declared.ends.Ending.{Ending}
use Rattle.nk_plan.specs.declared.ends.Ending.TheVariants.{Stopped, Unopened, Going}
use Rattle.nk_plan.specs.Journal.{first, final, cut}
use Rattle.nk_plan.specs.Trace.{SeqTrace}
use Rattle.nk_plan.specs.Run.{Run, trace_of}
use Rattle.nk_plan.specs.Ending.{ending_of}
use Rattle.nk_plan.specs.Calm.{IsCalm, calm_trace}
use Rattle.nk_half_laws.specs.Offsets.{data_end}
use Rattle.nk_sink.specs.Listener.{ends_of}
use Rattle.nk_plan.specs.Readers.{readers_of, whole_end}
use Rattle.nk_world.specs.Play.{Play}

abbrev pub end_of : Play → ChannelEnd
end_of p = record {
  trace = p.listener.entries;
  readers = ends_of p.listener;
  ending = ending_of p.plan p.channel.child.journal;
  parent = p.channel.parent.journal;
  child = p.channel.child.journal;
  forwarded = p.channel.forwarded;
}

-- how a calm plan ends
abbrev pub calm_ending : ChannelPlan → Ending
calm_ending c = if c.closed then Unopened else Stopped

-- what is promised of the end of a channel with plan c, after the drain
pub record IsEnd (c : ChannelPlan) (e : ChannelEnd) : Type 0 where
  -- the journals are those of a run of the whole channel
  pub run : Run c e.parent e.child e.forwarded
  -- the merge: the listener saw the trace of one sequential channel, which the child's journal tells
  pub sequential : SeqTrace c (final e.child) (first e.child) (cut e.child) e.trace
  pub told : e.trace ≡ trace_of c e.child
  -- the ending: an opened channel that is not left suspended has stopped
  pub ending : e.ending ≡ ending_of c e.child
  pub over : e.ending ≡ Going → ⊥
  -- no channel but a closed one is left unopened
  pub unopened : (e.ending ≡ Unopened) ↔ (c.closed ≡ true)
  -- no data reaches behind the 64 MiB that a body has at most
  pub bounded : All (λ shown. data_end shown ≤ 67108864) e.trace
  -- each reader of a pipe has all bytes of the trace's data entries, in order, and the status that follows from its stop
  pub readers : e.readers ≡ replicate (readers_of c.listener) (whole_end e.trace)
  -- a calm plan is shown its calm trace, and has stopped, unless it is closed
  pub calm : IsCalm c → e.trace ≡ calm_trace c
  pub calm_ended : IsCalm c → e.ending ≡ calm_ending c
