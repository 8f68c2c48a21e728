-- Worked rows: what a drained channel leaves. Each row is a computation.
use Rattle.std.proofs.Common.{ℕ, ◌≡◌, refl, true, false, List, [], ◌∷◌, replicate, Some, map}
use Rattle.nk_base.specs.declared.status.Target.TheVariants as target
use Rattle.nk_base.specs.declared.message.Entry.{Entry}
use Rattle.nk_base.specs.declared.message.Entry.TheVariants as shown
use Rattle.nk_base.specs.Status.{ok}
use Rattle.nk_base.specs.declared.status.Status.{Status}
use Rattle.nk_plan.specs.declared.plan.ChannelPlan.{ChannelPlan}
use Rattle.nk_plan.specs.declared.plan.StartLane.{StartLane}
use Rattle.nk_plan.specs.declared.plan.StartLane.TheVariants as lane
use Rattle.nk_plan.specs.declared.plan.Hop.{Hop}
use Rattle.nk_plan.specs.declared.plan.Hop.TheVariants as hop
use Rattle.nk_plan.specs.declared.plan.Finish.TheVariants as finish
use Rattle.nk_plan.specs.declared.plan.Verdict.TheVariants as verdict
use Rattle.nk_plan.specs.declared.plan.ListenerKind.TheVariants as listener
use Rattle.nk_plan.specs.declared.plan.Reaction.{Reaction}
use Rattle.nk_plan.specs.declared.plan.Reaction.TheVariants as reaction
use Rattle.nk_plan.specs.declared.plan.Control.{Control}
use Rattle.nk_plan.specs.declared.ends.Ending.{Ending}
use Rattle.nk_plan.specs.declared.ends.Ending.TheVariants.{Stopped, Suspended, Unopened}
use Rattle.nk_plan.specs.declared.ends.ReaderEnd.{ReaderEnd}
use Rattle.nk_plan.specs.declared.step.Step.{Step}
use Rattle.nk_plan.specs.declared.step.Step.TheVariants.{Act, Fetch, Up, Forward, Main, Back, Release, Begin, Finish, Read}
use Rattle.nk_world.specs.Play.{Play, new_play, tried, rounds, are_idle, round_steps}
use Rattle.nk_world.specs.World.{world_rounds, world_step}
use Rattle.nk_world.specs.End.{end_of}

-- the plans of the rows

abbrev plan_of : List Hop → List Reaction → List Control → StartLane → ChannelPlan
plan_of hops reactions controls start = record {
  hops = hops;
  listener = listener.Plain;
  retargetable = true;
  reactions = reactions;
  controls = controls;
  window = 1048576;
  closed = false;
  start = start;
}

abbrev response : ℕ → List (List ℕ) → Hop
response code pieces = hop.Response (record { code = code; fields = [] }) pieces finish.Good []

abbrev allow : ℕ → Hop
allow code = hop.Redirect code verdict.Allow

abbrev failure : Status
failure = record { 0 = 0x80004005 }

abbrev refused : Status
refused = record { 0 = 0x804b000d }

abbrev ab : List ℕ
ab = 0x61 ∷ 0x62 ∷ []

abbrev cd : List ℕ
cd = 0x63 ∷ 0x64 ∷ []

abbrev hello : List ℕ
hello = 0x68 ∷ 0x65 ∷ 0x6c ∷ 0x6c ∷ 0x6f ∷ []

-- the channel after a schedule of its steps, and so many rounds
abbrev drained : ℕ → List Step → ChannelPlan → Play
drained n schedule c = rounds n (tried schedule (new_play c))

-- so many rounds drain the channel, and it leaves this
record Row (n : ℕ) (schedule : List Step) (c : ChannelPlan) (trace : List Entry) (readers : List ReaderEnd) (ending : Ending) : Type 0 where
  quiet : are_idle round_steps (drained n schedule c) ≡ true
  trace_is : (end_of (drained n schedule c)).trace ≡ trace
  readers_are : (end_of (drained n schedule c)).readers ≡ readers
  ending_is : (end_of (drained n schedule c)).ending ≡ ending

one_response : Row 8 [] (plan_of (response 200 (hello ∷ []) ∷ []) [] [] lane.Main) (shown.Start 200 ok ∷ shown.Bytes 0 hello ∷ shown.Stop ok [] ∷ []) [] Stopped
unfolding round_steps
one_response = record { quiet = refl; trace_is = refl; readers_are = refl; ending_is = refl }

data_before_start :
    Row 8
    (Act ∷ Up ∷ Fetch ∷ Fetch ∷ Fetch ∷ Fetch ∷ Forward ∷ Forward ∷ Forward ∷ Forward ∷ Back ∷ Back ∷ Back ∷ Back ∷ Main ∷ Release ∷ [])
    (plan_of (response 200 (ab ∷ cd ∷ []) ∷ []) [] [] lane.Main)
    (shown.Start 200 ok ∷ shown.Bytes 0 ab ∷ shown.Bytes 2 cd ∷ shown.Stop ok [] ∷ []) [] Stopped
unfolding round_steps
data_before_start = record { quiet = refl; trace_is = refl; readers_are = refl; ending_is = refl }

closed_channel : Row 0 (Main ∷ Finish target.Main ∷ Read 1 ∷ []) (record (plan_of (hop.Fail refused ∷ []) [] [] lane.Main) { closed = true }) [] [] Unopened
unfolding round_steps
closed_channel = record { quiet = refl; trace_is = refl; readers_are = refl; ending_is = refl }

suspended_at_start : Row 8 [] (plan_of (response 200 (ab ∷ []) ∷ []) (reaction.StartSuspend ∷ []) [] lane.Main) (shown.Start 200 ok ∷ []) [] Suspended
unfolding round_steps
suspended_at_start = record { quiet = refl; trace_is = refl; readers_are = refl; ending_is = refl }

two_redirects : Row 12 [] (plan_of (allow 301 ∷ allow 302 ∷ response 200 ((0x7a ∷ []) ∷ []) ∷ []) [] [] lane.Main) (shown.Start 200 ok ∷ shown.Bytes 0 (0x7a ∷ []) ∷ shown.Stop ok [] ∷ []) [] Stopped
unfolding round_steps
two_redirects = record { quiet = refl; trace_is = refl; readers_are = refl; ending_is = refl }

worker_fails :
    Row 14
    (Act ∷ Up ∷ Fetch ∷ Fetch ∷ Fetch ∷ Fetch ∷ Forward ∷ Forward ∷ Forward ∷ Forward ∷ Main ∷ Finish target.Main ∷ Back ∷ Back ∷ Back ∷ Back ∷ Release
    ∷ Begin target.Main ∷ Begin (target.Worker 1) ∷ Begin (target.Worker 1) ∷ Finish (target.Worker 1) ∷ [])
    (plan_of (response 200 ((0x61 ∷ []) ∷ (0x62 ∷ []) ∷ []) ∷ []) (reaction.StartRetarget 1 ∷ reaction.BytesFail 1 failure ∷ []) [] lane.Main)
    (shown.Start 200 ok ∷ shown.Bytes 0 (0x61 ∷ []) ∷ shown.Stop failure [] ∷ []) [] Stopped
unfolding round_steps
worker_fails = record { quiet = refl; trace_is = refl; readers_are = refl; ending_is = refl }

abbrev filled : List ℕ
filled = replicate 20 0x61

abbrev read_whole : ReaderEnd
read_whole = record { bytes = filled; status = Some ok }

two_readers :
    Row 16 [] (record (plan_of (response 200 (filled ∷ []) ∷ []) [] [] lane.Main) { listener = listener.Pipe 4 2 2 })
    (shown.Start 200 ok ∷ shown.Bytes 0 filled ∷ shown.Stop ok [] ∷ []) (read_whole ∷ read_whole ∷ []) Stopped
unfolding round_steps
two_readers = record { quiet = refl; trace_is = refl; readers_are = refl; ending_is = refl }

-- a schedule's step of channel 2 leaves channel 1, and the rounds go over both
abbrev two_plans : List ChannelPlan
two_plans = plan_of (response 200 (hello ∷ []) ∷ []) [] [] lane.Main ∷ plan_of (response 204 [] ∷ []) [] [] lane.Main ∷ []

two_channels : map (λ (p : Play). p.channel.child.trace) (world_rounds 8 (world_step 2 Act (map new_play two_plans)))
    ≡ (shown.Start 200 ok ∷ shown.Bytes 0 hello ∷ shown.Stop ok [] ∷ []) ∷ (shown.Start 204 ok ∷ shown.Stop ok [] ∷ []) ∷ []
unfolding round_steps
two_channels = refl
