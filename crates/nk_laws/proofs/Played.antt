-- Playing a channel: the tools of the worked rows. A row's steps are made in their order, then rounds as a drain makes them,
-- with the workers that the rows use.
use Rattle.std.proofs.Common.{ℕ, zero, suc, true, false, List, [], ◌∷◌, ◌++◌}
use Rattle.nk_base.specs.declared.status.Status.{Status}
use Rattle.nk_base.specs.declared.status.Target.TheVariants as target
use Rattle.nk_base.specs.declared.field.Head.{Head}
use Rattle.nk_base.specs.declared.message.Entry.{Entry}
use Rattle.nk_plan.specs.declared.plan.ChannelPlan.{ChannelPlan}
use Rattle.nk_plan.specs.declared.plan.StartLane.{StartLane}
use Rattle.nk_plan.specs.declared.plan.ListenerKind.TheVariants as listener
use Rattle.nk_plan.specs.declared.plan.Hop.{Hop}
use Rattle.nk_plan.specs.declared.plan.Hop.TheVariants as hop
use Rattle.nk_plan.specs.declared.plan.Finish.TheVariants as finish
use Rattle.nk_plan.specs.declared.plan.Verdict.TheVariants as verdict
use Rattle.nk_plan.specs.declared.plan.Reaction.{Reaction}
use Rattle.nk_plan.specs.declared.plan.Act.{Act as PageCall}
use Rattle.nk_plan.specs.declared.plan.Control.{Control}
use Rattle.nk_plan.specs.declared.step.Step.{Step}
use Rattle.nk_plan.specs.declared.step.Step.TheVariants.{Act, Verdict, Fetch, Up, Forward, Main, Back, Release, Begin, Finish}
use Rattle.nk_plan.specs.Channel.{Channel, channel_step, new_channel}

-- Plans

abbrev pub plan_of : List Hop → List Reaction → List Control → StartLane → ChannelPlan
plan_of hops reactions controls start = record {
  hops = hops;
  listener = listener.Plain;
  retargetable = true;
  reactions = reactions;
  controls = controls;
  window = 1048576;
  closed = false;
  start = start;
}

abbrev pub head : ℕ → Head
head code = record { code = code; fields = [] }

abbrev pub response : ℕ → List (List ℕ) → Hop
response code pieces = hop.Response (head code) pieces finish.Good []

abbrev pub allow : ℕ → Hop
allow code = hop.Redirect code verdict.Allow

-- so many redirects with code 302, and then these hops
abbrev pub redirects : ℕ → List Hop → List Hop
redirects zero hops = hops
redirects (suc n) hops = allow 302 ∷ redirects n hops

abbrev pub after : ℕ → PageCall → Control
after n call = record { after = n; act = call }

-- Statuses

abbrev pub status : ℕ → Status
status n = record { 0 = n }

abbrev pub failure : Status
failure = status 0x80004005

abbrev pub aborted : Status
aborted = status 0x804b0002

abbrev pub refused : Status
refused = status 0x804b000d

abbrev pub reset : Status
reset = status 0x804b0014

-- Bytes

abbrev pub ab : List ℕ
ab = 0x61 ∷ 0x62 ∷ []

abbrev pub cd : List ℕ
cd = 0x63 ∷ 0x64 ∷ []

abbrev pub hello : List ℕ
hello = 0x68 ∷ 0x65 ∷ 0x6c ∷ 0x6c ∷ 0x6f ∷ []

-- Steps

-- the channel after these steps, in their order
abbrev pub made : ChannelPlan → List Step → Channel → Channel
made c [] w = w
made c (x ∷ xs) w = made c xs (channel_step c x w)

abbrev pub round : List Step
round = Act ∷ Verdict ∷ Fetch ∷ Up ∷ Forward ∷ Main ∷ Back ∷ Release ∷ Begin target.Main ∷ Begin (target.Worker 1) ∷ Begin (target.Worker 2) ∷ Finish target.Main ∷ Finish (target.Worker 1) ∷ Finish (target.Worker 2) ∷ []

abbrev pub rounds : ℕ → List Step
rounds zero = []
rounds (suc n) = round ++ rounds n

-- the channel after these steps and a drain
abbrev pub played : ChannelPlan → List Step → Channel
played c schedule = made c (rounds 14) (made c schedule (new_channel c))

-- what the listener is shown, without a schedule
abbrev pub shown_by : ChannelPlan → List Entry
shown_by c = (played c []).child.trace
