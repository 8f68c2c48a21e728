-- The suspend in force and the end of the load, in worked examples.
use Rattle.std.proofs.Common.{ℕ, ◌≡◌, inl, refl, List, [], ◌∷◌, Bool, true, false, nat_lt, Some}
use Rattle.nk_base.specs.Status.{ok}
use Rattle.nk_base.specs.declared.status.Status.{Status}
use Rattle.nk_base.specs.declared.status.Target.TheVariants as target
use Rattle.nk_base.specs.declared.message.MainMsg.TheVariants as main
use Rattle.nk_base.specs.declared.message.BackMsg.TheVariants as back
use Rattle.nk_base.specs.declared.message.UpMsg.TheVariants as up
use Rattle.nk_plan.specs.declared.plan.ChannelPlan.{ChannelPlan}
use Rattle.nk_plan.specs.declared.plan.Hop.TheVariants as hop
use Rattle.nk_plan.specs.declared.plan.ListenerKind.TheVariants as listener
use Rattle.nk_plan.specs.declared.plan.StartLane.TheVariants as lane
use Rattle.nk_plan.specs.declared.plan.Reaction.TheVariants as reaction
use Rattle.nk_plan.specs.declared.plan.Act.TheVariants as act
use Rattle.nk_plan.specs.declared.plan.Finish.TheVariants as finish
use Rattle.nk_plan.specs.declared.event.ChildEvent.{ChildEvent}
use Rattle.nk_plan.specs.declared.event.ChildEvent.TheVariants.{Bytes, Redirect1}
use Rattle.nk_plan.specs.declared.step.Phase.TheVariants.{Body, Done}
use Rattle.nk_plan.specs.declared.journal.ParentEntry.TheVariants as entry
use Rattle.nk_plan.specs.declared.step.ChildStep.{ChildStep}
use Rattle.nk_plan.specs.declared.step.ChildStep.TheVariants.{Act, Main, Back, Release, Begin, Finish}
use Rattle.nk_plan.specs.declared.step.ParentStep.{ParentStep}
use Rattle.nk_plan.specs.declared.step.ParentStep.TheVariants.{Up, Fetch}
use Rattle.nk_plan.specs.Accepted.{plan_of}
use Rattle.nk_plan.specs.Child.{ChildState, child_after}
use Rattle.nk_plan.specs.Enabled.{parent_enabled}
use Rattle.nk_plan.specs.Parent.{parent_after}
use Rattle.nk_plan.specs.Journal.{ups_taken}
use Rattle.nk_base.specs.Queue.{target_number}
use Rattle.nk_half_laws.specs.Settled.{IsIdle, forced_by, ends_suspended, has_end}
use Rattle.nk_half_laws.proofs.Lively.{none_posted}

refused : Status
refused = record { 0 = 0x804b000d }

-- A child. The listener suspends in its start callback, and the page resumes, suspends twice, resumes once, and calls again
-- once the channel has stopped. Newest first: whether a suspend is in force, and what was last said

plan : ChannelPlan
plan = plan_of (hop.Fail refused ∷ []) listener.Plain false (reaction.StartSuspend ∷ [])
    (record { after = 1; act = act.Resume } ∷ record { after = 1; act = act.Suspend } ∷ record { after = 1; act = act.Suspend }
    ∷ record { after = 1; act = act.Resume } ∷ record { after = 1; act = act.Resume } ∷ record { after = 2; act = act.Suspend } ∷
    []) 1 false lane.Main

in_force : ChannelPlan → List ChildStep → List Bool
in_force c [] = nat_lt 0 (child_after c []).suspends ∷ []
in_force c (x ∷ xs) = nat_lt 0 (child_after c (x ∷ xs)).suspends ∷ in_force c xs

last_sent : ChannelPlan → List ChildStep → List Bool
last_sent c [] = ends_suspended (child_after c []).sent ∷ []
last_sent c (x ∷ xs) = ends_suspended (child_after c (x ∷ xs)).sent ∷ last_sent c xs

calls : List ChildStep
calls =
    Act ∷ Finish target.Main ∷ Begin target.Main ∷ Begin target.Main ∷ Begin target.Main ∷ Act ∷ Act ∷ Act ∷ Act ∷ Act
    ∷ Finish target.Main ∷ Main (main.FailedOpen 0 refused) ∷ Act ∷ []

forces : in_force plan calls ≡ false ∷ false ∷ false ∷ false ∷ false ∷ false ∷ true ∷ true ∷ true ∷ false ∷ true ∷ false ∷ false ∷ false ∷
    []
unfolding in_force plan calls refused
forces = refl

lasts : last_sent plan calls ≡ false ∷ false ∷ false ∷ false ∷ false ∷ false ∷ true ∷ true ∷ true ∷ false ∷ true ∷ false ∷ false ∷ false ∷
    []
unfolding last_sent plan calls refused
lasts = refl

-- and how often its queue is forced: while the start runs, and while the stop does

forced : ChannelPlan → List ChildStep → List ℕ
forced c [] = (child_after c []).queue.forced ∷ []
forced c (x ∷ xs) = (child_after c (x ∷ xs)).queue.forced ∷ forced c xs

forcing : ChannelPlan → List ChildStep → List ℕ
forcing c [] = forced_by (child_after c []).running ∷ []
forcing c (x ∷ xs) = forced_by (child_after c (x ∷ xs)).running ∷ forcing c xs

is_forced : forced plan calls ≡ 0 ∷ 0 ∷ 1 ∷ 0 ∷ 0 ∷ 0 ∷ 0 ∷ 0 ∷ 0 ∷ 0 ∷ 0 ∷ 1 ∷ 0 ∷ 0 ∷ []
unfolding forced plan calls refused
is_forced = refl

what_forces : forcing plan calls ≡ 0 ∷ 0 ∷ 1 ∷ 0 ∷ 0 ∷ 0 ∷ 0 ∷ 0 ∷ 0 ∷ 0 ∷ 0 ∷ 1 ∷ 0 ∷ 0 ∷ []
unfolding forcing plan calls refused
what_forces = refl

-- A parent. Strays come too: a resume before any suspend, and a suspend once the load is over

flags : ChannelPlan → List ParentStep → List Bool
flags c [] = (parent_after c []).suspended ∷ []
flags c (x ∷ xs) = (parent_after c (x ∷ xs)).suspended ∷ flags c xs

last_taken : ChannelPlan → List ParentStep → List Bool
last_taken c [] = ends_suspended (ups_taken (parent_after c []).journal) ∷ []
last_taken c (x ∷ xs) = ends_suspended (ups_taken (parent_after c (x ∷ xs)).journal) ∷ last_taken c xs

ends : ChannelPlan → List ParentStep → List Bool
ends c [] = has_end (parent_after c []).journal ∷ []
ends c (x ∷ xs) = has_end (parent_after c (x ∷ xs)).journal ∷ ends c xs

load : List ParentStep
load = Up up.Suspend ∷ Fetch ∷ Up up.Resume ∷ Fetch ∷ Up (up.BytesRead 1) ∷ Up up.Suspend ∷ Up up.Suspend ∷ Up up.Open ∷ Up up.Resume ∷ []

load_flags : flags plan load ≡ true ∷ false ∷ false ∷ true ∷ true ∷ true ∷ true ∷ false ∷ false ∷ false ∷ []
unfolding flags plan load refused
load_flags = refl

load_taken : last_taken plan load ≡ true ∷ false ∷ false ∷ true ∷ true ∷ true ∷ true ∷ false ∷ false ∷ false ∷ []
unfolding last_taken plan load refused
load_taken = refl

load_ends : ends plan load ≡ true ∷ true ∷ false ∷ false ∷ false ∷ false ∷ false ∷ false ∷ false ∷ false ∷ []
unfolding ends plan load refused
load_ends = refl

-- Why `ChildRestLaw` says no more

-- an idle child with these events and so many suspends
record Idles (s : ChildState) (w : List ChildEvent) (n : ℕ) : Type 0 where
  idle : IsIdle s
  waiting : s.queue.waiting ≡ w
  suspends : s.suspends ≡ n

-- while the page has suspended the channel, an event waits

paused : ChannelPlan
paused = plan_of (hop.Fail refused ∷ []) listener.Plain false [] (record { after = 0; act = act.Suspend } ∷ []) 1 false lane.Main

asked : List ChildStep
asked = Main (main.Redirect1 0 301) ∷ Act ∷ Act ∷ []

asked_waits : Idles (child_after paused asked) (Redirect1 0 ∷ []) 1
unfolding paused asked refused
asked_waits = record {
  idle = record {
    running = refl;
    flushing = refl;
    posted = λ t. none_posted 18
        (target_number t);
    forced = refl;
    question = inl refl;
    report = inl refl;
  };
  waiting = refl;
  suspends = refl;
}

-- a plan that is not accepted: its listener wants the data on worker 20, to which no task can be posted

astray : ChannelPlan
astray = plan_of (hop.Fail refused ∷ []) listener.Plain true (reaction.StartRetarget 20 ∷ []) [] 1 false lane.Main

sent_astray : List ChildStep
sent_astray =
    Back (back.Bytes 0 ok 0 (7 ∷ [])) ∷ Release ∷ Begin target.Main ∷ Finish target.Main
    ∷ Main (main.Start 0 ok (record { code = 200; fields = [] })) ∷ Act ∷ []

piece_lost : Idles (child_after astray sent_astray) (Bytes 0 (7 ∷ []) ok ∷ []) 0
unfolding astray sent_astray refused
piece_lost = record {
  idle = record {
    running = refl;
    flushing = refl;
    posted = λ t. none_posted 18
        (target_number t);
    forced = refl;
    question = inl refl;
    report = inl refl;
  };
  waiting = refl;
  suspends = refl;
}

-- once the parent process is gone, a question stays open, and a release stays noted

gone : ChannelPlan
gone = plan_of (hop.Fail refused ∷ []) listener.Plain false [] (record { after = 0; act = act.Break refused } ∷ []) 1 false lane.Main

cut_off : List ChildStep
cut_off = Act ∷ Main (main.Start 1 ok (record { code = 200; fields = [] })) ∷ Begin target.Main ∷ Main (main.Redirect1 0 301) ∷ Act ∷ []

still_open : ((child_after gone cut_off).question ≡ Some 0) × ((child_after gone cut_off).hold.report ≡ Some 1) ×
    ((child_after gone cut_off).broken ≡ true)
unfolding gone cut_off refused
still_open = (refl, refl, refl)

-- A parent that waits for credit: two pieces of one byte, and a window of one

short : ChannelPlan
short =
    plan_of (hop.Response (record { code = 200; fields = [] }) ((7 ∷ []) ∷ (8 ∷ []) ∷ []) finish.Good [] ∷ []) listener.Plain false [] []
    1 false lane.Main

half_sent : List ParentStep
half_sent = Fetch ∷ Fetch ∷ Up up.Open ∷ []

waits_there : ((parent_after short half_sent).phase ≡ Body) × (parent_enabled short Fetch (parent_after short half_sent) ≡ false)
    × (parent_enabled short Fetch (parent_after short (Up (up.BytesRead 1) ∷ half_sent)) ≡ true)
unfolding short half_sent
waits_there = (refl, refl, refl)

-- Each of the three ends is one: the page is done, a failed opening, a stop

heard : ((parent_after short (Up up.Deleting ∷ [])).phase ≡ Done) ×
    ((parent_after short (Up up.Deleting ∷ [])).journal ≡ entry.Took up.Deleting ∷ [])
unfolding short
heard = (refl, refl)

failed : ((parent_after plan (Fetch ∷ Up up.Open ∷ [])).phase ≡ Done)
    × ((parent_after plan (Fetch ∷ Up up.Open ∷ [])).journal ≡ entry.Took up.Open ∷ entry.SentMain (main.FailedOpen 0 refused) ∷ [])
unfolding plan refused
failed = (refl, refl)

over : List ParentStep
over = Fetch ∷ Fetch ∷ Up (up.BytesRead 1) ∷ half_sent

stopped : ((parent_after short over).phase ≡ Done) × (has_end (parent_after short over).journal ≡ true) ×
    (ends_suspended (ups_taken (parent_after short over).journal) ≡ false)
unfolding over half_sent short
stopped = (refl, refl, refl)
