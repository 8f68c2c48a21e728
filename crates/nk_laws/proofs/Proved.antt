-- The laws, put together from the lemmas of the other files.
use Rattle.std.proofs.Common.{◌⊎◌, ◌≤◌, Some, None, Option, arith, ℕ, ◌≡◌, refl, sym, ◌∙◌, ap, subst, Bool, true, false, if◌then◌else◌, List}
use Rattle.nk_base.specs.declared.status.Target.{Target}
use Rattle.nk_base.specs.Queue.{target_number}
use Rattle.nk_plan.specs.declared.event.ChildEvent.{ChildEvent}
use Rattle.nk_plan.specs.declared.event.ChildEvent.TheVariants.{Start, Bytes, Stop, Redirect1, Redirect3, Cancel}
use Rattle.nk_plan.specs.declared.plan.ChannelPlan.{ChannelPlan}
use Rattle.nk_plan.specs.declared.journal.ParentEntry.{ParentEntry}
use Rattle.nk_plan.specs.declared.journal.ChildEntry.{ChildEntry}
use Rattle.nk_plan.specs.declared.step.Step.{Step}
use Rattle.nk_plan.specs.declared.step.ChildStep.{ChildStep}
use Rattle.nk_plan.specs.declared.ends.Ending.{Ending}
use Rattle.nk_plan.specs.declared.ends.Ending.TheVariants as ending
use Rattle.nk_plan.specs.Accepted.{Accepted}
use Rattle.nk_plan.specs.Trace.{SeqTrace}
use Rattle.nk_plan.specs.Journal.{first, final, cut, opening, ups_taken, mains_sent, backs_sent}
use Rattle.nk_plan.specs.Lanes.{MainsStart, BacksStart}
use Rattle.nk_plan.specs.Child.{ChildState, child_after}
use Rattle.nk_plan.specs.Channel.{Channel, channel_after}
use Rattle.nk_plan.specs.Run.{state_of, trace_of, Down}
use Rattle.nk_plan.specs.Ending.{ending_by, ending_of, ends_in_stop, waits_to_stop}
use Rattle.nk_half_laws.specs.Growth.{GrowthLaw}
use Rattle.nk_half_laws.specs.Settled.{ChildQueueLaw, forced_by}
use Rattle.nk_laws.specs.Laws.{LanesLaw, MergeLaw, RunLaw, HopLaw, FailureLaw, CountsLaw, BoundsLaw, SendsLaw, StateLaw, OrderRunsLaw, RunOrderLaw, EndingToldLaw, EndingLaw, BrokenLaw, CalmLaw, ClosedLaw}
use Rattle.nk_laws.proofs.Premises.{Known, plan_ok, ends_by_failure}
use Rattle.nk_laws.proofs.Sent.{lane_law_of}
use Rattle.nk_laws.proofs.ParentLaw.{lane_law}
use Rattle.nk_laws.proofs.Merge.{TakesDown, merge}
use Rattle.nk_laws.proofs.StartHop.{start_hop}
use Rattle.nk_laws.proofs.Tells.{child_tells, child_named, final_is}
use Rattle.nk_laws.proofs.Bounds.{child_bounded}
use Rattle.nk_laws.proofs.Tally.{child_tally, journal_ending}
use Rattle.nk_laws.proofs.Replay.{child_replayed, determined}
use Rattle.nk_laws.specs.Moves.{Joined}
use Rattle.nk_laws.proofs.Joined.{joined}
use Rattle.nk_laws.proofs.Ordered.{order_is_run}
use Rattle.nk_laws.proofs.Orders.{run_is_order}
use Rattle.nk_laws.proofs.Settled.{ending_told}
use Rattle.nk_laws.proofs.CalmEnd.{calm_law_holds}
use Rattle.nk_laws.proofs.Broken.{broken_stops}
use Rattle.nk_laws.proofs.Closed.{closed_run}
use Rattle.nk_laws.proofs.Tools.{by_bool}

pub lanes : LanesLaw
lanes c p a (steps, e) = lane_law_of c (ups_taken p) (mains_sent p) (backs_sent p) (rw e at (lane_law c steps (plan_ok c a)))

-- what a child shows is told by its journal
shown : (c : ChannelPlan) (steps : List ChildStep) (j : List ChildEntry) → (child_after c steps).journal ≡ j → trace_of c j ≡ (child_after c steps).trace
shown c steps j e = ap (λ (s : ChildState). s.trace) (child_replayed c steps j e)

-- the lanes, where the child's journal is told by its steps
down_of : (c : ChannelPlan) (p : List ParentEntry) (j : List ChildEntry) (n : ℕ) (d : Down c p j n) → TakesDown p (child_after c d.child_run.0).journal n
down_of c p j n d = subst (λ t. TakesDown p t n) (sym d.child_run.1) (d.mains, d.forwards, d.backs)

pub merge_down : MergeLaw
merge_down c p j n a d =
    let steps : List ChildStep = d.child_run.0 in
    let e : (child_after c steps).journal ≡ j = d.child_run.1 in
    let t : SeqTrace c (final (child_after c steps).journal) (first (child_after c steps).journal) (cut (child_after c steps).journal) (child_after c steps).trace = merge c p n steps (plan_ok c a) d.parent_run (down_of c p j n d) in
    subst (λ t. SeqTrace c (final j) (first j) (cut j) t) (sym (shown c steps j e))
    (subst (λ k. SeqTrace c (final k) (first k) (cut k) (child_after c steps).trace) e t)

pub merge_run : RunLaw
merge_run c p j n a r = merge_down c p j n a r.down

pub hops : HopLaw
hops c p j n a d o =
    let steps : List ChildStep = d.child_run.0 in
    let e : (child_after c steps).journal ≡ j = d.child_run.1 in
    subst (λ t. MainsStart (final t) (mains_sent p) × BacksStart (final t) (backs_sent p)) e (start_hop c p n steps (plan_ok c a) d.parent_run (down_of c p j n d) (ap opening e ∙ o))

pub failures : GrowthLaw → FailureLaw
failures growth c steps = let t = child_tells c steps in (sym t.first_is, t.drops, sym (final_is growth c steps))

pub counts : CountsLaw
counts c steps = let t = child_tally c steps in (sym t.open_is, t.suspends_is, sym t.finished_is)

forced_once_at_most : (r : Option (Target × ChildEvent)) → forced_by r ≤ 1
forced_once_at_most None = omega arith
forced_once_at_most (Some (t, Start code st)) = omega arith
forced_once_at_most (Some (t, Bytes o p st)) = omega arith
forced_once_at_most (Some (t, Stop st)) = omega arith
forced_once_at_most (Some (t, Redirect1 h)) = omega arith
forced_once_at_most (Some (t, Redirect3 h)) = omega arith
forced_once_at_most (Some (t, Cancel st)) = omega arith

pub bounds : ChildQueueLaw → BoundsLaw
bounds queue c steps a =
    let l = queue c steps a in
    let f : (child_after c steps).queue.forced ≡ forced_by (child_after c steps).running = l.1 in
    (l.0, (let k = forced_once_at_most (child_after c steps).running in omega arith), λ t. child_bounded c steps (target_number t))

pub sends : GrowthLaw → SendsLaw
sends growth c steps = sym (child_named growth c steps).sends

pub states : StateLaw
states c = let d = determined c in (d.0, d.1)

pub orders_run : OrderRunsLaw
orders_run c steps = order_is_run c steps

pub runs_order : RunOrderLaw
runs_order c p j n r = run_is_order c p j n r

-- The ending

-- the ending by a channel's journal is the one by its child's own fields
told : (c : ChannelPlan) (steps : List Step) → ending_of c (channel_after c steps).child.journal ≡ journal_ending c (channel_after c steps).child
told c steps =
    let w = channel_after c steps in
    let j : Joined c w = joined c steps in
    let e : state_of c w.child.journal ≡ w.child = child_replayed c j.child_steps w.child.journal (ap (λ (s : ChildState). s.journal) j.child_is) ∙ j.child_is in
    ap (λ (s : ChildState). ending_by c w.child.journal s.trace s) e

pub endings_told : EndingToldLaw
endings_told c steps a = let k = ending_told c steps (plan_ok c a) in (told c steps ∙ k.0, k.1)

unopened : (b : Bool) (x : Ending) → b ≡ true → (if b then ending.Unopened else x) ≡ ending.Unopened
unopened true x e = refl
unopened false x e = cc

pub endings : ((c : ChannelPlan) → Accepted c → Known c) → EndingLaw
endings known c steps a q g =
    let g1 : journal_ending c (channel_after c steps).child ≡ ending.Going = sym (told c steps) ∙ g in
    by_bool c.closed
    (λ e. let x : journal_ending c (channel_after c steps).child ≡ ending.Unopened = unopened c.closed _ e in let y : ending.Unopened ≡ ending.Going = sym x ∙ g1 in absurd (cc))
    (λ e. (ending_told c steps (plan_ok c a)).2 (known c a) e q g1)

pub broken : BrokenLaw
broken c p j n a d b =
    let steps : List ChildStep = d.child_run.0 in
    let e : state_of c j ≡ child_after c steps = child_replayed c steps j d.child_run.1 in
    let P : ChildState → Type 0 = λ s. s.broken ≡ true → (ends_in_stop s.trace ≡ true) ⊎ (waits_to_stop s.queue.waiting ≡ true) in
    subst P (sym e) (broken_stops c p n steps (plan_ok c a) d.parent_run (down_of c p j n d)) b

-- Calm plans

pub calm : ((c : ChannelPlan) → Accepted c → Known c) → CalmLaw
calm known c p j n a i r =
    let o = run_is_order c p j n r in
    let w : Channel = channel_after c o.0 in
    let k : Joined c w = joined c o.0 in
    let e : state_of c j ≡ w.child = child_replayed c k.child_steps j (ap (λ (s : ChildState). s.journal) k.child_is ∙ o.2) ∙ k.child_is in
    let same : ending_of c j ≡ journal_ending c w.child = ap (λ t. ending_of c t) (sym o.2) ∙ told c o.0 in
    by_bool c.closed
    (λ h.
    let x : journal_ending c w.child ≡ ending.Unopened = unopened c.closed _ h in (
      λ s. (let y : ending.Unopened ≡ ending.Stopped = sym x ∙ (sym same ∙ s) in absurd (cc)),
      λ s. (let y : ending.Unopened ≡ ending.Suspended = sym x ∙ (sym same ∙ s) in absurd (cc)),
    ))
    (λ h.
    let l = calm_law_holds c o.0 (plan_ok c a) (known c a) i (ends_by_failure c a) h in (
      λ s. ap (λ (y : ChildState). y.trace) e ∙ l.0 (sym same ∙ s),
      λ s. l.1 (sym same ∙ s),
    ))

pub closed : ClosedLaw
closed = closed_run
