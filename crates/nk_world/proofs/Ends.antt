-- What is promised of the end of a channel, put together from the laws.
use Rattle.std.proofs.Common.{◌≡◌, refl, sym, ◌∙◌, ap, subst, Bool, true, false, if◌then◌else◌, List, [], replicate}
use Rattle.nk_base.specs.declared.message.Entry.{Entry}
use Rattle.nk_plan.specs.declared.plan.ChannelPlan.{ChannelPlan}
use Rattle.nk_plan.specs.declared.plan.ListenerKind.{ListenerKind}
use Rattle.nk_plan.specs.declared.ends.Ending.{Ending}
use Rattle.nk_plan.specs.declared.ends.Ending.TheVariants.{Stopped, Suspended, Unopened, Going}
use Rattle.nk_plan.specs.Journal.{first, final, cut}
use Rattle.nk_plan.specs.Trace.{SeqTrace}
use Rattle.nk_plan.specs.Channel.{Channel}
use Rattle.nk_plan.specs.Child.{ChildState}
use Rattle.nk_plan.specs.Run.{state_of, trace_of, Run}
use Rattle.nk_plan.specs.Ending.{ending_of}
use Rattle.nk_plan.specs.Enabled.{IsSettled}
use Rattle.nk_plan.specs.Calm.{IsCalm, calm_trace}
use Rattle.nk_laws.specs.Laws.{JoinedLaw, StateLaw, OrderRunsLaw, RunLaw, EndingLaw, CalmLaw, ClosedLaw}
use Rattle.nk_laws.specs.Moves.{Joined}
use Rattle.nk_half_laws.specs.Offsets.{BodyLaw}
use Rattle.nk_sink.specs.Listener.{Listener, ends_of}
use Rattle.nk_sink.specs.Reached.{IsDrained, ReadersLaw}
use Rattle.nk_plan.specs.Readers.{readers_of, whole_end}
use Rattle.nk_world.specs.Play.{Play, IsReached, IsQuiet}
use Rattle.nk_world.specs.End.{end_of, calm_ending, IsEnd}
use Rattle.nk_world.proofs.Settled.{settled, pumped}

-- what the layers below say of a channel that was drained
pub record EndLaws : Type 0 where
  pub joined : JoinedLaw
  pub orders : OrderRunsLaw
  pub run : RunLaw
  pub state : StateLaw
  pub ends : EndingLaw
  pub calm : CalmLaw
  pub closed : ClosedLaw
  pub body : BodyLaw
  pub readers : ReadersLaw

ran : (p : Play) → IsReached p → OrderRunsLaw → Run p.plan p.channel.parent.journal p.channel.child.journal p.channel.forwarded
ran p r law = subst (λ (w : Channel). Run p.plan w.parent.journal w.child.journal w.forwarded) r.led (law p.plan r.steps)

-- what the listener was shown is what the child's journal tells
told : (p : Play) → IsReached p → JoinedLaw → StateLaw → p.listener.entries ≡ trace_of p.plan p.channel.child.journal
told p r sides law =
    let j : Joined p.plan p.channel = subst (λ (w : Channel). Joined p.plan w) r.led (sides p.plan r.steps) in
    let e : state_of p.plan p.channel.child.journal ≡ p.channel.child =
    subst (λ (s : ChildState). state_of p.plan s.journal ≡ s) j.child_is ((law p.plan).0 j.child_steps) in
    r.entries ∙ sym (ap (λ (s : ChildState). s.trace) e)

over : (p : Play) → IsReached p → EndingLaw → IsQuiet p → ending_of p.plan p.channel.child.journal ≡ Going → ⊥
over p r law q =
    let P : Channel → Type 0 = λ w. IsSettled p.plan w → ending_of p.plan w.child.journal ≡ Going → ⊥ in
    subst P r.led (law p.plan r.steps r.accepted) (settled p q)

read : (p : Play) → IsReached p → ReadersLaw → IsQuiet p → ends_of p.listener ≡ replicate (readers_of p.plan.listener) (whole_end p.listener.entries)
read p r law q =
    let P : Listener → Type 0 = λ l. IsDrained l → ends_of l ≡ replicate (readers_of p.listener.kind) (whole_end l.entries) in
    subst P (sym r.listener.is) (law p.listener.kind r.listener.steps r.listener.good) (pumped p q)
    ∙ ap (λ (k : ListenerKind). replicate (readers_of k) (whole_end p.listener.entries)) r.kind

-- an ending is one of four
by_ending : {P : Type 0} (e : Ending) → (e ≡ Stopped → P) → (e ≡ Suspended → P) → (e ≡ Unopened → P) → (e ≡ Going → P) → P
by_ending Stopped a b c d = a refl
by_ending Suspended a b c d = b refl
by_ending Unopened a b c d = c refl
by_ending Going a b c d = d refl

-- unopened is what is closed
only_closed : (closed stopped suspended : Bool) → (if closed then Unopened else (if stopped then Stopped else (if suspended then Suspended else Going))) ≡ Unopened → closed ≡ true
only_closed true stopped suspended e = refl
only_closed false true suspended e = cc
only_closed false false true e = cc
only_closed false false false e = cc

-- what is closed is unopened
closed_ending : (c : ChannelPlan) (stopped suspended : Bool) → c.closed ≡ true → (if c.closed then Unopened else (if stopped then Stopped else (if suspended then Suspended else Going))) ≡ Unopened
closed_ending c stopped suspended e = rw e refl

-- what has stopped is not closed
never_closed : (closed stopped suspended : Bool) → (if closed then Unopened else (if stopped then Stopped else (if suspended then Suspended else Going))) ≡ Stopped → closed ≡ false
never_closed true stopped suspended e = cc
never_closed false stopped suspended e = refl

ends_unopened : (c : ChannelPlan) → c.closed ≡ true → calm_ending c ≡ Unopened
ends_unopened c e = rw e refl

ends_stopped : (c : ChannelPlan) → c.closed ≡ false → calm_ending c ≡ Stopped
ends_stopped c e = rw e refl

closed_trace : (c : ChannelPlan) → c.closed ≡ true → calm_trace c ≡ []
closed_trace c e = rw e refl

calmed : (p : Play) → IsReached p → EndLaws → IsQuiet p → IsCalm p.plan → p.listener.entries ≡ calm_trace p.plan
calmed p r law q i =
    let c = p.plan in
    let j = p.channel.child.journal in
    let run : Run c p.channel.parent.journal j p.channel.forwarded = ran p r law.orders in
    let calm = law.calm c p.channel.parent.journal j p.channel.forwarded r.accepted i run in
    let t : p.listener.entries ≡ trace_of c j = told p r law.joined law.state in
    by_ending (ending_of c j) (λ e. t ∙ calm.0 e) (λ e. absurd (calm.1 e))
    (λ e.
    let closed : c.closed ≡ true = only_closed c.closed _ _ e in
    t ∙ ((law.closed c p.channel.parent.journal j p.channel.forwarded closed run).3 ∙ sym (closed_trace c closed)))
    (λ e. absurd (over p r law.ends q e))

calm_ended : (p : Play) → IsReached p → EndLaws → IsQuiet p → IsCalm p.plan → ending_of p.plan p.channel.child.journal ≡ calm_ending p.plan
calm_ended p r law q i =
    let c = p.plan in
    let j = p.channel.child.journal in
    let run : Run c p.channel.parent.journal j p.channel.forwarded = ran p r law.orders in
    by_ending (ending_of c j)
    (λ e. e ∙ sym (ends_stopped c (never_closed c.closed _ _ e)))
    (λ e. absurd ((law.calm c p.channel.parent.journal j p.channel.forwarded r.accepted i run).1 e))
    (λ e. e ∙ sym (ends_unopened c (only_closed c.closed _ _ e)))
    (λ e. absurd (over p r law.ends q e))

pub is_end : (p : Play) → IsReached p → EndLaws → IsQuiet p → IsEnd p.plan (end_of p)
is_end p r law q =
    let c = p.plan in
    let j = p.channel.child.journal in
    let run : Run c p.channel.parent.journal j p.channel.forwarded = ran p r law.orders in
    let t : p.listener.entries ≡ trace_of c j = told p r law.joined law.state in
    let sequential : SeqTrace c (final j) (first j) (cut j) p.listener.entries
    = subst (λ (x : List Entry). SeqTrace c (final j) (first j) (cut j) x) (sym t) (law.run c p.channel.parent.journal j p.channel.forwarded r.accepted run) in
    record {
      run = run;
      sequential = sequential;
      told = t;
      ending = refl;
      over = over p r law.ends q;
      unopened = (λ e. only_closed c.closed _ _ e, λ e. closed_ending c _ _ e);
      bounded = law.body c (final j) (first j) (cut j) p.listener.entries r.accepted sequential;
      readers = read p r law.readers q;
      calm = λ i. calmed p r law q i;
      calm_ended = λ i. calm_ended p r law q i;
    }
