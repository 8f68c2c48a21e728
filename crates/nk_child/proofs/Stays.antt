-- A child that has made a step, or none, is one still.
use Rattle.std.proofs.Common.{◌≡◌, ◌++◌, ◌+◌, ℕ, sym, ◌∙◌, ap, subst, List, [], append-nil, length, drop, Result, Ok, Err, OnOk, OnErr}
use Rattle.std.proofs.Math.Seq.{drop-append_seam}
use Rattle.nk_base.specs.declared.status.Memory.{Memory}
use Rattle.nk_base.specs.declared.status.Moved.{Moved}
use Rattle.nk_base.specs.declared.message.Entry.{Entry}
use Rattle.nk_base.specs.declared.message.UpMsg.{UpMsg}
use Rattle.nk_plan.specs.declared.plan.ChannelPlan.{ChannelPlan}
use Rattle.nk_plan.specs.declared.journal.ChildEntry.{ChildEntry}
use Rattle.nk_plan.specs.declared.step.ChildStep.{ChildStep}
use Rattle.nk_plan.specs.Child.{ChildState, child_step}
use Rattle.nk_plan.specs.Run.{IsChildState, sends_of}
use Rattle.nk_laws.specs.Laws.{StateLaw}
use Rattle.nk_child.specs.Views.{ChildView, with_sent}
use Rattle.nk_child.proofs.Counts.{told, stepped}
use Rattle.nk_child.proofs.Sent.{behind, step_behind}

-- What a step sends stands behind all that was sent before it

forgotten : (c : ChannelPlan) (s : ChildState) → s.sent ≡ [] → with_sent c s ≡ behind (sends_of c s.journal) s
forgotten c s empty =
    let before : List UpMsg = sends_of c s.journal in
    ap (λ (ys : List UpMsg). record s { sent = ys }) (sym (ap (λ (ys : List UpMsg). before ++ ys) empty ∙ append-nil before))

step_whole : (c : ChannelPlan) (x : ChildStep) (s new : ChildState) → s.sent ≡ [] → new ≡ child_step c x s → child_step c x (with_sent c s) ≡ behind (sends_of c s.journal) new
step_whole c x s new empty e =
    ap (child_step c x) (forgotten c s empty)
    ∙ (step_behind c (sends_of c s.journal) x s ∙ sym (ap (behind (sends_of c s.journal)) e))

sent_more : (c : ChannelPlan) (x : ChildStep) (s new : ChildState) → StateLaw → IsChildState c (with_sent c s) → s.sent ≡ [] → new ≡ child_step c x s → sends_of c new.journal ≡ sends_of c s.journal ++ new.sent
sent_more c x s new law h empty e =
    let after : ChildState = behind (sends_of c s.journal) new in
    ap (λ (v : ChildState). v.sent) (told c after law (stepped c x (with_sent c s) after h (sym (step_whole c x s new empty e))))

goes_on : (c : ChannelPlan) (x : ChildStep) (s new : ChildState) → StateLaw → IsChildState c (with_sent c s) → s.sent ≡ [] → new ≡ child_step c x s → with_sent c new ≡ child_step c x (with_sent c s)
goes_on c x s new law h empty e =
    ap (λ (ys : List UpMsg). record new { sent = ys }) (sent_more c x s new law h empty e) ∙ sym (step_whole c x s new empty e)

more_of : (c : ChannelPlan) (x : ChildStep) (s new : ChildState) → StateLaw → IsChildState c (with_sent c s) → s.sent ≡ [] → new ≡ child_step c x s
    → drop (length s.sent) new.sent ≡ drop (length (with_sent c s).sent) (with_sent c new).sent
more_of c x s new law h empty e =
    ap (λ (ys : List UpMsg). drop (length ys) new.sent) empty
    ∙ sym (ap (drop (length (sends_of c s.journal))) (sent_more c x s new law h empty e) ∙ drop-append_seam (sends_of c s.journal) new.sent)

-- A child, by what is at work in it

abbrev pub between : ChannelPlan → ChildState → ChildView
between c s = record { plan = c; state = with_sent c s }

-- the lists were put in their places
pub placed : (c d : ChannelPlan) (w s : ChildState) (j k : List ChildEntry) (t u : List Entry) → d ≡ c → s ≡ record w { journal = k; trace = u; sent = [] } → k ≡ j → u ≡ t
    → between d s ≡ between c (record w { journal = j; trace = t })
placed c d w s j k t u p e ej et =
    ap (λ (x : ChannelPlan). between x s) p
    ∙ (ap (between c) e
    ∙ (ap (λ (y : List ChildEntry). between c (record w { journal = y; trace = u })) ej
    ∙ ap (λ (y : List Entry). between c (record w { journal = j; trace = y })) et))

-- the lists are back in their places
pub restored : (c d : ChannelPlan) (w a b : ChildState) (j : List ChildEntry) (t : List Entry) → d ≡ c → a ≡ record w { journal = [] } → j ≡ w.journal → t ≡ a.trace → b ≡ record a { trace = [] }
    → between d (record b { journal = j; trace = t }) ≡ between c w
restored c d w a b j t p ea ej et eb =
    ap (λ (x : ChannelPlan). between x (record b { journal = j; trace = t })) p
    ∙ (ap (λ (x : ChildState). between c (record x { journal = j; trace = t })) eb
    ∙ (ap (λ (x : ChildState). between c (record x { journal = j; trace = t })) ea
    ∙ (ap (λ (y : List ChildEntry). between c (record w { journal = y; trace = t })) ej
    ∙ ap (λ (y : List Entry). between c (record w { trace = y })) (et ∙ ap (λ (x : ChildState). x.trace) ea))))

-- what was a child is one after a step, or none, and has sent so much more
pub record Turned (r : Result Moved Memory) (x : ChildStep) (now final : ChildView) (more : List UpMsg) : Type 0 where
  pub child : IsChildState final.plan final.state
  pub state : OnOk r (final ≡ record now { state = child_step now.plan x now.state })
  pub sent : OnOk r (more ≡ drop (length now.state.sent) final.state.sent)
  pub err : OnErr r (final ≡ now)

turned_of : (r : Result Moved Memory) (x : ChildStep) (c : ChannelPlan) (s new : ChildState) → StateLaw → IsChildState c (with_sent c s) → s.sent ≡ [] → OnOk r (new ≡ child_step c x s) → OnErr r (new ≡ s)
    → Turned r x (between c s) (between c new) (drop (length s.sent) new.sent)
turned_of (Ok m) x c s new law h empty ok err = record {
  child = stepped c x (with_sent c s) (with_sent c new) h (goes_on c x s new law h empty ok);
  state = ap (λ (v : ChildState). record { plan = c; state = v }) (goes_on c x s new law h empty ok);
  sent = more_of c x s new law h empty ok;
  err = tt;
}
turned_of (Err e) x c s new law h empty ok err = record {
  child = subst (λ (v : ChildState). IsChildState c (with_sent c v)) (sym err) h;
  state = tt;
  sent = tt;
  err = ap (between c) err;
}

pub turned : (r : Result Moved Memory) (x : ChildStep) (c : ChannelPlan) (s new : ChildState) (now final : ChildView) → StateLaw → IsChildState c (with_sent c s) → s.sent ≡ []
    → between c s ≡ now → final ≡ between c new → OnOk r (new ≡ child_step c x s) → OnErr r (new ≡ s) → Turned r x now final (drop (length s.sent) new.sent)
turned r x c s new now final law h empty n f ok err =
    subst (λ (v : ChildView). Turned r x now v (drop (length s.sent) new.sent)) (sym f)
    (subst (λ (v : ChildView). Turned r x v (between c new) (drop (length s.sent) new.sent)) n (turned_of r x c s new law h empty ok err))

-- what a list holds more, and for how much less there is room, told by what was sent
pub holds_more : (r : Result Moved Memory) (held before some more : List UpMsg) → OnOk r (held ≡ before ++ some) → OnOk r (some ≡ more) → OnOk r (held ≡ before ++ more)
holds_more (Ok m) held before some more h e = h ∙ ap (λ (ys : List UpMsg). before ++ ys) e
holds_more (Err m) held before some more h e = h

pub room_less : (r : Result Moved Memory) (room before : ℕ) (some more : List UpMsg) → OnOk r (room + length some ≡ before) → OnOk r (some ≡ more) → OnOk r (room + length more ≡ before)
room_less (Ok m) room before some more h e = ap (λ (ys : List UpMsg). room + length ys) (sym e) ∙ h
room_less (Err m) room before some more h e = h
