-- What both halves of a channel send and show is little, so what is on the way is.
use Rattle.std.proofs.Common.{◌+◌, ◌*◌, ◌<◌, ◌≤◌, ◌^◌, subst, List, length, take, arith}
use Rattle.std.proofs.lemmas.List.{length-take, length-drop}
use Rattle.nk_plan.specs.declared.plan.ChannelPlan.{ChannelPlan}
use Rattle.nk_plan.specs.declared.step.Step.{Step}
use Rattle.nk_plan.specs.Accepted.{Accepted, body_of}
use Rattle.nk_plan.specs.Journal.{mains_taken, backs_taken, ups_taken, mains_sent, backs_sent}
use Rattle.nk_plan.specs.Parent.{ParentState}
use Rattle.nk_plan.specs.Child.{ChildState}
use Rattle.nk_plan.specs.Channel.{Channel, channel_after}
use Rattle.nk_laws.specs.Laws.{JoinedLaw}
use Rattle.nk_laws.specs.Moves.{Joined}
use Rattle.nk_half_laws.specs.Capacity.{ChildSendsLaw, ChildShowsLaw, ParentSendsLaw}
use Rattle.nk_channel.specs.Parts.{parts_of, IsRoomy}
use Rattle.nk_channel.proofs.Lists.{prefix_length}

-- what the layers below say of how much is sent and shown
pub record SendLaws : Type 0 where
  pub joined : JoinedLaw
  pub parent : ParentSendsLaw
  pub child : ChildSendsLaw
  pub shown : ChildShowsLaw

-- of a channel's messages and entries there are few
record AreFew (w : Channel) : Type 0 where
  mains : length (mains_sent w.parent.journal) < 64
  backs : length (backs_sent w.parent.journal) ≤ 65538
  forwarded : w.forwarded ≤ 65538
  sent : length w.child.sent < 2 ^ 24
  shown : length w.child.trace < 2 ^ 24

few : (c : ChannelPlan) (steps : List Step) → Accepted c → SendLaws → AreFew (channel_after c steps)
few c steps a law =
    let w : Channel = channel_after c steps in
    let j : Joined c w = law.joined c steps in
    let P : ParentState → Type 0 = λ s. (length (mains_sent s.journal) < 2 * length c.hops) × (length (backs_sent s.journal) ≤ length (body_of c) + 2) in
    let p : P w.parent = subst P j.parent_is (law.parent c j.parent_steps a) in
    let S : ChildState → Type 0 = λ s. length s.sent ≤ length (mains_taken s.journal) + length (backs_taken s.journal) + 2 * length c.controls + 4 in
    let s : S w.child = subst S j.child_is (law.child c j.child_steps a) in
    let T : ChildState → Type 0 = λ s. length s.trace ≤ 2 * length (mains_taken s.journal) + length (backs_taken s.journal) + 2 in
    let t : T w.child = subst T j.child_is (law.shown c j.child_steps a) in
    let mains : length (mains_taken w.child.journal) ≤ length (mains_sent w.parent.journal) =
    prefix_length (mains_taken w.child.journal) j.mains.0 (mains_sent w.parent.journal) j.mains.1 in
    let backs : length (backs_taken w.child.journal) ≤ length (take w.forwarded (backs_sent w.parent.journal)) =
    prefix_length (backs_taken w.child.journal) j.backs.0 (take w.forwarded (backs_sent w.parent.journal)) j.backs.1 in
    let taken : length (backs_taken w.child.journal) ≤ length (backs_sent w.parent.journal) =
    omega (arith, backs, length-take w.forwarded (backs_sent w.parent.journal)) in
    record {
      mains = omega (arith, p.0, a.few_hops);
      backs = omega (arith, p.1, a.few_pieces);
      forwarded = omega (arith, j.within, p.1, a.few_pieces);
      sent = omega (arith, s, mains, taken, p.0, p.1, a.few_hops, a.few_pieces, a.few_controls);
      shown = omega (arith, t, mains, taken, p.0, p.1, a.few_hops, a.few_pieces);
    }

pub roomy : (c : ChannelPlan) (steps : List Step) → Accepted c → SendLaws → IsRoomy (parts_of c (channel_after c steps))
roomy c steps a law =
    let w : Channel = channel_after c steps in
    let f : AreFew w = few c steps a law in
    record {
      main = omega (arith, f.mains, length-drop (length (mains_taken w.child.journal)) (mains_sent w.parent.journal));
      inner = omega (arith, f.backs, length-drop w.forwarded (backs_sent w.parent.journal));
      back =
          omega (
            arith,
            f.backs,
            length-drop (length (backs_taken w.child.journal)) (take w.forwarded (backs_sent w.parent.journal)),
            length-take w.forwarded (backs_sent w.parent.journal),
          );
      up = omega (arith, f.sent, length-drop (length (ups_taken w.parent.journal)) w.child.sent);
      forwarded = omega (arith, f.forwarded);
    }

pub shown_few : (c : ChannelPlan) (steps : List Step) → Accepted c → SendLaws → length (channel_after c steps).child.trace < 2 ^ 24
shown_few c steps a law = (few c steps a law).shown
