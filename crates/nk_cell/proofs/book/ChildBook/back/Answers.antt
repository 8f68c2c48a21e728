-- The message that was seen is the one that the child took, and that was taken from the background lane.
use Rattle.std.proofs.Common.{◌≡◌, ◌++◌, ◌∷◌, [], ap, refl, sym, ◌∙◌, arith}
use Rattle.nk_wire.specs.OneFrame.{back_of_frame}
use Rattle.nk_lane.specs.Ends.{taken_from}
use Rattle.nk_lane.specs.Spelling.{messages}
use Rattle.nk_plan.specs.declared.step.ChildStep.TheVariants as step
use Rattle.nk_cell.specs.declared.book.ChildBook.TheInside.{Inside}
use Rattle.nk_cell.proofs.Keeps.{step_keeps, took_back, back_did, peeked}
use Rattle.nk_cell.proofs.book.ChildBook.back.Goals as goal

pub invariant_of-self-2 : goal.invariant_of-self-2
invariant_of-self-2 c =
    let e = c.in_ok-step.ensures in
    let h = c.peek.follows.holds-at-none in
    let m = c.in_ok-m-in-Some.m in
    let frame = c.in-Some.frame.now in
    let next = peeked _ _ _ _ c.in-Some.is h.2 in
    let taken : taken_from c.take.new.self ≡ taken_from c.self.inside.back ++ frame ∷ [] = c.take.ensures.next frame next ∙ ap (λ l. l ++ frame ∷ []) h.1 in
    let spelled = c.frames_grow.ensures (taken_from c.self.inside.back) frame m c.in_ok-m-in-Some.ensures.found in
    let one = c.self.inside.main.counts in
    let two = c.take.new.self.counts in
    step_keeps c.child_room_law.ensures c.growth_law.ensures (step.Back m) c.self.inside _ c.self.invariant
    (record {
      child = e.state;
      sent = e.sent;
      delivered = e.delivered;
      up_room = e.up_room;
      delivery_room = e.delivery_room;
      up_staged = e.up_staged;
      delivery_staged = e.delivery_staged;
    })
    (took_back m frame c.self.inside _ (sym c.if-is_broken.ensures) refl (c.take.ensures.same.1 ∙ h.0.1) taken spelled)
    (omega arith)
    (omega arith)

pub returns-clause-made : goal.returns-clause-made
returns-clause-made c =
    let e = c.in_ok-step.ensures in
    let h = c.peek.follows.holds-at-none in
    let m = c.in_ok-m-in-Some.m in
    let frame = c.in-Some.frame.now in
    let next = peeked _ _ _ _ c.in-Some.is h.2 in
    let taken : taken_from c.take.new.self ≡ taken_from c.self.inside.back ++ frame ∷ [] = c.take.ensures.next frame next ∙ ap (λ l. l ++ frame ∷ []) h.1 in
    let spelled = c.frames_grow.ensures (taken_from c.self.inside.back) frame m c.in_ok-m-in-Some.ensures.found in
    let left : Inside = record { alloc = c.self.inside.alloc; number = c.self.inside.number; child = c.step.new.self; main = c.self.inside.main; back = c.take.new.self; up = c.step.new.up; delivery = c.step.new.delivery } in
    back_did m c.self.inside left _ c.self.view_is (sym c.if-is_broken.ensures)
    (record {
      child = e.state;
      sent = e.sent;
      delivered = e.delivered;
      up_room = e.up_room;
      delivery_room = e.delivery_room;
      up_staged = e.up_staged;
      delivery_staged = e.delivery_staged;
    })
    refl refl (ap (λ l. messages back_of_frame l) taken ∙ spelled)
