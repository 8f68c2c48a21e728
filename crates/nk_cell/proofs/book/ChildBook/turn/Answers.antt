-- What the child sent and showed was sent and delivered, and nothing was taken.
use Rattle.std.proofs.Common.{refl, arith}
use Rattle.nk_cell.proofs.Keeps.{step_keeps, took_none}
use Rattle.nk_cell.proofs.book.ChildBook.turn.Goals as goal

pub invariant_of-self-2 : goal.invariant_of-self-2
invariant_of-self-2 c =
    let e = c.in_ok-moved.ensures in
    let m = c.self.inside.main.counts in
    let b = c.self.inside.back.counts in
    step_keeps c.child_room_law.ensures c.growth_law.ensures c.args.step c.self.inside _ c.self.invariant
    (record {
      child = e.state;
      sent = e.sent;
      delivered = e.delivered;
      up_room = e.up_room;
      delivery_room = e.delivery_room;
      up_staged = e.up_staged;
      delivery_staged = e.delivery_staged;
    })
    (took_none c.args.step c.self.inside _ c.requires refl refl)
    (omega arith)
    (omega arith)
