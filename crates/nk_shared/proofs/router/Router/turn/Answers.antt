use Rattle.std.proofs.Common.{arith, refl}
use Rattle.nk_shared.proofs.Kept.{kept_stray, kept_full, kept_sent, written_same}
use Rattle.nk_shared.specs.Live.{Writes, SameDesk}
use Rattle.nk_shared.proofs.router.Router.turn.Goals as goal

pub invariant_of-self : goal.invariant_of-self
invariant_of-self g c =
    let writes : Writes c.args.self.now.desk (c.slot.follows.lender c.in-Ok.end.now) c.in-Some.tagged.id c.in-Ok.end.now = c.slot.follows.holds c.in-Ok.end.now (rw c.in-Ok.is) in
    record { projected = kept_full c.args.self.now.desk _ _ _ c.in-Some.tagged c.in-Some.ensures.taken c.args.self.now.projected c.in-Ok.end.now c.in-Ok.end.now c.in-Ok.ensures.ok writes refl (omega arith) }

pub invariant_of-self-in-Ok : goal.invariant_of-self-in-Ok
invariant_of-self-in-Ok g c =
    let writes : Writes c.args.self.now.desk (c.slot.follows.lender c.send.new.self) c.in-Some.tagged.id c.send.new.self = c.slot.follows.holds c.send.new.self (rw c.in-Ok.is) in
    record { projected = kept_sent c.args.self.now.desk _ _ _ c.in-Some.tagged c.in-Some.ensures.taken c.args.self.now.projected c.in-Ok.end.now c.send.new.self c.in-Ok.ensures.ok writes (omega arith) c.send.ensures.sent c.send.ensures.same.1 }

pub invariant_of-self-in-Err : goal.invariant_of-self-in-Err
invariant_of-self-in-Err g c =
    let same : SameDesk c.args.self.now.desk c.slot.follows.lender-at-none = rw c.in-Err.is at c.slot.follows.holds-at-none in
    record { projected = kept_stray c.args.self.now.desk _ _ _ c.in-Some.tagged c.in-Some.ensures.taken c.args.self.now.projected c.in-Err.ensures.err.1 same }

pub returns-then-room-eq0-clause-routed : goal.returns-then-room-eq0-clause-routed
returns-then-room-eq0-clause-routed g c = (
  c.in-Some.tagged.frame,
  record {
    at = c.in-Ok.end.now;
    taken = c.in-Some.ensures.taken;
    was = c.in-Ok.ensures.ok;
    full = omega arith;
    desk_same = written_same _ _ c.in-Some.tagged.id c.in-Ok.end.now c.in-Ok.ensures.ok (c.slot.follows.holds c.in-Ok.end.now (rw c.in-Ok.is));
  },
)

pub returns-else-room-eq0-clause-routed : goal.returns-else-room-eq0-clause-routed
returns-else-room-eq0-clause-routed g c =
    let writes : Writes c.args.self.now.desk (c.slot.follows.lender c.send.new.self) c.in-Some.tagged.id c.send.new.self = c.slot.follows.holds c.send.new.self (rw c.in-Ok.is) in (
      c.in-Some.tagged.frame,
      record {
        before = c.in-Ok.end.now;
        after = c.send.new.self;
        taken = c.in-Some.ensures.taken;
        was = c.in-Ok.ensures.ok;
        is_now = writes.changed;
        room = omega arith;
        sent = c.send.ensures.sent;
        same_ring = c.send.ensures.same;
        given = writes.given;
        others = writes.others;
      },
    )
