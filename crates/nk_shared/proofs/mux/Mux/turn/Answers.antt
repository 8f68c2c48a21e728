use Rattle.std.proofs.Common.{arith, refl, ◌<◌, length, ap, ◌∙◌}
use Rattle.std.proofs.lemmas.Option.{slice_get_read}
use Rattle.std.proofs.Math.Seq.{map-set_same}
use Rattle.nk_lane.specs.Ends.{sent_on, taken_from, take_capacity}
use Rattle.nk_shared.proofs.Lanes.{went, turned}
use Rattle.nk_shared.proofs.Places.{get-set_same, get-set_other}
use Rattle.nk_shared.proofs.mux.Mux.turn.Goals as goal

pub index-id-requires : goal.index-id-requires
index-id-requires g c = let p = c.args.self.now.paired in omega arith

pub invariant_of-self : goal.invariant_of-self
invariant_of-self g c =
    let m = c.args.self.now in
    let p = m.paired in
    let inside : c.args.i < length m.ids.items = omega arith in
    let over = went c.move_next.result c.index-id.result.now c.index_mut.result.now c.move_next.new.from m.out c.move_next.new.out c.move_next.ensures.moved in
    let k = turned taken_from m.ids.items m.ends.items (sent_on m.out) (sent_on c.move_next.new.out) c.args.i c.index-id.result.now c.index_mut.result.now c.move_next.new.from over
    c.requires.below
    (slice_get_read m.ids.items (length m.ids.items) c.args.i c.index-id.result.now refl inside c.index-id.ensures)
    (slice_get_read m.ends.items (length m.ends.items) c.args.i c.index_mut.result.now refl c.requires.below c.index_mut.ensures.value)
    (record { paired = m.paired; projected = m.projected; apart = m.apart; unknown = m.unknown; counted = m.counted }) in
    record { paired = k.paired; projected = k.projected; apart = k.apart; unknown = k.unknown; counted = k.counted }

pub returns-clause-turned : goal.returns-clause-turned
returns-clause-turned g c =
    let m = c.args.self.now in
    let p = m.paired in
    let inside : c.args.i < length m.ids.items = omega arith in
    record {
      id = c.index-id.result.now;
      before = c.index_mut.result.now;
      after = c.move_next.new.from;
      id_at = slice_get_read m.ids.items (length m.ids.items) c.args.i c.index-id.result.now refl inside c.index-id.ensures;
      was = slice_get_read m.ends.items (length m.ends.items) c.args.i c.index_mut.result.now refl c.requires.below c.index_mut.ensures.value;
      is_now = get-set_same m.ends.items c.args.i c.move_next.new.from c.requires.below;
      moved_by = c.move_next.ensures.moved;
      known = c.move_next.ensures.known;
      same_end = c.move_next.ensures.from_end;
      others = λ j ne. get-set_other m.ends.items c.args.i j c.move_next.new.from ne;
    }

pub returns-clause-capacities : goal.returns-clause-capacities
returns-clause-capacities g c =
    map-set_same take_capacity c.args.self.now.ends.items c.args.i c.move_next.new.from c.index_mut.result.now
    (c.move_next.ensures.from_end.1 ∙ ap take_capacity c.index_mut.ensures.value)
