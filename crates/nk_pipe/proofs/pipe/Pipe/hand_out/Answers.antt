-- Each turn hands out the next part of the bytes.
use Rattle.std.proofs.Common.{◌≡◌, ◌+◌, ◌-◌, ◌≤◌, length, take, drop, refl, rules, arith}
use Rattle.std.proofs.lemmas.List.{length-take, length-drop, places}
use Rattle.nk_pipe.specs.Kept.{count}
use Rattle.nk_pipe.proofs.KeptLemmas.{open_reader, moved_there, count_same, forgets_none, forgets_more, next_part}
use Rattle.nk_pipe.proofs.pipe.Pipe.hand_out.Goals as goal

pub loop-done-init : goal.loop-done-init
loop-done-init c =
    let r = open_reader c.args.self.now.readers c.args.i c.requires.opens in
    record {
      within = omega arith;
      handed = rw r.1 refl;
      moved = rw r.1 (forgets_none c.args.self.now c.args.i r.0 r.1);
    }

pub take-done-requires-clause-opens : goal.take-done-requires-clause-opens
take-done-requires-clause-opens c =
    let r = open_reader c.args.self.now.readers c.args.i c.requires.opens in
    let there = moved_there c.args.self.now c.loop-done.self c.args.i c.loop-done.done r.0 r.1 (rw r.1 at c.loop-done.invariant.moved) in
    rw there (r.2, refl)

pub take-done-requires-clause-fits : goal.take-done-requires-clause-fits
take-done-requires-clause-fits c =
    let r = open_reader c.args.self.now.readers c.args.i c.requires.opens in
    let forgets = rw r.1 at c.loop-done.invariant.moved in
    let there = moved_there c.args.self.now c.loop-done.self c.args.i c.loop-done.done r.0 r.1 forgets in
    let left : r.0.position + length c.args.buffer.now ≤ count c.args.self.now = rw r.1 at c.requires.fits in
    let counted = count_same c.args.self.now c.loop-done.self _ forgets in
    let long = c.loop-done.auto.buffer in
    rw there (omega (arith, counted, left, long, c.loop-done.invariant.within, length-take (length c.loop-done.buffer - c.loop-done.done) (drop c.loop-done.done c.loop-done.buffer), length-drop c.loop-done.done c.loop-done.buffer))

pub loop-done-preserved : goal.loop-done-preserved
loop-done-preserved c =
    let r = open_reader c.args.self.now.readers c.args.i c.requires.opens in
    let forgets = rw r.1 at c.loop-done.invariant.moved in
    let there = moved_there c.args.self.now c.loop-done.self c.args.i c.loop-done.done r.0 r.1 forgets in
    let left : r.0.position + length c.args.buffer.now ≤ count c.args.self.now = rw r.1 at c.requires.fits in
    let long = c.loop-done.auto.buffer in
    let slice : length (take (length c.loop-done.buffer - c.loop-done.done) (drop c.loop-done.done c.loop-done.buffer)) ≡ length c.loop-done.buffer - c.loop-done.done = omega (arith, length-take (length c.loop-done.buffer - c.loop-done.done) (drop c.loop-done.done c.loop-done.buffer), length-drop c.loop-done.done c.loop-done.buffer) in
    let few : c.take-done.result ≤ length c.loop-done.buffer - c.loop-done.done = omega (arith, c.take-done.ensures.most, slice) in
    record {
      within = search (rules, places);
      handed = rw r.1 (next_part c.args.self.now c.loop-done.self c.args.i c.loop-done.done c.take-done.result c.loop-done.buffer c.take-done.new.buffer _ r.0 forgets (rw there at c.take-done.ensures.handed) c.loop-done.invariant.within (rw r.1 at c.requires.within) (rw there at c.take-done.ensures.within) few (omega (arith, left, long)) (rw r.1 at c.loop-done.invariant.handed));
      moved = rw r.1 (forgets_more c.args.self.now c.loop-done.self c.take-done.new.self c.args.i c.loop-done.done c.take-done.result r.0 forgets (rw there at c.take-done.ensures.moved));
    }
