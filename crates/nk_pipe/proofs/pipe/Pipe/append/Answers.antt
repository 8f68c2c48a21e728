-- Each turn writes the next part of the bytes.
use Rattle.std.proofs.Common.{◌≡◌, ◌+◌, ◌-◌, ◌≤◌, length, drop, refl, ◌∙◌, arith, append_assoc}
use Rattle.std.proofs.lemmas.List.{length-take, length-drop}
use Rattle.nk_pipe.proofs.KeptLemmas.{take_part}
use Rattle.nk_pipe.proofs.pipe.Pipe.append.Goals as goal

pub loop-done-preserved : goal.loop-done-preserved
loop-done-preserved c =
    let slice = length-take (length c.args.bytes.now - c.loop-done.done) (drop c.loop-done.done c.args.bytes.now) in
    let few : c.fill-done.result ≤ length c.args.bytes.now - c.loop-done.done = omega (arith, c.fill-done.ensures.most, slice, length-drop c.loop-done.done c.args.bytes.now) in
    let room : c.args.self.now.ahead - c.loop-done.done - c.fill-done.result ≡ c.args.self.now.ahead - (c.loop-done.done + c.fill-done.result) = omega arith in
    record {
      within = omega (arith, few, c.loop-done.invariant.within);
      written = c.fill-done.ensures.filled ∙ rw (c.loop-done.invariant.written, append_assoc, take_part c.loop-done.done c.fill-done.result c.args.bytes.now few, room) refl;
    }
