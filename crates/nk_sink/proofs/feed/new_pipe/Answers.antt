-- One more reader stands at the start.
use Rattle.std.proofs.Common.{◌∙◌, subst, ap, arith}
use Rattle.nk_pipe.specs.Pipe.{Pipe, numbered, cloned}
use Rattle.nk_pipe.specs.Kept.{Stands}
use Rattle.nk_sink.proofs.Moving.{pipe_with, cloned_is}
use Rattle.nk_sink.proofs.feed.new_pipe.Goals as goal

pub loop-made-preserved : goal.loop-made-preserved
loop-made-preserved c =
    let named = ap (λ id. cloned (numbered (pipe_with c.args.segment c.args.limit c.loop-made.made).readers id) (pipe_with c.args.segment c.args.limit c.loop-made.made)) c.in_ok-pipe.ensures.reader in
    record {
      some = omega arith;
      most = omega (arith, c.loop-made-test.true);
      pipe = subst (λ (p : Pipe). Stands c.clone_reader.new.self p) (named ∙ cloned_is c.args.segment c.args.limit c.loop-made.made c.loop-made.invariant.some) (c.in-Ok.ensures.state (pipe_with c.args.segment c.args.limit c.loop-made.made) c.loop-made.invariant.pipe);
      count = c.in-Ok.ensures.count ∙ c.loop-made.invariant.count;
    }
