-- One more end stands behind the others.
use Rattle.nk_sink.proofs.Showing.{ends_push}
use Rattle.nk_sink.proofs.listener.push_ends.Goals as goal

pub loop-pump-preserved : goal.loop-pump-preserved
loop-pump-preserved c =
    ends_push c.args.ends.now c.loop-pump.ends c.push.new.self c.loop-pump.yielded c.in-Some.pump c.into_bytes-bytes.result c.stop-status.result c.into_bytes-bytes.ensures c.stop-status.ensures c.loop-pump.invariant c.in_ok-push.ensures.ok
