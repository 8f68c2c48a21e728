use Rattle.std.proofs.Common.{length}
use Rattle.nk_script.proofs.Pairs.{HasRead}
use Rattle.nk_script.proofs.piece.read_bytes.Given as goal

abbrev pub invariant-loop-rest : goal.invariant-loop-rest
invariant-loop-rest l = HasRead l.digits l.all.items l.rest

abbrev pub decreases-loop-rest : goal.decreases-loop-rest
decreases-loop-rest l = length l.rest
