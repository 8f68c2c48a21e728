use Rattle.std.proofs.Common.{◌≡◌, length}
use Rattle.nk_script.proofs.Placing.{EndsIn}
use Rattle.nk_script.proofs.Reading.{IsAt}
use Rattle.nk_script.proofs.Playable.{IsSoFar}
use Rattle.nk_script.proofs.shared.read_shared.Given as goal

abbrev pub invariant-loop-rest : goal.invariant-loop-rest
invariant-loop-rest l = record {
  at : IsAt l.input l.reader l.number l.rest;
  so_far : IsSoFar l.reader;
  ends : EndsIn l.input l.rest;
  block : l.block.value ≡ l.input;
}

abbrev pub decreases-loop-rest : goal.decreases-loop-rest
decreases-loop-rest l = length l.rest
