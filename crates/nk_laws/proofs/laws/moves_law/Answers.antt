use Rattle.nk_laws.proofs.Joined.{joined}
use Rattle.nk_laws.proofs.Moves.{moved}
use Rattle.nk_laws.proofs.laws.moves_law.Goals as goal

pub returns : goal.returns
returns c = record { joined = joined; moves = moved }
