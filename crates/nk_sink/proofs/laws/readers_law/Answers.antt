use Rattle.nk_sink.proofs.Proved.{readers_law}
use Rattle.nk_sink.proofs.laws.readers_law.Goals as goal

pub returns : goal.returns
returns c = readers_law
