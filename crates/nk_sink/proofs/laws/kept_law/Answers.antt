use Rattle.nk_sink.proofs.Proved.{kept_law}
use Rattle.nk_sink.proofs.laws.kept_law.Goals as goal

pub returns : goal.returns
returns c = kept_law
