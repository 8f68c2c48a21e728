use Rattle.nk_sink.proofs.Proved.{lowers_law, idle_law}
use Rattle.nk_sink.proofs.laws.reads_law.Goals as goal

pub returns : goal.returns
returns c = record { lowers = lowers_law; idle = idle_law }
