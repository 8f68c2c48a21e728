use Rattle.nk_laws.proofs.Proved.{merge_down, merge_run, hops}
use Rattle.nk_laws.proofs.laws.merge_law.Goals as goal

pub returns : goal.returns
returns c = record { down = merge_down; run = merge_run; hop = hops }
