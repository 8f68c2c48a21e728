use Rattle.nk_walk.proofs.AllCut.{all_cut_exact}
use Rattle.nk_walk.proofs.CutCounts.{count_exact}
use Rattle.nk_walk.proofs.Cuts.{cut_exact}
use Rattle.nk_walk.proofs.laws.cut_law.Goals as goal

pub returns : goal.returns
returns c = record { left = cut_exact; placed = count_exact; all = all_cut_exact }
