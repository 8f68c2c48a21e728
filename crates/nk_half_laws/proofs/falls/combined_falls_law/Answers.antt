use Rattle.nk_half_laws.proofs.CombinedFalls.{child_combined, fetch_combined, up_combined, number_combined, queue_combined}
use Rattle.nk_half_laws.proofs.falls.combined_falls_law.Goals as goal

pub returns : goal.returns
returns c = record { child = child_combined; fetch = fetch_combined; up = up_combined; number = number_combined; queue = queue_combined }
