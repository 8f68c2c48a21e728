use Rattle.nk_trace_law.proofs.Ranges.{main_range_law, back_range_law, up_range_law}
use Rattle.nk_trace_law.proofs.laws.range_law.Goals as goal

pub returns : goal.returns
returns c = record { main = main_range_law; back = back_range_law; up = up_range_law }
