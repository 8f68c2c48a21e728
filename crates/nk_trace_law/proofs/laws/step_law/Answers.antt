use Rattle.nk_trace_law.proofs.Told.{parent_step_law, child_step_law, half_law}
use Rattle.nk_trace_law.proofs.laws.step_law.Goals as goal

pub returns : goal.returns
returns c = record { parent = parent_step_law; child = child_step_law; half = half_law }
