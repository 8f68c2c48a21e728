use Rattle.nk_trace_law.proofs.Told.{parent_line_law, child_line_law}
use Rattle.nk_trace_law.proofs.laws.journal_line_law.Goals as goal

pub returns : goal.returns
returns c = record { parent = parent_line_law; child = child_line_law }
