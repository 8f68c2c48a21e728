use Rattle.nk_trace_law.proofs.Traces.{entry_lines_law, reader_line_law, good_parted_law}
use Rattle.nk_trace_law.proofs.laws.entry_line_law.Goals as goal

pub returns : goal.returns
returns c = record { entry = entry_lines_law; reader = reader_line_law; good = good_parted_law }
