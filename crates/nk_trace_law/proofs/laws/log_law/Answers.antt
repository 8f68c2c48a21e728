use Rattle.nk_trace_law.proofs.Logs.{log_report_law, without_log_law}
use Rattle.nk_trace_law.proofs.Blank.{log_text_law}
use Rattle.nk_trace_law.proofs.laws.log_law.Goals as goal

pub returns : goal.returns
returns c = record { told = log_report_law; without = without_log_law; only = log_text_law }
