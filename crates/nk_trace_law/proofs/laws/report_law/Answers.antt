use Rattle.nk_trace_law.proofs.Logs.{report_law}
use Rattle.nk_trace_law.proofs.laws.report_law.Goals as goal

pub returns : goal.returns
returns c = report_law
