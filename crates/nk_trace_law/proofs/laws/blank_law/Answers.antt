use Rattle.nk_trace_law.proofs.Blank.{blank_laws}
use Rattle.nk_trace_law.proofs.laws.blank_law.Goals as goal

pub returns : goal.returns
returns c = blank_laws
