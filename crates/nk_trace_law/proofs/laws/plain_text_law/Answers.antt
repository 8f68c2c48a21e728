use Rattle.nk_trace_law.proofs.Parts.{plain_text_law}
use Rattle.nk_trace_law.proofs.laws.plain_text_law.Goals as goal

pub returns : goal.returns
returns c = plain_text_law
