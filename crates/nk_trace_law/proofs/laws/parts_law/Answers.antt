use Rattle.nk_trace_law.proofs.Parts.{joined_law, begins_law, parts_law}
use Rattle.nk_trace_law.proofs.laws.parts_law.Goals as goal

pub returns : goal.returns
returns c = record { joined = joined_law; begins = begins_law; parts = parts_law }
