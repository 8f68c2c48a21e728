use Rattle.nk_trace_law.proofs.Logs.{parent_block_law, child_block_law, log_law}
use Rattle.nk_trace_law.proofs.laws.block_law.Goals as goal

pub returns : goal.returns
returns c = record { parent = parent_block_law; child = child_block_law; log = log_law }
