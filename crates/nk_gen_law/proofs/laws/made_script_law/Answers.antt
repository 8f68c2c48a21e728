use Rattle.nk_gen_law.proofs.Channels.{made_reads}
use Rattle.nk_gen_law.proofs.Sizes.{made_short}
use Rattle.nk_gen_law.proofs.laws.made_script_law.Goals as goal

pub returns : goal.returns
returns c = record { script = made_reads; size = made_short }
