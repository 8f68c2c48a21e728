use Rattle.nk_script_law.proofs.OneScript.{one_script}
use Rattle.nk_script_law.proofs.laws.script_law.Goals as goal

pub returns : goal.returns
returns c = one_script c.line_law.ensures
