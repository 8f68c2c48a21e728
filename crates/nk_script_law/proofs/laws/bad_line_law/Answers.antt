use Rattle.nk_script_law.proofs.OneScript.{one_refusal, one_answer}
use Rattle.nk_script_law.proofs.Decided.{decided}
use Rattle.nk_script_law.proofs.laws.bad_line_law.Goals as goal

pub returns : goal.returns
returns c = record {
  one = one_refusal c.line_law.ensures;
  none = one_answer c.line_law.ensures;
  either = decided c.line_law.ensures;
}
