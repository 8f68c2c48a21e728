use Rattle.std.proofs.Common.{arith}
use Rattle.std.proofs.lemmas.Grind.{common_steps}
use Rattle.nk_script.proofs.form.read_control.Goals as goal

pub returns-in_ok-read_act-in-len1-up-clause-control : goal.returns-in_ok-read_act-in-len1-up-clause-control
returns-in_ok-read_act-in-len1-up-clause-control c =
    record {
      count = _;
      call = _;
      spelled = grind (arith, common_steps);
      after = c.in_ok-read_number-in-len1-up.ensures.number;
      performed = c.in_ok-read_act-in-len1-up.ensures.act;
    }
