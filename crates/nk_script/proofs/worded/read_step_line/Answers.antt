use Rattle.std.proofs.Common.{refl, arith}
use Rattle.std.proofs.lemmas.Grind.{common_steps}
use Rattle.nk_script.proofs.worded.read_step_line.Goals as goal

pub returns-in_ok-read_step-in-len1-up-clause-line : goal.returns-in_ok-read_step-in-len1-up-clause-line
returns-in_ok-read_step-in-len1-up-clause-line c =
    (_, _, record { channel = c.in_ok-read_number-in-len1-up.field-0; step = c.in_ok-read_step-in-len1-up.field-0 }, grind (arith, common_steps), c.in_ok-read_number-in-len1-up.ensures.number, c.in_ok-read_step-in-len1-up.ensures.step, refl)
