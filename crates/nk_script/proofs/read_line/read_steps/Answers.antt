use Rattle.std.proofs.Common.{ℕ, List, sym, subst, ap, ◌∙◌, arith}
use Rattle.nk_script.specs.Texts.{words}
use Rattle.nk_script.specs.Lines.{IsStepLine}
use Rattle.nk_script.proofs.WordsOf.{nows}
use Rattle.nk_script.proofs.Short.{step_line_short}
use Rattle.nk_script.proofs.read_line.read_steps.Goals as goal

pub returns-in-Some-clause-each : goal.returns-in-Some-clause-each
returns-in-Some-clause-each c l is =
    let read = rw c.in-Some.is at c.in_ok-words.ensures in
    c.read_step_line.ensures.each l (subst (λ (all : List (List ℕ)). IsStepLine c.args.channels all l) (sym (ap nows c.deref.ensures.value ∙ read)) is)

pub returns-in-None-clause-each : goal.returns-in-None-clause-each
returns-in-None-clause-each c l is =
    let short = step_line_short c.args.channels (words c.args.text.now) l (omega (arith, c.ranges.channels)) is in
    let other = rw c.in-None.is at c.in_ok-words.ensures in
    absurd (other short.few short.utf8)
