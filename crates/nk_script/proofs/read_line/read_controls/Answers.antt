use Rattle.std.proofs.Common.{ℕ, List, sym, subst, ap, ◌∙◌}
use Rattle.nk_script.specs.Texts.{words}
use Rattle.nk_script.specs.Lines.{IsControlLine}
use Rattle.nk_script.proofs.WordsOf.{nows}
use Rattle.nk_script.proofs.Short.{control_line_short}
use Rattle.nk_script.proofs.read_line.read_controls.Goals as goal

pub returns-in-Some-clause-each : goal.returns-in-Some-clause-each
returns-in-Some-clause-each c l is =
    let read = rw c.in-Some.is at c.in_ok-words.ensures in
    c.read_control_line.ensures.each l (subst (λ (all : List (List ℕ)). IsControlLine all l) (sym (ap nows c.deref.ensures.value ∙ read)) is)

pub returns-in-None-clause-each : goal.returns-in-None-clause-each
returns-in-None-clause-each c l is =
    let short = control_line_short (words c.args.text.now) l is in
    let other = rw c.in-None.is at c.in_ok-words.ensures in
    absurd (other short.few short.utf8)
