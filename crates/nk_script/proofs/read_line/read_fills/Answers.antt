use Rattle.nk_script.specs.Texts.{words}
use Rattle.nk_script.proofs.Short.{fill_line_short}
use Rattle.nk_script.proofs.read_line.read_fills.Goals as goal

pub returns-in-None-clause-each : goal.returns-in-None-clause-each
returns-in-None-clause-each c l is =
    let short = fill_line_short (words c.args.text.now) l is in
    let other = rw c.in-None.is at c.in_ok-words.ensures in
    absurd (other short.few short.utf8)
