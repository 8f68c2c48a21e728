-- A text with a bad line is no script.
use Rattle.nk_run.proofs.Scripts.{blamed, never_refused}
use Rattle.nk_run.proofs.play.script_in.Goals as goal

pub returns-in-Err-Line-clause-refused : goal.returns-in-Err-Line-clause-refused
returns-in-Err-Line-clause-refused c =
    let line = c.in-Err-Line in (
      blamed c.args.text.now line.field-0 line.number line.cause line.ensures.line line.field-0-is,
      λ script is. never_refused c.read_shared.result script line.field-0 line.number line.cause (c.read_shared.ensures.every script is) line.is line.field-0-is,
    )
