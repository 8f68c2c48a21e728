use Rattle.std.proofs.Common.{subst, sym, ◌∙◌}
use Rattle.nk_script.specs.Grammar.{IsTextOf}
use Rattle.nk_run.proofs.Scripts.{never_refused}
use Rattle.nk_run.proofs.made.made.Goals as goal

pub unreachable-requires : goal.unreachable-requires
unreachable-requires c =
    let made = c.made_script_law.ensures.script c.args.n in
    let text = c.as_slice.ensures.value ∙ c.in_ok-text.ensures in
    never_refused c.read_script.result made.0 c.in-Err-Line.field-0 c.in-Err-Line.field-0-0 c.in-Err-Line.field-0-1
    (c.read_script.ensures.every made.0 (subst (IsTextOf made.0) (sym text) made.1)) c.in-Err-Line.is c.in-Err-Line.field-0-is
