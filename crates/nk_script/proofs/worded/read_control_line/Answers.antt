use Rattle.std.proofs.Common.{◌≡◌, ℕ, List, Some, None, sym, subst, ap, ◌∙◌}
use Rattle.nk_plan.specs.declared.plan.Control.{Control}
use Rattle.nk_script.specs.declared.line.Line.TheVariants as line
use Rattle.nk_script.specs.Lines.{IsControl}
use Rattle.nk_script.proofs.WordsOf.{behind_first}
use Rattle.nk_script.proofs.worded.read_control_line.Goals as goal

none_is : (x : Control) → None ≡ Some x → ⊥
none_is x e = cc

some_is : (x y : Control) → Some x ≡ Some y → x ≡ y
some_is x y e = cc

pub returns-in_err-read_control-in-when-clause-each : goal.returns-in_err-read_control-in-when-clause-each
returns-in_err-read_control-in-when-clause-each c l (ws, h, e, is, same) =
    let rest = behind_first c.args.words.now _ ws e in
    absurd (none_is h (c.in_err-read_control-in-when.ensures.each h (subst (λ (v : List (List ℕ)). IsControl v h) (sym rest) is)))

pub returns-in_ok-read_control-in-when-clause-each : goal.returns-in_ok-read_control-in-when-clause-each
returns-in_ok-read_control-in-when-clause-each c l (ws, h, e, is, same) =
    let rest = behind_first c.args.words.now _ ws e in
    let found = some_is _ h (c.in_ok-read_control-in-when.ensures.each h (subst (λ (v : List (List ℕ)). IsControl v h) (sym rest) is)) in
    ap (λ (d : Control). Some (line.Control d)) found ∙ ap Some (sym same)
