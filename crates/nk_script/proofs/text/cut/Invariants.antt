use Rattle.std.proofs.Common.{◌≡◌, ◌++◌, take, drop}
use Rattle.nk_script.specs.Texts.{before, behind}
use Rattle.nk_script.proofs.text.cut.Given as goal

-- nothing before i is the byte
abbrev pub invariant-loop-i : goal.invariant-loop-i
invariant-loop-i l = record {
  front : before l.mark l.text ≡ take l.i l.text ++ before l.mark (drop l.i l.text);
  rest : behind l.mark l.text ≡ behind l.mark (drop l.i l.text);
}
