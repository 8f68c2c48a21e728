use Rattle.std.proofs.Common.{◌≡◌, ◌++◌, length}
use Rattle.nk_script.specs.Texts.{words}
use Rattle.nk_script.proofs.WordsOf.{nows}
use Rattle.nk_script.proofs.text.words_of.Given as goal

abbrev pub invariant-loop : goal.invariant-loop
invariant-loop l = record {
  read : nows l.all.items ++ words l.rest ≡ words l.line;
  count : length l.all.items ≡ l.counter;
}
