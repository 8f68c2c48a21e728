use Rattle.std.proofs.Common.{refl}
use Rattle.nk_script.specs.Texts.{before}
use Rattle.nk_script.proofs.Fields.{field_cut, joined}
use Rattle.nk_script.proofs.Keywords.{one_keyword}
use Rattle.nk_script.proofs.Reading.{count_after}
use Rattle.nk_script.proofs.laws.line_law.Goals as goal

pub returns : goal.returns
returns c = record {
  keyword = one_keyword;
  field = field_cut;
  cut = λ rest value e. joined rest (before 32 rest) value refl e;
  channels = count_after;
}
