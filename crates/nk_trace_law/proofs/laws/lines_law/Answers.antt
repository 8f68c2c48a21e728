use Rattle.nk_trace_law.proofs.Lined.{lines_law, good_trailers_law, one_list_law, first_line_law, joined_lines_law, one_line_laws, entry_count_law}
use Rattle.nk_trace_law.proofs.laws.lines_law.Goals as goal

pub returns : goal.returns
returns c = record {
  report = lines_law;
  good = good_trailers_law;
  one_list = one_list_law;
  first = first_line_law;
  joined = joined_lines_law;
  one_line = one_line_laws;
  count = entry_count_law;
}
