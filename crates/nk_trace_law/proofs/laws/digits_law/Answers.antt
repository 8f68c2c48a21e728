use Rattle.nk_trace_law.proofs.Values.{status_digits_law, status_value_law, status_spelled_law, code_value_law, code_spelled_law, bytes_digits_law, bytes_told_law, bytes_spelled_law}
use Rattle.nk_trace_law.proofs.laws.digits_law.Goals as goal

pub returns : goal.returns
returns c = record {
  status = status_digits_law;
  status_value = status_value_law;
  status_spelled = status_spelled_law;
  code = code_value_law;
  code_spelled = code_spelled_law;
  bytes = bytes_digits_law;
  bytes_told = bytes_told_law;
  bytes_spelled = bytes_spelled_law;
}
