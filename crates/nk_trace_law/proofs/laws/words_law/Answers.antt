use Rattle.nk_trace_law.proofs.Lined.{parent_words_law, child_words_law, one_words_law}
use Rattle.nk_trace_law.proofs.laws.words_law.Goals as goal

pub returns : goal.returns
returns c = record { parent = parent_words_law; child = child_words_law; one_list = one_words_law }
