use Rattle.nk_trace_law.proofs.Told.{main_text_law, back_text_law, up_text_law}
use Rattle.nk_trace_law.proofs.laws.message_text_law.Goals as goal

pub returns : goal.returns
returns c = record { main = main_text_law; back = back_text_law; up = up_text_law }
