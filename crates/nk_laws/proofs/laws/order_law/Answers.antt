use Rattle.nk_laws.proofs.Proved.{orders_run, runs_order}
use Rattle.nk_laws.proofs.laws.order_law.Goals as goal

pub returns : goal.returns
returns c = record { run = orders_run; order = runs_order }
