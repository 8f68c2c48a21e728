use Rattle.std.proofs.Common.{◌+◌, sym, arith}
use Rattle.nk_io.proofs.Chains.{list_any-above}
use Rattle.nk_io.proofs.calls.is_next.Goals as goal

pub returns-in-None : goal.returns-in-None
returns-in-None c =
    sym (list_any-above c.args.fails.now (c.args.made + 1) (λ k. omega (arith, c.type_inv.fails k, c.in-None.ensures)))
