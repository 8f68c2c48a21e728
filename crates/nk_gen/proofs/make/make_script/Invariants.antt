-- The channels printed, with those that are left, are all.
use Rattle.std.proofs.Common.{◌≡◌, ◌++◌, ◌-◌}
use Rattle.nk_gen.specs.Made.{channels}
use Rattle.nk_gen.proofs.make.make_script.Given as goal

abbrev pub invariant-loop : goal.invariant-loop
invariant-loop l = l.printer ++ channels (l.channels - l.counter) l.draws.0 ≡ l.initial.printer ++ channels l.channels l.initial.draws.0
