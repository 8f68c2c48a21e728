-- The redirects printed, with those that are left, are all.
use Rattle.std.proofs.Common.{◌≡◌, ◌++◌, ◌-◌}
use Rattle.nk_gen.specs.Made.{redirect_lines}
use Rattle.nk_gen.proofs.make.redirects.Given as goal

abbrev pub invariant-loop : goal.invariant-loop
invariant-loop l = l.printer ++ redirect_lines (l.count - l.counter) ≡ l.initial.printer ++ redirect_lines l.count
