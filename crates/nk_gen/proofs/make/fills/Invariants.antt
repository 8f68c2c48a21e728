-- The pieces printed, with those that are left, are all; and so are their draws.
use Rattle.std.proofs.Common.{◌≡◌, ◌++◌, ◌-◌, ◌*◌}
use Rattle.nk_gen.specs.Draws.{behind}
use Rattle.nk_gen.specs.Made.{fill_lines}
use Rattle.nk_gen.proofs.make.fills.Given as goal

abbrev pub invariant-loop : goal.invariant-loop
invariant-loop l =
    (l.printer ++ fill_lines (l.count - l.counter) l.draws.0 ≡ l.initial.printer ++ fill_lines l.count l.initial.draws.0)
    × (behind (2 * (l.count - l.counter)) l.draws.0 ≡ behind (2 * l.count) l.initial.draws.0)
