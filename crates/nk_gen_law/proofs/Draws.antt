-- A draw below m is below m.
use Rattle.std.proofs.Common.{ℕ, ◌<◌, ◌/◌, mod-lt}
use Rattle.nk_gen.specs.Draws.{drawn}

pub draw_below : (m x : ℕ) → 0 < m → drawn m x < m
unfolding drawn
draw_below m x h = mod-lt (x / 65536) h
