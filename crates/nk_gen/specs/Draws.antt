-- The generator's numbers: a linear congruential sequence below 2^32, of whose high halves the draws are made. This
-- project's own.
use Rattle.std.specs.Prelude.{ℕ, zero, suc, ◌+◌, ◌*◌, ◌/◌, ◌%◌}

-- the number behind x
unfoldable pub next : ℕ → ℕ
next x = (x * 1664525 + 1013904223) % 4294967296

-- the number that stands n places behind x
abbrev pub behind : ℕ → ℕ → ℕ
behind zero x = x
behind (suc n) x = behind n (next x)

-- what a draw below m makes of x
unfoldable pub drawn : ℕ → ℕ → ℕ
drawn m x = (x / 65536) % m

-- the first draw behind x, and the second
abbrev pub first_draw : ℕ → ℕ → ℕ
first_draw m x = drawn m (next x)

abbrev pub second_draw : ℕ → ℕ → ℕ
second_draw m x = drawn m (next (next x))
