-- How often a source or a sink has failed (this project's own). The count never falls, and stays at
-- the last value of a `u64` once it is there.
use Rattle.std.specs.Prelude.{ℕ, ◌+◌, ◌-◌, ◌^◌, ◌<◌, ◌≤◌, min}

-- the count after one more
abbrev pub one_more : ℕ → ℕ
one_more count = min (count + 1) (2 ^ 64 - 1)

-- there was a fault in between: the count rose, or stands at its last value
abbrev pub Rose : ℕ → ℕ → Type 0
Rose old new = one_more old ≤ new

-- there was none: the count is as before, and not at its last value
abbrev pub Quiet : ℕ → ℕ → Type 0
Quiet old new = new < one_more old
