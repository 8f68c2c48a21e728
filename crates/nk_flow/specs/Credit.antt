-- The send window of a channel. This project's own.
use Rattle.std.specs.Prelude.{ℕ, ℤ, pos, Bool, if◌then◌else◌, int_lt, ◌+ℤ◌, ◌-ℤ◌, ◌≤ℤ◌}

-- a window of so many bytes, and the credit that is left of it
pub record Credit : Type 0 where
  pub window : ℕ
  pub credit : ℤ

-- all of a window is credit
abbrev pub full : ℕ → Credit
full window = record { window = window; credit = pos window }

-- there is credit
abbrev pub may_send : Credit → Bool
may_send c = int_lt (pos 0) c.credit

-- n bytes were sent
abbrev pub sent : ℕ → Credit → Credit
sent n c = record c { credit = c.credit -ℤ pos n }

-- the lesser of two numbers
abbrev pub lesser : ℤ → ℤ → ℤ
lesser a b = if int_lt a b then a else b

-- the page has read n bytes: they are credit again, up to the whole window
abbrev pub read : ℕ → Credit → Credit
read n c = record c { credit = lesser (pos c.window) (c.credit +ℤ pos n) }

-- what the type keeps: the credit is at most the window, and at most one piece short of it
pub record IsWithin (window : ℕ) (credit : ℤ) : Type 0 where
  pub least : (pos 0 -ℤ pos 131071) ≤ℤ credit
  pub most : credit ≤ℤ pos window
