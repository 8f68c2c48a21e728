-- The source of a response's body. This project's own.
use Rattle.std.specs.Prelude.{ℕ, suc, ◌≡◌, ◌≤◌, ◌*◌, List, [], length, slice_get, Option, Some, None}
use Rattle.nk_plan.specs.declared.plan.Hop.{Hop}
use Rattle.nk_plan.specs.declared.plan.Hop.TheVariants as hop
use Rattle.nk_plan.specs.declared.plan.Finish.{Finish}
use Rattle.nk_plan.specs.declared.plan.Finish.TheVariants as finish
use Rattle.nk_source.specs.declared.source.Next.{Next}
pub use Rattle.nk_plan.specs.Parent.{size_of, offset_of}
use Rattle.nk_source.specs.declared.source.Next.TheVariants as next

-- the pieces of a body, how it ends, and the number of the next piece
pub record Source : Type 0 where
  pub pieces : List (List ℕ)
  pub finish : Finish
  pub next : ℕ

-- a hop that is a response with at most 65,536 pieces
abbrev pub IsResponse : Hop → Type 0
IsResponse (hop.Fail s) = ⊥
IsResponse (hop.Redirect code verdict) = ⊥
IsResponse (hop.Response head pieces end trailers) = length pieces ≤ 65536

-- there is no body
abbrev pub no_source : Source
no_source = record { pieces = []; finish = finish.Good; next = 0 }

-- the whole body of a hop is still to come; a hop that is no response has none
abbrev pub source_of : Hop → Source
source_of (hop.Fail s) = no_source
source_of (hop.Redirect code verdict) = no_source
source_of (hop.Response head pieces end trailers) = record { pieces = pieces; finish = end; next = 0 }

-- how a body ends
abbrev pub end_of : Finish → Next
end_of finish.Good = next.EndOk
end_of (finish.Fail s) = next.EndFail s

-- the next piece at its offset, or the end
abbrev pub given : Source → Option (List ℕ) → Next
given s (Some piece) = next.Piece (offset_of s.pieces s.next) piece
given s None = end_of s.finish

abbrev pub next_of : Source → Next
next_of s = given s (slice_get s.pieces s.next)

-- one piece more was given, if there was one
abbrev pub after : Source → Option (List ℕ) → Source
after s (Some piece) = record s { next = suc s.next }
after s None = s

abbrev pub stepped : Source → Source
stepped s = after s (slice_get s.pieces s.next)

-- what the type keeps: the next piece is one of at most 65,536 or stands behind them, and the offset is its own
pub record IsSource (pieces : List (List ℕ)) (next offset : ℕ) : Type 0 where
  pub within : next ≤ length pieces
  pub most : length pieces ≤ 65536
  pub at : offset ≡ offset_of pieces next
  pub bounded : offset ≤ next * 131072
