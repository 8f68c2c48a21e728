-- What a listener comes to by entries and reads, and the laws over it. This project's own.
use Rattle.std.specs.Prelude.{ℕ, ◌≡◌, ◌≤◌, ◌<◌, Bool, true, false, List, [], ◌∷◌, ◌++◌, length, replicate, Option, Some, None}
use Rattle.nk_base.specs.declared.message.Entry.{Entry}
use Rattle.nk_plan.specs.declared.plan.ListenerKind.{ListenerKind}
use Rattle.nk_plan.specs.declared.plan.ListenerKind.TheVariants as kind
use Rattle.nk_pipe.specs.Pipe.{room}
use Rattle.nk_sink.specs.Listener.{Piped, Listener, new_listener, entered, read_turn, read_enabled, reads_left, ends_of}
use Rattle.nk_plan.specs.Readers.{body_of, readers_of, whole_end}

-- the ranges of a pipe's sizes
pub record IsPipeKind (segment limit readers : ℕ) : Type 0 where
  pub segment_least : 4 ≤ segment
  pub segment_most : segment ≤ 65536
  pub limit_least : 1 ≤ limit
  pub limit_most : limit ≤ 1024
  pub readers_least : 1 ≤ readers
  pub readers_most : readers ≤ 8

abbrev pub IsGoodKind : ListenerKind → Type 0
IsGoodKind kind.Plain = Unit {0}
IsGoodKind (kind.Pipe segment limit readers) = IsPipeKind segment limit readers

-- a listener is shown an entry, or one of its pumps has a turn
pub data ListenerStep : Type 0 where
  Enter : Entry → ListenerStep
  Turn : ℕ → ListenerStep

abbrev pub listener_step : ListenerStep → Listener → Listener
listener_step (Enter e) l = entered e l
listener_step (Turn reader) l = read_turn reader l

-- what a new listener comes to by these steps, of which the newest is the first
abbrev pub listener_after : ListenerKind → List ListenerStep → Listener
listener_after k [] = new_listener k
listener_after k (x ∷ xs) = listener_step x (listener_after k xs)

-- a listener that a new one of its kind comes to
pub record IsReached (l : Listener) : Type 0 where
  pub good : IsGoodKind l.kind
  pub steps : List ListenerStep
  pub is : l ≡ listener_after l.kind steps

-- what clauses see of a listener: the model, and whether it met want of memory
pub record ListenerView : Type 0 where
  pub listener : Listener
  pub failed : Bool

-- THE LAWS

abbrev pub OfPiped : (Piped → Type 0) → Option Piped → Type 0
OfPiped P None = Unit {0}
OfPiped P (Some w) = P w

-- the bytes of the data entries before the first stop are those that were written and then those that are kept; and
-- something is kept only where the pipe has no room
pub record KeepsAll (entries : List Entry) (w : Piped) : Type 0 where
  pub all : w.pipe.written ++ w.kept ≡ body_of entries
  pub full : 0 < length w.kept → room w.pipe ≡ 0

abbrev pub KeptLaw : Type 0
KeptLaw = (k : ListenerKind) (xs : List ListenerStep) → IsGoodKind k → OfPiped (KeepsAll (listener_after k xs).entries) (listener_after k xs).piped

-- each read that is enabled lowers what is left, and one that is not changes nothing
abbrev pub LowersLaw : Type 0
LowersLaw = (k : ListenerKind) (xs : List ListenerStep) (reader : ℕ) → IsGoodKind k
    → read_enabled reader (listener_after k xs) ≡ true → reads_left (read_turn reader (listener_after k xs)) < reads_left (listener_after k xs)

abbrev pub IdleLaw : Type 0
IdleLaw = (k : ListenerKind) (xs : List ListenerStep) (reader : ℕ) → IsGoodKind k
    → read_enabled reader (listener_after k xs) ≡ false → read_turn reader (listener_after k xs) ≡ listener_after k xs

-- no read is enabled
abbrev pub IsDrained : Listener → Type 0
IsDrained l = (reader : ℕ) → 1 ≤ reader → reader ≤ 8 → read_enabled reader l ≡ false

-- once no read is enabled each reader has all bytes of the data entries before the first stop, in order; and its status
-- is none where no stop was shown, 0 where the stop has 0 or that of a stream closed in good order, and else the stop's
abbrev pub ReadersLaw : Type 0
ReadersLaw = (k : ListenerKind) (xs : List ListenerStep) → IsGoodKind k → IsDrained (listener_after k xs)
    → ends_of (listener_after k xs) ≡ replicate (readers_of k) (whole_end (listener_after k xs).entries)
