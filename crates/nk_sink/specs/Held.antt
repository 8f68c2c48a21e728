-- What always holds of a listener's pipe. No public clause cites this module.
use Rattle.std.specs.Prelude.{ℕ, ◌≡◌, ◌≤◌, ◌==◌, List, [], ◌∷◌, ◌++◌, length, take, Option, Some, None, if◌then◌else◌}
use Rattle.nk_base.specs.declared.status.Status.{Status}
use Rattle.nk_base.specs.Status.{ok, stream_closed}
use Rattle.nk_pipe.specs.Pipe.{Pipe, Reader, room, kept_status}
use Rattle.nk_pump.specs.Shown.{Shown}
use Rattle.nk_sink.specs.Listener.{Piped}

-- the status of a pump's stop, by the status that the pipe was closed with
abbrev pub ended : Option Status → Option Status
ended None = None
ended (Some s) = Some (if s.0 == stream_closed.0 then ok else s)

-- a pump that has stopped has read all that was written
abbrev pub IsStopped : Option Status → Option Status → ℕ → ℕ → Type 0
IsStopped None closed position count = Unit {0}
IsStopped (Some s) closed position count = (position ≡ count) × (ended closed ≡ Some s)

-- a reader is open, and its pump has shown what it read
pub record IsRead (segment : ℕ) (written : List ℕ) (closed : Option Status) (r : Reader) (s : Shown) : Type 0 where
  pub opens : r.closed ≡ None
  pub most : r.position ≤ length written
  pub bytes : s.bytes ≡ take r.position written
  pub size : s.size ≡ segment
  pub free : s.cancelled ≡ None
  pub stop : IsStopped s.stop closed r.position (length written)

abbrev pub AreRead : ℕ → List ℕ → Option Status → List Reader → List Shown → Type 0
AreRead segment written closed [] [] = Unit {0}
AreRead segment written closed [] (s ∷ ss) = ⊥
AreRead segment written closed (r ∷ rs) [] = ⊥
AreRead segment written closed (r ∷ rs) (s ∷ ss) = IsRead segment written closed r s × AreRead segment written closed rs ss

-- the writer has closed where a stop was shown and nothing is kept
abbrev pub closed_of : List ℕ → Option Status → Option Status
closed_of (b ∷ bs) stop = None
closed_of [] None = None
closed_of [] (Some s) = Some (kept_status s)

-- what is kept may still flow: the pipe is open, or is closed as it has to be
abbrev pub MayFlow : Option Status → List ℕ → Option Status → Type 0
MayFlow None kept stop = Unit {0}
MayFlow (Some s) kept stop = Some s ≡ closed_of kept stop

abbrev pub IsFull : List ℕ → Pipe → Type 0
IsFull [] p = Unit {0}
IsFull (b ∷ bs) p = room p ≡ 0

-- the pipe of a listener that was shown this body and this stop, before what is kept flows
pub record IsPoured (body : List ℕ) (last : Option Status) (w : Piped) : Type 0 where
  pub segment : 1 ≤ w.pipe.segment
  pub limit : 1 ≤ w.pipe.limit
  pub some : 1 ≤ length w.pipe.readers
  pub all : w.pipe.written ++ w.kept ≡ body
  pub stop : w.stop ≡ last
  pub may : MayFlow w.pipe.closed w.kept w.stop
  pub read : AreRead w.pipe.segment w.pipe.written w.pipe.closed w.pipe.readers w.pumps

-- and once it has flowed
pub record IsPiped (body : List ℕ) (last : Option Status) (w : Piped) : Type 0 where
  pub poured : IsPoured body last w
  pub full : IsFull w.kept w.pipe
  pub closed : w.pipe.closed ≡ closed_of w.kept w.stop
