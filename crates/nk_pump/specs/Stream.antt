-- The stream that a pump reads. After Firefox's nsIInputStream in outline.
use Rattle.std.specs.Prelude.{ℕ, min, Bool, true, if◌then◌else◌, List, [], ◌∷◌, length, drop}
use Rattle.nk_base.specs.declared.status.Status.{Status}
use Rattle.nk_pump.specs.declared.stream.Read.{Read}
use Rattle.nk_pump.specs.declared.stream.Read.TheVariants as read

-- how a stream ends: not yet, well, or with a status
pub data StreamEnd : Type 0 where
  Open : StreamEnd
  Good : StreamEnd
  Failed : Status → StreamEnd

-- the bytes that are left to read, the end behind them, and whether its reader closed it
pub record Stream : Type 0 where
  pub left : List ℕ
  pub end : StreamEnd
  pub closed : Bool

-- what a read into a buffer of this size answers: the bytes that are left go first, and then the end
abbrev pub answer_of : ℕ → List ℕ → StreamEnd → Read
answer_of size [] Open = read.WouldBlock
answer_of size [] Good = read.End
answer_of size [] (Failed s) = read.Failed s
answer_of size (b ∷ bs) e = read.Read (min size (length (b ∷ bs)))

abbrev pub read_answer : ℕ → Stream → Read
read_answer size s = answer_of size s.left s.end

-- what a read leaves
abbrev pub read_leaves : ℕ → Stream → Stream
read_leaves size s = record s { left = drop size s.left }

-- a stream that its reader has closed, with this status; the first close is kept
abbrev pub closed_with : Status → Stream → Stream
closed_with status s = if s.closed then s else record { left = []; end = Failed status; closed = true }
