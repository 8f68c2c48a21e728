-- The pump model: what a pump shows, turn by turn. After Firefox's nsInputStreamPump; that the stream is closed only at a
-- later turn than the cancel is this project's own.
use Rattle.std.specs.Prelude.{ℕ, ◌≡◌, ◌≤◌, Bool, true, false, List, [], ◌∷◌, ◌++◌, take, Option, Some, None}
use Rattle.nk_base.specs.declared.status.Status.{Status}
use Rattle.nk_base.specs.Status.{ok, is_failure}
use Rattle.nk_pump.specs.declared.pump.Turn.{Turn}
use Rattle.nk_pump.specs.declared.pump.Turn.TheVariants.{Did, Waiting, Dead}
use Rattle.nk_pump.specs.Stream.{Stream, StreamEnd, Open, Good, Failed, read_leaves, closed_with}

-- what a pump has shown, the size of its buffer, and the first cancel
pub record Shown : Type 0 where
  pub size : ℕ
  pub started : Bool
  pub bytes : List ℕ
  pub stop : Option Status
  pub cancelled : Option Status

abbrev pub nothing_shown : ℕ → Shown
nothing_shown size = record { size = size; started = false; bytes = []; stop = None; cancelled = None }

abbrev pub stopped : Status → Shown → Shown
stopped s p = record p { stop = Some s }

-- a read shows the bytes that it gave, or the end
abbrev pub shown_of : List ℕ → StreamEnd → Shown → Shown
shown_of [] Open p = p
shown_of [] Good p = stopped ok p
shown_of [] (Failed s) p = stopped s p
shown_of (b ∷ bs) e p = record p { bytes = p.bytes ++ take p.size (b ∷ bs) }

abbrev pub read_turn : List ℕ → StreamEnd → Turn
read_turn [] Open = Waiting
read_turn [] Good = Did
read_turn [] (Failed s) = Did
read_turn (b ∷ bs) e = Did

-- A turn, by whether the stop has been, whether the start has, and whether there was a cancel: nothing follows the stop,
-- the start comes before all else, and behind a cancel the stop, at which the stream is closed

abbrev pub turned_by : Option Status → Bool → Option Status → Shown → Stream → Shown
turned_by (Some s) started cancelled p from = p
turned_by None false cancelled p from = record p { started = true }
turned_by None true (Some q) p from = stopped q p
turned_by None true None p from = shown_of from.left from.end p

abbrev pub turned : Shown → Stream → Shown
turned p from = turned_by p.stop p.started p.cancelled p from

abbrev pub leaves_by : Option Status → Bool → Option Status → ℕ → Stream → Stream
leaves_by (Some s) started cancelled size from = from
leaves_by None false cancelled size from = from
leaves_by None true (Some q) size from = closed_with q from
leaves_by None true None size from = read_leaves size from

-- what a turn leaves of the stream
abbrev pub turn_leaves : Shown → Stream → Stream
turn_leaves p from = leaves_by p.stop p.started p.cancelled p.size from

abbrev pub answer_by : Option Status → Bool → Option Status → Stream → Turn
answer_by (Some s) started cancelled from = Dead
answer_by None false cancelled from = Did
answer_by None true (Some q) from = Did
answer_by None true None from = read_turn from.left from.end

abbrev pub turn_answer : Shown → Stream → Turn
turn_answer p from = answer_by p.stop p.started p.cancelled from

-- the first cancel is kept, and after the stop none
abbrev pub cancelled_by : Option Status → Option Status → Status → Option Status
cancelled_by (Some s) kept status = kept
cancelled_by None (Some q) status = Some q
cancelled_by None None status = Some status

abbrev pub cancelled : Status → Shown → Shown
cancelled status p = record p { cancelled = cancelled_by p.stop p.cancelled status }

-- what the type keeps: the size of the buffer, that a cancel is a failure, and that nothing comes before the start
abbrev pub IsFailureIfAny : Option Status → Type 0
IsFailureIfAny None = Unit {0}
IsFailureIfAny (Some s) = is_failure s ≡ true

pub record IsShown (p : Shown) : Type 0 where
  pub least : 1 ≤ p.size
  pub most : p.size ≤ 65536
  pub failure : IsFailureIfAny p.cancelled
  pub no_bytes_before : p.started ≡ false → p.bytes ≡ []
  pub no_stop_before : p.started ≡ false → p.stop ≡ None
