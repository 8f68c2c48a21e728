-- A read that is enabled lowers what is left, and one that is not changes nothing.
use Rattle.std.proofs.Common.{◌≡◌, ℕ, zero, suc, ◌+◌, ◌-◌, ◌<◌, ◌≤◌, Bool, true, false, List, [], ◌∷◌, length, take, drop, Option, Some, None, refl, sym, ap, ◌∙◌, arith, if◌then◌else◌}
use Rattle.std.specs.Prelude.{slice_get, slice_set}
use Rattle.std.proofs.lemmas.List.{length-append, length-take, length-drop}
use Rattle.nk_base.specs.declared.status.Status.{Status}
use Rattle.nk_pipe.specs.Pipe.{Pipe, numbered, read_from}
use Rattle.nk_pump.specs.Stream.{StreamEnd, Open, Good, Failed}
use Rattle.nk_pump.specs.Shown.{Shown, shown_of, read_turn, turned, turned_by, answer_by}
use Rattle.nk_sink.specs.Listener.{Piped, end_of, stream_of, pipe_by, pump_of, read_by, has_done, turn_enabled, stop_left, pump_left, pumps_left, left_at, flowed}
use Rattle.nk_sink.specs.Held.{IsRead, IsPoured, IsPiped}
use Rattle.nk_sink.proofs.Flowing.{flowed_same}
use Rattle.nk_sink.proofs.Turning.{ReaderOf, reader_of, reader_at_index, pump_at, set_reader, set_pump, stands, read_is}

-- the stream of an open reader
pub stream_is : (p : Pipe) (i start position : ℕ) → slice_get p.readers i ≡ Some (record { start = start; position = position; closed = None }) → stream_of (suc i) p ≡ record { left = drop position p.written; end = end_of p.closed; closed = false }
stream_is p i start position get = rw (reader_at_index p.readers i ∙ get) refl

-- a read that waits finds nothing, and moves nobody
pub waits : (left : List ℕ) (end : StreamEnd) → has_done (read_turn left end) ≡ false → (left ≡ []) × (end ≡ Open)
waits [] Open is = (refl, refl)
waits [] Good is = absurd (cc (is))
waits [] (Failed s) is = absurd (cc (is))
waits (b ∷ bs) end is = absurd (cc (is))

stays : (p : Pipe) (i size start position : ℕ) → slice_get p.readers i ≡ Some (record { start = start; position = position; closed = None }) → drop position p.written ≡ [] → read_from (numbered p.readers (suc i)) (suc i) size p ≡ p
stays p i size start position get none =
    let same : suc i - 1 ≡ i = omega arith in
    let at : position + length (take size (drop position p.written)) ≡ position = rw none (stands position size) in
    rw (reader_at_index p.readers i ∙ get, same, at, set_reader p.readers i (record { start = start; position = position; closed = None }) get) refl

idle_by : (w : Piped) (i : ℕ) (s : Shown) (stop : Option Status) (started : Bool) (cancelled : Option Status) → ReaderOf w.pipe.segment w.pipe.written w.pipe.closed w.pipe.readers i s
    → has_done (answer_by stop started cancelled (stream_of (suc i) w.pipe)) ≡ false
    → (pipe_by stop started cancelled s.size (suc i) w.pipe ≡ w.pipe) × (turned_by stop started cancelled s (stream_of (suc i) w.pipe) ≡ s)
idle_by w i s (Some t) started cancelled of is = (refl, refl)
idle_by w i s None false cancelled of is = absurd (cc (is))
idle_by w i s None true (Some q) of is = absurd (cc (is))
idle_by w i s None true None of is =
    let stream = stream_is w.pipe i of.start of.position of.get in
    let none = waits (drop of.position w.pipe.written) (end_of w.pipe.closed) (rw stream at is) in
    (stays w.pipe i s.size of.start of.position of.get none.0, rw (stream, none.0, none.1) refl)

idle_at : (body : List ℕ) (last : Option Status) (w : Piped) (i : ℕ) (o : Option Shown) → slice_get w.pumps i ≡ o → IsPiped body last w → turn_enabled o (suc i) w.pipe ≡ false → read_by o (suc i) w ≡ w
idle_at body last w i None get is idle = refl
idle_at body last w i (Some s) get is idle =
    let of = reader_of w.pipe.segment w.pipe.written w.pipe.closed w.pipe.readers w.pumps i s is.poured.read get in
    let same : suc i - 1 ≡ i = omega arith in
    let both = idle_by w i s s.stop s.started s.cancelled of idle in
    let pumps : slice_set w.pumps (suc i - 1) (turned s (stream_of (suc i) w.pipe)) ≡ w.pumps = ap (λ j. slice_set w.pumps j (turned s (stream_of (suc i) w.pipe))) same ∙ ap (λ t. slice_set w.pumps i t) both.1 ∙ set_pump w.pumps i s get in
    ap (λ (p : Pipe). flowed (record w { pipe = p; pumps = slice_set w.pumps (suc i - 1) (turned s (stream_of (suc i) w.pipe)) })) both.0
    ∙ ap (λ (ss : List Shown). flowed (record w { pumps = ss })) pumps
    ∙ flowed_same body last w is

pub read_idle : (body : List ℕ) (last : Option Status) (w : Piped) (reader : ℕ) → IsPiped body last w → turn_enabled (pump_of w.pumps reader) reader w.pipe ≡ false → read_by (pump_of w.pumps reader) reader w ≡ w
read_idle body last w zero is idle = refl
read_idle body last w (suc i) is idle =
    rw (pump_at w.pumps i) (idle_at body last w i (slice_get w.pumps i) refl is (rw (pump_at w.pumps i) at idle))

-- a read that shows something lowers what its pump has still to show
lowers_by : (size : ℕ) (w : Piped) (left : List ℕ) (start position : ℕ) (s : Shown) (end : StreamEnd) → s.stop ≡ None → IsRead w.pipe.segment w.pipe.written w.pipe.closed (record { start = start; position = position; closed = None }) s → 1 ≤ w.pipe.segment → length w.pipe.written ≤ size
    → drop position w.pipe.written ≡ left → has_done (read_turn left end) ≡ true → pump_left size (shown_of left end s) < pump_left size s
lowers_by size w [] start position s Open none read least fits is done = absurd (cc (done))
lowers_by size w [] start position s Good none read least fits is done =
    let one : stop_left s.stop ≡ 1 = rw none refl in omega (arith, one)
lowers_by size w [] start position s (Failed t) none read least fits is done =
    let one : stop_left s.stop ≡ 1 = rw none refl in omega (arith, one)
lowers_by size w (b ∷ bs) start position s end none read least fits is done =
    omega (
      arith,
      length-append s.bytes (take s.size (b ∷ bs)),
      length-take s.size (b ∷ bs),
      length-drop position w.pipe.written,
      ap (λ (xs : List ℕ). length xs) is,
      ap (λ (xs : List ℕ). length xs) read.bytes,
      length-take position w.pipe.written,
      read.most,
      read.size,
      least,
      fits,
    )

lowers_turn : (size : ℕ) (w : Piped) (i : ℕ) (s : Shown) (stop : Option Status) (started : Bool) (cancelled : Option Status) → s.stop ≡ stop → s.started ≡ started → s.cancelled ≡ cancelled
    → ReaderOf w.pipe.segment w.pipe.written w.pipe.closed w.pipe.readers i s → 1 ≤ w.pipe.segment → length w.pipe.written ≤ size → has_done (answer_by stop started cancelled (stream_of (suc i) w.pipe)) ≡ true
    → pump_left size (turned_by stop started cancelled s (stream_of (suc i) w.pipe)) < pump_left size s
lowers_turn size w i s (Some t) started cancelled st on ca of least fits done = absurd (cc (done))
lowers_turn size w i s None false cancelled st on ca of least fits done =
    let one : ◌≡◌ {A = ℕ} (if s.started then 0 else 1) 1 = rw on refl in omega (arith, one)
lowers_turn size w i s None true (Some q) st on ca of least fits done = absurd (cc (ca, of.read.free))
lowers_turn size w i s None true None st on ca of least fits done =
    let stream = stream_is w.pipe i of.start of.position of.get in
    rw stream (lowers_by size w (drop of.position w.pipe.written) of.start of.position s (end_of w.pipe.closed) st of.read least fits refl (rw stream at done))

pumps_left_set : (size : ℕ) (ss : List Shown) (i : ℕ) (s t : Shown) → slice_get ss i ≡ Some s → pumps_left size (slice_set ss i t) + pump_left size s ≡ pumps_left size ss + pump_left size t
pumps_left_set size [] i s t get = absurd (cc (get))
pumps_left_set size (q ∷ ss) zero s t get = let same : q ≡ s = cc (get) in rw same (omega arith)
pumps_left_set size (q ∷ ss) (suc i) s t get = omega (arith, pumps_left_set size ss i s t get)

size_is : (body : List ℕ) (last : Option Status) (w : Piped) → IsPoured body last w → length w.pipe.written + length w.kept ≡ length body
size_is body last w is =
    sym (length-append w.pipe.written w.kept) ∙ ap (λ (xs : List ℕ). length xs) is.all

left_is : (body : List ℕ) (last : Option Status) (w : Piped) → IsPoured body last w → left_at (Some w) ≡ pumps_left (length body) w.pumps
left_is body last w is = ap (λ n. pumps_left n w.pumps) (size_is body last w is)

lowers_at : (body : List ℕ) (last : Option Status) (w : Piped) (i : ℕ) (o : Option Shown) → slice_get w.pumps i ≡ o → IsPiped body last w → IsPiped body last (read_by o (suc i) w) → turn_enabled o (suc i) w.pipe ≡ true
    → left_at (Some (read_by o (suc i) w)) < left_at (Some w)
lowers_at body last w i None get is new done = absurd (cc (done))
lowers_at body last w i (Some s) get is new done =
    let of = reader_of w.pipe.segment w.pipe.written w.pipe.closed w.pipe.readers w.pumps i s is.poured.read get in
    let same : suc i - 1 ≡ i = omega arith in
    let fits : length w.pipe.written ≤ length body = omega (arith, size_is body last w is.poured) in
    let one = lowers_turn (length body) w i s s.stop s.started s.cancelled refl refl refl of is.poured.segment fits done in
    let sum = pumps_left_set (length body) w.pumps i s (turned s (stream_of (suc i) w.pipe)) get in
    let now : pumps_left (length body) (slice_set w.pumps (suc i - 1) (turned s (stream_of (suc i) w.pipe))) ≡ pumps_left (length body) (slice_set w.pumps i (turned s (stream_of (suc i) w.pipe))) = ap (λ j. pumps_left (length body) (slice_set w.pumps j (turned s (stream_of (suc i) w.pipe)))) same in
    omega (arith, left_is body last w is.poured, left_is body last (read_by (Some s) (suc i) w) new.poured, one, sum, now)

pub read_lowers : (body : List ℕ) (last : Option Status) (w : Piped) (reader : ℕ) → IsPiped body last w → turn_enabled (pump_of w.pumps reader) reader w.pipe ≡ true → left_at (Some (read_by (pump_of w.pumps reader) reader w)) < left_at (Some w)
read_lowers body last w zero is done = absurd (cc (done))
read_lowers body last w (suc i) is done =
    rw (pump_at w.pumps i) (lowers_at body last w i (slice_get w.pumps i) refl is (rw (pump_at w.pumps i) at (read_is body last w (suc i) is)) (rw (pump_at w.pumps i) at done))
