-- Where no read is enabled, each pump has shown the whole body, and the stop where there was one.
use Rattle.std.proofs.Common.{◌≡◌, ℕ, zero, suc, ◌+◌, ◌-◌, ◌*◌, ◌/◌, ◌<◌, ◌≤◌, ◌==◌, ◌||◌, Bool, true, false, List, [], ◌∷◌, ◌++◌, length, drop, replicate, Option, Some, None, refl, sym, ap, ◌∙◌, arith, if◌then◌else◌}
use Rattle.std.specs.Prelude.{slice_get}
use Rattle.std.proofs.lemmas.List.{length-drop, append-nil, take_all}
use Rattle.std.proofs.lemmas.Nat.{mul-le}
use native.Mathlib.Nat.{div-add-mod', mod-lt}
use Rattle.nk_base.specs.declared.status.Status.{Status}
use Rattle.nk_base.specs.Status.{ok, stream_closed}
use Rattle.nk_pipe.specs.Pipe.{Pipe, Reader, greatest, room}
use Rattle.nk_pump.specs.Stream.{Open, Good, Failed}
use Rattle.nk_pump.specs.Shown.{Shown, answer_by}
use Rattle.nk_sink.specs.Listener.{Piped, end_of, stream_of, has_done, turn_enabled, piped_enabled, ends_by}
use Rattle.nk_plan.specs.Readers.{status_behind}
use Rattle.nk_sink.specs.Held.{ended, AreRead, closed_of, IsPiped}
use Rattle.nk_sink.proofs.Turning.{ReaderOf, reader_of, pump_at}
use Rattle.nk_sink.proofs.Lowering.{stream_is, waits}

open_by : (t : Status) (b : Bool) → (if b then Good else Failed t) ≡ Open → ⊥
open_by t true is = absurd (cc (is))
open_by t false is = absurd (cc (is))

open_is : (closed : Option Status) → end_of closed ≡ Open → closed ≡ None
open_is None is = refl
open_is (Some t) is = absurd (open_by t (t.0 == stream_closed.0) is)

-- a pump that has nothing to do
pub record IsQuiet (p : Pipe) (s : Shown) (position : ℕ) : Type 0 where
  pub end : position ≡ length p.written
  pub stop : s.stop ≡ ended p.closed

quiet_by : (w : Piped) (i : ℕ) (s : Shown) (stop : Option Status) (started : Bool) (cancelled : Option Status) → s.stop ≡ stop
    → (of : ReaderOf w.pipe.segment w.pipe.written w.pipe.closed w.pipe.readers i s) → has_done (answer_by stop started cancelled (stream_of (suc i) w.pipe)) ≡ false → IsQuiet w.pipe s of.position
quiet_by w i s (Some t) started cancelled st of is =
    let stop = rw st at of.read.stop in record { end = stop.0; stop = st ∙ sym stop.1 }
quiet_by w i s None false cancelled st of is = absurd (cc (is))
quiet_by w i s None true (Some q) st of is = absurd (cc (is))
quiet_by w i s None true None st of is =
    let stream = stream_is w.pipe i of.start of.position of.get in
    let none = waits (drop of.position w.pipe.written) (end_of w.pipe.closed) (rw stream at is) in
    record {
      end = omega (arith, of.read.most, length-drop of.position w.pipe.written, ap (λ (xs : List ℕ). length xs) none.0);
      stop = st ∙ sym (ap ended (open_is w.pipe.closed none.1));
    }

get_below : (ss : List Shown) (i : ℕ) (s : Shown) → slice_get ss i ≡ Some s → i < length ss
get_below [] i s get = absurd (cc (get))
get_below (t ∷ ss) zero s get = omega arith
get_below (t ∷ ss) (suc i) s get = omega (arith, get_below ss i s get)

abbrev IsIdle : Piped → Type 0
IsIdle w = (reader : ℕ) → 1 ≤ reader → reader ≤ 8 → piped_enabled reader (Some w) ≡ false

quiet : (w : Piped) (i : ℕ) (s : Shown) → length w.pumps ≤ 8 → IsIdle w → slice_get w.pumps i ≡ Some s → (of : ReaderOf w.pipe.segment w.pipe.written w.pipe.closed w.pipe.readers i s) → IsQuiet w.pipe s of.position
quiet w i s few idle get of =
    let none : turn_enabled (slice_get w.pumps i) (suc i) w.pipe ≡ false = rw (pump_at w.pumps i) at (idle (suc i) (omega arith) (omega (arith, few, get_below w.pumps i s get))) in
    quiet_by w i s s.stop s.started s.cancelled refl of (rw get at none)

-- a reader that has read all makes room
roomy : (segment limit : ℕ) (written : List ℕ) (start : ℕ) (rs : List Reader) → 1 ≤ segment → 1 ≤ limit
    → (greatest (record { start = start; position = length written; closed = None } ∷ rs) / segment + limit) * segment - length written ≡ 0 → ⊥
roomy segment limit written start rs a b is =
    let far : ℕ = greatest (record { start = start; position = length written; closed = None } ∷ rs) in
    absurd (omega (arith, is, div-add-mod' (greatest (record { start = start; position = length written; closed = None } ∷ rs)) segment, mod-lt (greatest (record { start = start; position = length written; closed = None } ∷ rs)) a, mul-le 1 segment limit segment b (omega arith)))

first_by : (readers : List Reader) (segment limit start position : ℕ) (written : List ℕ) → slice_get readers 0 ≡ Some (record { start = start; position = position; closed = None }) → position ≡ length written → 1 ≤ segment → 1 ≤ limit
    → (greatest readers / segment + limit) * segment - length written ≡ 0 → ⊥
first_by [] segment limit start position written get end a b is = absurd (cc (get))
first_by (r ∷ rs) segment limit start position written get end a b is =
    let same : r ≡ record { start = start; position = length written; closed = None } = cc (get, end) in
    roomy segment limit written start rs a b (rw same at is)

pump_zero : (segment : ℕ) (written : List ℕ) (closed : Option Status) (rs : List Reader) (ss : List Shown) → AreRead segment written closed rs ss → 1 ≤ length rs → (s : Shown) × (slice_get ss 0 ≡ Some s)
pump_zero segment written closed [] ss are some = absurd (omega (arith, some))
pump_zero segment written closed (r ∷ rs) [] are some = absurd are
pump_zero segment written closed (r ∷ rs) (s ∷ ss) are some = (s, refl)

kept_by : (body : List ℕ) (last : Option Status) (w : Piped) (kept : List ℕ) → w.kept ≡ kept → IsPiped body last w → length w.pumps ≤ 8 → IsIdle w → w.kept ≡ []
kept_by body last w [] at is few idle = at
kept_by body last w (b ∷ bs) at is few idle =
    let pump = pump_zero w.pipe.segment w.pipe.written w.pipe.closed w.pipe.readers w.pumps is.poured.read is.poured.some in
    let of = reader_of w.pipe.segment w.pipe.written w.pipe.closed w.pipe.readers w.pumps 0 pump.0 is.poured.read pump.1 in
    let full : room w.pipe ≡ 0 = rw at at is.full in
    absurd (first_by w.pipe.readers w.pipe.segment w.pipe.limit of.start of.position w.pipe.written of.get (quiet w 0 pump.0 few idle pump.1 of).end is.poured.segment is.poured.limit full)

ends_are : (ss : List Shown) (bytes : List ℕ) (status : Option Status) → ((i : ℕ) (s : Shown) → slice_get ss i ≡ Some s → (s.bytes ≡ bytes) × (s.stop ≡ status)) → ends_by ss ≡ replicate (length ss) (record { bytes = bytes; status = status })
ends_are [] bytes status each = refl
ends_are (s ∷ ss) bytes status each =
    let first = each 0 s refl in
    let rest = ends_are ss bytes status (λ i t get. each (suc i) t get) in
    rw (first.0, first.1, rest) refl

ended_by : (t : Status) (b : Bool) → ended (Some (if b then stream_closed else t)) ≡ Some (if b || (t.0 == stream_closed.0) then ok else t)
ended_by t true = refl
ended_by t false = refl

ended_is : (last : Option Status) → ended (closed_of [] last) ≡ status_behind last
ended_is None = refl
ended_is (Some t) = ended_by t (t.0 == 0)

pub drained_is : (body : List ℕ) (last : Option Status) (w : Piped) → IsPiped body last w → length w.pumps ≤ 8 → IsIdle w
    → ends_by w.pumps ≡ replicate (length w.pumps) (record { bytes = body; status = status_behind last })
drained_is body last w is few idle =
    let none = kept_by body last w w.kept refl is few idle in
    let whole : w.pipe.written ≡ body = sym (append-nil w.pipe.written) ∙ ap (λ xs. w.pipe.written ++ xs) (sym none) ∙ is.poured.all in
    let closes : ended w.pipe.closed ≡ status_behind last = ap ended (is.closed ∙ ap (λ xs. closed_of xs w.stop) none ∙ ap (λ o. closed_of [] o) is.poured.stop) ∙ ended_is last in
    ends_are w.pumps body (status_behind last) (λ i s get.
    let of = reader_of w.pipe.segment w.pipe.written w.pipe.closed w.pipe.readers w.pumps i s is.poured.read get in
    let q = quiet w i s few idle get of in
    (of.read.bytes ∙ take_all of.position w.pipe.written (omega (arith, q.end)) ∙ whole, q.stop ∙ closes))
