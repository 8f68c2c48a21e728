-- A turn of a reader's pump: what it has shown stays what its reader has read.
use Rattle.std.proofs.Common.{◌≡◌, ℕ, zero, suc, ◌+◌, ◌-◌, ◌≤◌, ◌==◌, Bool, true, false, List, [], ◌∷◌, ◌++◌, length, take, drop, Option, Some, None, refl, sym, ap, subst, ◌∙◌, arith, if◌then◌else◌}
use Rattle.std.specs.Prelude.{slice_get, slice_set}
use Rattle.std.proofs.lemmas.List.{length-take, length-drop, take_all, take_min}
use Rattle.std.proofs.lemmas.Bool.Decides.{nat_tests}
use Rattle.nk_base.specs.declared.status.Status.{Status}
use Rattle.nk_base.specs.Status.{stream_closed}
use Rattle.nk_pipe.specs.Pipe.{Reader, numbered}
use Rattle.nk_pump.specs.Stream.{Good, Failed}
use Rattle.nk_pump.specs.Shown.{Shown, shown_of, turned, turned_by}
use Rattle.nk_sink.specs.Listener.{Piped, end_of, stream_of, pipe_by, pipe_behind, pump_of, read_by}
use Rattle.nk_sink.specs.Held.{IsRead, AreRead, IsPoured, IsPiped}
use Rattle.nk_sink.proofs.Flowing.{flows}

-- the reader and the pump of a number, which stand at the index below it
pub pump_at : (ss : List Shown) (i : ℕ) → pump_of ss (suc i) ≡ slice_get ss i
pump_at ss i =
    let some : suc i == 0 ≡ false = grind (arith, nat_tests) in
    let same : suc i - 1 ≡ i = omega arith in rw (some, same) refl

pub reader_at_index : (rs : List Reader) (i : ℕ) → numbered rs (suc i) ≡ slice_get rs i
reader_at_index rs i =
    let some : suc i == 0 ≡ false = grind (arith, nat_tests) in
    let same : suc i - 1 ≡ i = omega arith in rw (some, same) refl

-- the open reader of a pump
pub record ReaderOf (segment : ℕ) (written : List ℕ) (closed : Option Status) (rs : List Reader) (i : ℕ) (s : Shown) : Type 0 where
  pub start : ℕ
  pub position : ℕ
  pub get : slice_get rs i ≡ Some (record { start = start; position = position; closed = None })
  pub read : IsRead segment written closed (record { start = start; position = position; closed = None }) s

reader_by : (segment : ℕ) (written : List ℕ) (closed : Option Status) (r : Reader) (rs : List Reader) (s : Shown) → IsRead segment written closed r s → ReaderOf segment written closed (r ∷ rs) zero s
reader_by segment written closed r rs s is =
    let same : r ≡ record { start = r.start; position = r.position; closed = None } = ap (λ (o : Option Status). let q : Reader = record { start = r.start; position = r.position; closed = o } in q) is.opens in
    record {
      start = r.start;
      position = r.position;
      get = ap (λ (q : Reader). Some q) same;
      read = subst (λ (q : Reader). IsRead segment written closed q s) same is;
    }

pub reader_of : (segment : ℕ) (written : List ℕ) (closed : Option Status) (rs : List Reader) (ss : List Shown) (i : ℕ) (s : Shown) → AreRead segment written closed rs ss → slice_get ss i ≡ Some s → ReaderOf segment written closed rs i s
reader_of segment written closed [] [] i s are get = absurd (cc (get))
reader_of segment written closed [] (t ∷ ss) i s are get = absurd are
reader_of segment written closed (r ∷ rs) [] i s are get = absurd are
reader_of segment written closed (r ∷ rs) (t ∷ ss) zero s are get =
    let same : t ≡ s = cc (get) in
    reader_by segment written closed r rs s (subst (λ (q : Shown). IsRead segment written closed r q) same are.0)
reader_of segment written closed (r ∷ rs) (t ∷ ss) (suc i) s are get =
    let of = reader_of segment written closed rs ss i s are.1 get in
    record { start = of.start; position = of.position; get = of.get; read = of.read }

-- one reader and its pump move
are_set : (segment : ℕ) (written : List ℕ) (closed : Option Status) (rs : List Reader) (ss : List Shown) (i : ℕ) (r : Reader) (s : Shown) → AreRead segment written closed rs ss → IsRead segment written closed r s → AreRead segment written closed (slice_set rs i r) (slice_set ss i s)
are_set segment written closed [] [] i r s are is = tt
are_set segment written closed [] (t ∷ ss) i r s are is = absurd are
are_set segment written closed (q ∷ rs) [] i r s are is = absurd are
are_set segment written closed (q ∷ rs) (t ∷ ss) zero r s are is = (is, are.1)
are_set segment written closed (q ∷ rs) (t ∷ ss) (suc i) r s are is =
    (are.0, are_set segment written closed rs ss i r s are.1 is)

pub set_reader : (rs : List Reader) (i : ℕ) (r : Reader) → slice_get rs i ≡ Some r → slice_set rs i r ≡ rs
set_reader [] i r is = refl
set_reader (q ∷ rs) zero r is = let same : q ≡ r = cc (is) in rw same refl
set_reader (q ∷ rs) (suc i) r is = ap (λ xs. q ∷ xs) (set_reader rs i r is)

pub set_pump : (ss : List Shown) (i : ℕ) (s : Shown) → slice_get ss i ≡ Some s → slice_set ss i s ≡ ss
set_pump [] i s is = refl
set_pump (t ∷ ss) zero s is = let same : t ≡ s = cc (is) in rw same refl
set_pump (t ∷ ss) (suc i) s is = ap (λ xs. t ∷ xs) (set_pump ss i s is)

length_set : (rs : List Reader) (i : ℕ) (r : Reader) → length (slice_set rs i r) ≡ length rs
length_set [] i r = refl
length_set (q ∷ rs) zero r = refl
length_set (q ∷ rs) (suc i) r = omega (arith, length_set rs i r)

-- what a turn makes of one pump of a poured pipe
poured_set : (body : List ℕ) (now : Option Status) (w : Piped) (i : ℕ) (r : Reader) (s : Shown) → IsPoured body now w → IsRead w.pipe.segment w.pipe.written w.pipe.closed r s
    → IsPoured body now (record w { pipe = record w.pipe { readers = slice_set w.pipe.readers i r }; pumps = slice_set w.pumps i s })
poured_set body now w i r s is read = record {
  segment = is.segment;
  limit = is.limit;
  some = omega (arith, is.some, length_set w.pipe.readers i r);
  all = is.all;
  stop = is.stop;
  may = is.may;
  read = are_set w.pipe.segment w.pipe.written w.pipe.closed w.pipe.readers w.pumps i r s is.read read;
}

poured_same : (body : List ℕ) (now : Option Status) (w : Piped) (i : ℕ) (r : Reader) (s : Shown) → IsPoured body now w → slice_get w.pipe.readers i ≡ Some r → IsRead w.pipe.segment w.pipe.written w.pipe.closed r s
    → IsPoured body now (record w { pumps = slice_set w.pumps i s })
poured_same body now w i r s is get read =
    subst (λ (rs : List Reader). IsPoured body now (record w { pipe = record w.pipe { readers = rs }; pumps = slice_set w.pumps i s })) (set_reader w.pipe.readers i r get) (poured_set body now w i r s is read)

take_sum : (n m : ℕ) (xs : List ℕ) → take (n + m) xs ≡ take n xs ++ take m (drop n xs)
take_sum zero m xs = let same : 0 + m ≡ m = omega arith in rw same refl
take_sum (suc n) m [] = let same : suc n + m ≡ suc (n + m) = omega arith in rw (same, take_all m (let xs : List ℕ = [] in xs) (omega arith)) refl
take_sum (suc n) m (x ∷ xs) = let same : suc n + m ≡ suc (n + m) = omega arith in rw same (ap (λ ys. x ∷ ys) (take_sum n m xs))

-- a read that gives bytes
gives : (segment : ℕ) (written : List ℕ) (closed : Option Status) (start position : ℕ) (s : Shown) → s.stop ≡ None → IsRead segment written closed (record { start = start; position = position; closed = None }) s
    → IsRead segment written closed (record { start = start; position = position + length (take s.size (drop position written)); closed = None }) (record s { bytes = s.bytes ++ take s.size (drop position written) })
gives segment written closed start position s none is =
    let left : List ℕ = drop position written in
    let few : take (length (take s.size left)) left ≡ take s.size left = ap (λ n. take n left) (length-take s.size left) ∙ take_min s.size left in
    record {
      opens = refl;
      most = omega (arith, is.most, length-take s.size (drop position written), length-drop position written);
      bytes = ap (λ xs. xs ++ take s.size left) is.bytes ∙ ap (λ xs. take position written ++ xs) (sym few) ∙ sym (take_sum position (length (take s.size left)) written);
      size = is.size;
      free = is.free;
      stop = rw none tt;
    }

-- one that shows the end
at_end : (written : List ℕ) (position : ℕ) → drop position written ≡ [] → position ≤ length written → position ≡ length written
at_end written position none most = omega (arith, most, length-drop position written, ap (λ (xs : List ℕ). length xs) none)

pub stands : (position n : ℕ) → position + length (take n (let xs : List ℕ = [] in xs)) ≡ position
stands position n = rw (take_all n (let xs : List ℕ = [] in xs) (omega arith)) (omega arith)

ends_by : (segment : ℕ) (written : List ℕ) (t : Status) (start position : ℕ) (s : Shown) (b : Bool) → t.0 == stream_closed.0 ≡ b → position ≡ length written → IsRead segment written (Some t) (record { start = start; position = position; closed = None }) s
    → IsRead segment written (Some t) (record { start = start; position = position; closed = None }) (shown_of [] (if b then Good else Failed t) s)
ends_by segment written t start position s true is end read = record {
  opens = refl;
  most = read.most;
  bytes = read.bytes;
  size = read.size;
  free = read.free;
  stop = (end, rw is refl);
}
ends_by segment written t start position s false is end read = record {
  opens = refl;
  most = read.most;
  bytes = read.bytes;
  size = read.size;
  free = read.free;
  stop = (end, rw is refl);
}

ends : (segment : ℕ) (written : List ℕ) (closed : Option Status) (start position : ℕ) (s : Shown) → position ≡ length written → IsRead segment written closed (record { start = start; position = position; closed = None }) s
    → IsRead segment written closed (record { start = start; position = position; closed = None }) (shown_of [] (end_of closed) s)
ends segment written None start position s end is = is
ends segment written (Some t) start position s end is =
    ends_by segment written t start position s (t.0 == stream_closed.0) refl end is

reads_by : (segment : ℕ) (written left : List ℕ) (closed : Option Status) (start position : ℕ) (s : Shown) → drop position written ≡ left → s.stop ≡ None → IsRead segment written closed (record { start = start; position = position; closed = None }) s
    → IsRead segment written closed (record { start = start; position = position + length (take s.size left); closed = None }) (shown_of left (end_of closed) s)
reads_by segment written [] closed start position s is none read =
    rw (stands position s.size) (ends segment written closed start position s (at_end written position is read.most) read)
reads_by segment written (b ∷ bs) closed start position s is none read =
    rw is at (gives segment written closed start position s none read)

pub reads : (segment : ℕ) (written : List ℕ) (closed : Option Status) (start position : ℕ) (s : Shown) → s.stop ≡ None → IsRead segment written closed (record { start = start; position = position; closed = None }) s
    → IsRead segment written closed (record { start = start; position = position + length (take s.size (drop position written)); closed = None }) (shown_of (drop position written) (end_of closed) s)
reads segment written closed start position s none read =
    reads_by segment written (drop position written) closed start position s refl none read

starts : (segment : ℕ) (written : List ℕ) (closed : Option Status) (r : Reader) (s : Shown) → IsRead segment written closed r s → IsRead segment written closed r (record s { started = true })
starts segment written closed r s is = record {
  opens = is.opens;
  most = is.most;
  bytes = is.bytes;
  size = is.size;
  free = is.free;
  stop = is.stop;
}

-- a turn, by what its pump has shown
turns_by : (body : List ℕ) (now : Option Status) (w : Piped) (i : ℕ) (s : Shown) (stop : Option Status) (started : Bool) (cancelled : Option Status) → s.stop ≡ stop → s.cancelled ≡ cancelled → slice_get w.pumps i ≡ Some s → IsPoured body now w
    → (of : ReaderOf w.pipe.segment w.pipe.written w.pipe.closed w.pipe.readers i s)
    → IsPoured body now (record w { pipe = pipe_by stop started cancelled s.size (suc i) w.pipe; pumps = slice_set w.pumps i (turned_by stop started cancelled s (stream_of (suc i) w.pipe)) })
turns_by body now w i s (Some t) started cancelled st ca get is of = poured_same body now w i _ s is of.get of.read
turns_by body now w i s None false cancelled st ca get is of =
    poured_same body now w i _ (record s { started = true }) is of.get (starts w.pipe.segment w.pipe.written w.pipe.closed _ s of.read)
turns_by body now w i s None true (Some q) st ca get is of = absurd (cc (ca, of.read.free))
turns_by body now w i s None true None st ca get is of =
    let name : numbered w.pipe.readers (suc i) ≡ Some (record { start = of.start; position = of.position; closed = None }) = reader_at_index w.pipe.readers i ∙ of.get in
    let same : suc i - 1 ≡ i = omega arith in
    rw (name, same) (poured_set body now w i (record { start = of.start; position = of.position + length (take s.size (drop of.position w.pipe.written)); closed = None }) (shown_of (drop of.position w.pipe.written) (end_of w.pipe.closed) s) is
    (reads w.pipe.segment w.pipe.written w.pipe.closed of.start of.position s st of.read))

pub turns : (body : List ℕ) (now : Option Status) (w : Piped) (i : ℕ) (s : Shown) → slice_get w.pumps i ≡ Some s → IsPoured body now w
    → IsPoured body now (record w { pipe = pipe_behind s (suc i) w.pipe; pumps = slice_set w.pumps i (turned s (stream_of (suc i) w.pipe)) })
turns body now w i s get is =
    turns_by body now w i s s.stop s.started s.cancelled refl refl get is (reader_of w.pipe.segment w.pipe.written w.pipe.closed w.pipe.readers w.pumps i s is.read get)

read_by_is : (body : List ℕ) (now : Option Status) (w : Piped) (i : ℕ) (o : Option Shown) → slice_get w.pumps i ≡ o → IsPiped body now w → IsPiped body now (read_by o (suc i) w)
read_by_is body now w i None get is = is
read_by_is body now w i (Some s) get is =
    let same : suc i - 1 ≡ i = omega arith in
    flows body now _ (subst (λ (j : ℕ). IsPoured body now (record w { pipe = pipe_behind s (suc i) w.pipe; pumps = slice_set w.pumps j (turned s (stream_of (suc i) w.pipe)) })) (sym same) (turns body now w i s get is.poured))

pub read_is : (body : List ℕ) (now : Option Status) (w : Piped) (reader : ℕ) → IsPiped body now w → IsPiped body now (read_by (pump_of w.pumps reader) reader w)
read_is body now w zero is = is
read_is body now w (suc i) is =
    rw (pump_at w.pumps i) (read_by_is body now w i (slice_get w.pumps i) refl is)
