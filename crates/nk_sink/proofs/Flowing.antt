-- What is kept flows: all stays as it has to be.
use Rattle.std.proofs.Common.{◌≡◌, ℕ, zero, suc, ◌+◌, ◌-◌, ◌*◌, ◌/◌, ◌≤◌, List, [], ◌∷◌, ◌++◌, length, take, drop, replicate, Option, Some, None, refl, sym, ap, ◌∙◌, arith}
use Rattle.std.proofs.lemmas.List.{length-append, length-take, length-drop, length-replicate, append_assoc, append-nil, take-append-drop, take-append-le, take_all}
use Rattle.nk_base.specs.declared.status.Status.{Status}
use Rattle.nk_pipe.specs.Pipe.{Pipe, Reader, reader_at, greatest, room}
use Rattle.nk_pump.specs.Shown.{Shown, nothing_shown}
use Rattle.nk_sink.specs.Listener.{Piped, new_piped, closed_behind, flowed}
use Rattle.nk_sink.specs.Held.{IsStopped, IsRead, AreRead, closed_of, IsPoured, IsPiped}

-- while the pipe is open no pump has stopped
none_stopped : (o closed : Option Status) (p n m : ℕ) → IsStopped o None p n → IsStopped o closed p m
none_stopped None closed p n m is = tt
none_stopped (Some s) closed p n m is = absurd (cc (is.1))

-- more is written, and the pipe may close
read_more : (segment : ℕ) (written more : List ℕ) (closed : Option Status) (r : Reader) (s : Shown) → IsRead segment written None r s → IsRead segment (written ++ more) closed r s
read_more segment written more closed r s is = record {
  opens = is.opens;
  most = omega (arith, is.most, length-append written more);
  bytes = is.bytes ∙ sym (take-append-le r.position written more is.most);
  size = is.size;
  free = is.free;
  stop = none_stopped s.stop closed r.position (length written) (length (written ++ more)) is.stop;
}

are_more : (segment : ℕ) (written more : List ℕ) (closed : Option Status) (rs : List Reader) (ss : List Shown) → AreRead segment written None rs ss → AreRead segment (written ++ more) closed rs ss
are_more segment written more closed [] [] are = tt
are_more segment written more closed [] (s ∷ ss) are = are
are_more segment written more closed (r ∷ rs) [] are = are
are_more segment written more closed (r ∷ rs) (s ∷ ss) are =
    (read_more segment written more closed r s are.0, are_more segment written more closed rs ss are.1)

abbrev pipe_of : ℕ → ℕ → List ℕ → List Reader → Option Status → Pipe
pipe_of segment limit written readers closed =
    record { segment = segment; limit = limit; written = written; readers = readers; closed = closed }

abbrev piped_of : Pipe → List ℕ → Option Status → List Shown → Piped
piped_of pipe kept stop pumps = record { pipe = pipe; kept = kept; stop = stop; pumps = pumps }

whole_is : (written kept rest body : List ℕ) (n : ℕ) → drop n kept ≡ rest → written ++ kept ≡ body → (written ++ take n kept) ++ rest ≡ body
whole_is written kept rest body n is all =
    append_assoc written (take n kept) rest ∙ ap (λ xs. written ++ (take n kept ++ xs)) (sym is) ∙ ap (λ xs. written ++ xs) (take-append-drop n kept) ∙ all

no_room : (most : ℕ) (written kept bs : List ℕ) (b : ℕ) → drop (most - length written) kept ≡ b ∷ bs → most - length (written ++ take (most - length written) kept) ≡ 0
no_room most written kept bs b is =
    omega (arith, length-append written (take (most - length written) kept), length-take (most - length written) kept, length-drop (most - length written) kept, ap (λ (xs : List ℕ). length xs) is)

-- an open pipe takes what fits
open_flows : (body : List ℕ) (now : Option Status) (segment limit : ℕ) (written : List ℕ) (readers : List Reader) (kept rest : List ℕ) (stop : Option Status) (pumps : List Shown)
    → IsPoured body now (piped_of (pipe_of segment limit written readers None) kept stop pumps) → drop (room (pipe_of segment limit written readers None)) kept ≡ rest
    → IsPiped body now (piped_of (closed_behind rest stop (pipe_of segment limit (written ++ take (room (pipe_of segment limit written readers None)) kept) readers None)) rest stop pumps)
open_flows body now segment limit written readers kept (b ∷ bs) stop pumps is rest = record {
  poured = record {
    segment = is.segment;
    limit = is.limit;
    some = is.some;
    all = whole_is written kept (b ∷ bs) body (room (pipe_of segment limit written readers None)) rest is.all;
    stop = is.stop;
    may = tt;
    read = are_more segment written (take (room (pipe_of segment limit written readers None)) kept) None readers pumps is.read;
  };
  full = no_room ((greatest readers / segment + limit) * segment) written kept bs b rest;
  closed = refl;
}
open_flows body now segment limit written readers kept [] None pumps is rest = record {
  poured = record {
    segment = is.segment;
    limit = is.limit;
    some = is.some;
    all = whole_is written kept [] body (room (pipe_of segment limit written readers None)) rest is.all;
    stop = is.stop;
    may = tt;
    read = are_more segment written (take (room (pipe_of segment limit written readers None)) kept) None readers pumps is.read;
  };
  full = tt;
  closed = refl;
}
open_flows body now segment limit written readers kept [] (Some s) pumps is rest = record {
  poured = record {
    segment = is.segment;
    limit = is.limit;
    some = is.some;
    all = whole_is written kept [] body (room (pipe_of segment limit written readers None)) rest is.all;
    stop = is.stop;
    may = refl;
    read = are_more segment written (take (room (pipe_of segment limit written readers None)) kept) (closed_of [] (Some s)) readers pumps is.read;
  };
  full = tt;
  closed = refl;
}

flows_by : (body : List ℕ) (now : Option Status) (segment limit : ℕ) (written : List ℕ) (readers : List Reader) (closed : Option Status) (kept : List ℕ) (stop : Option Status) (pumps : List Shown)
    → IsPoured body now (piped_of (pipe_of segment limit written readers closed) kept stop pumps) → IsPiped body now (flowed (piped_of (pipe_of segment limit written readers closed) kept stop pumps))
flows_by body now segment limit written readers None kept stop pumps is =
    open_flows body now segment limit written readers kept (drop (room (pipe_of segment limit written readers None)) kept) stop pumps is refl
flows_by body now segment limit written readers (Some t) (b ∷ bs) stop pumps is = absurd (cc (is.may))
flows_by body now segment limit written readers (Some t) [] None pumps is = absurd (cc (is.may))
flows_by body now segment limit written readers (Some t) [] (Some s) pumps is = record {
  poured = is;
  full = tt;
  closed = is.may;
}

pub flows : (body : List ℕ) (now : Option Status) (w : Piped) → IsPoured body now w → IsPiped body now (flowed w)
flows body now w is =
    flows_by body now w.pipe.segment w.pipe.limit w.pipe.written w.pipe.readers w.pipe.closed w.kept w.stop w.pumps is

-- what has flowed stays
drop_none : (n : ℕ) → drop n (let xs : List ℕ = [] in xs) ≡ []
drop_none zero = refl
drop_none (suc n) = refl

same_by : (body : List ℕ) (now : Option Status) (segment limit : ℕ) (written : List ℕ) (readers : List Reader) (closed : Option Status) (kept : List ℕ) (stop : Option Status) (pumps : List Shown)
    → IsPiped body now (piped_of (pipe_of segment limit written readers closed) kept stop pumps) → flowed (piped_of (pipe_of segment limit written readers closed) kept stop pumps) ≡ piped_of (pipe_of segment limit written readers closed) kept stop pumps
same_by body now segment limit written readers None [] None pumps is =
    let n = room (pipe_of segment limit written readers None) in
    let none : drop n [] ≡ [] = drop_none n in
    let taken : written ++ take n [] ≡ written = ap (λ xs. written ++ xs) (take_all n [] (omega arith)) ∙ append-nil written in
    rw (none, taken) refl
same_by body now segment limit written readers None [] (Some s) pumps is = absurd (cc (is.closed))
same_by body now segment limit written readers None (b ∷ bs) stop pumps is =
    let taken : written ++ [] ≡ written = append-nil written in rw (is.full, taken) refl
same_by body now segment limit written readers (Some t) (b ∷ bs) stop pumps is = absurd (cc (is.closed))
same_by body now segment limit written readers (Some t) [] None pumps is = absurd (cc (is.closed))
same_by body now segment limit written readers (Some t) [] (Some s) pumps is = refl

pub flowed_same : (body : List ℕ) (now : Option Status) (w : Piped) → IsPiped body now w → flowed w ≡ w
flowed_same body now w is =
    same_by body now w.pipe.segment w.pipe.limit w.pipe.written w.pipe.readers w.pipe.closed w.kept w.stop w.pumps is

-- a new pipe
new_read : (segment n : ℕ) → AreRead segment [] None (replicate n (reader_at 0)) (replicate n (nothing_shown segment))
new_read segment zero = tt
new_read segment (suc n) = (
  record {
    opens = refl;
    most = omega arith;
    bytes = refl;
    size = refl;
    free = refl;
    stop = tt;
  },
  new_read segment n,
)

pub new_is : (segment limit readers : ℕ) → 1 ≤ segment → 1 ≤ limit → 1 ≤ readers → IsPiped [] None (new_piped segment limit readers)
new_is segment limit readers a b c = record {
  poured = record {
    segment = a;
    limit = b;
    some = omega (arith, c, length-replicate readers (reader_at 0));
    all = refl;
    stop = refl;
    may = tt;
    read = new_read segment readers;
  };
  full = tt;
  closed = refl;
}
