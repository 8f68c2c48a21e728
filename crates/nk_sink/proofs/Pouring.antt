-- The entries go into the pipe one after the other, and what then has flowed is the model's.
use Rattle.std.proofs.Common.{◌≡◌, ℕ, zero, suc, ◌+◌, ◌<◌, ◌≤◌, List, [], ◌∷◌, ◌++◌, length, take, drop, Option, Some, None, refl, sym, ap, subst, ◌∙◌, arith, take-add}
use Rattle.std.specs.Prelude.{slice_get}
use Rattle.std.proofs.lemmas.List.{length-append, length-take, length-drop, append_assoc, take-append-drop}
use Rattle.nk_base.specs.declared.status.Status.{Status}
use Rattle.nk_base.specs.declared.message.Entry.{Entry}
use Rattle.nk_pipe.specs.Pipe.{Pipe, Reader, room_for, room, written_to}
use Rattle.nk_pipe.specs.Kept.{Kept, Stands, count}
use Rattle.nk_pump.specs.Shown.{Shown}
use Rattle.nk_sink.specs.Listener.{Piped, closed_behind, flowed}
use Rattle.nk_plan.specs.Readers.{body_of, stop_of}
use Rattle.nk_sink.specs.Fed.{pipe_in, room_in}
use Rattle.nk_sink.proofs.Feeding.{body_append, stop_append}

-- a model's list is as long as what was written
pub stands_count : (k : Kept) (p : Pipe) → Stands k p → length p.written ≡ count k
stands_count k p stands =
    ap (λ (q : Pipe). length q.written) stands.2 ∙ omega (arith, length-append stands.0 k.bytes, stands.1)

-- the entries before a place, the one at it, and those behind it
pub split_at : (es : List Entry) (place : ℕ) (e : Entry) → slice_get es place ≡ Some e → (drop place es ≡ e ∷ drop (suc place) es) × (take (suc place) es ≡ take place es ++ e ∷ [])
split_at [] place e get = absurd (cc (get))
split_at (x ∷ es) zero e get = let same : x ≡ e = cc (get) in (rw same refl, rw same refl)
split_at (x ∷ es) (suc i) e get = let rest = split_at es i e get in (rest.0, ap (λ xs. x ∷ xs) rest.1)

-- what is in the pipe, and what is not
pub record Splits (es : List Entry) (k : Kept) (place offset : ℕ) : Type 0 where
  pub body : body_of es ≡ body_of (take place es) ++ body_of (drop place es)
  pub stop : stop_of es ≡ stop_of (drop place es)
  pub kept : drop (count k) (body_of es) ≡ drop offset (body_of (drop place es))

drop_past : (xs ys : List ℕ) (n : ℕ) → drop (length xs + n) (xs ++ ys) ≡ drop n ys
drop_past [] ys n = let same : 0 + n ≡ n = omega arith in ap (λ m. drop m ys) same
drop_past (x ∷ xs) ys n =
    let same : length (x ∷ xs) + n ≡ suc (length xs + n) = omega arith in ap (λ m. drop m (x ∷ xs ++ ys)) same ∙ drop_past xs ys n

pub splits : (es : List Entry) (k : Kept) (place offset : ℕ) → stop_of (take place es) ≡ None → count k ≡ length (body_of (take place es)) + offset → Splits es k place offset
splits es k place offset before counted =
    let whole_is : es ≡ take place es ++ drop place es = sym (take-append-drop place es) in
    let body : body_of es ≡ body_of (take place es) ++ body_of (drop place es) = ap body_of whole_is ∙ body_append (take place es) (drop place es) before in
    record {
      body = body;
      stop = ap stop_of whole_is ∙ stop_append (take place es) (drop place es) before;
      kept = ap (λ n. drop n (body_of es)) counted ∙ ap (λ xs. drop (length (body_of (take place es)) + offset) xs) body ∙ drop_past (body_of (take place es)) (body_of (drop place es)) offset;
    }

-- AFTER A WRITE

abbrev pub pipe_of : ℕ → ℕ → List ℕ → List Reader → Option Status → Pipe
pipe_of segment limit written readers closed =
    record { segment = segment; limit = limit; written = written; readers = readers; closed = closed }

abbrev pub piped_of : Pipe → List ℕ → Option Status → List Shown → Piped
piped_of pipe kept stop pumps = record { pipe = pipe; kept = kept; stop = stop; pumps = pumps }

-- the pipe has so many more bytes of the body
pub record Poured (body : List ℕ) (k k' : Kept) (n : ℕ) : Type 0 where
  pub stands : Stands k' (pipe_in body k')
  pub counted : count k' ≡ count k + n
  pub is : (pipe_in body k') ≡ pipe_of k.segment k.limit (take (count k + n) body) k.readers k.closed

take_past : (xs ys : List ℕ) (n : ℕ) → take (length xs + n) (xs ++ ys) ≡ xs ++ take n ys
take_past [] ys n = let same : 0 + n ≡ n = omega arith in ap (λ m. take m ys) same
take_past (x ∷ xs) ys n =
    let same : length (x ∷ xs) + n ≡ suc (length xs + n) = omega arith in ap (λ m. take m (x ∷ xs ++ ys)) same ∙ ap (λ zs. x ∷ zs) (take_past xs ys n)

-- a pipe that stands for this list stands for the first bytes of the body
poured_by : (body : List ℕ) (k k' : Kept) (n : ℕ) (closed : Option Status) → length (take (count k + n) body) ≡ count k + n → Stands k' (pipe_of k.segment k.limit (take (count k + n) body) k.readers closed)
    → (Stands k' (pipe_in body k')) × (count k' ≡ count k + n) × ((pipe_in body k') ≡ pipe_of k.segment k.limit (take (count k + n) body) k.readers closed)
poured_by body k k' n closed long stands =
    let counted : count k' ≡ count k + n = sym (stands_count k' _ stands) ∙ long in
    let is : (pipe_in body k') ≡ pipe_of k.segment k.limit (take (count k + n) body) k.readers closed =
    ap (λ (q : Pipe). let v : Pipe = record { segment = q.segment; limit = q.limit; written = take (count k') body; readers = q.readers; closed = q.closed } in v) (sym stands.2)
    ∙ ap (λ m. pipe_of k.segment k.limit (take m body) k.readers closed) counted in
    (subst (λ (q : Pipe). Stands k' q) (sym is) stands, counted, is)

-- so many bytes are in the body
pub within_body : (body : List ℕ) (k : Kept) → Stands k (pipe_in body k) → length (take (count k) body) ≡ count k
within_body body k stands = stands_count k (pipe_in body k) stands

-- some of the body's next bytes were written
pub pours : (body next : List ℕ) (k k' : Kept) (n : ℕ) → Stands k (pipe_in body k) → k.closed ≡ None → ((p : Pipe) → Stands k p → Stands k' (written_to p.closed next p)) → take (room_in k) next ≡ take n (drop (count k) body) → n ≤ length (drop (count k) body)
    → Poured body k k' n
pours body next k k' n stands opens each same few =
    let room_is : room (pipe_in body k) ≡ room_in k = ap (λ m. room_for k.segment k.limit k.readers m) (within_body body k stands) in
    let wrote : written_to k.closed next (pipe_in body k) ≡ pipe_of k.segment k.limit (take (count k + n) body) k.readers k.closed =
    ap (λ o. written_to o next (pipe_in body k)) opens
    ∙ ap (λ m. pipe_of k.segment k.limit (take (count k) body ++ take m next) k.readers k.closed) room_is
    ∙ ap (λ xs. pipe_of k.segment k.limit (take (count k) body ++ xs) k.readers k.closed) same
    ∙ ap (λ xs. pipe_of k.segment k.limit xs k.readers k.closed) (sym (take-add (count k) n body)) in
    let long : length (take (count k + n) body) ≡ count k + n = omega (arith, length-take (count k + n) body, length-drop (count k) body, few, within_body body k stands, length-take (count k) body) in
    let after = poured_by body k k' n k.closed long (subst (λ (q : Pipe). Stands k' q) wrote (each (pipe_in body k) stands)) in
    record { stands = after.0; counted = after.1; is = after.2 }

-- WHAT THEN FLOWS

-- bytes that fit may go first
pub flow_on : (segment limit : ℕ) (written x y : List ℕ) (readers : List Reader) (stop : Option Status) (pumps : List Shown) → length x ≤ room (pipe_of segment limit written readers None)
    → flowed (piped_of (pipe_of segment limit (written ++ x) readers None) y stop pumps) ≡ flowed (piped_of (pipe_of segment limit written readers None) (x ++ y) stop pumps)
flow_on segment limit written x y readers stop pumps fits =
    let later : ℕ = room (pipe_of segment limit (written ++ x) readers None) in
    let split : room (pipe_of segment limit written readers None) ≡ length x + room (pipe_of segment limit (written ++ x) readers None) = omega (arith, fits, length-append written x) in
    let kept : drop (room (pipe_of segment limit written readers None)) (x ++ y) ≡ drop (room (pipe_of segment limit (written ++ x) readers None)) y = ap (λ m. drop m (x ++ y)) split ∙ drop_past x y (room (pipe_of segment limit (written ++ x) readers None)) in
    let taken : written ++ take (room (pipe_of segment limit written readers None)) (x ++ y) ≡ (written ++ x) ++ take (room (pipe_of segment limit (written ++ x) readers None)) y = ap (λ m. written ++ take m (x ++ y)) split ∙ ap (λ xs. written ++ xs) (take_past x y (room (pipe_of segment limit (written ++ x) readers None))) ∙ sym (append_assoc written x (take (room (pipe_of segment limit (written ++ x) readers None)) y)) in
    sym (ap (λ xs. piped_of (closed_behind xs stop (pipe_of segment limit (written ++ take (room (pipe_of segment limit written readers None)) (x ++ y)) readers None)) xs stop pumps) kept
    ∙ ap (λ xs. piped_of (closed_behind (drop (room (pipe_of segment limit (written ++ x) readers None)) y) stop (pipe_of segment limit xs readers None)) (drop (room (pipe_of segment limit (written ++ x) readers None)) y) stop pumps) taken)

not_closed : (kept : List ℕ) (stop : Option Status) (p : Pipe) → 0 < length kept → closed_behind kept stop p ≡ p
not_closed [] stop p some = absurd (omega (arith, some))
not_closed (b ∷ bs) stop p some = refl

-- as many as fit, where not all do, are what flows
pub flow_out : (segment limit : ℕ) (written kept : List ℕ) (readers : List Reader) (stop : Option Status) (pumps : List Shown) → room (pipe_of segment limit written readers None) < length kept
    → piped_of (pipe_of segment limit (written ++ take (room (pipe_of segment limit written readers None)) kept) readers None) (drop (room (pipe_of segment limit written readers None)) kept) stop pumps ≡ flowed (piped_of (pipe_of segment limit written readers None) kept stop pumps)
flow_out segment limit written kept readers stop pumps some =
    ap (λ p. piped_of p (drop (room (pipe_of segment limit written readers None)) kept) stop pumps)
    (sym (not_closed (drop (room (pipe_of segment limit written readers None)) kept) stop (pipe_of segment limit (written ++ take (room (pipe_of segment limit written readers None)) kept) readers None) (omega (arith, some, length-drop (room (pipe_of segment limit written readers None)) kept))))
