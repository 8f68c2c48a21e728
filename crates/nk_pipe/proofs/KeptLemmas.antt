-- Lemmas on what is kept, as a reader takes bytes part by part.
use Rattle.std.proofs.Common.{◌≡◌, ℕ, zero, suc, ◌+◌, ◌-◌, ◌<◌, ◌≤◌, ◌==◌, false, List, [], ◌∷◌, ◌++◌, length, take, drop, min, Option, Some, None, refl, sym, ap, ◌∙◌, arith}
use Rattle.std.specs.Prelude.{slice_get, slice_set, IfSome, IsSome}
use Rattle.std.proofs.lemmas.List.{length-take, length-drop, take-take, drop-drop, set-set, take_at, append_assoc, nil_from_length, take_min}
use Rattle.std.proofs.lemmas.Bool.Decides.{nat_tests}
use borrow.Rule.Slice.PartMut.{put_mid, post_of}
use Rattle.nk_pipe.specs.Pipe.{Reader, moved, open_answer, end_answer}
use Rattle.nk_pipe.specs.declared.answer.Read.TheVariants as read
use Rattle.nk_base.specs.declared.status.Status.{Status}
use Rattle.nk_pipe.proofs.WriteLemmas.{take_front}
use Rattle.nk_pipe.specs.Kept.{Kept, Forgets, OpenAt, ReadsOpen, ReadsBy, count}

abbrev none_left : List ℕ
none_left = []

take_none : (m : ℕ) → take m none_left ≡ none_left
take_none zero = refl
take_none (suc m) = refl

-- the next bytes behind those that were taken
pub take_more_by : (n m : ℕ) (xs : List ℕ) → take n xs ++ take m (drop n xs) ≡ take (n + m) xs
take_more_by zero m xs = let same : zero + m ≡ m = omega arith in rw same refl
take_more_by (suc n) m [] = let same : suc n + m ≡ suc (n + m) = omega arith in rw same (take_none m)
take_more_by (suc n) m (x ∷ xs) =
    let same : suc n + m ≡ suc (n + m) = omega arith in rw same (ap (λ ys. x ∷ ys) (take_more_by n m xs))

-- a part of the bytes that are left
pub take_part : (done n : ℕ) (xs : List ℕ) → n ≤ length xs - done → take done xs ++ take n (take (length xs - done) (drop done xs)) ≡ take (done + n) xs
take_part done n xs few = rw (take-take n (length xs - done) (drop done xs) few) (take_more_by done n xs)

some_reader : (o : Option Reader) → IfSome o (λ r. r.closed ≡ None) → IsSome o → (r : Reader) × (o ≡ Some r) × (r.closed ≡ None)
some_reader None opens is = absurd (cc)
some_reader (Some r) opens is = (r, refl, opens)

-- the open reader at an index
pub open_reader : (rs : List Reader) (i : ℕ) → OpenAt rs i → (r : Reader) × (slice_get rs i ≡ Some r) × (r.closed ≡ None)
open_reader rs i is = some_reader (slice_get rs i) is.0 is.1

pub set_get : (rs : List Reader) (i : ℕ) (r r' : Reader) → slice_get rs i ≡ Some r → slice_get (slice_set rs i r') i ≡ Some r'
set_get [] i r r' is = absurd (cc)
set_get (s ∷ rs) zero r r' is = refl
set_get (s ∷ rs) (suc i) r r' is = set_get rs i r r' is

pub set_own : (rs : List Reader) (i : ℕ) (r : Reader) → slice_get rs i ≡ Some r → slice_set rs i r ≡ rs
set_own [] i r is = refl
set_own (s ∷ rs) zero r is = let same : s ≡ r = cc in rw same refl
set_own (s ∷ rs) (suc i) r is = ap (λ xs. s ∷ xs) (set_own rs i r is)

pub moved_none : (r : Reader) → moved r 0 ≡ r
moved_none r = let same : r.position + 0 ≡ r.position = omega arith in ap (λ p. record r { position = p }) same

moved_more : (r : Reader) (n m : ℕ) → moved (moved r n) m ≡ moved r (n + m)
moved_more r n m =
    let same : r.position + n + m ≡ r.position + (n + m) = omega arith in ap (λ p. record r { position = p }) same

-- with nothing taken nothing is forgotten
pub forgets_none : (k : Kept) (i : ℕ) (r : Reader) → slice_get k.readers i ≡ Some r → Forgets (record k { readers = slice_set k.readers i (moved r 0) }) k
forgets_none k i r is =
    let same : k.past + 0 ≡ k.past = omega arith in
    (0, omega arith, rw (moved_none r, set_own k.readers i r is, same) refl)

-- and so part by part
pub forgets_more : (k k1 k2 : Kept) (i n m : ℕ) (r : Reader) → Forgets (record k { readers = slice_set k.readers i (moved r n) }) k1 → Forgets (record k1 { readers = slice_set k1.readers i (moved (moved r n) m) }) k2
    → Forgets (record k { readers = slice_set k.readers i (moved r (n + m)) }) k2
forgets_more k k1 k2 i n m r first second =
    let few : second.0 ≤ length (drop first.0 k.bytes) = rw first.2 at second.1 in
    let there : k.past + first.0 + second.0 ≡ k.past + (first.0 + second.0) = omega arith in (
      first.0 + second.0,
      omega (arith, few, length-drop first.0 k.bytes, first.1),
      second.2 ∙ rw (first.2, set-set k.readers i (moved r n) (moved (moved r n) m), moved_more r n m, drop-drop second.0 first.0 k.bytes, there) refl,
    )

-- what a part of the buffer holds then
pub handed_more : (past position done n forgot : ℕ) (bytes buffer part rest : List ℕ) → done ≤ length buffer → past ≤ position → past + forgot ≤ position + done → n ≤ length buffer - done → position + length buffer ≤ past + length bytes
    → part ≡ take n (drop (position + done - (past + forgot)) (drop forgot bytes)) ++ rest → take done buffer ≡ take done (drop (position - past) bytes)
    → take (done + n) (put_mid done (length buffer - done) buffer part) ≡ take (done + n) (drop (position - past) bytes)
handed_more past position done n forgot bytes buffer part rest within early there few left is before =
    let k : ℕ = position - past in
    let a : forgot + (position + done - (past + forgot)) ≡ position - past + done = omega (arith, early, there) in
    let taken : take n (drop (position + done - (past + forgot)) (drop forgot bytes)) ≡ take n (drop done (drop (position - past) bytes)) =
    rw (drop-drop (position + done - (past + forgot)) forgot bytes, a, drop-drop done (position - past) bytes) refl in
    let long : length (take n (drop done (drop (position - past) bytes))) ≡ n = omega (arith, early, few, left, within, length-take n (drop done (drop (position - past) bytes)), length-drop done (drop (position - past) bytes), length-drop (position - past) bytes) in
    let first : length (take done buffer) ≡ done = omega (arith, within, length-take done buffer) in
    let whole : part ≡ take n (drop done (drop (position - past) bytes)) ++ rest = is ∙ ap (λ xs. xs ++ rest) taken in
    take_front (take done buffer) (part ++ post_of done (length buffer - done) buffer) (done + n) n (omega (arith, first))
    ∙ rw (whole, append_assoc (take n (drop done (drop (position - past) bytes))) rest (post_of done (length buffer - done) buffer), before, take_at (take n (drop done (drop (position - past) bytes))) (rest ++ post_of done (length buffer - done) buffer) n long)
    (take_more_by done n (drop (position - past) bytes))

-- as many bytes were written as before
pub count_same : (k k1 : Kept) (rs : List Reader) → Forgets (record k { readers = rs }) k1 → count k1 ≡ count k
count_same k k1 rs forgets =
    ap (λ (v : Kept). count v) forgets.2 ∙ omega (arith, forgets.1, length-drop forgets.0 k.bytes)

pub next_part : (k k1 : Kept) (i done n : ℕ) (buffer part rest : List ℕ) (r : Reader) → Forgets (record k { readers = slice_set k.readers i (moved r done) }) k1
    → part ≡ take n (drop (r.position + done - k1.past) k1.bytes) ++ rest → done ≤ length buffer → k.past ≤ r.position → k1.past ≤ r.position + done → n ≤ length buffer - done → r.position + length buffer ≤ count k
    → take done buffer ≡ take done (drop (r.position - k.past) k.bytes)
    → take (done + n) (put_mid done (length buffer - done) buffer part) ≡ take (done + n) (drop (r.position - k.past) k.bytes)
next_part k k1 i done n buffer part rest r forgets is within early there few left before =
    let past : k1.past ≡ k.past + forgets.0 = ap (λ (v : Kept). v.past) forgets.2 in
    let bytes : k1.bytes ≡ drop forgets.0 k.bytes = ap (λ (v : Kept). v.bytes) forgets.2 in
    let part_is : part ≡ take n (drop (r.position + done - (k.past + forgets.0)) (drop forgets.0 k.bytes)) ++ rest =
    is ∙ ap (λ xs. take n xs ++ rest) (ap (λ p. drop (r.position + done - p) k1.bytes) past ∙ ap (λ xs. drop (r.position + done - (k.past + forgets.0)) xs) bytes) in
    handed_more k.past r.position done n forgets.0 k.bytes buffer part rest within early (omega (arith, there, past)) few left part_is before

-- the reader as it is when it has moved
pub moved_there : (k k1 : Kept) (i n : ℕ) (r : Reader) → slice_get k.readers i ≡ Some r → Forgets (record k { readers = slice_set k.readers i (moved r n) }) k1 → slice_get k1.readers i ≡ Some (moved r n)
moved_there k k1 i n r is forgets =
    ap (λ (v : Kept). slice_get v.readers i) forgets.2 ∙ set_get k.readers i r (moved r n) is

rest_long : (k : Kept) (r : Reader) → k.past ≤ r.position → length (drop (r.position - k.past) k.bytes) ≡ count k - r.position
rest_long k r within = omega (arith, within, length-drop (r.position - k.past) k.bytes)

-- a read where nothing is left
pub reads_none : (k : Kept) (i : ℕ) (r : Reader) (old : List ℕ) → slice_get k.readers i ≡ Some r → k.past ≤ r.position → r.position ≤ count k → count k - r.position ≡ 0 → ReadsOpen k k i r old old
reads_none k i r old get within most left =
    let none : drop (r.position - k.past) k.bytes ≡ none_left = nil_from_length (drop (r.position - k.past) k.bytes) (rest_long k r within ∙ left) in
    record {
      within = within;
      most = most;
      handed = rw (none, take_none (length old)) refl;
      moved = rw (none, take_none (length old)) (forgets_none k i r get);
    }

-- a read of what is left, as much as the buffer takes
pub reads_some : (k k1 : Kept) (i n : ℕ) (r : Reader) (old sub : List ℕ) → k.past ≤ r.position → r.position ≤ count k → n ≡ min (length old) (count k - r.position) → sub ≡ take n (drop (r.position - k.past) k.bytes)
    → Forgets (record k { readers = slice_set k.readers i (moved r n) }) k1 → ReadsOpen k k1 i r old (sub ++ drop n old)
reads_some k k1 i n r old sub within most is part forgets =
    let long = rest_long k r within in
    let all : min (length old) (length (drop (r.position - k.past) k.bytes)) ≡ n = omega (arith, long, is) in
    let same : take (length old) (drop (r.position - k.past) k.bytes) ≡ take n (drop (r.position - k.past) k.bytes) = sym (take_min (length old) (drop (r.position - k.past) k.bytes)) ∙ ap (λ m. take m (drop (r.position - k.past) k.bytes)) all in
    let size : length (take n (drop (r.position - k.past) k.bytes)) ≡ n = omega (arith, long, is, length-take n (drop (r.position - k.past) k.bytes)) in
    record {
      within = within;
      most = most;
      handed = rw (same, size, ← part) refl;
      moved = rw (same, size) forgets;
    }

-- a read by the reader's closing status
pub reads_closed : (k : Kept) (i : ℕ) (r : Reader) (old : List ℕ) (o : Option Status) (s : Status) → o ≡ Some s → ReadsBy k k i r old old o
reads_closed k i r old o s is = rw is (refl, refl)

pub reads_open : (k k' : Kept) (i : ℕ) (r : Reader) (old new : List ℕ) (o : Option Status) → o ≡ None → ReadsOpen k k' i r old new → ReadsBy k k' i r old new o
reads_open k k' i r old new o opens is = rw opens is

pub answer_closed : (o : Option Status) (s : Status) (left size : ℕ) (closed : Option Status) → o ≡ Some s → read.Failed s ≡ open_answer o left size closed
answer_closed o s left size closed is = rw is refl

pub answer_end : (o : Option Status) (left size : ℕ) (closed : Option Status) → o ≡ None → left ≡ 0 → end_answer closed ≡ open_answer o left size closed
answer_end o left size closed opens none = rw (opens, none) refl

pub answer_read : (o : Option Status) (left size n : ℕ) (closed : Option Status) → o ≡ None → 0 < left → n ≡ min left size → read.Read n ≡ open_answer o left size closed
answer_read o left size n closed opens some is = let test : (left == 0) ≡ false = grind (arith, nat_tests) in rw (opens, test, is) refl
