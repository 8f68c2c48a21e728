-- A reader of a lent pipe is the stream that it is said to be.
use Rattle.std.proofs.Common.{◌≡◌, ℕ, zero, suc, ◌+◌, ◌-◌, ◌≤◌, ◌==◌, Bool, true, false, List, [], ◌∷◌, ◌++◌, length, take, drop, min, replicate, Option, Some, None, Result, Ok, Err, refl, sym, ap, subst, ◌∙◌, arith, drop-drop, if◌then◌else◌}
use Rattle.std.specs.Prelude.{slice_get, slice_set, IsSome, OnOk, OnErr}
use Rattle.std.proofs.lemmas.List.{length-take, length-drop, length-replicate, take_at, take_all, drop_all, drop_min}
use Rattle.std.proofs.lemmas.Bool.Decides.{nat_tests}
use Rattle.nk_base.specs.declared.status.Status.{Status}
use Rattle.nk_base.specs.Status.{stream_closed, is_failure}
use Rattle.nk_pipe.specs.declared.answer.Read.{Read}
use Rattle.nk_pipe.specs.declared.answer.Read.TheVariants as given
use Rattle.nk_pipe.specs.declared.answer.NoReader.{NoReader}
use Rattle.nk_pipe.specs.declared.answer.Write.{Write}
use Rattle.nk_base.specs.declared.status.Memory.{Memory}
use Rattle.nk_pipe.specs.Pipe.{Pipe, Reader, numbered, with_numbered, handed, end_answer, open_answer, read_answer, moved, read_from, written_to, kept_status, without_reader}
use Rattle.nk_pipe.specs.Kept.{Kept, Stands, ReachesBy, Reaches}
use Rattle.nk_pump.specs.declared.stream.Read.TheVariants as shown
use Rattle.nk_pump.specs.Stream.{Stream, Good, Failed, answer_of, read_leaves, closed_with}
use Rattle.nk_sink.specs.Listener.{end_of, stream_by, stream_at}
use Rattle.nk_sink.specs.Lent.{some_whole, stream_in, IsThere, read_shown}

pub stands_whole : (k : Kept) → Stands k (some_whole k)
stands_whole k = (replicate k.past 0, length-replicate k.past 0, refl)

some_of : (o : Option Reader) → IsSome o → (r : Reader) × (o ≡ Some r)
some_of None is = absurd (cc (is))
some_of (Some r) is = (r, refl)

pub there : (k : Kept) (reader : ℕ) → IsThere k.readers reader → (r : Reader) × (numbered k.readers reader ≡ Some r)
there k reader is = some_of (numbered k.readers reader) is

ok_is : (a b : Read) → (let r : Result Read NoReader = Ok a in r) ≡ Ok b → a ≡ b
ok_is a b is = cc (is)

-- THE ANSWER

end_by : (size : ℕ) (s : Status) (b : Bool) → read_shown (if b then given.End else given.Failed s) ≡ answer_of size [] (if b then Good else Failed s)
end_by size s true = refl
end_by size s false = refl

end_shown : (size : ℕ) (closed : Option Status) → read_shown (end_answer closed) ≡ answer_of size [] (end_of closed)
end_shown size None = refl
end_shown size (Some s) = end_by size s (s.0 == stream_closed.0)

open_shown : (size count : ℕ) (left : List ℕ) (closed : Option Status) (b : Bool) → length left ≡ count → (count == 0) ≡ b
    → read_shown (if b then end_answer closed else given.Read (min count size)) ≡ answer_of size left (end_of closed)
open_shown size count [] closed true long is = end_shown size closed
open_shown size count [] closed false long is = absurd (grind (arith, nat_tests, long, is))
open_shown size count (x ∷ xs) closed true long is = absurd (grind (arith, nat_tests, long, is))
open_shown size count (x ∷ xs) closed false long is =
    let same : min count size ≡ min size (length (x ∷ xs)) = omega (arith, long) in ap (λ n. shown.Read n) same

answer_by : (size start position : ℕ) (o : Option Status) (p : Pipe) → read_shown (open_answer o (length p.written - position) size p.closed) ≡ answer_of size (stream_by o position p).left (stream_by o position p).end
answer_by size start position (Some s) p = refl
answer_by size start position None p =
    open_shown size (length p.written - position) (drop position p.written) p.closed ((length p.written - position) == 0) (length-drop position p.written) refl

pub answer_is : (k : Kept) (reader size : ℕ) (r : Reader) (read : Read) → numbered k.readers reader ≡ Some r → Ok read ≡ read_answer (numbered k.readers reader) reader size (some_whole k)
    → read_shown read ≡ answer_of size (stream_in reader k).left (stream_in reader k).end
answer_is k reader size r read name is =
    let same : read ≡ open_answer r.closed (length (some_whole k).written - r.position) size k.closed = ok_is read _ (is ∙ ap (λ o. read_answer o reader size (some_whole k)) name) in
    ap read_shown same ∙ answer_by size r.start r.position r.closed (some_whole k) ∙ sym (ap (λ o. answer_of size (stream_at o (some_whole k)).left (stream_at o (some_whole k)).end) name)

-- THE BYTES

bytes_by : (size position : ℕ) (o : Option Status) (r : Reader) (rest : List ℕ) (p : Pipe) → r.closed ≡ o → r.position ≡ position
    → take (length (take size (stream_by o position p).left)) (handed (Some r) size p.written ++ rest) ≡ take size (stream_by o position p).left
bytes_by size position (Some s) r rest p closes at =
    let none : take size (let xs : List ℕ = [] in xs) ≡ [] = take_all size (let xs : List ℕ = [] in xs) (omega arith) in rw none refl
bytes_by size position None r rest p closes at = rw (closes, at) (take_at (take size (drop position p.written)) rest _ refl)

pub bytes_are : (k : Kept) (reader size : ℕ) (r : Reader) (old new : List ℕ) → numbered k.readers reader ≡ Some r → new ≡ handed (numbered k.readers reader) size (some_whole k).written ++ drop (length (handed (numbered k.readers reader) size (some_whole k).written)) old
    → take (length (take size (stream_in reader k).left)) new ≡ take size (stream_in reader k).left
bytes_are k reader size r old new name is =
    rw (is, name) (bytes_by size r.position r.closed r _ (some_whole k) refl refl)

-- AFTER A READ

set_get : (rs : List Reader) (i : ℕ) (r s : Reader) → slice_get rs i ≡ Some r → slice_get (slice_set rs i s) i ≡ Some s
set_get [] i r s get = absurd (cc (get))
set_get (q ∷ rs) zero r s get = refl
set_get (q ∷ rs) (suc i) r s get = set_get rs i r s get

set_named : (rs : List Reader) (id : ℕ) (r s : Reader) → numbered rs id ≡ Some r → numbered (with_numbered rs id s) id ≡ Some s
set_named rs zero r s name = absurd (cc (name))
set_named rs (suc i) r s name =
    let some : suc i == 0 ≡ false = grind (arith, nat_tests) in
    rw some (set_get rs (suc i - 1) r s (rw some at name))

same_rest : (m : ℕ) (xs ys zs : List ℕ) → length xs ≡ length ys → length xs ≤ m → drop m (xs ++ zs) ≡ drop m (ys ++ zs)
same_rest m [] [] zs long within = refl
same_rest m [] (y ∷ ys) zs long within = absurd (omega (arith, long))
same_rest m (x ∷ xs) [] zs long within = absurd (omega (arith, long))
same_rest zero (x ∷ xs) (y ∷ ys) zs long within = absurd (omega (arith, within))
same_rest (suc m) (x ∷ xs) (y ∷ ys) zs long within = same_rest m xs ys zs (omega (arith, long)) (omega (arith, within))

rest_by : (size start position : ℕ) (o : Option Status) (k k' : Kept) (gone : List ℕ) → length gone ≡ k'.past → (some_whole k).written ≡ gone ++ k'.bytes → k'.closed ≡ k.closed
    → ReachesBy o k'.past (position + length (handed (Some (record { start = start; position = position; closed = o })) size (some_whole k).written))
    → stream_by o (position + length (handed (Some (record { start = start; position = position; closed = o })) size (some_whole k).written)) (some_whole k') ≡ read_leaves size (stream_by o position (some_whole k))
rest_by size start position (Some s) k k' gone long written closed reaches =
    let none : drop size (let xs : List ℕ = [] in xs) ≡ [] = drop_all size (let xs : List ℕ = [] in xs) (omega arith) in rw none refl
rest_by size start position None k k' gone long written closed reaches =
    let w : List ℕ = (some_whole k).written in
    let n : ℕ = length (take size (drop position (some_whole k).written)) in
    let left : drop (position + length (take size (drop position (some_whole k).written))) (some_whole k').written ≡ drop size (drop position (some_whole k).written) =
    same_rest (position + length (take size (drop position (some_whole k).written))) (replicate k'.past 0) gone k'.bytes (length-replicate {A = ℕ} k'.past 0 ∙ sym long) (omega (arith, length-replicate {A = ℕ} k'.past 0, reaches))
    ∙ ap (λ xs. drop (position + length (take size (drop position (some_whole k).written))) xs) (sym written)
    ∙ sym (drop-drop (length (take size (drop position (some_whole k).written))) position (some_whole k).written)
    ∙ ap (λ m. drop m (drop position (some_whole k).written)) (length-take size (drop position (some_whole k).written))
    ∙ drop_min size (drop position (some_whole k).written) in
    ap (λ xs. let s : Stream = record { left = xs; end = end_of k'.closed; closed = false } in s) left
    ∙ ap (λ o. let s : Stream = record { left = drop size (drop position (some_whole k).written); end = end_of o; closed = false } in s) closed

pub read_there : (k k' : Kept) (reader size : ℕ) (r : Reader) → numbered k.readers reader ≡ Some r → Stands k' (read_from (numbered k.readers reader) reader size (some_whole k)) → IsThere k'.readers reader
read_there k k' reader size r name stands =
    let after = subst (λ o. Stands k' (read_from o reader size (some_whole k))) name stands in
    let readers : k'.readers ≡ with_numbered k.readers reader (moved r (length (handed (Some r) size (some_whole k).written))) = sym (ap (λ (p : Pipe). p.readers) after.2) in
    let named : numbered k'.readers reader ≡ Some (moved r (length (handed (Some r) size (some_whole k).written))) = ap (λ rs. numbered rs reader) readers ∙ set_named k.readers reader r _ name in
    rw named refl

pub no_err : (k : Kept) (reader size : ℕ) (r : Reader) (e : NoReader) → numbered k.readers reader ≡ Some r → Err e ≡ read_answer (numbered k.readers reader) reader size (some_whole k) → ⊥
no_err k reader size r e name is = absurd (cc (is ∙ ap (λ o. read_answer o reader size (some_whole k)) name))

pub read_is : (k k' : Kept) (reader size : ℕ) (r : Reader) → numbered k.readers reader ≡ Some r → Stands k' (read_from (numbered k.readers reader) reader size (some_whole k)) → Reaches (numbered k'.readers reader) k'.past
    → stream_in reader k' ≡ read_leaves size (stream_in reader k)
read_is k k' reader size r name stands reaches =
    let after = subst (λ o. Stands k' (read_from o reader size (some_whole k))) name stands in
    let readers : k'.readers ≡ with_numbered k.readers reader (moved r (length (handed (Some r) size (some_whole k).written))) = sym (ap (λ (p : Pipe). p.readers) after.2) in
    let named : numbered k'.readers reader ≡ Some (moved r (length (handed (Some r) size (some_whole k).written))) = ap (λ rs. numbered rs reader) readers ∙ set_named k.readers reader r _ name in
    ap (λ o. stream_at o (some_whole k')) named
    ∙ rest_by size r.start r.position r.closed k k' after.0 after.1 (ap (λ (p : Pipe). p.written) after.2) (sym (ap (λ (p : Pipe). p.closed) after.2)) (rw named at reaches)
    ∙ sym (ap (λ o. read_leaves size (stream_at o (some_whole k))) name)

-- AFTER A CLOSE

failure_kept : (s : Status) (b : Bool) → s.0 == 0 ≡ b → is_failure s ≡ true → (if b then stream_closed else s) ≡ s
failure_kept s true none fails = absurd (grind (arith, nat_tests, none, fails))
failure_kept s false none fails = refl

close_by : (k k' : Kept) (reader start position : ℕ) (o : Option Status) (status : Status) → is_failure status ≡ true → numbered k.readers reader ≡ Some (record { start = start; position = position; closed = o })
    → Stands k' (without_reader (Some (record { start = start; position = position; closed = o })) reader status (some_whole k))
    → (stream_in reader k' ≡ closed_with status (stream_by o position (some_whole k))) × IsThere k'.readers reader
close_by k k' reader start position (Some s) status fails name after =
    let named : numbered k'.readers reader ≡ Some (record { start = start; position = position; closed = Some s }) = ap (λ rs. numbered rs reader) (sym (ap (λ (p : Pipe). p.readers) after.2)) ∙ name in
    (rw named refl, rw named refl)
close_by k k' reader start position None status fails name after =
    let named : numbered k'.readers reader ≡ Some (record { start = start; position = position; closed = Some (kept_status status) }) = ap (λ rs. numbered rs reader) (sym (ap (λ (p : Pipe). p.readers) after.2)) ∙ set_named k.readers reader _ _ name in
    let same : kept_status status ≡ status = failure_kept status (status.0 == 0) refl fails in
    (ap (λ o. stream_at o (some_whole k')) named ∙ ap (λ s. let t : Stream = record { left = []; end = Failed s; closed = true } in t) same, rw named refl)

pub close_is : (k k' : Kept) (reader : ℕ) (r : Reader) (status : Status) → is_failure status ≡ true → numbered k.readers reader ≡ Some r → Stands k' (without_reader (numbered k.readers reader) reader status (some_whole k))
    → (stream_in reader k' ≡ closed_with status (stream_in reader k)) × IsThere k'.readers reader
close_is k k' reader r status fails name stands =
    let after = subst (λ o. Stands k' (without_reader o reader status (some_whole k))) name stands in
    let both = close_by k k' reader r.start r.position r.closed status fails name after in
    (both.0 ∙ sym (ap (λ o. closed_with status (stream_at o (some_whole k))) name), both.1)

-- AFTER A WRITE

written_readers : (o : Option Status) (bytes : List ℕ) (p : Pipe) → (written_to o bytes p).readers ≡ p.readers
written_readers None bytes p = refl
written_readers (Some s) bytes p = refl

pub readers_after : (r : Result Write Memory) (k k' : Kept) (bytes : List ℕ) → ((p : Pipe) → Stands k p → OnOk r (Stands k' (written_to p.closed bytes p))) → OnErr r (k' ≡ record k { ahead = k'.ahead }) → k'.readers ≡ k.readers
readers_after (Ok w) k k' bytes each err =
    sym (ap (λ (p : Pipe). p.readers) (each (some_whole k) (stands_whole k)).2) ∙ written_readers k.closed bytes (some_whole k)
readers_after (Err e) k k' bytes each err = ap (λ (v : Kept). v.readers) err
