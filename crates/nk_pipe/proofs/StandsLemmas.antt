-- Lemmas on the model that a pipe stands for.
use Rattle.std.proofs.Common.{◌≡◌, ℕ, zero, suc, ◌+◌, ◌-◌, ◌<◌, ◌≤◌, Bool, true, false, List, [], ◌∷◌, ◌++◌, length, take, drop, replicate, Option, Some, None, refl, sym, ap, subst, ◌∙◌, arith, if◌then◌else◌}
use Rattle.std.specs.Prelude.{is_some, not, slice_get, slice_set}
use Rattle.std.proofs.lemmas.List.{length-append, length-take, append_assoc, take-append-drop, length-replicate}
use Rattle.nk_base.specs.declared.status.Status.{Status}
use Rattle.nk_pipe.specs.Pipe.{Pipe, Reader, is_open, has_open, numbered, with_numbered, moved, handed, read_from, closed_with, close_open, without_reader, first_close}
use Rattle.nk_pipe.specs.Kept.{Kept, Stands, Forgets, ReadsBy, count, whole, without}
use Rattle.nk_pipe.proofs.CursorLemmas.{drop_past}
use Rattle.nk_pipe.proofs.ReaderLemmas.{numbered_at}
use Rattle.nk_pipe.proofs.KeptLemmas.{set_own, moved_none}

-- a fact of each model that the pipe stands for, from those with any bytes in front
pub of_whole : (k : Kept) (P : Pipe → Type 0) → ((gone : List ℕ) → length gone ≡ k.past → P (whole gone k)) → (p : Pipe) → Stands k p → P p
of_whole k P each p stands = subst P (sym stands.2) (each stands.0 stands.1)

-- what is given back belongs to the model still
pub forgets_stands : (k k' : Kept) (gone : List ℕ) → length gone ≡ k.past → Forgets k k' → Stands k' (whole gone k)
forgets_stands k k' gone long forgets = (
  gone ++ take forgets.0 k.bytes,
  omega (arith, ap (λ (v : Kept). v.past) forgets.2, long, length-append gone (take forgets.0 k.bytes), length-take forgets.0 k.bytes, forgets.1),
  sym (ap (λ (v : Kept). whole (gone ++ take forgets.0 k.bytes) v) forgets.2
      ∙ ap (λ xs. record { segment = k.segment; limit = k.limit; written = xs; readers = k.readers; closed = k.closed })
      (append_assoc gone (take forgets.0 k.bytes) (drop forgets.0 k.bytes) ∙ ap (λ xs. gone ++ xs) (take-append-drop forgets.0 k.bytes))),
)

some_get : (rs : List Reader) (i : ℕ) → i < length rs → (r : Reader) × (slice_get rs i ≡ Some r)
some_get [] i below = absurd (omega (arith, below))
some_get (r ∷ rs) zero below = (r, refl)
some_get (r ∷ rs) (suc i) below = some_get rs i (omega (arith, below))

-- the reader of a number
pub named : (rs : List Reader) (id i : ℕ) → (id ≡ i + 1) × (i < length rs) → (r : Reader) × (slice_get rs i ≡ Some r) × (numbered rs id ≡ Some r)
named rs id i is =
    let r = some_get rs i is.1 in (r.0, r.1, numbered_at rs id i is.0 ∙ r.1)

with_own : (rs : List Reader) (id i : ℕ) (r : Reader) → id ≡ i + 1 → with_numbered rs id r ≡ slice_set rs i r
with_own rs id i r is = let same : id - 1 ≡ i = omega (arith, is) in rw same refl

-- a reader's bytes in the model
rest_whole : (gone bytes : List ℕ) (past position : ℕ) → length gone ≡ past → past ≤ position → drop position (gone ++ bytes) ≡ drop (position - past) bytes
rest_whole gone bytes past position long within = drop_past 0 gone bytes position (position - past) (omega (arith, long, within))

pub handed_open : (k : Kept) (gone : List ℕ) (r : Reader) (size : ℕ) → length gone ≡ k.past → k.past ≤ r.position → r.closed ≡ None → handed (Some r) size (gone ++ k.bytes) ≡ take size (drop (r.position - k.past) k.bytes)
handed_open k gone r size long within opens = rw (opens, rest_whole gone k.bytes k.past r.position long within) refl

handed_closed : (gone bytes : List ℕ) (r : Reader) (s : Status) (size : ℕ) → r.closed ≡ Some s → handed (Some r) size (gone ++ bytes) ≡ []
handed_closed gone bytes r s size is = rw is refl

-- a read, in the model
read_by : (k k' : Kept) (i id : ℕ) (r : Reader) (old new gone : List ℕ) (o : Option Status) → r.closed ≡ o → slice_get k.readers i ≡ Some r → id ≡ i + 1 → length gone ≡ k.past → ReadsBy k k' i r old new o
    → Stands k' (read_from (Some r) id (length old) (whole gone k)) × (new ≡ handed (Some r) (length old) (gone ++ k.bytes) ++ drop (length (handed (Some r) (length old) (gone ++ k.bytes))) old)
read_by k k' i id r old new gone (Some s) closes get is long reads =
    let none = handed_closed gone k.bytes r s (length old) closes in
    let same : with_numbered k.readers id (moved r (length (handed (Some r) (length old) (gone ++ k.bytes)))) ≡ k.readers =
    rw none (with_own k.readers id i (moved r 0) is ∙ ap (λ (q : Reader). slice_set k.readers i q) (moved_none r) ∙ set_own k.readers i r get) in (
      (gone, long ∙ sym (ap (λ (v : Kept). v.past) reads.0), ap (λ rs. record { segment = k.segment; limit = k.limit; written = gone ++ k.bytes; readers = rs; closed = k.closed }) same ∙ sym (ap (λ (v : Kept). whole gone v) reads.0)),
      reads.1 ∙ rw none refl,
    )
read_by k k' i id r old new gone None closes get is long reads =
    let all = handed_open k gone r (length old) long reads.within closes in
    let same : with_numbered k.readers id (moved r (length (handed (Some r) (length old) (gone ++ k.bytes)))) ≡ slice_set k.readers i (moved r (length (take (length old) (drop (r.position - k.past) k.bytes)))) =
    rw all (with_own k.readers id i (moved r (length (take (length old) (drop (r.position - k.past) k.bytes)))) is) in
    let stands = forgets_stands (record k { readers = slice_set k.readers i (moved r (length (take (length old) (drop (r.position - k.past) k.bytes)))) }) k' gone long reads.moved in (
      (stands.0, stands.1, ap (λ rs. record { segment = k.segment; limit = k.limit; written = gone ++ k.bytes; readers = rs; closed = k.closed }) same ∙ stands.2),
      reads.handed ∙ rw all refl,
    )

pub read_whole : (k k' : Kept) (i id : ℕ) (r : Reader) (old new gone : List ℕ) → slice_get k.readers i ≡ Some r → numbered k.readers id ≡ Some r → id ≡ i + 1 → length gone ≡ k.past → ReadsBy k k' i r old new r.closed
    → Stands k' (read_from (numbered k.readers id) id (length old) (whole gone k)) × (new ≡ handed (numbered k.readers id) (length old) (gone ++ k.bytes) ++ drop (length (handed (numbered k.readers id) (length old) (gone ++ k.bytes))) old)
read_whole k k' i id r old new gone get name is long reads =
    rw name (read_by k k' i id r old new gone r.closed refl get is long reads)

-- a close, in the model
pub close_whole : (k k' : Kept) (i id : ℕ) (r : Reader) (status : Status) (gone : List ℕ) → numbered k.readers id ≡ Some r → id ≡ i + 1 → length gone ≡ k.past → is_open r.closed ≡ true → Forgets (without k i r status) k'
    → Stands k' (without_reader (numbered k.readers id) id status (whole gone k))
close_whole k k' i id r status gone name is long opens forgets =
    let stands = forgets_stands (without k i r status) k' gone long forgets in
    let same = with_own k.readers id i (closed_with r status) is in
    rw (name, opens) (
      stands.0,
      stands.1,
      ap (λ rs. record {
        segment = k.segment;
        limit = k.limit;
        written = gone ++ k.bytes;
        readers = rs;
        closed = if has_open rs then k.closed else first_close k.closed status;
      }) same ∙ stands.2,
    )

pub close_closed : (k : Kept) (id : ℕ) (r : Reader) (status : Status) (gone : List ℕ) → numbered k.readers id ≡ Some r → length gone ≡ k.past → is_open r.closed ≡ false → Stands k (without_reader (numbered k.readers id) id status (whole gone k))
close_closed k id r status gone name long closes = rw (name, closes) (gone, long, refl)

pub none_open : (o : Option Status) (b : Bool) → is_some o ≡ not b → b ≡ is_open o
none_open None true is = refl
none_open None false is = absurd (cc)
none_open (Some s) true is = absurd (cc)
none_open (Some s) false is = refl

-- each pipe stands for some model, and a model's list is as long as what was written
pub some_model : (k : Kept) → (p : Pipe) × Stands k p
some_model k = (whole (replicate k.past 0) k, (replicate k.past 0, length-replicate k.past 0, refl))

pub stands_count : (k : Kept) (p : Pipe) → Stands k p → length p.written ≡ count k
stands_count k p stands =
    ap (λ (q : Pipe). length q.written) stands.2 ∙ omega (arith, length-append stands.0 k.bytes, stands.1)

count_by : (k k' : Kept) (p p' : Pipe) → p'.written ≡ p.written → Stands k p → Stands k' p' → count k' ≡ count k
count_by k k' p p' same before after =
    sym (stands_count k' p' after) ∙ ap (λ (xs : List ℕ). length xs) same ∙ stands_count k p before

-- a call that writes nothing leaves the count
pub count_kept : (k k' : Kept) (f : Pipe → Pipe) → ((p : Pipe) → (f p).written ≡ p.written) → ((p : Pipe) → Stands k p → Stands k' (f p)) → count k' ≡ count k
count_kept k k' f same each =
    let p = some_model k in count_by k k' p.0 (f p.0) (same p.0) p.1 (each p.0 p.1)

pub read_writes_none : (o : Option Reader) (id size : ℕ) (p : Pipe) → (read_from o id size p).written ≡ p.written
read_writes_none None id size p = refl
read_writes_none (Some r) id size p = refl

close_by : (b : Bool) (p p' : Pipe) → p'.written ≡ p.written → (if b then p' else p).written ≡ p.written
close_by true p p' same = same
close_by false p p' same = refl

pub close_writes_none : (o : Option Reader) (id : ℕ) (status : Status) (p : Pipe) → (without_reader o id status p).written ≡ p.written
close_writes_none None id status p = refl
close_writes_none (Some r) id status p = close_by (is_open r.closed) p (close_open r id status p) refl
