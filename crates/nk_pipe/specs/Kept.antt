-- What a pipe keeps of its model: of the bytes that were written, those that a reader may still need.
use Rattle.std.specs.Prelude.{◌≡◌, ℕ, ◌+◌, ◌-◌, ◌≤◌, List, ◌++◌, length, take, drop, Option, Some, None, IfSome, IsSome, slice_get, slice_set, if◌then◌else◌}
use Rattle.nk_base.specs.declared.status.Status.{Status}
use Rattle.nk_pipe.specs.Pipe.{Pipe, Reader, moved, closed_with, first_close, has_open}

-- how many bytes were written before those that are kept, the kept bytes, all else of the model, and how many bytes
-- find room in the segments that are there
pub record Kept : Type 0 where
  pub segment : ℕ
  pub limit : ℕ
  pub past : ℕ
  pub bytes : List ℕ
  pub readers : List Reader
  pub closed : Option Status
  pub ahead : ℕ

-- how many bytes were written
abbrev pub count : Kept → ℕ
count k = k.past + length k.bytes

-- the model whose first bytes are these, which were given back
abbrev pub whole : List ℕ → Kept → Pipe
whole gone k = record {
  segment = k.segment;
  limit = k.limit;
  written = gone ++ k.bytes;
  readers = k.readers;
  closed = k.closed;
}

-- the pipe stands for this model: it keeps the last of all bytes written, and knows all else
abbrev pub Stands : Kept → Pipe → Type 0
Stands k p = (gone : List ℕ) × (length gone ≡ k.past) × (p ≡ whole gone k)

-- what is kept reaches back to where an open reader stands
abbrev pub ReachesBy : Option Status → ℕ → ℕ → Type 0
ReachesBy (Some s) past position = Unit {0}
ReachesBy None past position = past ≤ position

abbrev pub Reaches : Option Reader → ℕ → Type 0
Reaches None past = Unit {0}
Reaches (Some r) past = ReachesBy r.closed past r.position

-- the first of the kept bytes were given back, and nothing else changed
abbrev pub Forgets : Kept → Kept → Type 0
Forgets k k' =
    (n : ℕ) × (n ≤ length k.bytes) × (k' ≡ record k { past = k.past + n; bytes = drop n k.bytes })

-- the reader at this index is open
abbrev pub OpenAt : List Reader → ℕ → Type 0
OpenAt readers i = IfSome (slice_get readers i) (λ r. r.closed ≡ None) × IsSome (slice_get readers i)

-- a read of an open reader: the next of the kept bytes stand first in the buffer, and the reader has moved so far
pub record ReadsOpen (k k' : Kept) (i : ℕ) (r : Reader) (old new : List ℕ) : Type 0 where
  pub within : k.past ≤ r.position
  pub most : r.position ≤ count k
  pub handed : new ≡ take (length old) (drop (r.position - k.past) k.bytes) ++ drop (length (take (length old) (drop (r.position - k.past) k.bytes))) old
  pub moved : Forgets (record k { readers = slice_set k.readers i (moved r (length (take (length old) (drop (r.position - k.past) k.bytes)))) }) k'

-- a read, by the reader's closing status
abbrev pub ReadsBy : Kept → Kept → ℕ → Reader → List ℕ → List ℕ → Option Status → Type 0
ReadsBy k k' i r old new (Some s) = (k' ≡ k) × (new ≡ old)
ReadsBy k k' i r old new None = ReadsOpen k k' i r old new

-- what is kept once an open reader is closed
abbrev pub without : Kept → ℕ → Reader → Status → Kept
without k i r status =
    let readers = slice_set k.readers i (closed_with r status) in
    record k { readers = readers; closed = if has_open readers then k.closed else first_close k.closed status }
