-- What a clone answers. This project's own.
use Rattle.std.specs.Prelude.{◌≡◌, ℕ, ◌⊎◌, [], ◌∷◌, ◌++◌, length, Result, Ok, Err}
use Rattle.nk_pipe.specs.declared.answer.CloneError.{CloneError}
use Rattle.nk_pipe.specs.declared.answer.CloneError.TheVariants as clone
use Rattle.nk_pipe.specs.Pipe.{Reader, reader_at, clone_open}
use Rattle.nk_pipe.specs.Kept.{Kept}

-- the answer, unless memory is wanting
abbrev pub OrMemory : Result ℕ CloneError → Result ℕ CloneError → Type 0
OrMemory answer result = (result ≡ answer) ⊎ (result ≡ Err clone.Memory)

-- a clone, by the answer: a reader at the original's place is added, or nothing changed
abbrev pub ClonedBy : Kept → Kept → Reader → Result ℕ CloneError → Type 0
ClonedBy k k' r (Ok id) = (k' ≡ record k { readers = k.readers ++ reader_at r.position ∷ [] }) × (Ok id ≡ clone_open r.closed (length k.readers))
ClonedBy k k' r (Err e) = (k' ≡ k) × OrMemory (clone_open r.closed (length k.readers)) (Err e)
