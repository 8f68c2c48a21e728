-- The offset behind a piece.
use Rattle.std.proofs.Common.{◌≡◌, ◌≤◌, ◌<◌, ◌+◌, ℕ, zero, suc, List, [], ◌∷◌, length, take, arith}
use Rattle.std.specs.Prelude.{slice_get, Some}
use Rattle.std.proofs.lemmas.Grind.{common_steps}
use Rattle.nk_source.specs.Source.{size_of, IsSource}

-- the bytes before the next piece and the bytes of that piece are those before the one behind it
size_next : (ps : List (List ℕ)) (k : ℕ) (p : List ℕ) → slice_get ps k ≡ Some p → size_of (take (k + 1) ps) ≡ size_of (take k ps) + length p
size_next [] k p e = grind (arith, common_steps, e)
size_next (x ∷ xs) zero p e = grind (arith, common_steps, e)
size_next (x ∷ xs) (suc k) p e =
    let n : suc k + 1 ≡ suc (k + 1) = omega arith in
    rw n (omega (arith, size_next xs k p e))

-- a source that has given its next piece is one
pub given_is_source : (ps : List (List ℕ)) (k at : ℕ) (p : List ℕ) (size : ℕ) → IsSource ps k at → slice_get ps k ≡ Some p → k < length ps → size ≡ length p → size ≤ 131072 → IsSource ps (k + 1) (at + size)
given_is_source ps k at p size s e l n b =
    record {
      within = omega (arith, l);
      most = s.most;
      at = rw (size_next ps k p e) (omega (arith, s.at, n));
      bounded = omega (arith, s.bounded, b);
    }
