-- The bytes of pairs of digits, read one by one.
use Rattle.std.proofs.Common.{◌≡◌, ℕ, ◌<◌, List, [], ◌∷◌, ◌++◌, length, take, drop, refl, sym, ap, subst, arith, ◌∙◌, append_assoc}
use Rattle.nk_script.specs.Numbers.{IsByte, IsBytes}

-- these bytes were read of the digits, and the rest is to come
pub record HasRead (digits : List ℕ) (all rest : List ℕ) : Type 0 where
  on : (bytes : List ℕ) → IsBytes rest bytes → IsBytes digits (all ++ bytes)
  back : (bytes : List ℕ) → IsBytes digits bytes → (more : List ℕ) × (bytes ≡ all ++ more) × IsBytes rest more

pub read_none : (digits : List ℕ) → HasRead digits [] digits
read_none digits = record { on = λ bytes h. h; back = λ bytes h. (bytes, refl, h) }

back_one : (digits all rest : List ℕ) (byte : ℕ) → ((b : ℕ) → IsByte (take 2 rest) b → b ≡ byte) → 1 < length rest → (bytes : List ℕ) → (more : List ℕ) → bytes ≡ all ++ more → IsBytes rest more → (less : List ℕ) × (bytes ≡ (all ++ byte ∷ []) ++ less) × IsBytes (drop 2 rest) less
back_one digits all [] byte only h bytes more e is = absurd (omega arith)
back_one digits all (d ∷ []) byte only h bytes more e is = absurd (omega arith)
back_one digits all (d ∷ (f ∷ ds)) byte only h bytes [] e is = absurd is
back_one digits all (d ∷ (f ∷ ds)) byte only h bytes (b ∷ less) e (is, others) =
    (less, e ∙ (ap (λ (x : ℕ). all ++ (x ∷ less)) (only b is) ∙ sym (append_assoc all (byte ∷ []) less)), others)

on_one : (rest : List ℕ) (byte : ℕ) (bytes : List ℕ) → 1 < length rest → IsByte (take 2 rest) byte → IsBytes (drop 2 rest) bytes → IsBytes rest (byte ∷ bytes)
on_one [] byte bytes h is others = absurd (omega arith)
on_one (d ∷ []) byte bytes h is others = absurd (omega arith)
on_one (d ∷ (f ∷ ds)) byte bytes h is others = (is, others)

-- one more byte was read
pub read_one : (digits all rest : List ℕ) (byte : ℕ) → 1 < length rest → IsByte (take 2 rest) byte → ((b : ℕ) → IsByte (take 2 rest) b → b ≡ byte) → HasRead digits all rest → HasRead digits (all ++ byte ∷ []) (drop 2 rest)
read_one digits all rest byte h is only was = record {
  on = λ bytes others. subst (IsBytes digits) (sym (append_assoc all (byte ∷ []) bytes)) (was.on (byte ∷ bytes) (on_one rest byte bytes h is others));
  back = λ bytes all_of. let found = was.back bytes all_of in back_one digits all rest byte only h bytes found.0 found.1 found.2;
}

no_byte : (rest more : List ℕ) → 1 < length rest → ((b : ℕ) → ¬ IsByte (take 2 rest) b) → IsBytes rest more → ⊥
no_byte [] more h bad is = omega arith
no_byte (d ∷ []) more h bad is = omega arith
no_byte (d ∷ (f ∷ ds)) [] h bad is = is
no_byte (d ∷ (f ∷ ds)) (b ∷ less) h bad (is, others) = bad b is

-- the next two digits are no byte
pub read_bad : (digits all rest : List ℕ) → 1 < length rest → ((b : ℕ) → ¬ IsByte (take 2 rest) b) → HasRead digits all rest → (bytes : List ℕ) → ¬ IsBytes digits bytes
read_bad digits all rest h bad was bytes is = let found = was.back bytes is in no_byte rest found.0 h bad found.2

no_half : (rest more : List ℕ) → length rest < 2 → 0 < length rest → IsBytes rest more → ⊥
no_half [] more low high is = omega arith
no_half (d ∷ []) more low high is = is
no_half (d ∷ (f ∷ ds)) more low high is = omega arith

-- one digit is left
pub read_half : (digits all rest : List ℕ) → length rest < 2 → 0 < length rest → HasRead digits all rest → (bytes : List ℕ) → ¬ IsBytes digits bytes
read_half digits all rest low high was bytes is = let found = was.back bytes is in no_half rest found.0 low high found.2

append_nil : (xs : List ℕ) → xs ++ [] ≡ xs
append_nil [] = refl
append_nil (x ∷ xs) = ap (λ ys. x ∷ ys) (append_nil xs)

nothing_more : (all more bytes : List ℕ) → bytes ≡ all ++ more → IsBytes [] more → all ≡ bytes
nothing_more all [] bytes e is = sym (e ∙ append_nil all)
nothing_more all (b ∷ more) bytes e is = absurd is

-- nothing is left
pub read_all : (digits all : List ℕ) → HasRead digits all [] → IsBytes digits all × ((bytes : List ℕ) → IsBytes digits bytes → all ≡ bytes)
read_all digits all was = (
  subst (IsBytes digits) (append_nil all) (was.on [] tt),
  λ bytes is. let found = was.back bytes is in nothing_more all found.0 bytes found.1 found.2,
)

pub no_bytes : (xs : List ℕ) → length xs ≡ 0 → xs ≡ []
no_bytes [] e = refl
no_bytes (x ∷ xs) e = absurd (omega arith)
