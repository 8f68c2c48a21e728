-- How the generator spells numbers and bytes is how the script's lines read them.
use Rattle.std.proofs.Common.{◌≡◌, ℕ, zero, suc, ◌<◌, ◌≤◌, ◌+◌, ◌*◌, ◌/◌, ◌%◌, ◌^◌, Bool, true, ◌&&◌, ◌==◌, not, List, [], ◌∷◌, codes, ◌⊎◌, inl, inr, refl, subst, arith}
use Rattle.std.specs.Fmt.{decimal, digits}
use Rattle.std.specs.Char.{digit_value}
use Rattle.std.specs.Str.Parse.{AllDigits}
use Rattle.std.proofs.lemmas.Bool.Decides.{nat_tests}
use Rattle.std.proofs.lemmas.Fmt.{decimal_is_IsNumeral}
use Rattle.std.proofs.lemmas.Str.Parse.{digit_from_value}
use Rattle.nk_trace.specs.Words.{hex_digit, hex_byte}
use Rattle.nk_script.specs.Numbers.{is_hex_digit, IsDecimal, IsByte}
use Rattle.nk_gen_law.proofs.Cuts.{lacks, both, join}

-- DECIMAL NUMBERS

not_mark : (mark b : ℕ) → mark < 48 → 48 ≤ b → not (b == mark) ≡ true
not_mark mark b m h = grind (arith, nat_tests)

-- digits are neither spaces nor line feeds
digits_lack : (mark : ℕ) → mark < 48 → (ds : List ℕ) → AllDigits 10 ds → lacks mark ds ≡ true
digits_lack mark m [] d = refl
digits_lack mark m (c ∷ cs) d =
    join (not (c == mark)) (lacks mark cs) (not_mark mark c m (digit_from_value c d.0).0) (digits_lack mark m cs d.1)

pub decimal_lacks : (mark n : ℕ) → mark < 48 → n < 2 ^ 64 → lacks mark (decimal n) ≡ true
decimal_lacks mark n m h = digits_lack mark m (decimal n) (decimal_is_IsNumeral n h).0.1

-- the spelling of a number in range is read as that number
pub decimal_read : (least most n : ℕ) → least ≤ n → n ≤ most → IsDecimal least most (decimal n) n
decimal_read least most n l m = record { spelled = refl; at_least = l; at_most = m }

-- the numbers that stand in each channel

pub spelled_302 : codes "302" ≡ decimal 302
unfolding digits
spelled_302 = refl

pub spelled_200 : codes "200" ≡ decimal 200
unfolding digits
spelled_200 = refl

pub spelled_4096 : codes "4096" ≡ decimal 4096
unfolding digits
spelled_4096 = refl

pub spelled_16 : codes "16" ≡ decimal 16
unfolding digits
spelled_16 = refl

pub spelled_2 : codes "2" ≡ decimal 2
unfolding digits
spelled_2 = refl

-- BYTES

-- a test that passes below a number
abbrev passes_below : (ℕ → Bool) → ℕ → Bool
passes_below p zero = true
passes_below p (suc n) = p n && passes_below p n

last_or_below : (i n : ℕ) → i < suc n → (n ≡ i) ⊎ (i < n)
last_or_below i n h = grind arith

passed : (p : ℕ → Bool) (n i : ℕ) → passes_below p n ≡ true → i < n → p i ≡ true
passed p zero i h l = absurd (omega arith)
passed p (suc n) i h l =
    let hs = both (p n) (passes_below p n) h in
    elim (last_or_below i n l) [ inl e ↦ subst (λ k. p k ≡ true) e hs.0 | inr below ↦ passed p n i hs.1 below ]

abbrev is_spelled : ℕ → Bool
is_spelled i = is_hex_digit (hex_digit i) && (digit_value (hex_digit i) == i)

all_spelled : passes_below is_spelled 16 ≡ true
unfolding hex_digit
all_spelled = refl

same : (m n : ℕ) → (m == n) ≡ true → m ≡ n
same m n h = grind (arith, nat_tests)

-- each value below 16 has a digit
hex_spelled : (i : ℕ) → i < 16 → (is_hex_digit (hex_digit i) ≡ true) × (digit_value (hex_digit i) ≡ i)
hex_spelled i h =
    let hs = both (is_hex_digit (hex_digit i)) (digit_value (hex_digit i) == i) (passed is_spelled 16 i all_spelled h) in
    (hs.0, same (digit_value (hex_digit i)) i hs.1)

high : (byte : ℕ) → byte < 256 → byte / 16 < 16
high byte h = omega arith

low : (byte : ℕ) → byte % 16 < 16
low byte = omega arith

two_digits : (byte u v : ℕ) → u ≡ byte / 16 → v ≡ byte % 16 → byte ≡ (0 * 16 + u) * 16 + v
two_digits byte u v p q = omega arith

-- the two digits of a byte are read as that byte
pub byte_read : (byte : ℕ) → byte < 256 → IsByte (hex_byte byte) byte
byte_read byte h =
    let hi = hex_spelled (byte / 16) (high byte h) in
    let lo = hex_spelled (byte % 16) (low byte) in
    record {
      two = refl;
      digits = join _ _ hi.0 (join _ _ lo.0 refl);
      value = two_digits byte (digit_value (hex_digit (byte / 16))) (digit_value (hex_digit (byte % 16))) hi.1 lo.1;
    }

hex_high : (b : ℕ) → is_hex_digit b ≡ true → 48 ≤ b
hex_high b h = grind (arith, nat_tests)

-- they are neither spaces nor line feeds
pub byte_lacks : (mark byte : ℕ) → mark < 48 → byte < 256 → lacks mark (hex_byte byte) ≡ true
byte_lacks mark byte m h =
    let hi = hex_spelled (byte / 16) (high byte h) in
    let lo = hex_spelled (byte % 16) (low byte) in
    join _ _ (not_mark mark _ m (hex_high _ hi.0)) (join _ _ (not_mark mark _ m (hex_high _ lo.0)) refl)
