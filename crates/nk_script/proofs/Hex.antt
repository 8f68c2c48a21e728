-- What `from_str_radix` reads of hexadecimal digits.
use Rattle.std.proofs.Common.{◌≡◌, ℕ, ◌^◌, ◌<◌, ◌≤◌, true, List, [], ◌∷◌, length, Result, Ok, Err, ap, subst, arith, OkIff}
use Rattle.std.specs.List.{list_all}
use Rattle.std.specs.Char.{digit_value}
use Rattle.std.specs.Str.Parse.{AllDigits, digits_value, ParsesUnsigned, without_leading_plus, IsNumeral}
use Rattle.std.proofs.lemmas.Str.Parse.{without_leading_plus_none}
use Rattle.std.proofs.lemmas.Int.Digits.{digits_value-lt}
use Rattle.std.proofs.Math.Nat.{pow-le-pow_right}
use Rattle.std.proofs.lemmas.Bool.Decides.{nat_tests}
use Rattle.nk_script.specs.Numbers.{is_hex_digit}
use Rattle.nk_script.proofs.Ascii.{both}

-- a hexadecimal digit has a value below 16
hex_digit_value : (b : ℕ) → is_hex_digit b ≡ true → digit_value b < 16
hex_digit_value b h = grind (arith, nat_tests)

no_plus : (b : ℕ) → is_hex_digit b ≡ true → 48 ≤ b
no_plus b h = grind (arith, nat_tests)

pub hex_digits : (word : List ℕ) → list_all is_hex_digit word ≡ true → AllDigits 16 word
hex_digits [] h = tt
hex_digits (b ∷ bs) h = let hs = both (is_hex_digit b) (list_all is_hex_digit bs) h in (hex_digit_value b hs.0, hex_digits bs hs.1)

plain : (word : List ℕ) → 0 < length word → list_all is_hex_digit word ≡ true → without_leading_plus word ≡ word
plain [] some h = absurd (omega arith)
plain (b ∷ bs) some h = without_leading_plus_none (b ∷ bs) (λ e. absurd (omega (arith, no_plus b (both (is_hex_digit b) (list_all is_hex_digit bs) h).0, e)))

given : {E : Type 0} (r : Result ℕ E) (P : Type 0) (v : ℕ) → OkIff r P v → P → r ≡ Ok v
given (Ok x) P v (p, e) h = ap Ok e
given (Err x) P v refused h = absurd (refused h)

-- so many digits are below this power, and are read
pub hex_below : (word : List ℕ) → list_all is_hex_digit word ≡ true → digits_value 16 word < 16 ^ length word
hex_below word h = digits_value-lt 16 word (hex_digits word h)

pub read_digits : {E : Type 0} (word : List ℕ) (r : Result ℕ E) → ParsesUnsigned 32 16 word r → 0 < length word → length word < 9 → list_all is_hex_digit word ≡ true → r ≡ Ok (digits_value 16 word)
read_digits word r parsed some few h =
    let e = plain word some h in
    let Q : List ℕ → Type 0 = λ bs. OkIff r (IsNumeral 16 bs × (digits_value 16 bs < 2 ^ 32)) (digits_value 16 bs) in
    let below = hex_below word h in
    let most : 16 ^ length word ≤ 16 ^ 8 = pow-le-pow_right {n = 16} (omega arith) {i = length word} {j = 8} (omega arith) in
    let small : digits_value 16 word < 2 ^ 32 = omega arith in
    given r _ _ (subst Q e parsed) ((some, hex_digits word h), small)
