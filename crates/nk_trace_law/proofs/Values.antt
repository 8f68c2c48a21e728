-- Digits and their values.
use Rattle.std.proofs.Common.{◌≡◌, ℕ, zero, suc, ◌<◌, ◌+◌, ◌-◌, ◌*◌, ◌/◌, ◌%◌, ◌^◌, Bool, true, false, ◌&&◌, ◌||◌, ◌==◌, not, List, [], ◌∷◌, ◌++◌, length, get_or, replicate, refl, sym, ap, subst, ◌∙◌, arith, eqb-true, eq-eqb, w32}
use Rattle.std.specs.Prelude.{nat_lt}
use Rattle.std.specs.List.{list_all}
use Rattle.std.specs.Int.{to_be_bytes, from_be_bytes}
use Rattle.std.specs.Fmt.{decimal}
use Rattle.std.specs.Char.{digit_value}
use Rattle.std.specs.Str.Parse.{digits_value, AllDigits}
use Rattle.std.proofs.lemmas.Bool.Decides.{nat_tests}
use Rattle.std.proofs.lemmas.Nat.{be_bytes_4}
use Rattle.std.proofs.lemmas.Fmt.{decimal-digits_value}
use Rattle.std.proofs.lemmas.Str.Parse.{numerals_by_value, tells_digits}
use Rattle.nk_base.specs.declared.status.Status.{Status}
use Rattle.nk_trace.specs.Words.{code_text, hex_digit, hex_byte, hex_text, status_text}
use Rattle.nk_trace_law.specs.DigitLaws.{is_digit, is_hex_digit, StatusDigitsLaw, StatusValueLaw, StatusSpelledLaw, CodeValueLaw, CodeSpelledLaw, BytesDigitsLaw, BytesToldLaw, BytesSpelledLaw}
use Rattle.nk_trace_law.specs.Fits.{BytesFit}
use Rattle.nk_trace_law.proofs.Tests.{both, more, differ}
use Rattle.nk_trace_law.proofs.Digits.{passes_below, passed, hex_value, is_byte, high, low, be_bytes, bytes_of, hex_text_bytes, code_number, status_long}

-- ONE DIGIT

abbrev is_value : ℕ → Bool
is_value i = is_hex_digit (hex_digit i)

all_values : passes_below is_value 16 ≡ true
unfolding hex_digit
all_values = refl

hex_is : (i : ℕ) → i < 16 → is_hex_digit (hex_digit i) ≡ true
hex_is i h = passed is_value 16 i all_values h

-- a digit is that of its value
abbrev is_told : ℕ → Bool
is_told b = not (is_hex_digit b) || (nat_lt (digit_value b) 16 && (hex_digit (digit_value b) == b))

all_told : passes_below is_told 103 ≡ true
unfolding hex_digit
all_told = refl

hex_small : (b : ℕ) → is_hex_digit b ≡ true → b < 103
hex_small b h = grind (arith, nat_tests)

or_right : (a b : Bool) → (not a || b) ≡ true → a ≡ true → b ≡ true
or_right true b h e = h
or_right false b h e = differ false e refl

told : (b : ℕ) → is_hex_digit b ≡ true → (nat_lt (digit_value b) 16 ≡ true) × ((hex_digit (digit_value b) == b) ≡ true)
told b h =
    both (nat_lt (digit_value b) 16) (hex_digit (digit_value b) == b)
    (or_right (is_hex_digit b) (nat_lt (digit_value b) 16 && (hex_digit (digit_value b) == b)) (passed is_told 103 b all_told (hex_small b h)) h)

below : (n m : ℕ) → nat_lt n m ≡ true → n < m
below n m h = grind (arith, nat_tests)

value_small : (b : ℕ) → is_hex_digit b ≡ true → digit_value b < 16
value_small b h = below (digit_value b) 16 (told b h).0

value_told : (b : ℕ) → is_hex_digit b ≡ true → hex_digit (digit_value b) ≡ b
value_told b h = eqb-true (hex_digit (digit_value b)) b (told b h).1

-- BYTES

-- the byte of two digits
abbrev pair : ℕ → ℕ → ℕ
pair d e = digit_value d * 16 + digit_value e

byte_by : (u v : ℕ) → u < 16 → v < 16 → ((u * 16 + v) / 16 ≡ u) × ((u * 16 + v) % 16 ≡ v)
byte_by u v p q = (omega arith, omega arith)

byte_small : (u v : ℕ) → u < 16 → v < 16 → u * 16 + v < 256
byte_small u v p q = omega arith

pair_small : (d e : ℕ) → is_hex_digit d ≡ true → is_hex_digit e ≡ true → pair d e < 256
pair_small d e p q = byte_small (digit_value d) (digit_value e) (value_small d p) (value_small e q)

-- two digits are those of their byte, and other digits follow
pair_told : (d e : ℕ) (more other : List ℕ) → is_hex_digit d ≡ true → is_hex_digit e ≡ true → more ≡ other → d ∷ e ∷ more ≡ hex_byte (pair d e) ++ other
pair_told d e more other p q h =
    let b = byte_by (digit_value d) (digit_value e) (value_small d p) (value_small e q) in
    let front : hex_digit (pair d e / 16) ≡ d = ap hex_digit b.0 ∙ value_told d p in
    let end : hex_digit (pair d e % 16) ≡ e = ap hex_digit b.1 ∙ value_told e q in
    cc

twice : (m n k : ℕ) → m ≡ 2 * k → suc (suc m) ≡ 2 * n → suc k ≡ n
twice m n k p q = omega arith

bytes_long : (bytes : List ℕ) → length (hex_text bytes) ≡ 2 * length bytes
bytes_long [] = refl
bytes_long (b ∷ bs) = omega (arith, bytes_long bs)

bytes_digits : (bytes : List ℕ) → BytesFit bytes → list_all is_hex_digit (hex_text bytes) ≡ true
bytes_digits [] h = refl
bytes_digits (b ∷ bs) h =
    let hs = both (is_byte b) (list_all is_byte bs) h in
    more (hex_is (b / 16) (high b hs.0)) (more (hex_is (b % 16) (low b)) (bytes_digits bs hs.1))

pub bytes_digits_law : BytesDigitsLaw
bytes_digits_law bytes = (bytes_long bytes, bytes_digits bytes)

pub bytes_told_law : BytesToldLaw
bytes_told_law xs ys p q e = sym (hex_text_bytes xs p) ∙ (ap bytes_of e ∙ hex_text_bytes ys q)

less : (n m : ℕ) → n < m → nat_lt n m ≡ true
less n m h = grind (arith, nat_tests)

pub bytes_spelled_law : BytesSpelledLaw
bytes_spelled_law [] n l h = ([], refl, refl)
bytes_spelled_law (d ∷ []) n l h = absurd (omega (arith, l))
bytes_spelled_law (d ∷ e ∷ ds) zero l h = absurd (omega (arith, l))
bytes_spelled_law (d ∷ e ∷ ds) (suc n) l h =
    let hs = both (is_hex_digit d) (is_hex_digit e && list_all is_hex_digit ds) h in
    let gs = both (is_hex_digit e) (list_all is_hex_digit ds) hs.1 in
    let rest = bytes_spelled_law ds n (omega (arith, l)) gs.1 in
    (pair d e ∷ rest.0, more (less (pair d e) 256 (pair_small d e hs.0 gs.0)) rest.1, pair_told d e ds (hex_text rest.0) hs.0 gs.0 rest.2)

-- STATUSES

four_values : (w x y z : ℕ) (a b c d e f g h : ℕ) → a * 16 + b ≡ w → c * 16 + d ≡ x → e * 16 + f ≡ y → g * 16 + h ≡ z
    → (((((((0 * 16 + a) * 16 + b) * 16 + c) * 16 + d) * 16 + e) * 16 + f) * 16 + g) * 16 + h ≡ ((w * 256 + x) * 256 + y) * 256 + z
four_values w x y z a b c d e f g h p q r s = omega arith

byte_value : (b : ℕ) → is_byte b ≡ true → digit_value (hex_digit (b / 16)) * 16 + digit_value (hex_digit (b % 16)) ≡ b
byte_value b h =
    let u = hex_value (b / 16) (high b h) in
    let v = hex_value (b % 16) (low b) in
    omega (arith, u, v)

whole : (n : ℕ) → n < 2 ^ 32 → (((n / 16777216 % 256) * 256 + n / 65536 % 256) * 256 + n / 256 % 256) * 256 + n % 256 ≡ n
whole n h = omega arith

low_byte : (n : ℕ) → is_byte (n % 256) ≡ true
low_byte n = grind (arith, nat_tests)

status_value : (s : Status) → s.0 < 2 ^ 32 → digits_value 16 (status_text s) ≡ s.0
unfolding status_text
status_value s h =
    four_values (s.0 / 16777216 % 256) (s.0 / 65536 % 256) (s.0 / 256 % 256) (s.0 % 256) _ _ _ _ _ _ _ _
    (byte_value (s.0 / 16777216 % 256) (low_byte (s.0 / 16777216))) (byte_value (s.0 / 65536 % 256) (low_byte (s.0 / 65536)))
    (byte_value (s.0 / 256 % 256) (low_byte (s.0 / 256))) (byte_value (s.0 % 256) (low_byte s.0))
    ∙ whole s.0 h

status_digits : (s : Status) → list_all is_hex_digit (status_text s) ≡ true
unfolding status_text
status_digits s = bytes_digits (to_be_bytes w32 s.0) (be_bytes s.0)

pub status_digits_law : StatusDigitsLaw
status_digits_law s = (status_long s, status_digits s)

pub status_value_law : StatusValueLaw
status_value_law s h = status_value s h

four_small : (w x y z : ℕ) → w < 256 → x < 256 → y < 256 → z < 256 → (i : ℕ) → get_or (w ∷ x ∷ y ∷ z ∷ []) i 0 < 256
four_small w x y z a b c d zero = a
four_small w x y z a b c d (suc zero) = b
four_small w x y z a b c d (suc (suc zero)) = c
four_small w x y z a b c d (suc (suc (suc zero))) = d
four_small w x y z a b c d (suc (suc (suc (suc i)))) = omega arith

from_four : (w x y z n : ℕ) → n ≡ ((w * 256 + x) * 256 + y) * 256 + z → n ≡ from_be_bytes w32 (w ∷ x ∷ y ∷ z ∷ [])
from_four w x y z n h = omega (arith, h)

pub status_spelled_law : StatusSpelledLaw
unfolding status_text
status_spelled_law (a ∷ b ∷ c ∷ d ∷ e ∷ f ∷ g ∷ h ∷ []) l t =
    let ta = both (is_hex_digit a) _ t in
    let tb = both (is_hex_digit b) _ ta.1 in
    let tc = both (is_hex_digit c) _ tb.1 in
    let td = both (is_hex_digit d) _ tc.1 in
    let te = both (is_hex_digit e) _ td.1 in
    let tf = both (is_hex_digit f) _ te.1 in
    let tg = both (is_hex_digit g) _ tf.1 in
    let th = both (is_hex_digit h) true tg.1 in
    let n = digits_value 16 (a ∷ b ∷ c ∷ d ∷ e ∷ f ∷ g ∷ h ∷ []) in
    let bytes = pair a b ∷ pair c d ∷ pair e f ∷ pair g h ∷ [] in
    let value : n ≡ ((pair a b * 256 + pair c d) * 256 + pair e f) * 256 + pair g h
    = four_values (pair a b) (pair c d) (pair e f) (pair g h) (digit_value a) (digit_value b) (digit_value c) (digit_value d) (digit_value e) (digit_value f) (digit_value g) (digit_value h) refl refl refl refl in
    let same : to_be_bytes w32 n ≡ bytes
    = be_bytes_4 bytes n refl (four_small (pair a b) (pair c d) (pair e f) (pair g h) (pair_small a b ta.0 tb.0) (pair_small c d tc.0 td.0) (pair_small e f te.0 tf.0) (pair_small g h tg.0 th.0))
    (from_four (pair a b) (pair c d) (pair e f) (pair g h) n value) in
    pair_told a b _ (hex_text (pair c d ∷ pair e f ∷ pair g h ∷ [])) ta.0 tb.0
    (pair_told c d _ (hex_text (pair e f ∷ pair g h ∷ [])) tc.0 td.0
    (pair_told e f _ (hex_text (pair g h ∷ [])) te.0 tf.0
    (pair_told g h [] [] tg.0 th.0 refl)))
    ∙ ap hex_text (sym same)
status_spelled_law word l t = absurd (omega (arith, l))

-- CODES

pub code_value_law : CodeValueLaw
code_value_law code h = code_number code h

digit_small : (b : ℕ) → is_digit b ≡ true → digit_value b < 10
digit_small b h = grind (arith, nat_tests)

all_digits : (ds : List ℕ) → list_all is_digit ds ≡ true → AllDigits 10 ds
all_digits [] h = tt
all_digits (d ∷ ds) h = let hs = both (is_digit d) (list_all is_digit ds) h in (digit_small d hs.0, all_digits ds hs.1)

-- digits with no zero before them, or one digit, are those of their value
plain : (ds : List ℕ) → list_all is_digit ds ≡ true → 0 < length ds → (get_or ds 0 0 ≡ 48 → length ds ≡ 1) → digits_value 10 ds < 2 ^ 64 → decimal (digits_value 10 ds) ≡ ds
plain ds h some lead small = decimal-digits_value (numerals_by_value (AllDigits 10) tells_digits) ds (all_digits ds h) some lead small

-- zeros before digits, up to three
abbrev filled : List ℕ → List ℕ
filled ds = replicate (3 - length ds) 48 ++ ds

not_zero : (b : ℕ) (n : ℕ) → (b == 48) ≡ false → b ≡ 48 → n ≡ 1
not_zero b n h e = differ (b == 48) (eq-eqb b 48 e) h

three : (u v w : ℕ) → u < 10 → v < 10 → w < 10 → ((0 * 10 + u) * 10 + v) * 10 + w < 2 ^ 64
three u v w p q r = omega arith

two : (v w : ℕ) → v < 10 → w < 10 → (0 * 10 + v) * 10 + w < 2 ^ 64
two v w p q = omega arith

one : (w : ℕ) → w < 10 → 0 * 10 + w < 2 ^ 64
one w p = omega arith

last_two : (b c : ℕ) (zero : Bool) → (b == 48) ≡ zero → is_digit b ≡ true → is_digit c ≡ true → 48 ∷ b ∷ c ∷ [] ≡ filled (decimal (digits_value 10 (b ∷ c ∷ [])))
last_two b c true e p q =
    let is : b ≡ 48 = eqb-true b 48 e in
    let same : decimal (digits_value 10 (c ∷ [])) ≡ c ∷ [] = plain (c ∷ []) (more q refl) (omega arith) (λ x. refl) (one (digit_value c) (digit_small c q)) in
    subst (λ (z : ℕ). 48 ∷ z ∷ c ∷ [] ≡ filled (decimal (digits_value 10 (z ∷ c ∷ [])))) (sym is) (ap filled (sym same))
last_two b c false e p q =
    ap filled (sym (plain (b ∷ c ∷ []) (more p (more q refl)) (omega arith) (not_zero b 2 e) (two (digit_value b) (digit_value c) (digit_small b p) (digit_small c q))))

all_three : (a b c : ℕ) (zero : Bool) → (a == 48) ≡ zero → is_digit a ≡ true → is_digit b ≡ true → is_digit c ≡ true
    → a ∷ b ∷ c ∷ [] ≡ filled (decimal (digits_value 10 (a ∷ b ∷ c ∷ [])))
all_three a b c true e o p q =
    subst (λ (z : ℕ). z ∷ b ∷ c ∷ [] ≡ filled (decimal (digits_value 10 (z ∷ b ∷ c ∷ [])))) (sym (eqb-true a 48 e)) (last_two b c (b == 48) refl p q)
all_three a b c false e o p q =
    ap filled (sym (plain (a ∷ b ∷ c ∷ []) (more o (more p (more q refl))) (omega arith) (not_zero a 3 e) (three (digit_value a) (digit_value b) (digit_value c) (digit_small a o) (digit_small b p) (digit_small c q))))

pub code_spelled_law : CodeSpelledLaw
unfolding code_text
code_spelled_law (a ∷ b ∷ c ∷ []) l t =
    let ta = both (is_digit a) _ t in
    let tb = both (is_digit b) _ ta.1 in
    let tc = both (is_digit c) true tb.1 in
    all_three a b c (a == 48) refl ta.0 tb.0 tc.0
code_spelled_law word l t = absurd (omega (arith, l))
