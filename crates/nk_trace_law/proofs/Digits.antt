-- How numbers, statuses and bytes are printed: words, and of which number.
use Rattle.std.proofs.Common.{◌≡◌, ℕ, zero, suc, ◌<◌, ◌≤◌, ◌+◌, ◌-◌, ◌*◌, ◌/◌, ◌%◌, ◌^◌, Bool, true, false, ◌&&◌, ◌==◌, not, if◌then◌else◌, List, [], ◌∷◌, ◌++◌, length, replicate, codes, nat_lt, ◌⊎◌, inl, inr, refl, ap, subst, ◌∙◌, arith, w32}
use Rattle.std.specs.List.{list_all}
use Rattle.std.specs.Fmt.{decimal, digits}
use Rattle.std.specs.Fmt.{digits_onto, digit_glyph}
use Rattle.std.specs.Int.{to_be_bytes, from_be_bytes}
use Rattle.std.specs.Char.{digit_value}
use Rattle.std.specs.Str.Parse.{digits_value}
use Rattle.std.proofs.lemmas.Bool.Decides.{nat_tests}
use Rattle.std.proofs.lemmas.Fmt.{decimal_is_IsNumeral}
use Rattle.std.proofs.lemmas.List.{get_or_past}
use Rattle.std.proofs.lemmas.Nat.{from_be_bytes-to_be_bytes_4}
use Rattle.nk_base.specs.declared.status.Status.{Status}
use Rattle.nk_trace.specs.Words.{code_text, hex_digit, hex_text, status_text}
use Rattle.nk_trace_law.specs.Lines.{is_word}
use Rattle.nk_trace_law.proofs.Tests.{both, join, unless, all_join, in_word}

-- DECIMAL NUMBERS

high_byte : (b : ℕ) → 48 ≤ b → in_word b ≡ true
high_byte b h = grind (arith, nat_tests)

glyph_word : (d : ℕ) → in_word (digit_glyph false d) ≡ true
glyph_word d = high_byte (digit_glyph false d) (grind (arith, nat_tests))

either : (last : Bool) (v w : List ℕ) → is_word v ≡ true → is_word w ≡ true → is_word (if last then v else w) ≡ true
either true v w p q = p
either false v w p q = q

onto_word : (k n : ℕ) (acc : List ℕ) → is_word acc ≡ true → is_word (digits_onto k 10 false n acc) ≡ true
onto_word zero n acc h = h
onto_word (suc k) n acc h =
    let here = digit_glyph false (n % 10) ∷ acc in
    let word : is_word here ≡ true = join (in_word (digit_glyph false (n % 10))) (is_word acc) (glyph_word (n % 10)) h in
    either (n / 10 == 0) here (digits_onto k 10 false (n / 10) here) word (onto_word k (n / 10) here word)

-- a number is a word, however large
pub decimal_word : (n : ℕ) → is_word (decimal n) ≡ true
unfolding digits
decimal_word n = onto_word 64 n [] refl

zeros_word : (k : ℕ) → is_word (replicate k 48) ≡ true
zeros_word zero = refl
zeros_word (suc k) = zeros_word k

pub code_word : (code : ℕ) → is_word (code_text code) ≡ true
unfolding code_text
code_word code = all_join in_word (replicate (3 - length (decimal code)) 48) (decimal code) (zeros_word (3 - length (decimal code))) (decimal_word code)

-- the number that a word writes
abbrev pub number : List ℕ → ℕ
number word = digits_value 10 word

pub decimal_number : (n : ℕ) → n < 2 ^ 64 → number (decimal n) ≡ n
decimal_number n h = (decimal_is_IsNumeral n h).1

behind_zeros : (k : ℕ) (ds : List ℕ) → digits_value 10 (replicate k 48 ++ ds) ≡ digits_value 10 ds
behind_zeros zero ds = refl
behind_zeros (suc k) ds = behind_zeros k ds

pub code_number : (code : ℕ) → code < 2 ^ 64 → number (code_text code) ≡ code
unfolding code_text
code_number code h = behind_zeros (3 - length (decimal code)) (decimal code) ∙ decimal_number code h

-- BYTES

-- a test that passes below a number
abbrev pub passes_below : (ℕ → Bool) → ℕ → Bool
passes_below p zero = true
passes_below p (suc n) = p n && passes_below p n

last_or_below : (i n : ℕ) → i < suc n → (n ≡ i) ⊎ (i < n)
last_or_below i n h = grind arith

pub passed : (p : ℕ → Bool) (n i : ℕ) → passes_below p n ≡ true → i < n → p i ≡ true
passed p zero i h l = absurd (omega arith)
passed p (suc n) i h l =
    let hs = both (p n) (passes_below p n) h in
    elim (last_or_below i n l) [ inl e ↦ subst (λ (k : ℕ). p k ≡ true) e hs.0 | inr below ↦ passed p n i hs.1 below ]

abbrev is_spelled : ℕ → Bool
is_spelled i = in_word (hex_digit i) && (digit_value (hex_digit i) == i)

all_spelled : passes_below is_spelled 16 ≡ true
unfolding hex_digit
all_spelled = refl

same : (m n : ℕ) → (m == n) ≡ true → m ≡ n
same m n h = grind (arith, nat_tests)

hex_word : (i : ℕ) → i < 16 → in_word (hex_digit i) ≡ true
hex_word i h = (both (in_word (hex_digit i)) (digit_value (hex_digit i) == i) (passed is_spelled 16 i all_spelled h)).0

pub hex_value : (i : ℕ) → i < 16 → digit_value (hex_digit i) ≡ i
hex_value i h = same (digit_value (hex_digit i)) i (both (in_word (hex_digit i)) (digit_value (hex_digit i) == i) (passed is_spelled 16 i all_spelled h)).1

-- behind the last digit there is none
hex_past : (i : ℕ) → 16 ≤ i → hex_digit i ≡ 0
unfolding hex_digit
hex_past i h = get_or_past (codes "0123456789abcdef") i 0 h

any_digit : (i : ℕ) (d : (i < 16) ⊎ (16 ≤ i)) → in_word (hex_digit i) ≡ true
any_digit i (inl h) = hex_word i h
any_digit i (inr h) = rw (hex_past i h) refl

below_or_past : (i n : ℕ) → (i < n) ⊎ (n ≤ i)
below_or_past i n = grind arith

digit_word : (i : ℕ) → in_word (hex_digit i) ≡ true
digit_word i = any_digit i (below_or_past i 16)

-- no digit is the sign that stands for nothing
no_sign_below : passes_below (λ i. not (hex_digit i == 45)) 16 ≡ true
unfolding hex_digit
no_sign_below = refl

no_sign : (i : ℕ) (d : (i < 16) ⊎ (16 ≤ i)) → not (hex_digit i == 45) ≡ true
no_sign i (inl h) = passed (λ k. not (hex_digit k == 45)) 16 i no_sign_below h
no_sign i (inr h) = rw (hex_past i h) refl

pub not_sign : (i : ℕ) → (hex_digit i == 45) ≡ false
not_sign i = unless (hex_digit i == 45) (no_sign i (below_or_past i 16))

-- bytes are a word, whatever they are
pub hex_text_word : (bytes : List ℕ) → is_word (hex_text bytes) ≡ true
hex_text_word [] = refl
hex_text_word (b ∷ bs) = join _ _ (digit_word (b / 16)) (join _ _ (digit_word (b % 16)) (hex_text_word bs))

pub status_word : (s : Status) → is_word (status_text s) ≡ true
unfolding status_text
status_word s = hex_text_word (to_be_bytes w32 s.0)

-- the bytes that a word writes
abbrev pub bytes_of : List ℕ → List ℕ
bytes_of [] = []
bytes_of (d ∷ []) = []
bytes_of (d ∷ e ∷ ds) = (digit_value d * 16 + digit_value e) ∷ bytes_of ds

abbrev pub is_byte : ℕ → Bool
is_byte byte = nat_lt byte 256

byte_value : (b u v : ℕ) → is_byte b ≡ true → u ≡ b / 16 → v ≡ b % 16 → u * 16 + v ≡ b
byte_value b u v h p q = grind (arith, nat_tests)

pub high : (b : ℕ) → is_byte b ≡ true → b / 16 < 16
high b h = grind (arith, nat_tests)

pub low : (b : ℕ) → b % 16 < 16
low b = omega arith

pub hex_text_bytes : (bytes : List ℕ) → list_all is_byte bytes ≡ true → bytes_of (hex_text bytes) ≡ bytes
hex_text_bytes [] h = refl
hex_text_bytes (b ∷ bs) h =
    let hs = both (is_byte b) (list_all is_byte bs) h in
    let first : digit_value (hex_digit (b / 16)) * 16 + digit_value (hex_digit (b % 16)) ≡ b
    = byte_value b _ _ hs.0 (hex_value (b / 16) (high b hs.0)) (hex_value (b % 16) (low b)) in
    let rest : bytes_of (hex_text bs) ≡ bs = hex_text_bytes bs hs.1 in
    cc

-- the status that a word writes
abbrev pub status : List ℕ → Status
status word = record { 0 = from_be_bytes w32 (bytes_of word) }

low_byte : (n : ℕ) → is_byte (n % 256) ≡ true
low_byte n = grind (arith, nat_tests)

pub be_bytes : (n : ℕ) → list_all is_byte (to_be_bytes w32 n) ≡ true
be_bytes n = join _ _ (low_byte (n / 16777216)) (join _ _ (low_byte (n / 65536)) (join _ _ (low_byte (n / 256)) (join _ _ (low_byte n) refl)))

pub status_status : (s : Status) → s.0 < 2 ^ 32 → status (status_text s) ≡ s
unfolding status_text
status_status s h =
    let f : ℕ → Status = λ n. record { 0 = n } in
    ap f (ap (from_be_bytes w32) (hex_text_bytes (to_be_bytes w32 s.0) (be_bytes s.0)) ∙ from_be_bytes-to_be_bytes_4 s.0 h)

pub status_long : (s : Status) → length (status_text s) ≡ 8
unfolding status_text
status_long s = refl
