-- Numbers and bytes: what is read is what was written, and what was written is read.
use Rattle.std.proofs.Common.{◌≡◌, ℕ, ◌+◌, ◌<◌, ◌≤◌, Bool, true, false, ltb, List, ◌++◌, length, get_or, take, drop, Ok, Err, refl, sym, ap, subst, ◌∙◌, arith, inl, inr, if◌then◌else◌}
use Rattle.std.proofs.lemmas.Bool.{ltb-false, le-ltb, cases_lt}
use Rattle.std.proofs.lemmas.List.{take_at, drop_at, take-append-drop, length-append, length-take-le, get_or-append-add, get_or_append_left, get_or_past}
use Rattle.std.proofs.lemmas.Nat.{le_bytes_2, le_bytes_4, le_bytes_8, from_le_bytes-to_le_bytes_2, from_le_bytes-to_le_bytes_4, from_le_bytes-to_le_bytes_8}
use Rattle.nk_wire.specs.declared.error.DecodeError.{DecodeError}
use Rattle.nk_wire.specs.declared.error.DecodeError.TheVariants as error
use Rattle.nk_wire.specs.Layouts.{Size, U16, U32, U64, bytes_of, limit, little, from_little}
use Rattle.nk_wire.specs.Reading.{◌>>=◌, Place, bytes_at, in_range_at, whole_number_at, number_at, text_at}
use Rattle.nk_wire.proofs.Steps.{both_ok, was_in_range, equal_values}

-- each is a byte
abbrev pub AreBytes : List ℕ → Type 0
AreBytes bytes = (i : ℕ) → get_or bytes i 0 < 256

pub AreBytes-behind : (front bytes : List ℕ) → AreBytes (front ++ bytes) → AreBytes bytes
AreBytes-behind front bytes h i = subst (λ (n : ℕ). n < 256) (get_or-append-add front bytes i 0) (h (length front + i))

pub AreBytes-front : (front bytes : List ℕ) → AreBytes (front ++ bytes) → AreBytes front
AreBytes-front front bytes h i =
    elim (cases_lt i (length front)) [
      | inl lt ↦ subst (λ (n : ℕ). n < 256) (get_or_append_left front bytes 0 i lt) (h i)
      | inr le ↦ rw (get_or_past front i 0 le) (omega arith)
    ]

-- a number has its bytes, and they have it

pub length-little : (size : Size) (n : ℕ) → length (little size n) ≡ bytes_of size
length-little U16 n = refl
length-little U32 n = refl
length-little U64 n = refl

pub little-from_little : (size : Size) (bytes : List ℕ) → length bytes ≡ bytes_of size → AreBytes bytes → little size (from_little size bytes) ≡ bytes
little-from_little U16 bytes len are = le_bytes_2 bytes _ len are refl
little-from_little U32 bytes len are = le_bytes_4 bytes _ len are refl
little-from_little U64 bytes len are = le_bytes_8 bytes _ len are refl

pub from_little-little : (size : Size) (n : ℕ) → n < limit size → from_little size (little size n) ≡ n
from_little-little U16 n lt = from_le_bytes-to_le_bytes_2 n lt
from_little-little U32 n lt = from_le_bytes-to_le_bytes_4 n lt
from_little-little U64 n lt = from_le_bytes-to_le_bytes_8 n lt

pub from_little-below : (size : Size) (bytes : List ℕ) → AreBytes bytes → from_little size bytes < limit size
from_little-below U16 bytes are = omega (arith, are 0, are 1)
from_little-below U32 bytes are = omega (arith, are 0, are 1, are 2, are 3)
from_little-below U64 bytes are = omega (arith, are 0, are 1, are 2, are 3, are 4, are 5, are 6, are 7)

-- bytes

not_cut : {A : Type 0} (b : Bool) (e : DecodeError) (x y : A) → (if b then Err e else Ok x) ≡ Ok y → (b ≡ false) × (x ≡ y)
not_cut true e x y h = absurd cc
not_cut false e x y h = (refl, cc)

pub bytes_at-takes : (count : ℕ) (p q : Place) (bytes : List ℕ) → bytes_at count p ≡ Ok (bytes, q) → (p.left ≡ bytes ++ q.left) × (length bytes ≡ count)
bytes_at-takes count p q bytes h =
    let t = not_cut (ltb (length p.left) count) (error.Short (p.at + length p.left) (p.at + count)) (take count p.left, record { at = p.at + count; left = drop count p.left }) (bytes, q) h in
    let long : count ≤ length p.left = ltb-false _ _ t.0 in
    let front : take count p.left ≡ bytes = ap (λ (x : List ℕ × Place). x.0) t.1 in
    let rest : drop count p.left ≡ q.left = ap (λ (x : List ℕ × Place). x.1.left) t.1 in
    (rw (← front, ← rest) (sym (take-append-drop count p.left)), rw (← front) (length-take-le count p.left long))

pub bytes_at-again : (count at : ℕ) (bytes rest : List ℕ) → length bytes ≡ count → bytes_at count (record { at = at; left = bytes ++ rest }) ≡ Ok (bytes, record { at = at + count; left = rest })
bytes_at-again count at bytes rest len =
    let long : ltb (length (bytes ++ rest)) count ≡ false = le-ltb _ _ (omega (arith, length-append bytes rest)) in
    rw (long, take_at bytes rest count len, drop_at bytes rest count len) refl

-- texts

pub text_at-takes : (count : ℕ) (good : List ℕ → Bool) (p q : Place) (text : List ℕ) → text_at count good p ≡ Ok (text, q) → (p.left ≡ text ++ q.left) × (length text ≡ count) × (good text ≡ true)
unfolding text_at
text_at-takes count good p q text h =
    let b = both_ok (bytes_at count p) (λ x. in_range_at (good x.0) p.at x) (text, q) h in
    let g = was_in_range (good b.0.0) p.at b.0 (text, q) b.2 in
    let t = bytes_at-takes count p q text (b.1 ∙ ap (λ (x : List ℕ × Place). Ok x) g.1) in
    let same : b.0.0 ≡ text = ap (λ (x : List ℕ × Place). x.0) g.1 in
    (t.0, t.1, subst (λ (x : List ℕ). good x ≡ true) same g.0)

pub text_at-again : (count at : ℕ) (good : List ℕ → Bool) (text rest : List ℕ) → length text ≡ count → good text ≡ true → text_at count good (record { at = at; left = text ++ rest }) ≡ Ok (text, record { at = at + count; left = rest })
unfolding text_at
text_at-again count at good text rest len fine = rw (bytes_at-again count at text rest len, fine) refl

-- numbers

-- the number that bytes are has them
number_of : (size : Size) (bytes : List ℕ) (n : ℕ) → from_little size bytes ≡ n → length bytes ≡ bytes_of size → AreBytes bytes → (bytes ≡ little size n) × (n < limit size)
number_of size bytes n same len are =
    (sym (little-from_little size bytes len are) ∙ ap (little size) same, subst (λ (x : ℕ). x < limit size) same (from_little-below size bytes are))

pub number_at-takes : (size : Size) (in_range : ℕ → Bool) (p q : Place) (n : ℕ) → AreBytes p.left → number_at size in_range p ≡ Ok (n, q) → (p.left ≡ little size n ++ q.left) × (n < limit size) × (in_range n ≡ true)
unfolding number_at whole_number_at
number_at-takes size in_range p q n are h =
    let a = both_ok (bytes_at (bytes_of size) p >>= λ x. Ok (from_little size x.0, x.1)) (λ x. in_range_at (in_range x.0) p.at x) (n, q) h in
    let g = was_in_range (in_range a.0.0) p.at a.0 (n, q) a.2 in
    let b = both_ok (bytes_at (bytes_of size) p) (λ x. Ok (from_little size x.0, x.1)) a.0 a.1 in
    let made = equal_values (from_little size b.0.0, b.0.1) (n, q) (b.2 ∙ ap (λ (x : ℕ × Place). Ok x) g.1) in
    let t = bytes_at-takes (bytes_of size) p b.0.1 b.0.0 b.1 in
    let is = number_of size b.0.0 n (ap (λ (x : ℕ × Place). x.0) made) t.1 (AreBytes-front b.0.0 b.0.1.left (subst AreBytes t.0 are)) in
    let left : b.0.1.left ≡ q.left = ap (λ (x : ℕ × Place). x.1.left) made in
    let same : in_range a.0.0 ≡ in_range n = ap (λ (x : ℕ × Place). in_range x.0) g.1 in
    (t.0 ∙ ap (λ (x : List ℕ). x ++ b.0.1.left) is.0 ∙ ap (λ (x : List ℕ). little size n ++ x) left, is.1, sym same ∙ g.0)

pub number_at-again : (size : Size) (in_range : ℕ → Bool) (at n : ℕ) (rest : List ℕ) → n < limit size → in_range n ≡ true → number_at size in_range (record { at = at; left = little size n ++ rest }) ≡ Ok (n, record { at = at + bytes_of size; left = rest })
unfolding number_at whole_number_at
number_at-again size in_range at n rest lt fine =
    rw (bytes_at-again (bytes_of size) at (little size n) rest (length-little size n), from_little-little size n lt, fine) refl
