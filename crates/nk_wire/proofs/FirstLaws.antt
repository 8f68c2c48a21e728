-- What stands first is told by the bytes, in the words of the format and by computation alike.
use Rattle.std.proofs.Common.{◌≡◌, ◌≤◌, ◌<◌, ◌+◌, ◌-◌, ◌^◌, ℕ, Bool, true, false, ltb, leb, ◌&&◌, List, ◌++◌, length, take, drop, refl, sym, ap, subst, ◌∙◌, append_assoc, arith, if◌then◌else◌, inl, inr}
use Rattle.std.specs.Prelude.{◌⊎◌, replicate}
use Rattle.std.proofs.lemmas.Bool.{le-ltb, lt-ltb, ltb-false, ltb-true, leb-false}
use Rattle.std.proofs.lemmas.List.{length-append, length-take-le, take-append-drop, take_at, drop_at, take-append-le, drop-append-le, length-replicate}
use Rattle.nk_wire.specs.Layouts.{little, from_little, U32}
use Rattle.nk_wire.specs.Spelling.{frame}
use Rattle.nk_wire.specs.Streams.{First, Part, BadLength, Whole, IsFirst, IsPart, IsRest, first, whole, is_length, length_of}
use Rattle.nk_wire.proofs.Steps.{within-bounds}
use Rattle.nk_wire.proofs.Ranges.{within-from}
use Rattle.nk_wire.proofs.Numbers.{AreBytes, AreBytes-front, little-from_little, from_little-little, from_little-below}
use Rattle.nk_wire.proofs.Firsts.{first-whole}
use Rattle.nk_wire.specs.Kinds.{longest_rest}

-- the length of bytes that begin with one
pub length_of-begun : (n : ℕ) (behind : List ℕ) → n < 2 ^ 32 → length_of (little U32 n ++ behind) ≡ n
length_of-begun n behind lt = from_little-little U32 n lt

-- From the bytes to the words.

-- the length is spelled by the first 4 bytes
pub begun-by : (bytes : List ℕ) → 4 ≤ length bytes → AreBytes bytes → bytes ≡ little U32 (length_of bytes) ++ drop 4 bytes
begun-by bytes four are =
    let split = take-append-drop 4 bytes in
    let front : AreBytes (take 4 bytes) = AreBytes-front (take 4 bytes) (drop 4 bytes) (subst AreBytes (sym split) are) in
    sym split ∙ ap (λ (l : List ℕ). l ++ drop 4 bytes) (sym (little-from_little U32 (take 4 bytes) (length-take-le 4 bytes four) front))

pub length_of-below : (bytes : List ℕ) → 4 ≤ length bytes → AreBytes bytes → length_of bytes < 2 ^ 32
length_of-below bytes four are = from_little-below U32 (take 4 bytes) (AreBytes-front (take 4 bytes) (drop 4 bytes) (subst AreBytes (sym (take-append-drop 4 bytes)) are))

not_both : (a b : Bool) → (a && b) ≡ false → (a ≡ false) ⊎ (b ≡ false)
not_both true b h = inr h
not_both false b h = inl refl

no_more : (n : ℕ) → n < 1 → n ≡ 0
no_more n h = omega arith

not_within : (n : ℕ) → is_length n ≡ false → (n ≡ 0) ⊎ (longest_rest < n)
not_within n h =
    elim (not_both (leb 1 n) (leb n longest_rest) h) [
      | inl none ↦ inl (no_more n (leb-false 1 n none))
      | inr over ↦ inr (leb-false n longest_rest over)
    ]

part-is : (bytes : List ℕ) → 4 ≤ length bytes → AreBytes bytes → is_length (length_of bytes) ≡ true → length (drop 4 bytes) < length_of bytes → IsPart bytes
part-is bytes four are fits short =
    let n = length_of bytes in
    let behind = drop 4 bytes in
    let more = replicate (n - length behind) 0 in
    let more_length : length more ≡ n - length behind = length-replicate (n - length behind) 0 in
    let rest_length : length (behind ++ more) ≡ n = omega (arith, length-append behind more, more_length) in
    let bounds = within-bounds 1 longest_rest n fits in
    let spelled : bytes ++ more ≡ little U32 n ++ (behind ++ more) = ap (λ (l : List ℕ). l ++ more) (begun-by bytes four are) ∙ append_assoc (little U32 n) behind more in
    inr (more, behind ++ more, omega (arith, more_length), (omega (arith, rest_length, bounds.0), omega (arith, rest_length, bounds.1)), subst (λ (k : ℕ). bytes ++ more ≡ little U32 k ++ (behind ++ more)) (sym rest_length) spelled)

whole-is : (bytes : List ℕ) → 4 ≤ length bytes → AreBytes bytes → is_length (length_of bytes) ≡ true → length_of bytes ≤ length (drop 4 bytes) → IsFirst bytes (Whole (take (length_of bytes) (drop 4 bytes)) (drop (length_of bytes) (drop 4 bytes)))
whole-is bytes four are fits all =
    let n = length_of bytes in
    let behind = drop 4 bytes in
    let size : length (take n behind) ≡ n = length-take-le n behind all in
    let bounds = within-bounds 1 longest_rest n fits in
    let parts : behind ≡ take n behind ++ drop n behind = sym (take-append-drop n behind) in
    let spelled : bytes ≡ (little U32 n ++ take n behind) ++ drop n behind = begun-by bytes four are ∙ ap (λ (l : List ℕ). little U32 n ++ l) parts ∙ sym (append_assoc (little U32 n) (take n behind) (drop n behind)) in
    (subst (λ (k : ℕ). bytes ≡ (little U32 k ++ take n behind) ++ drop n behind) (sym size) spelled, (omega (arith, size, bounds.0), omega (arith, size, bounds.1)))

by_rest : (bytes : List ℕ) (b : Bool) → 4 ≤ length bytes → AreBytes bytes → is_length (length_of bytes) ≡ true → ltb (length (drop 4 bytes)) (length_of bytes) ≡ b
    → IsFirst bytes (if b then Part else Whole (take (length_of bytes) (drop 4 bytes)) (drop (length_of bytes) (drop 4 bytes)))
by_rest bytes true four are fits h = part-is bytes four are fits (ltb-true (length (drop 4 bytes)) (length_of bytes) h)
by_rest bytes false four are fits h = whole-is bytes four are fits (ltb-false (length (drop 4 bytes)) (length_of bytes) h)

by_range : (bytes : List ℕ) (b : Bool) → 4 ≤ length bytes → AreBytes bytes → is_length (length_of bytes) ≡ b
    → IsFirst bytes (if b then whole (length_of bytes) (drop 4 bytes) else BadLength (length_of bytes))
by_range bytes true four are h = by_rest bytes (ltb (length (drop 4 bytes)) (length_of bytes)) four are h refl
by_range bytes false four are h = (drop 4 bytes, begun-by bytes four are, length_of-below bytes four are, not_within (length_of bytes) h)

by_length : (bytes : List ℕ) (b : Bool) → AreBytes bytes → ltb (length bytes) 4 ≡ b
    → IsFirst bytes (if b then Part else (if is_length (length_of bytes) then whole (length_of bytes) (drop 4 bytes) else BadLength (length_of bytes)))
by_length bytes true are h = inl (ltb-true (length bytes) 4 h)
by_length bytes false are h = by_range bytes (is_length (length_of bytes)) (ltb-false (length bytes) 4 h) are refl

-- what is computed is what the words say
pub first-is : (bytes : List ℕ) → AreBytes bytes → IsFirst bytes (first bytes)
first-is bytes are = by_length bytes (ltb (length bytes) 4) are refl

-- From the words to what is computed.

lt-leb : (n : ℕ) → longest_rest < n → leb n longest_rest ≡ false
lt-leb n over = grind arith

over_range : (a b : Bool) → b ≡ false → (a && b) ≡ false
over_range true b h = h
over_range false b h = refl

out_of_range : (n : ℕ) → (n ≡ 0) ⊎ (longest_rest < n) → is_length n ≡ false
out_of_range n (inl none) = rw none refl
out_of_range n (inr over) = over_range (leb 1 n) (leb n longest_rest) (lt-leb n over)

pub frame-first : (rest more : List ℕ) → IsRest rest → first (frame rest ++ more) ≡ Whole rest more
frame-first rest more r =
    let n = length rest in
    let bytes = frame rest ++ more in
    let split : bytes ≡ little U32 n ++ (rest ++ more) = append_assoc (little U32 n) rest more in
    let high = r.1 in
    let is : length_of bytes ≡ n = ap length_of split ∙ length_of-begun n (rest ++ more) (omega arith) in
    let behind : drop 4 bytes ≡ rest ++ more = ap (drop 4) split ∙ drop_at (little U32 n) (rest ++ more) 4 refl in
    let long : 4 ≤ length bytes = subst (λ (l : List ℕ). 4 ≤ length l) (sym split) (omega (arith, length-append (little U32 n) (rest ++ more))) in
    let all : n ≤ length (drop 4 bytes) = subst (λ (l : List ℕ). n ≤ length l) (sym behind) (omega (arith, length-append rest more)) in
    first-whole bytes n long is r.0 r.1 all
    ∙ subst (λ (l : List ℕ). Whole (take n l) (drop n l) ≡ Whole rest more) (sym behind) (rw (take_at rest more n refl, drop_at rest more n refl) refl)

part-first : (bytes more rest : List ℕ) → 0 < length more → IsRest rest → bytes ++ more ≡ frame rest → (b : Bool) → ltb (length bytes) 4 ≡ b → first bytes ≡ Part
part-first bytes more rest some r h true short = rw short refl
part-first bytes more rest some r h false long =
    let n = length rest in
    let four : 4 ≤ length bytes = ltb-false (length bytes) 4 long in
    let front : take 4 bytes ≡ little U32 n = sym (take-append-le 4 bytes more four) ∙ ap (take 4) h ∙ take_at (little U32 n) rest 4 refl in
    let high = r.1 in
    let is : length_of bytes ≡ n = ap (from_little U32) front ∙ from_little-little U32 n (omega arith) in
    let behind : drop 4 bytes ++ more ≡ rest = sym (drop-append-le 4 bytes more four) ∙ ap (drop 4) h ∙ drop_at (little U32 n) rest 4 refl in
    let sizes : length (drop 4 bytes) + length more ≡ n = sym (length-append (drop 4 bytes) more) ∙ ap length behind in
    let short : ltb (length (drop 4 bytes)) n ≡ true = lt-ltb (length (drop 4 bytes)) n (omega (arith, sizes)) in
    let fits : is_length n ≡ true = within-from 1 longest_rest n r.0 r.1 in
    rw (long, is, fits, short) refl

-- nothing else is what the words say
pub first-only : (bytes : List ℕ) (f : First) → IsFirst bytes f → first bytes ≡ f
first-only bytes Part (inl short) = rw (lt-ltb (length bytes) 4 short) refl
first-only bytes Part (inr p) = part-first bytes p.0 p.1 p.2 p.3 p.4 (ltb (length bytes) 4) refl
first-only bytes (BadLength n) b =
    let is : length_of bytes ≡ n = ap length_of b.1 ∙ length_of-begun n b.0 b.2 in
    let long : ltb (length bytes) 4 ≡ false = le-ltb (length bytes) 4 (subst (λ (l : List ℕ). 4 ≤ length l) (sym b.1) (omega (arith, length-append (little U32 n) b.0))) in
    rw (long, is, out_of_range n b.3) refl
first-only bytes (Whole rest more) w = ap first w.0 ∙ frame-first rest more w.1
