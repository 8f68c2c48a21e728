-- Hexadecimal digits behind a text.
use Rattle.std.proofs.Common.{◌≡◌, ℕ, ◌+◌, ◌-◌, ◌*◌, ◌/◌, ◌%◌, List, [], ◌∷◌, ◌++◌, length, take, drop, replicate, slice_index, refl, sym, ap, ◌∙◌, arith}
use Rattle.std.proofs.lemmas.List.{append-nil, take_at, drop_all, length-append, length-drop, length-replicate, take_all}
use Rattle.hex.specs.Hex.{encode_with, encode_lower, lower_digits}
use Rattle.hex.proofs.HexLemmas.{length-encode_with}
use Rattle.nk_trace.specs.Words.{hex_digit, hex_text}
use borrow.Rule.Slice.PartMut.{put_mid, post_of}

-- the library's digits are those of the printed text
pub hex_text_is : (bytes : List ℕ) → encode_lower bytes ≡ hex_text bytes
unfolding encode_with hex_digit
hex_text_is [] = refl
hex_text_is (byte ∷ rest) =
    ap (λ (digits : List ℕ). slice_index lower_digits (byte / 16) ∷ slice_index lower_digits (byte % 16) ∷ digits)
    (hex_text_is rest)

-- the digits of some bytes, written over all that stands behind a text, follow the text
pub behind : (old bytes digits room rest : List ℕ) (start end : ℕ)
    → start ≡ length old → end ≡ start + 2 * length bytes → digits ≡ encode_lower bytes
    → room ≡ take end old ++ replicate (end - start) 0
    → take end (put_mid start (length room - start) room digits ++ rest) ≡ old ++ hex_text bytes
behind old bytes digits room rest start end from to are is =
    let kept : room ≡ old ++ replicate (end - start) 0
    = is ∙ ap (λ (xs : List ℕ). xs ++ replicate (end - start) 0) (take_all end old (omega arith)) in
    let front : take start room ≡ old = rw kept (take_at old (replicate (end - start) 0) start (sym from)) in
    let size : length room ≡ end
    = rw kept (length-append old (replicate (end - start) 0) ∙ omega (arith, length-replicate {A = ℕ} (end - start) 0)) in
    let tail : post_of start (length room - start) room ≡ []
    = drop_all (length room - start) (drop start room) (omega (arith, length-drop start room)) in
    let text : digits ≡ hex_text bytes = are ∙ hex_text_is bytes in
    let long : length (old ++ digits) ≡ end
    = length-append old digits ∙ omega (arith, ap length are, length-encode_with lower_digits bytes) in
    let whole : put_mid start (length room - start) room digits ≡ old ++ digits
    = rw (front, tail, append-nil digits) refl in
    rw whole (take_at (old ++ digits) rest end long) ∙ ap (λ (xs : List ℕ). old ++ xs) text
