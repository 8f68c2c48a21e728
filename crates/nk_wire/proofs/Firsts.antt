-- What stands first in the bytes of a stream.
use Rattle.std.proofs.Common.{◌≡◌, ◌≤◌, ◌+◌, ◌-◌, ℕ, true, false, ltb, List, length, take, drop, Ok, Err, Option, Some, None, refl, sym, ap, subst, ◌∙◌, arith, if◌then◌else◌, inl, inr}
use Rattle.std.proofs.lemmas.Bool.{le-ltb, ltb-false}
use Rattle.std.proofs.lemmas.List.{length-drop, length-take-le, drop-drop, take_all}
use Rattle.nk_wire.specs.declared.error.FrameCause.{FrameCause}
use Rattle.nk_wire.specs.declared.error.FrameCause.TheVariants as cause
use Rattle.nk_wire.specs.declared.error.FrameError.{FrameError}
use Rattle.nk_wire.specs.declared.message.AnyMsg.{AnyMsg}
use Rattle.nk_wire.specs.Reading.{any_answer}
use Rattle.nk_wire.specs.Streams.{Stream, First, Part, BadLength, Whole, first, whole, is_length, length_of, Looks, IsNext, error_at, kept_after}
use Rattle.nk_wire.proofs.Ranges.{within-from}
use Rattle.nk_wire.proofs.Rows.{chosen}
use Rattle.nk_wire.specs.Kinds.{longest_rest}

pub first-whole : (bytes : List ℕ) (n : ℕ) → 4 ≤ length bytes → length_of bytes ≡ n → 1 ≤ n → n ≤ longest_rest → n ≤ length (drop 4 bytes) → first bytes ≡ Whole (take n (drop 4 bytes)) (drop n (drop 4 bytes))
first-whole bytes n four is least most all =
    let has : ltb (length bytes) 4 ≡ false = le-ltb _ _ four in
    let fits : is_length n ≡ true = within-from 1 longest_rest n least most in
    let long : ltb (length (drop 4 bytes)) n ≡ false = le-ltb _ _ all in
    rw (has, is, fits, long) refl

pub looks-whole : (bytes : List ℕ) (n : ℕ) (m : AnyMsg) → 4 ≤ length bytes → length_of bytes ≡ n → 1 ≤ n → n ≤ longest_rest → n ≤ length (drop 4 bytes) → any_answer (take n (drop 4 bytes)) ≡ Ok m → Looks (first bytes) (Ok (Some (m, 4 + n)))
looks-whole bytes n m four is least most all read =
    let size : length (take n (drop 4 bytes)) ≡ n = length-take-le n (drop 4 bytes) all in
    rw (first-whole bytes n four is least most all) (read, ap (λ (k : ℕ). 4 + k) (sym size))

-- A whole frame: its length is there and in range, and so are the bytes that it counts.
pub record IsWhole (bytes rest more : List ℕ) : Type 0 where
  pub four : 4 ≤ length bytes
  pub in_range : is_length (length_of bytes) ≡ true
  pub all : length_of bytes ≤ length (drop 4 bytes)
  pub rest_is : take (length_of bytes) (drop 4 bytes) ≡ rest
  pub more_is : drop (length_of bytes) (drop 4 bytes) ≡ more

abbrev a_whole : List ℕ → List ℕ → First
a_whole rest more = Whole rest more

same_whole : (r m rest more : List ℕ) → a_whole r m ≡ a_whole rest more → (r ≡ rest) × (m ≡ more)
same_whole r m rest more h = (cc, cc)

no_part : (rest more : List ℕ) → Part ≡ a_whole rest more → ⊥
no_part rest more h = absurd cc

no_length : (n : ℕ) (rest more : List ℕ) → BadLength n ≡ a_whole rest more → ⊥
no_length n rest more h = absurd cc

pub whole-from_first : (bytes rest more : List ℕ) → first bytes ≡ Whole rest more → IsWhole bytes rest more
whole-from_first bytes rest more h =
    let n = length_of bytes in
    let behind = drop 4 bytes in
    elim (chosen (ltb (length bytes) 4) Part (if is_length n then whole n behind else BadLength n) (Whole rest more) h) [
      | inl short ↦ absurd (no_part rest more short.1)
      | inr four ↦ elim (chosen (is_length n) (whole n behind) (BadLength n) (Whole rest more) four.1) [
        | inr bad ↦ absurd (no_length n rest more bad.1)
        | inl fits ↦ elim (chosen (ltb (length behind) n) Part (Whole (take n behind) (drop n behind)) (Whole rest more) fits.1) [
          | inl part ↦ absurd (no_part rest more part.1)
          | inr all ↦
              let same = same_whole (take n behind) (drop n behind) rest more all.1 in
              record { four = ltb-false _ _ four.0; in_range = fits.0; all = ltb-false _ _ all.0; rest_is = same.0; more_is = same.1 }
        ]
      ]
    ]

-- the frame and no more is used
pub whole-used : (bytes rest more : List ℕ) → IsWhole bytes rest more → more ≡ drop (4 + length rest) bytes
whole-used bytes rest more w =
    let size : length rest ≡ length_of bytes = ap length (sym w.rest_is) ∙ length-take-le (length_of bytes) (drop 4 bytes) w.all in
    sym w.more_is ∙ drop-drop (length_of bytes) 4 bytes ∙ ap (λ (n : ℕ). drop (4 + n) bytes) (sym size)

abbrev pub made : List ℕ → ℕ → Option FrameError → Stream
made unused offset error = record { unused = unused; offset = offset; error = error }

next_at : (s : Stream) (f : First) (m : AnyMsg) (size : ℕ) → first s.unused ≡ f → Looks f (Ok (Some (m, size)))
    → IsNext s f (Ok (Some m)) (record { unused = drop size s.unused; offset = s.offset + size; error = s.error })
next_at s Part m size h look = absurd cc
next_at s (BadLength n) m size h look = absurd cc
next_at s (Whole rest more) m size h look =
    let behind = whole-used s.unused rest more (whole-from_first s.unused rest more h) in
    let unused : drop size s.unused ≡ more = ap (λ (n : ℕ). drop n s.unused) look.1 ∙ sym behind in (
      look.0,
      ap (λ (u : List ℕ). made u (s.offset + size) s.error) unused
          ∙ ap (λ (n : ℕ). made more (s.offset + n) s.error) look.1,
    )

-- a message that a look told is the next
pub next-from_look : (s : Stream) (m : AnyMsg) (size : ℕ) → Looks (first s.unused) (Ok (Some (m, size)))
    → IsNext s (first s.unused) (Ok (Some m)) (record { unused = drop size s.unused; offset = s.offset + size; error = s.error })
next-from_look s m size look = next_at s (first s.unused) m size refl look

-- from a place on, all
pub all_from : (xs items : List ℕ) (at : ℕ) → xs ≡ items → take (length xs - at) (drop at xs) ≡ drop at items
all_from xs items at h = rw h (take_all (length items - at) (drop at items) (omega (arith, length-drop at items)))

-- the same for a stream whose first bytes were used
pub next-from_view : (items : List ℕ) (at offset : ℕ) (error : Option FrameError) (m : AnyMsg) (size : ℕ) → Looks (first (drop at items)) (Ok (Some (m, size)))
    → IsNext (made (drop at items) offset error) (first (drop at items)) (Ok (Some m)) (made (drop (at + size) items) (offset + size) error)
next-from_view items at offset error m size look =
    subst (λ (u : List ℕ). IsNext (made (drop at items) offset error) (first (drop at items)) (Ok (Some m)) (made u (offset + size) error)) (drop-drop size at items)
    (next-from_look (made (drop at items) offset error) m size look)

-- where nothing whole stands first, the stream stays
pub none_next : (s : Stream) (f : First) → Looks f (Ok None) → IsNext s f (Ok None) s
none_next s Part look = (refl, refl)
none_next s (BadLength n) look = absurd (cc (look))
none_next s (Whole rest more) look = absurd look

-- and what is wrong is its error from then on
pub fail_next : (s new : Stream) (f : First) (c : FrameCause) (e : FrameError) → Looks f (Err c) → e ≡ error_at s c → new ≡ kept_after s c
    → IsNext s f (Err e) new
fail_next s new Part c e look wrong kept = absurd (cc (look))
fail_next s new (BadLength n) (cause.Length k) e look wrong kept =
    let same : cause.Length k ≡ cause.Length n = cc (look) in
    (ap (λ (f : FrameError). Err f) (wrong ∙ ap (λ (c : FrameCause). error_at s c) same), kept ∙ ap (λ (c : FrameCause). kept_after s c) same)
fail_next s new (BadLength n) (cause.Decode d) e look wrong kept = absurd (cc (look))
fail_next s new (BadLength n) (cause.Cut have need) e look wrong kept = absurd (cc (look))
fail_next s new (Whole rest more) (cause.Length n) e look wrong kept = absurd look
fail_next s new (Whole rest more) (cause.Decode d) e look wrong kept = (d, wrong, look, kept)
fail_next s new (Whole rest more) (cause.Cut have need) e look wrong kept = absurd look
