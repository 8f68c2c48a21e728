-- The pieces of a made channel, and its body.
use Rattle.std.proofs.Common.{◌≡◌, ℕ, suc, zero, ◌<◌, ◌≤◌, ◌+◌, ◌*◌, true, List, [], ◌∷◌, ◌++◌, length, replicate, codes, refl, sym, subst, ap, ◌∙◌, append_assoc, arith}
use Rattle.std.specs.Fmt.{decimal}
use Rattle.std.proofs.lemmas.List.{length_push, length-replicate}
use Rattle.nk_trace.specs.Words.{hex_byte}
use Rattle.nk_plan.specs.declared.plan.Finish.TheVariants as finish
use Rattle.nk_script.specs.declared.draft.Draft.{Draft}
use Rattle.nk_script.specs.declared.line.Keyword.TheVariants as key
use Rattle.nk_script.specs.declared.line.Line.TheVariants as line
use Rattle.nk_script.specs.declared.line.Place.{Place}
use Rattle.nk_script.specs.declared.line.Place.TheVariants as place
use Rattle.nk_script.specs.declared.reader.Reader.{Reader}
use Rattle.nk_script.specs.Responses.{ResponseParts}
use Rattle.nk_script.specs.Texts.{words}
use Rattle.nk_script.specs.Lines.{IsFillLine}
use Rattle.nk_script.specs.Order.{allows}
use Rattle.nk_script.specs.Draft.{new_response}
use Rattle.nk_gen.specs.Draws.{next, first_draw, second_draw}
use Rattle.nk_gen.specs.Made.{fill_line, fill_lines, response_lines, body_lines}
use Rattle.nk_gen_law.proofs.Cuts.{lacks, lacks-append, word_cut, word_last, join}
use Rattle.nk_gen_law.proofs.Spellings.{decimal_lacks, decimal_read, byte_read, byte_lacks}
use Rattle.nk_gen_law.proofs.Draws.{draw_below}
use Rattle.nk_gen_law.proofs.States.{Reads, reads_join, take_line, lt_test, le_test, reading, replying, IsBody}
use Rattle.nk_gen_law.proofs.Standing.{response_taken, end_taken}

-- A PIECE

-- the line of a piece, without its line feed
abbrev fill_values : ℕ → ℕ → List ℕ
fill_values byte count = hex_byte byte ++ 32 ∷ decimal count

abbrev fill_text : ℕ → ℕ → List ℕ
fill_text byte count = codes "fill " ++ fill_values byte count

values_lack : (byte count : ℕ) → byte < 256 → count ≤ 8192 → lacks 10 (fill_values byte count) ≡ true
values_lack byte count b n =
    let digits = decimal_lacks 10 count (omega arith) (omega arith) in
    lacks-append 10 (hex_byte byte) (32 ∷ decimal count) (byte_lacks 10 byte (omega arith) b) digits

values_words : (byte count : ℕ) → byte < 256 → count ≤ 8192 → words (fill_values byte count) ≡ hex_byte byte ∷ decimal count ∷ []
values_words byte count b n =
    let digits = decimal_lacks 32 count (omega arith) (omega arith) in
    word_cut (hex_byte byte) (decimal count) (byte_lacks 32 byte (omega arith) b)
    ∙ ap (λ (ws : List (List ℕ)). hex_byte byte ∷ ws) (word_last (decimal count) digits)

fill_form : (byte count : ℕ) → byte < 256 → 1 ≤ count → count ≤ 8192
    → IsFillLine (words (fill_text byte count)) (line.Piece (replicate count byte))
fill_form byte count b some few = (
  hex_byte byte,
  decimal count,
  byte,
  count,
  ap (λ (ws : List (List ℕ)). codes "fill" ∷ ws) (values_words byte count b few),
  byte_read byte b,
  decimal_read 1 131072 count some (omega arith),
  refl,
)

-- a response with one more piece
abbrev pub with_piece : List ℕ → ResponseParts → ResponseParts
with_piece bytes s = record s { pieces = s.pieces ++ bytes ∷ []; size = s.size + length bytes }

fill_taken : (r : Reader) (p : Place) (d : Draft) (s : ResponseParts) (a b c : ℕ) (byte count : ℕ) (rest : List ℕ)
    → allows p key.Fill ≡ true → byte < 256 → 1 ≤ count → count ≤ 8192
    → length s.pieces < 65536 → a < 262144 → b + length (replicate count byte) ≤ 67108864
    → Reads (reading r place.Pieces (replying d (with_piece (replicate count byte) s)) (a + 1) (b + length (replicate count byte)) c) rest
    → Reads (reading r p (replying d s) a b c) (fill_text byte count ++ 10 ∷ rest)
fill_taken r p d s a b c byte count rest may small some few pieces all bytes next =
    let room = join _ _ (lt_test (length s.pieces) 65536 pieces) (lt_test a 262144 all) in
    let within = join _ _ room (le_test (b + length (replicate count byte)) 67108864 bytes) in
    take_line (reading r p (replying d s) a b c) (fill_text byte count) rest key.Fill (line.Piece (replicate count byte))
    (values_lack byte count small few) refl may (fill_form byte count small some few) within next

fill_apart : (byte count : ℕ) (rest : List ℕ) → fill_line byte count ++ rest ≡ fill_text byte count ++ 10 ∷ rest
fill_apart byte count rest = append_assoc (fill_text byte count) (10 ∷ []) rest

-- THE PIECES

-- the limits of all pieces and of all bytes
record IsWithin (most_pieces most_bytes : ℕ) : Type 0 where
  pieces : most_pieces ≤ 262144
  bytes : most_bytes ≤ 67108864

-- so many more pieces fit
record Fits (most_pieces most_bytes n : ℕ) (s : ResponseParts) (a b : ℕ) : Type 0 where
  here : length s.pieces + n ≤ 64
  size : s.size + 8192 * n ≤ 524288
  pieces : a + n ≤ most_pieces
  bytes : b + 8192 * n ≤ most_bytes

-- what is owed behind the pieces
abbrev BehindPieces : Reader → Draft → ℕ → ℕ → ℕ → List ℕ → Type 0
BehindPieces r d most_pieces most_bytes c rest =
    (p : Place) (s : ResponseParts) (a b : ℕ) → IsBody p → Fits most_pieces most_bytes 0 s a b → Reads (reading r p (replying d s) a b c) rest

piece_read : (r : Reader) (d : Draft) (c most_pieces most_bytes n : ℕ) (p : Place) (s : ResponseParts) (a b byte count : ℕ) (more rest : List ℕ)
    → IsWithin most_pieces most_bytes → IsBody p → byte < 256 → 1 ≤ count → count ≤ 8192 → Fits most_pieces most_bytes (suc n) s a b
    → Reads (reading r place.Pieces (replying d (with_piece (replicate count byte) s)) (a + 1) (b + length (replicate count byte)) c) (more ++ rest)
    → Reads (reading r p (replying d s) a b c) ((fill_line byte count ++ more) ++ rest)
piece_read r d c most_pieces most_bytes n p s a b byte count more rest within body small some few fits next =
    let room : length s.pieces < 65536 = omega (arith, fits.here) in
    let all : a < 262144 = omega (arith, fits.pieces, within.pieces) in
    let bytes : b + length (replicate count byte) ≤ 67108864 = omega (arith, length-replicate count byte, fits.bytes, within.bytes) in
    reads_join (reading r p (replying d s) a b c) (fill_line byte count) more rest
    (subst (Reads (reading r p (replying d s) a b c)) (sym (fill_apart byte count (more ++ rest)))
    (fill_taken r p d s a b c byte count (more ++ rest) body.fill small some few room all bytes next))

one_fits : (most_pieces most_bytes n : ℕ) (s : ResponseParts) (a b byte count : ℕ) → count ≤ 8192 → Fits most_pieces most_bytes (suc n) s a b
    → Fits most_pieces most_bytes n (with_piece (replicate count byte) s) (a + 1) (b + length (replicate count byte))
one_fits most_pieces most_bytes n s a b byte count few fits =
    let long = length-replicate count byte in
    record {
      here = omega (arith, length_push s.pieces (replicate count byte), fits.here);
      size = omega (arith, long, fits.size);
      pieces = omega (arith, fits.pieces);
      bytes = omega (arith, long, fits.bytes);
    }

pieces_read : (r : Reader) (d : Draft) (c most_pieces most_bytes n x : ℕ) (p : Place) (s : ResponseParts) (a b : ℕ) (rest : List ℕ)
    → IsWithin most_pieces most_bytes → IsBody p → Fits most_pieces most_bytes n s a b → BehindPieces r d most_pieces most_bytes c rest
    → Reads (reading r p (replying d s) a b c) (fill_lines n x ++ rest)
pieces_read r d c most_pieces most_bytes zero x p s a b rest within body fits behind = behind p s a b body fits
pieces_read r d c most_pieces most_bytes (suc n) x p s a b rest within body fits behind =
    let byte = first_draw 256 x in
    let count = 1 + second_draw 8192 x in
    let bytes = replicate count byte in
    let small : byte < 256 = draw_below 256 (next x) (omega arith) in
    let less : second_draw 8192 x < 8192 = draw_below 8192 (next (next x)) (omega arith) in
    let some : 1 ≤ count = omega arith in
    let few : count ≤ 8192 = omega arith in
    piece_read r d c most_pieces most_bytes n p s a b byte count (fill_lines n (next (next x))) rest within body small some few fits
    (pieces_read r d c most_pieces most_bytes n (next (next x)) place.Pieces (with_piece bytes s) (a + 1) (b + length bytes) rest
    within (record { fill = refl; end = refl }) (one_fits most_pieces most_bytes n s a b byte count few fits) behind)

-- THE BODY

-- what is owed behind the body
abbrev pub BehindBody : Reader → Draft → ℕ → ℕ → ℕ → List ℕ → Type 0
BehindBody r d most_pieces most_bytes c rest =
    (s : ResponseParts) (a b : ℕ) → s.size ≤ 524288 → a ≤ most_pieces → b ≤ most_bytes
    → Reads (reading r place.Trailers (replying d s) a b c) rest

response_read : (r : Reader) (d : Draft) (a b c n x : ℕ) (rest : List ℕ)
    → n ≤ 64 → IsWithin (a + 64) (b + 524288) → BehindBody r d (a + 64) (b + 524288) c rest
    → Reads (reading r place.Hop d a b c) (response_lines n x ++ rest)
response_read r d a b c n x rest few within behind =
    let fits : Fits (a + 64) (b + 524288) n (new_response 200) a b =
    record { here = omega arith; size = omega arith; pieces = omega arith; bytes = omega arith } in
    response_taken r d a b c ((fill_lines n x ++ codes "end ok\n") ++ rest)
    (reads_join (reading r place.Fields (replying d (new_response 200)) a b c) (fill_lines n x) (codes "end ok\n") rest
    (pieces_read r d c (a + 64) (b + 524288) n x place.Fields (new_response 200) a b (codes "end ok\n" ++ rest)
    within (record { fill = refl; end = refl }) fits
    (λ p s pieces bytes body full.
    end_taken r p d s pieces bytes c rest body.end
    (behind (record s { finish = finish.Good }) pieces bytes (omega (arith, full.size)) (omega (arith, full.pieces)) (omega (arith, full.bytes))))))

pub body_read : (r : Reader) (d : Draft) (a b c x : ℕ) (rest : List ℕ)
    → a + 64 ≤ 262144 → b + 524288 ≤ 67108864 → BehindBody r d (a + 64) (b + 524288) c rest
    → Reads (reading r place.Hop d a b c) (body_lines x ++ rest)
unfolding body_lines
body_read r d a b c x rest all bytes behind =
    let few : first_draw 64 x < 64 = draw_below 64 (next x) (omega arith) in
    response_read r d a b c (1 + first_draw 64 x) (next x) rest (omega arith) (record { pieces = all; bytes = bytes }) behind
