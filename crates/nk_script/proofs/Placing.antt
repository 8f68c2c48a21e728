-- Where a line stands in the text, and the bytes of a line in a block.
use Rattle.std.proofs.Common.{◌≡◌, ℕ, ◌+◌, ◌-◌, ◌^◌, ◌<◌, ◌≤◌, List, [], ◌∷◌, ◌++◌, length, take, drop, Option, Some, None, refl, sym, ap, ◌∙◌, arith, length-append, length-drop}
use Rattle.std.proofs.Math.Seq.{take-append_seam, drop-append_seam}
use Rattle.std.proofs.lemmas.List.{append_assoc, append-nil, drop-drop, drop-take}
use Rattle.nk_base.specs.Pieces.{IsPart, part_of}
use Rattle.nk_script.specs.Texts.{before, behind, or_nothing}
use Rattle.nk_script.specs.Placed.{IsPlaced}
use Rattle.nk_script.proofs.Fields.{rest_of, rejoined}

-- THE REST OF A TEXT

-- the text ends so
pub record EndsIn (text rest : List ℕ) : Type 0 where
  pub front : List ℕ
  pub joined : text ≡ front ++ rest

pub ends_whole : (text : List ℕ) → EndsIn text text
ends_whole text = record { front = []; joined = refl }

pub rest_fits : (text rest : List ℕ) → EndsIn text rest → length rest ≤ length text
rest_fits text rest ends = omega (arith, ap (length {A = ℕ}) ends.joined, length-append ends.front rest)

past : (text front line : List ℕ) (mark : ℕ) (more : Option (List ℕ)) → text ≡ front ++ (line ++ rest_of mark more) → EndsIn text (or_nothing more)
past text front line mark None e = record { front = front ++ (line ++ []); joined = e ∙ sym (append-nil (front ++ (line ++ []))) }
past text front line mark (Some rest) e = record {
  front = front ++ line ++ (mark ∷ []);
  joined = e ∙ sym (append_assoc (front ++ line) (mark ∷ []) rest ∙ append_assoc front line (mark ∷ rest));
}

-- the text ends in what stands behind the first line of its rest
pub ends_next : (text rest : List ℕ) → EndsIn text rest → EndsIn text (or_nothing (behind 10 rest))
ends_next text rest ends =
    past text ends.front (before 10 rest) 10 (behind 10 rest) (ends.joined ∙ ap (λ (xs : List ℕ). ends.front ++ xs) (rejoined 10 rest))

front_size : (text front rest : List ℕ) → text ≡ front ++ rest → length text - length rest ≡ length front
front_size text front rest e = omega (arith, ap (length {A = ℕ}) e, length-append front rest)

line_size : (rest : List ℕ) → length (before 10 rest) ≤ length rest
line_size rest = omega (arith, ap (length {A = ℕ}) (rejoined 10 rest), length-append (before 10 rest) (rest_of 10 (behind 10 rest)))

line_taken : (rest : List ℕ) → before 10 rest ≡ take (length (before 10 rest)) rest
line_taken rest =
    let line = before 10 rest in
    let tail = rest_of 10 (behind 10 rest) in
    sym (ap (take (length line)) (rejoined 10 rest) ∙ take-append_seam line tail)

rest_dropped : (text front rest : List ℕ) → text ≡ front ++ rest → drop (length front) text ≡ rest
rest_dropped text front rest e = ap (drop (length front)) e ∙ drop-append_seam front rest

-- the first line of the rest stands there in the text
pub line_placed : (text rest : List ℕ) → EndsIn text rest → length text < 2 ^ 31 → IsPlaced text (length text - length rest) (before 10 rest)
line_placed text rest ends small =
    let line = before 10 rest in
    let from = front_size text ends.front rest ends.joined in
    record {
      inside = omega (arith, rest_fits text rest ends, line_size rest);
      counted = small;
      is = line_taken rest ∙ ap (take (length line)) (sym (ap (λ (n : ℕ). drop n text) from ∙ rest_dropped text ends.front rest ends.joined));
    }

-- PARTS OF A LINE

-- what stands behind the first so many bytes of the line is a part of the block
pub part_behind : (block : List ℕ) (from : ℕ) (text : List ℕ) (count : ℕ) → IsPlaced block from text → count ≤ length text → drop count text ≡ part_of block (from + count) (length text - count)
part_behind block from text count placed fits =
    let left = length text - count in
    let split : length text ≡ count + left = omega (arith, fits) in
    ap (drop count) (placed.is ∙ ap (λ (n : ℕ). part_of block from n) split)
    ∙ (drop-take count left (drop from block) ∙ ap (take left) (drop-drop count from block))

pub behind_is_part : (block : List ℕ) (from : ℕ) (text : List ℕ) (count : ℕ) → IsPlaced block from text → count ≤ length text → 1 ≤ length text - count → length text - count ≤ 131072 → IsPart block (from + count) (length text - count)
behind_is_part block from text count placed fits some few = record {
  inside = omega (arith, placed.inside, fits);
  counted = omega (arith, placed.inside, placed.counted, fits);
  least = some;
  most = few;
}

-- whether what stands behind them is a piece
pub behind_size : (text : List ℕ) (count : ℕ) → length (drop count text) ≡ length text - count
behind_size text count = length-drop count text

-- a text behind a prefix is what stands behind the prefix's bytes
pub behind_prefix : (text prefix rest : List ℕ) → text ≡ prefix ++ rest → drop (length text - length rest) text ≡ rest
behind_prefix text prefix rest e = ap (λ (n : ℕ). drop n text) (front_size text prefix rest e) ∙ rest_dropped text prefix rest e
