-- A part of a block, and a part of that part.
use Rattle.std.proofs.Common.{ℕ, ◌≡◌, sym, ap, subst, ◌∙◌, ◌+◌, ◌-◌, ◌≤◌, List, length, take, drop, length-drop, arith}
use Rattle.std.proofs.lemmas.List.{length-take-le, take-take, drop-drop, drop-take}

-- a part that lies in the block has its size
pub part_length : {A : Type 0} (block : List A) (from size : ℕ) → from + size ≤ length block → length (take size (drop from block)) ≡ size
part_length block from size inside =
    length-take-le size (drop from block) (let left : length (drop from block) ≡ length block - from = length-drop from block in omega (arith, inside, left))

-- what a part keeps from one of its places on, where more of the block stands behind it
rest_of_part : {A : Type 0} (block : List A) (from size : ℕ) → from ≤ size → drop from (take size block) ≡ take (size - from) (drop from block)
rest_of_part block from size less =
    let split : from + (size - from) ≡ size = omega (arith, less) in
    subst (λ (n : ℕ). drop from (take n block) ≡ take (size - from) (drop from block)) split (drop-take from (size - from) block)

-- a part of a part of the block is a part of the block
pub part_of_part : {A : Type 0} (block : List A) (start count from size : ℕ) → from + size ≤ count
    → take size (drop (start + from) block) ≡ take size (drop from (take count (drop start block)))
part_of_part {A = A} block start count from size inside =
    let less : from ≤ count = omega (arith, inside) in
    let few : size ≤ count - from = omega (arith, inside) in
    let rest = rest_of_part (drop start block) from count less in
    sym (
    ap (λ (xs : List A). take size xs) rest
    ∙ take-take size (count - from) (drop from (drop start block)) few
    ∙ ap (λ (xs : List A). take size xs) (drop-drop from start block))
